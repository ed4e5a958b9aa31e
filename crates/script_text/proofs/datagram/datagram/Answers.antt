use Rattle.std.proofs.Common.{◌++◌, ◌∙◌, ap, sym}
use Rattle.script_mean.specs.Generate.{a_draw, draws}
use Rattle.script_text.proofs.Draws.{datagram_drawn}
use Rattle.script_text.proofs.datagram.datagram.Goals as goal

pub returns-clause-made : goal.returns-clause-made
returns-clause-made c =
    let second = ap (λ bound. a_draw bound c.below-form.new.self.value) (sym c.from.ensures) ∙
    c.below-sender.ensures.drawn in
    let start = c.below-count.new.self.value in
    rw c.of.ensures
    (datagram_drawn c.args.members c.args.member c.below-form.result c.below-sender.result c.below-count.result
    c.below-way.result c.args.seed.now.value c.below-form.new.self.value c.below-sender.new.self.value start
    c.add_small.new.seed.value c.below-way.new.self.value c.cut_short.new.seed.value c.add_small.new.bytes.items
    c.cut_short.new.bytes.items c.below-form.ensures.drawn second c.below-count.ensures.drawn
    (c.in_ok-add_small.ensures.0 ∙ ap (λ front. front ++ (draws c.below-count.result 4 start).0) c.in_ok-bytes.ensures)
    c.in_ok-add_small.ensures.1 c.below-way.ensures.drawn c.cut_short.ensures)
