use Rattle.std.proofs.Common.{rules, ◌≡◌, ◌∙◌, sym}
use Rattle.std.proofs.lemmas.List.{nil_from_length}
use Rattle.std.specs.VecDeque.{deque_len}
use Rattle.cell_store.specs.Rings.{shown_rows}
use Rattle.cell_store.proofs.Empty.{none_more}
use Rattle.cell_store.proofs.Written.{shown_at}
use Rattle.cell_store.proofs.rings.first_filled.Goals as goal

pub loop-index-preserved : goal.loop-index-preserved
loop-index-preserved g c =
    let ring = c.index-rings-index.result in
    let none : deque_len ring ≡ 0 = search rules in
    none_more (shown_rows c.args.shown c.args.rings.now) c.loop-index.index c.loop-index.invariant
    (shown_at _ _ _ ring c.loop-index-test.true c.requires c.index-rings-index.is ∙
    nil_from_length _ (sym ring.ok.0 ∙ none))
