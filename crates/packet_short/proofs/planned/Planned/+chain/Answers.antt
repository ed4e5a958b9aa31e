use Rattle.std.proofs.Common.{arith, sym, ap, [], None, Some, ◌∙◌}
use Rattle.std.specs.Prelude.{if◌then◌else◌}
use Rattle.stack_judge.specs.Answer.{stack_tree}
use Rattle.packet_full.specs.Taking.{left}
use Rattle.packet_short.proofs.Reading.{none_dealt}
use Rattle.packet_short.proofs.planned.Planned.+chain.Goals as goal

pub returns-then-is_done-clause-read : goal.returns-then-is_done-clause-read
returns-then-is_done-clause-read t c =
    none_dealt (stack_tree c.args.stack.now) c.args.place _ _ _ c.is_done.result
    (omega (arith, c.places.ensures, c.if-place-places.true)) c.is_done.ensures
    ∙ ap (λ b. if b then Some ([], left c.args.cursor.now) else None) c.if-is_done.true
    ∙ ap (λ hs. Some (hs, left c.args.cursor.now)) (sym c.requires.none)

pub returns-then-place-places-clause-read : goal.returns-then-place-places-clause-read
returns-then-place-places-clause-read t c =
    none_dealt (stack_tree c.args.stack.now) c.args.place _ _ _ c.is_done.result
    (omega (arith, c.places.ensures, c.if-place-places.true)) c.is_done.ensures
    ∙ ap (λ b. if b then Some ([], left c.args.cursor.now) else None) c.if-is_done.false
