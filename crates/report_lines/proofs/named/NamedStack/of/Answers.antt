use Rattle.std.proofs.Common.{◌≡◌, ◌+◌, length, arith, rules}
use Rattle.std.specs.Rc.{rc_value}
use Rattle.stack_judge.specs.Answer.{stack_tree}
use Rattle.report_lines.specs.Nones.{first_nones}
use Rattle.report_lines.proofs.LaidOut.{place_seen}
use Rattle.report_lines.proofs.Nones.{ends_more, first_more}
use Rattle.report_lines.proofs.named.NamedStack.of.Goals as goal

pub loop-place-preserved : goal.loop-place-preserved
loop-place-preserved c =
    let count : c.len.result ≡ length c.push_none.new.texts.items =
    omega (arith, c.len.ensures, c.push_none.new.texts.ok) in
    let text : c.push_none.new.texts.items ≡ first_nones (stack_tree (rc_value c.args.stack)) (c.loop-place.place + 1) =
    first_more (stack_tree (rc_value c.args.stack)) c.loop-place.place _ _ c.loop-place.invariant.0
    (rw (← c.deref-in-loop-place.ensures) c.in_ok-push_none.ensures) in (
      text,
      ends_more (stack_tree (rc_value c.args.stack)) c.loop-place.place _ _ _ _ c.loop-place.invariant.1 text
          c.in_ok-push-2.ensures.items count,
      place_seen _ (stack_tree (rc_value c.args.stack)) c.loop-place.place _ _ _ _ _ _ (search rules)
          c.in_ok-push_place.ensures
          c.loop-place.invariant.2,
    )
