use Rattle.std.proofs.Common.{◌∙◌, ap, take, refl}
use Rattle.std.proofs.lemmas.Result.{err_from_is_err_and}
use Rattle.node_loop.specs.Course.{plans_in, stack_in}
use Rattle.node_loop.proofs.Steps.{cut_none}
use Rattle.node_loop.proofs.Turning.{of_bytes}
use Rattle.node_loop.proofs.turns.feed_datagram.Goals as goal

pub returns-in_err-bytes-clause-told : goal.returns-in_err-bytes-clause-told
returns-in_err-bytes-clause-told g c =
    let p = err_from_is_err_and c.from_residual.result c.from_residual.ensures.1 in
    rw (p.1, p.2) (λ c' b moments answers borne rest clock within so.
    cut_none (stack_in c.args.course) (plans_in c.args.course) c' b moments answers borne _ _ within so _ refl)

pub returns-clause-told : goal.returns-clause-told
returns-clause-told g c =
    of_bytes (stack_in c.args.course) (plans_in c.args.course) c.args.id (take c.args.count c.args.desk.now.room.items)
    _ _ _ _ _ _ _ c.feed_on.result
    (c.of.ensures ∙ c.in_ok-bytes.ensures.items_if_clones_equal (λ x y same. same) ∙
    ap (take c.args.count) c.deref.ensures.value) c.feed_on.ensures.told
