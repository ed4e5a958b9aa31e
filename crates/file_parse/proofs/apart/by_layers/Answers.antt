use Rattle.std.proofs.Common.{rules, map, ap}
use Rattle.layer_ast.specs.View.{layer_tree}
use Rattle.file_parse.proofs.LayerAfterLayer.{first_part, next_part, last_part}
use Rattle.file_parse.proofs.apart.by_layers.Goals as goal

pub loop-tokens-init : goal.loop-tokens-init
loop-tokens-init c =
    first_part _ _ _ _ _ _ (ap (map layer_tree) c.new-layers.ensures.items) c.in_ok-tokens.ensures.items c.of.ensures.is
    (rw c.in-Some.is at c.in_ok-left.ensures.part) (rw c.in-Some.is at c.in_ok-left.ensures.following)

pub loop-tokens-preserved : goal.loop-tokens-preserved
loop-tokens-preserved c =
    rw c.in_ok-push.ensures.items (
    next_part _ _ _ _ _ _ _ _ c.loop-tokens.invariant
    (rw (c.in-Some-2.is, c.deref-in-loop-tokens.ensures.value) at c.in_ok-next.ensures) c.clear.ensures.items
    (rw c.in-Some-3.is at c.in_ok-following.ensures.part) (rw c.in-Some-3.is at c.in_ok-following.ensures.following)
    )

pub returns : goal.returns
returns c =
    last_part _ _ _ _ _ _ c.loop-tokens.invariant
    (rw (c.in-Some-4.is, c.deref-2.ensures.value) at c.in_ok-places.ensures)
    (search rules)
