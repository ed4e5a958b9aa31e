use Rattle.std.proofs.Common.{◌≡◌, map, flat_map, take}
use Rattle.stack_mean.specs.Drawn.{DrawnHeader}
use Rattle.shape_core.specs.Trees.{header_tree}
use Rattle.stack_shapes.proofs.plan.plan_of.Given as goal

abbrev pub invariant-loop-header : goal.invariant-loop-header
invariant-loop-header l =
    (l.tags.items ≡ map (λ (h : DrawnHeader). h.tag) (map header_tree (take l.header-index l.header-items))) ×
    (l.fields.items ≡ flat_map (λ (h : DrawnHeader). h.fields) (map header_tree (take l.header-index l.header-items)))
