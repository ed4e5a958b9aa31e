use Rattle.std.proofs.Common.{◌≡◌, map, vec_capacity}
use Rattle.stack_shapes.specs.Trees.{plans_tree}
use Rattle.stack_shapes.specs.Prints.{print_of}
use Rattle.packet_short.specs.Fits.{fits_headers}
use Rattle.packet_short.proofs.Least.{Stands, still}
use Rattle.packet_short.proofs.fit.least.Given as goal

abbrev pub invariant-loop-next : goal.invariant-loop-next
invariant-loop-next l = record {
  stands : Stands (plans_tree l.plans) (fits_headers l.kind l.headers) (print_of l.kind (map (λ h. h.tag) l.headers))
      l.next;
  capacity : vec_capacity l.into ≡ vec_capacity l.fn.into;
}

abbrev pub decreases-loop-next : goal.decreases-loop-next
decreases-loop-next l = still (plans_tree l.plans) l.next
