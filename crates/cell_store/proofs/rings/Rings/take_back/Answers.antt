use Rattle.std.proofs.Common.{◌∙◌, ◌-◌, length, slice_get, ap, arith}
use Rattle.cell_store.proofs.Written.{ring_within, rows_read, still_rings, shown_written, last_popped, last_rest}
use Rattle.cell_store.proofs.rings.Rings.take_back.Goals as goal

pub invariant_of-self : goal.invariant_of-self
invariant_of-self g c =
    still_rings _ _ _ _ _ _ c.self.invariant (omega arith) c.index_mut-ring.ensures.value c.pop_back.ensures.capacity

pub returns-then-index-self-clause-row : goal.returns-then-index-self-clause-row
returns-then-index-self-clause-row g c =
    let rows = rows_read _ _ _ _ _ _ c.self.view_is c.self.invariant (omega arith) c.index_mut-ring.ensures.value in
    last_popped _ _ _ _ _ c.index_mut-ring.result.now.ok.0 c.pop_back.ensures.items c.pop_back.ensures.cases
    ∙ ap (λ q. slice_get q (length q - 1)) rows

pub returns-then-index-self-clause-rest : goal.returns-then-index-self-clause-rest
returns-then-index-self-clause-rest g c =
    let rows = rows_read _ _ _ _ _ _ c.self.view_is c.self.invariant (omega arith) c.index_mut-ring.ensures.value in
    shown_written _ _ _ _ _ _ _ c.self.view_is (c.pop_back.ensures.rest ∙ last_rest c.index_mut-ring.result.now _ rows)

pub returns-then-index-self-clause-within : goal.returns-then-index-self-clause-within
returns-then-index-self-clause-within g c =
    ring_within _ _ _ _ _ _ c.self.view_is c.self.invariant (omega arith) c.index_mut-ring.ensures.value
