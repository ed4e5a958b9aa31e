-- Codes of what contracts see.
use Rattle.std.specs.Prelude.{◌≡◌, ◌⊎◌, ℕ, List, refl}
use Rattle.std.specs.Coded.{Coded, code_by, coded×, coded⊎, coded_list, coded_ℕ}
use mathlib.Core.Logic.{inl, inr}
use Rattle.layer_words.specs.declared.sorts.Shape.{Shape}
use Rattle.layer_words.specs.contracts.sorts.Shape as shape
use Rattle.cell_store.specs.Kept.{KeptCell, numbers, queues, Kept}
use Rattle.cell_store.specs.Rings.{CellQueues}

module _ {R : Type 0} where
  abbrev pub split : KeptCell R → (Shape × List ℕ) ⊎ (Shape × (ℕ × List (List R)))
  split (numbers shape ns) = inl (shape, ns)
  split (queues shape capacity qs) = inr (shape, (capacity, qs))

  abbrev pub join : (Shape × List ℕ) ⊎ (Shape × (ℕ × List (List R))) → KeptCell R
  join (inl (shape, ns)) = numbers shape ns
  join (inr (shape, (capacity, qs))) = queues shape capacity qs

  pub join_split : (cell : KeptCell R) → join (split cell) ≡ cell
  join_split (numbers shape ns) = refl
  join_split (queues shape capacity qs) = refl

  abbrev pub cell_code : Coded R → Coded (KeptCell R)
  cell_code c = code_by ((Shape × List ℕ) ⊎ (Shape × (ℕ × List (List R))))
      (coded⊎ (coded× shape.the_row.coded (coded_list coded_ℕ))
      (coded× shape.the_row.coded (coded× coded_ℕ (coded_list (coded_list c)))))
      split join join_split

  abbrev pub kept_code : Coded R → Coded (Kept R)
  kept_code c = code_by (ℕ × (ℕ × (ℕ × (ℕ × List (KeptCell R)))))
      (coded× coded_ℕ (coded× coded_ℕ (coded× coded_ℕ (coded× coded_ℕ (coded_list (cell_code c))))))
      (λ k. (k.me, (k.count, (k.ltime, (k.most, k.cells)))))
      (λ p. record { me = p.0; count = p.1.0; ltime = p.1.1.0; most = p.1.1.1.0; cells = p.1.1.1.1 })
      (λ _. refl)

  abbrev pub queues_code : Coded R → Coded (CellQueues R)
  queues_code c = code_by (ℕ × (ℕ × List (List R))) (coded× coded_ℕ (coded× coded_ℕ (coded_list (coded_list c))))
      (λ q. (q.capacity, (q.most, q.rows))) (λ p. record { capacity = p.0; most = p.1.0; rows = p.1.1 }) (λ _. refl)
