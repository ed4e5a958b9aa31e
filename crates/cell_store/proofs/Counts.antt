-- How many numbers and queues a cell has.
use Rattle.std.proofs.Common.{◌≡◌, ℕ, ◌≤◌, List, map, length, take, drop, slice_get, slice_index_or, Some, sym, ap, ◌∙◌}
use Rattle.std.proofs.Common.{arith}
use Rattle.std.proofs.Math.Nat.{mul-le-mul}
use Rattle.std.proofs.lemmas.List.{length-take, length-drop}
use Rattle.layer_words.specs.declared.sorts.Shape.{Shape}
use Rattle.layer_words.specs.declared.sorts.Shape.TheVariants.{One, Array, Square}
use Rattle.layer_mean.specs.State.{size_of}
use Rattle.cell_store.specs.declared.slot.Frame.{Frame}
use Rattle.cell_store.specs.declared.slot.Frame.TheVariants.{Numbers, Queues}
use Rattle.cell_store.specs.declared.slot.StoredCell.{StoredCell}
use Rattle.cell_store.specs.Kept.{KeptCell, nothing_kept, numbers_kept}
use Rattle.cell_store.specs.Rings.{CellQueues}
use Rattle.cell_store.specs.Slots.{slot_kept, FitsFrame, AreLaid}
use Rattle.cell_store.proofs.Laid.{lies, numbers_lie}
use Rattle.msg_core.specs.View.{most_members}

few_of : (most : ℕ) (shape : Shape) → most ≤ most_members → size_of most shape ≤ 1024
few_of most One few = omega arith
few_of most Array few = omega arith
few_of most Square few = let all = mul-le-mul few few in omega arith

module _ {R : Type 0} where
  numbers_few : (most count : ℕ) (frame : Frame) (qs : CellQueues R) → most ≤ most_members →
      FitsFrame most frame count qs → count ≤ 1024
  numbers_few most count (Numbers shape) qs few fits = let most = few_of most shape few in let here = fits.0 in
      omega arith
  numbers_few most count (Queues shape) qs few fits = let none = fits.0 in omega arith

  queues_few : (most count : ℕ) (frame : Frame) (qs : CellQueues R) → most ≤ most_members →
      FitsFrame most frame count qs → length qs.rows ≤ qs.most →
      length qs.rows ≤ 1024
  queues_few most count (Numbers shape) qs few fits within = let none = ap length fits.1 in omega arith
  queues_few most count (Queues shape) qs few fits within = let most = few_of most shape few in let here = fits.1 in
      omega arith

  pub few_numbers : (most at end c : ℕ) (slots : List (StoredCell R)) (s : StoredCell R) → most ≤ most_members →
      AreLaid most at end slots → slice_get slots c ≡ Some s →
      s.count ≤ 1024
  few_numbers most at end c slots s few laid is =
      numbers_few most s.count s.frame s.rings few (lies most at end slots c s laid is).fits

  pub few_queues : (most at end c : ℕ) (slots : List (StoredCell R)) (s : StoredCell R) → most ≤ most_members →
      AreLaid most at end slots → slice_get slots c ≡ Some s →
      length s.rings.rows ≤ s.rings.most → length s.rings.rows ≤ 1024
  few_queues most at end c slots s few laid is within =
      queues_few most s.count s.frame s.rings few (lies most at end slots c s laid is).fits within

  pub numbers_counted : (most : ℕ) (block : List ℕ) (slots : List (StoredCell R)) (cells : List (KeptCell R)) (c : ℕ)
      (s : StoredCell R) →
      map (slot_kept block) slots ≡ cells → AreLaid most 0 (length block) slots → slice_get slots c ≡ Some s →
      s.count ≡ length (numbers_kept (slice_index_or cells c nothing_kept))
  numbers_counted most block slots cells c s view laid is =
      let within = (lies most 0 (length block) slots c s laid is).before in
      let all : s.count ≡ length (take s.count (drop s.at block)) =
      omega (arith, length-take s.count (drop s.at block), length-drop s.at block) in
      all ∙ ap length (sym (numbers_lie most (length block) block slots c s laid is))
      ∙ ap (λ cells. length (numbers_kept (slice_index_or cells c nothing_kept))) view
