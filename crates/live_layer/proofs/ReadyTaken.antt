-- The front row of a queue is taken, at a desk that has no more than it is made for.
use Rattle.std.proofs.Common.{◌≡◌, ℕ, zero, suc, ◌<◌, ◌≤◌, true, false, inl, inr, map, List, [], ◌∷◌, Option, Some}
use Rattle.std.proofs.Common.{None, option_map, length, drop, get_or, set, slice_get, length-set, refl, sym, ap, subst}
use Rattle.std.proofs.Common.{◌∙◌, arith}
use Rattle.std.specs.List.{AllByRecursion}
use Rattle.std.specs.Option.{option_map_or}
use Rattle.std.proofs.lemmas.List.{get_or_past, length-map}
use Rattle.slot_pool.specs.Held.{Held}
use Rattle.slot_pool.specs.References.{Covers}
use Rattle.slot_pool.proofs.Held.{below_or_not}
use Rattle.layer_mean.specs.Effect.{with_slots, with_message}
use Rattle.layer_mean.specs.State.{row_at, without_front}
use Rattle.layer_mean.specs.Tree.{Carried, TakenTree}
use Rattle.layer_mean.specs.Value.{message_in, missing}
use Rattle.cell_store.specs.Kept.{Kept, queues_kept, kept_at, kept_rows, without_first, first_row}
use Rattle.typed_layer.specs.View.{carried_tree}
use Rattle.typed_layer.specs.declared.tree.Carried.{Carried as TypedCarried}
use Rattle.typed_layer.specs.declared.tree.Carried.TheVariants.{Part, Whole}
use Rattle.layer_desk.specs.Laid.{Laid, is_found, with_found, taken_row}
use Rattle.layer_desk.specs.Spent.{Begun}
use Rattle.pool_message.specs.Seen.{refs, content_seen, Lies, refs_if, LiesIf, row_refs, row_seen, RowLies}
use Rattle.pool_message.specs.Moves.{Returned}
use Rattle.pool_message.specs.declared.message.PoolMessage.{PoolMessage}
use Rattle.pool_message.specs.declared.row.PoolRow.{PoolRow}
use Rattle.live_layer.specs.Stock.{Stock, laid}
use Rattle.live_layer.specs.Steps.{InPool}
use Rattle.live_layer.specs.Fits.{IsShort, IsShortIf, StockFits}
use Rattle.live_layer.specs.Taken.{CanStandIn, StandsIn, message_left, numbers_filled}
use Rattle.live_layer.proofs.Blank.{blank_stands}
use Rattle.live_layer.proofs.Fill.{slots_beside, filled_length}
use Rattle.live_layer.proofs.Held.{row_there, missing_seen}
use Rattle.live_layer.proofs.Lists.{all-set}
use Rattle.live_layer.proofs.Queues.{row_at_seen, row_gone, row_bound}
use Rattle.live_layer.proofs.Ready.{scope_there}
use Rattle.live_layer.proofs.ReadyCells.{rows_fits, queue_fits}
use Rattle.live_layer.proofs.ReadyScope.{fits_scope}
use Rattle.live_layer.proofs.Scope.{numbers_step}

-- ---- a queue without rows

pub none_first : (rows : List PoolRow) → length rows ≡ 0 → slice_get rows 0 ≡ None
none_first [] none = refl
none_first (row ∷ rows) none = absurd (omega (arith, none))

pub no_rows : (rows : List PoolRow) → slice_get rows 0 ≡ None → length rows ≡ 0
no_rows [] none = refl
no_rows (row ∷ rows) none = absurd (cc)

pub none_taken : (p : List Held) (s : Stock) (c i : ℕ) (taken : TakenTree) → first_row s.kept c i ≡ None →
    laid p s ≡ taken_row c i taken (laid p s)
none_taken p s c i taken none =
    sym (ap (λ row. with_found c i taken row (laid p s))
    (row_at_seen (row_seen p) s.kept c i 0 ∙ ap (option_map (row_seen p)) none))

pub none_found : (p : List Held) (s : Stock) (c i : ℕ) → first_row s.kept c i ≡ None →
    is_found (row_at (laid p s).state c i 0) ≡ false
none_found p s c i none = ap is_found (row_at_seen (row_seen p) s.kept c i 0 ∙ ap (option_map (row_seen p)) none)

pub one_found : (p : List Held) (s : Stock) (c i : ℕ) (row : PoolRow) → first_row s.kept c i ≡ Some row →
    is_found (row_at (laid p s).state c i 0) ≡ true
one_found p s c i row one = ap is_found (row_at_seen (row_seen p) s.kept c i 0 ∙ ap (option_map (row_seen p)) one)

-- ---- a queue with a row

row_rest : (rows : List PoolRow) (row : PoolRow) → slice_get rows 0 ≡ Some row → rows ≡ row ∷ drop 1 rows
row_rest [] row one = absurd (cc)
row_rest (x ∷ rows) row one = let same : x ≡ row = cc in ap (λ y. y ∷ rows) same

queue_within : (qs : List (List PoolRow)) (i : ℕ) (row : PoolRow) → slice_get (get_or qs i []) 0 ≡ Some row →
    i < length qs
queue_within [] i row one = absurd (cc)
queue_within (q ∷ qs) zero row one = omega arith
queue_within (q ∷ qs) (suc i) row one = let rest = queue_within qs i row one in omega arith

-- The messages of a scope of which one is set, or there is no such one.
message_there : (ms : List PoolMessage) (k : ℕ) (m : PoolMessage) → k < length ms →
    slice_get ms k ≡ Some (get_or ms k m)
message_there [] k m within = absurd (omega arith)
message_there (x ∷ ms) zero m within = refl
message_there (x ∷ ms) (suc k) m within = message_there ms k m (omega arith)

set_outside : {A : Type 0} (xs : List A) (k : ℕ) (x : A) → length xs ≤ k → set xs k x ≡ xs
set_outside [] k x past = refl
set_outside (y ∷ xs) zero x past = absurd (omega arith)
set_outside (y ∷ xs) (suc k) x past = ap (λ ys. y ∷ ys) (set_outside xs k x (omega arith))

-- What a row leaves in the scope, or what stands in for it.
abbrev pub IsMessageOf : Carried → Option PoolMessage → PoolMessage → Type 0
IsMessageOf carried (Some x) m = m ≡ x
IsMessageOf carried None m = StandsIn carried m

pub left_is : (carried : TypedCarried) (o : Option PoolMessage) → CanStandIn carried →
    IsMessageOf (carried_tree carried) o (message_left (carried_tree carried) o)
left_is carried (Some x) can = refl
left_is Part None can = record { is = refl; short = omega arith }
left_is (Whole blank) None can = blank_stands (Whole blank) blank _ refl can refl

module _ (p : List Held) (carried : Carried) where
  message_refs : (o : Option PoolMessage) (m : PoolMessage) → IsMessageOf carried o m → refs m ≡ refs_if o
  message_refs None m is = ap refs is.is
  message_refs (Some x) m is = ap refs is

  message_lies : (o : Option PoolMessage) (m : PoolMessage) → IsMessageOf carried o m → LiesIf p o → Lies p m
  message_lies None m is lies = subst (Lies p) (sym is.is) tt
  message_lies (Some x) m is lies = subst (Lies p) (sym is) lies

  message_short : (o : Option PoolMessage) (m : PoolMessage) → IsMessageOf carried o m → IsShortIf o → IsShort m
  message_short None m is short = is.short
  message_short (Some x) m is short = subst IsShort (sym is) short

  message_is : (row : PoolRow) (m : PoolMessage) (o : Option PoolMessage) → row.message ≡ o → IsMessageOf carried o m →
      content_seen p m ≡ message_in carried (Some (row_seen p row))
  message_is row m None at is =
      ap (content_seen p) is.is ∙ missing_seen p carried ∙
      sym (ap (λ x. option_map_or (λ c. c) (option_map (content_seen p) x) (missing carried)) at)
  message_is row m (Some x) at is =
      ap (content_seen p) is ∙
      sym (ap (λ y. option_map_or (λ c. c) (option_map (content_seen p) y) (missing carried)) at)

module _ (b : Begun) (p q : List Held) (s : Stock) (is : InPool b p s) (fits : StockFits b.layout s) (c i : ℕ)
    (row : PoolRow) (one : first_row s.kept c i ≡ Some row) where
  within : i < length (queues_kept (kept_at s.kept c))
  within = queue_within (queues_kept (kept_at s.kept c)) i row one

  at : kept_rows s.kept c i ≡ row ∷ drop 1 (kept_rows s.kept c i)
  at = row_rest (kept_rows s.kept c i) row one

  there : Covers p (row_refs row) × RowLies p row × IsShortIf row.message
  there = row_there b p s is fits c i 0 row one

  abbrev fewer : Stock
  fewer = record s { kept = without_first s.kept c i }

  rest_short : (rows : List PoolRow) → AllByRecursion (λ (r : PoolRow). IsShortIf r.message) rows →
      AllByRecursion (λ (r : PoolRow). IsShortIf r.message) (drop 1 rows)
  rest_short [] short = tt
  rest_short (x ∷ rows) short = short.1

  rest_few : (rows : List PoolRow) → length (drop 1 rows) ≤ length rows
  rest_few [] = omega arith
  rest_few (x ∷ rows) = omega arith

  fewer_fits : StockFits b.layout fewer
  fewer_fits =
      let queue = queue_fits b.layout s c i fits in let few = rest_few (kept_rows s.kept c i) in let all = queue.few in
      rows_fits b.layout s c i (drop 1 (kept_rows s.kept c i)) fits
      (record { few = omega arith; short = rest_short (kept_rows s.kept c i) queue.short })

  -- Its message, or what stands in for it, stands in the scope, where there is such a slot.
  module _ (carried : Carried) (k : ℕ) (m : PoolMessage) (is_message : IsMessageOf carried row.message m) where
    -- What goes back is covered.
    pub old_covered : Covers p (refs (get_or s.messages k m))
    old_covered = elim (below_or_not k (length s.messages)) [
      | inl lt ↦ (scope_there b p q s is fits k (get_or s.messages k m) (message_there s.messages k m lt)).0
      | inr past ↦ subst (λ x. Covers p (refs x)) (sym (get_or_past s.messages k m past))
          (subst (Covers p) (sym (message_refs p carried row.message m is_message)) there.0)
    ]

    abbrev bound : Stock
    bound = record fewer { messages = set s.messages k m }

    abbrev After : Stock → Type 0
    After u = InPool b q u × (laid q u ≡
        record (laid p s) {
          state = without_front (laid p s).state c i;
          scope =
              with_message k (message_in carried (Some (row_seen p row))) (laid p s).scope;
        })

    seen_message : content_seen p m ≡ message_in carried (Some (row_seen p row))
    seen_message = message_is p carried row m row.message refl is_message

    bound_step : Returned p q (refs (get_or s.messages k m)) → After bound
    bound_step gone = elim (below_or_not k (length s.messages)) [
      | inl lt ↦
          let step = row_bound b p q s is c i within row (drop 1 (kept_rows s.kept c i)) at k (get_or s.messages k m) m
          (message_there s.messages k m lt)
          (message_refs p carried row.message m is_message) (message_lies p carried row.message m is_message there.1)
          gone in (
            step.0,
            step.1 ∙ ap (λ x.
                record (laid p s) {
                  state = without_front (laid p s).state c i;
                  scope =
                      with_message k x (laid p s).scope;
                }) seen_message,
          )
      | inr past ↦
          let back : Returned p q (row_refs row) =
          subst (Returned p q) (ap refs (get_or_past s.messages k m past) ∙
          message_refs p carried row.message m is_message) gone in
          let step = row_gone b p q s is c i within row (drop 1 (kept_rows s.kept c i)) at back in
          let same = set_outside s.messages k m past in
          let none : map (content_seen p) s.messages ≡
          set (map (content_seen p) s.messages) k (message_in carried (Some (row_seen p row))) =
          sym (set_outside (map (content_seen p) s.messages) k (message_in carried (Some (row_seen p row)))
          (subst (λ n. n ≤ k) (sym (length-map s.messages (content_seen p))) past)) in (
            subst (λ ms. InPool b q (record fewer { messages = ms })) (sym same) step.1,
            ap (λ ms. laid q (record fewer { messages = ms })) same ∙ step.2 ∙
                ap (λ ms. record (laid p s) {
                  state = without_front (laid p s).state c i;
                  scope =
                      record { numbers = s.numbers; messages = ms };
                }) none,
          )
    ]

    -- And its numbers stand there.
    pub taken_step : (taken : TakenTree) (kept : Kept PoolRow) (ns : List ℕ) (ms : List PoolMessage)
        (old : PoolMessage) → taken.message ≡ Some (k, carried) →
        kept ≡ without_first s.kept c i → ns ≡ numbers_filled taken.numbers row.numbers s.numbers →
        ms ≡ set s.messages k m → old ≡ get_or s.messages k m →
        Returned p q (refs old) →
        InPool b q (record s { kept = kept; numbers = ns; messages = ms }) ×
        StockFits b.layout (record s { kept = kept; numbers = ns; messages = ms }) ×
        (laid q (record s { kept = kept; numbers = ns; messages = ms }) ≡ taken_row c i taken (laid p s))
    taken_step taken kept ns ms old to is_kept is_ns is_ms is_old gone =
        let step = bound_step (subst (λ x. Returned p q (refs x)) is_old gone) in
        let filled = numbers_filled taken.numbers row.numbers s.numbers in
        let fewer_all = fewer_fits in let long = filled_length taken.numbers row.numbers s.numbers in let count =
        length-set s.messages k m in
        let numbers_few = fits.numbers in let messages_few = fits.messages in
        let whole : Stock = record bound { numbers = filled } in
        subst (λ x. InPool b q (record s { kept = x; numbers = ns; messages = ms }) ×
        StockFits b.layout (record s { kept = x; numbers = ns; messages = ms }) ×
        (laid q (record s { kept = x; numbers = ns; messages = ms }) ≡ taken_row c i taken (laid p s))) (sym is_kept)
        (subst (λ x. InPool b q (record fewer { numbers = x; messages = ms }) ×
        StockFits b.layout (record fewer { numbers = x; messages = ms }) ×
        (laid q (record fewer { numbers = x; messages = ms }) ≡ taken_row c i taken (laid p s))) (sym is_ns)
        (subst (λ x. InPool b q (record fewer { numbers = filled; messages = x }) ×
        StockFits b.layout (record fewer { numbers = filled; messages = x }) ×
        (laid q (record fewer { numbers = filled; messages = x }) ≡ taken_row c i taken (laid p s))) (sym is_ms) (
          numbers_step b q bound step.0 filled,
          fits_scope b.layout fewer filled (set s.messages k m) s.arrived fewer_all (omega arith) (omega arith)
              (all-set IsShort s.messages k m fits.short (message_short p carried row.message m is_message there.2)),
          ap (λ (l : Laid). record l { scope = record { numbers = filled; messages = l.scope.messages } }) step.1 ∙
              ap (λ l. record (laid p s) {
                state = without_front (laid p s).state c i;
                scope =
                    with_message k (message_in carried (Some (row_seen p row))) l;
              })
              (sym (slots_beside taken.numbers row.numbers s.numbers (map (content_seen p) s.messages))) ∙
              sym (ap (λ o. with_found c i taken o (laid p s))
              (row_at_seen (row_seen p) s.kept c i 0 ∙ ap (option_map (row_seen p)) one) ∙
              ap (λ t. record (laid p s) {
                state = without_front (laid p s).state c i;
                scope = option_map_or
                    (λ (slot : ℕ × Carried). with_message slot.0 (message_in slot.1 (Some (row_seen p row)))
                    (with_slots taken.numbers row.numbers (laid p s).scope)) t
                    (with_slots taken.numbers row.numbers (laid p s).scope);
              }) to),
        )))

  -- Its message goes back.
  pub let_go_step : (taken : TakenTree) (kept : Kept PoolRow) (ns : List ℕ) → taken.message ≡ None →
      kept ≡ without_first s.kept c i → ns ≡ numbers_filled taken.numbers row.numbers s.numbers →
      Returned p q (row_refs row) →
      InPool b q (record s { kept = kept; numbers = ns }) ×
      StockFits b.layout (record s { kept = kept; numbers = ns }) ×
      (laid q (record s { kept = kept; numbers = ns }) ≡ taken_row c i taken (laid p s))
  let_go_step taken kept ns to is_kept is_ns gone =
      let step = row_gone b p q s is c i within row (drop 1 (kept_rows s.kept c i)) at gone in
      let filled = numbers_filled taken.numbers row.numbers s.numbers in
      let long = filled_length taken.numbers row.numbers s.numbers in let numbers_few = fits.numbers in
      subst (λ x. InPool b q (record s { kept = x; numbers = ns }) ×
      StockFits b.layout (record s { kept = x; numbers = ns }) ×
      (laid q (record s { kept = x; numbers = ns }) ≡ taken_row c i taken (laid p s))) (sym is_kept)
      (subst (λ x. InPool b q (record fewer { numbers = x }) × StockFits b.layout (record fewer { numbers = x }) ×
      (laid q (record fewer { numbers = x }) ≡ taken_row c i taken (laid p s))) (sym is_ns) (
        numbers_step b q fewer step.1 filled,
        fits_scope b.layout fewer filled s.messages s.arrived fewer_fits (omega arith) fits.messages fits.short,
        ap (λ (l : Laid). record l { scope = record { numbers = filled; messages = l.scope.messages } }) step.2 ∙
            ap (λ l. record (laid p s) { state = without_front (laid p s).state c i; scope = l })
            (sym (slots_beside taken.numbers row.numbers s.numbers (map (content_seen p) s.messages))) ∙
            sym (ap (λ o. with_found c i taken o (laid p s))
            (row_at_seen (row_seen p) s.kept c i 0 ∙ ap (option_map (row_seen p)) one) ∙
            ap (λ t. record (laid p s) {
              state = without_front (laid p s).state c i;
              scope = option_map_or
                  (λ (slot : ℕ × Carried). with_message slot.0 (message_in slot.1 (Some (row_seen p row)))
                  (with_slots taken.numbers row.numbers (laid p s).scope)) t
                  (with_slots taken.numbers row.numbers (laid p s).scope);
            }) to),
      ))
