-- Messages of rows.
use Rattle.std.proofs.Common.{◌≡◌, ℕ, zero, suc, ◌+◌, ◌≤◌, List, [], ◌∷◌, ◌++◌, Option, Some, None, option_map, length}
use Rattle.std.proofs.Common.{get_or, flat_map, refl, sym, ap, subst, ◌∙◌, arith}
use Rattle.std.specs.Option.{option_map_or}
use Rattle.slot_pool.specs.Held.{Held}
use Rattle.slot_pool.specs.References.{Covers}
use Rattle.slot_pool.specs.Times.{times}
use Rattle.slot_pool.proofs.Times.{times-append}
use Rattle.layer_mean.specs.State.{row_at}
use Rattle.layer_mean.specs.Tree.{Carried, part, whole}
use Rattle.layer_mean.specs.Value.{missing, message_in}
use Rattle.cell_store.specs.Kept.{nothing_kept, queues_kept, kept_at, kept_rows, kept_row}
use Rattle.layer_desk.specs.Laid.{lifted}
use Rattle.layer_desk.specs.Spent.{Begun}
use Rattle.pool_message.specs.Seen.{bodiless, refs, content_seen, Lies, refs_if, LiesIf, row_refs, row_seen, RowLies}
use Rattle.pool_message.specs.Moves.{Kept as is_kept}
use Rattle.pool_message.specs.declared.message.PoolMessage.{PoolMessage}
use Rattle.pool_message.specs.declared.row.PoolRow.{PoolRow}
use Rattle.live_layer.specs.Stock.{Stock, cell_refs, laid}
use Rattle.live_layer.specs.Steps.{InPool}
use Rattle.live_layer.specs.Fits.{IsShort, IsShortIf, StockFits}
use Rattle.live_layer.specs.Taken.{message_of, StandsIn}
use Rattle.live_layer.proofs.Lists.{all-at, times-at}
use Rattle.live_layer.proofs.Found.{row_lies}
use Rattle.live_layer.proofs.Parts.{rows_within}
use Rattle.live_layer.proofs.Queues.{row_at_seen}
use Rattle.live_layer.proofs.Ready.{lifted_fits, bare_fits}
use Rattle.live_layer.proofs.ReadyCells.{queue_fits}
use Rattle.live_layer.proofs.Steps.{covered}

-- An item's references are among those of its list, also where it isn't there.
pub times_get : {A : Type 0} (f : A → List ℕ) (i : ℕ) (xs : List A) (k : ℕ) (d : A) → f d ≡ [] →
    times i (f (get_or xs k d)) ≤ times i (flat_map f xs)
times_get f i [] k d none = let one = ap (times i) none in omega arith
times_get f i (y ∷ xs) zero d none = omega (arith, times-append i (f y) (flat_map f xs))
times_get f i (y ∷ xs) (suc k) d none = let rest = times_get f i xs k d none in
    omega (arith, times-append i (f y) (flat_map f xs))

-- What is seen of the message that a row has or lacks.
message_seen : (p : List Held) (carried : Carried) (o : Option PoolRow) (m : PoolMessage) → message_of o ≡ Some m →
    message_in carried (option_map (row_seen p) o) ≡ content_seen p m
message_seen p carried None m is = absurd (cc)
message_seen p carried (Some row) m is =
    ap (λ x. option_map_or (λ c. c) (option_map (content_seen p) x) (missing carried)) is

message_missing : (p : List Held) (carried : Carried) (o : Option PoolRow) → message_of o ≡ None →
    message_in carried (option_map (row_seen p) o) ≡ missing carried
message_missing p carried None is = refl
message_missing p carried (Some row) is =
    ap (λ x. option_map_or (λ c. c) (option_map (content_seen p) x) (missing carried)) is

pub missing_seen : (p : List Held) (carried : Carried) → content_seen p (bodiless (missing carried).headers) ≡
    missing carried
missing_seen p part = refl
missing_seen p (whole blank) = refl

module _ (b : Begun) (p : List Held) (s : Stock) (is : InPool b p s) (fits : StockFits b.layout s) (c i : ℕ) where
  -- A row that is there is in order.
  pub row_there : (r : ℕ) (row : PoolRow) → kept_row s.kept c i r ≡ Some row → Covers p (row_refs row) × RowLies p row ×
      IsShortIf row.message
  row_there r row at = (
    record {
      covers = λ j.
          let all = (covered b p s is).covers j in let own = rows_within j s in let one =
          times-at row_refs j (kept_rows s.kept c i) r row at in
          let queue = times_get (flat_map row_refs) j (queues_kept (kept_at s.kept c)) i [] refl in
          let cell = times_get cell_refs j s.kept.cells c nothing_kept refl in omega arith;
    },
    row_lies p s.kept c i r is.lies.kept row at,
    all-at (λ (x : PoolRow). IsShortIf x.message) (kept_rows s.kept c i) r row at
        (queue_fits b.layout s c i fits).short,
  )

  -- The message of a row is in order.
  pub held_there : (r : ℕ) (m : PoolMessage) → message_of (kept_row s.kept c i r) ≡ Some m →
      Covers p (refs m) × Lies p m × IsShort m
  held_there r m at = go (kept_row s.kept c i r) refl at
    where
      go : (o : Option PoolRow) → kept_row s.kept c i r ≡ o → message_of o ≡ Some m → Covers p (refs m) × Lies p m ×
          IsShort m
      go None same has = absurd (cc)
      go (Some row) same has =
          let there = row_there r row same in
          (subst (λ x. Covers p (refs_if x)) has there.0, subst (LiesIf p) has there.1, subst IsShortIf has there.2)

  pub held_lifted : (q : List Held) (r : ℕ) (carried : Carried) (m n : PoolMessage) (hand : List PoolMessage) →
      message_of (kept_row s.kept c i r) ≡ Some m → n ≡ m →
      hand ≡ s.hand ++ n ∷ [] → length s.hand + 1 ≤ b.layout.hand → is_kept p q (refs m) →
      InPool b q (record s { hand = hand }) × StockFits b.layout (record s { hand = hand }) ×
      (laid q (record s { hand = hand }) ≡ lifted (message_in carried (row_at (laid p s).state c i r)) (laid p s))
  held_lifted q r carried m n hand there same new few kept =
      let own = held_there r m there in
      let step = lifted_fits b p q s is fits m hand (new ∙ ap (λ x. s.hand ++ x ∷ []) same) few own.2 own.0 own.1 kept
      in (
        step.0,
        step.1,
        step.2 ∙
            ap (λ x. lifted x (laid p s))
            (sym (ap (message_in carried) (row_at_seen (row_seen p) s.kept c i r) ∙
            message_seen p carried (kept_row s.kept c i r) m there)),
      )

  pub stand_in_lifted : (r : ℕ) (carried : Carried) (m : PoolMessage) (hand : List PoolMessage) →
      message_of (kept_row s.kept c i r) ≡ None → StandsIn carried m →
      hand ≡ s.hand ++ m ∷ [] → length s.hand + 1 ≤ b.layout.hand →
      InPool b p (record s { hand = hand }) × StockFits b.layout (record s { hand = hand }) ×
      (laid p (record s { hand = hand }) ≡ lifted (message_in carried (row_at (laid p s).state c i r)) (laid p s))
  stand_in_lifted r carried m hand there stands new few =
      let step = bare_fits b p s is fits m hand new few stands.short (ap refs stands.is)
      (subst (Lies p) (sym stands.is) tt) in (
        step.0,
        step.1,
        step.2 ∙
            ap (λ x. lifted x (laid p s))
            (ap (content_seen p) stands.is ∙ missing_seen p carried ∙
            sym (ap (message_in carried) (row_at_seen (row_seen p) s.kept c i r) ∙
            message_missing p carried (kept_row s.kept c i r) there)),
      )
