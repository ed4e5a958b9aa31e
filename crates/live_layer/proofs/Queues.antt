-- Steps at the queues.
use Rattle.std.proofs.Common.{◌≡◌, ℕ, ◌<◌, List, [], ◌∷◌, ◌++◌, Some, None, option_map, nat_lt, ◌&&◌, slice_index, map}
use Rattle.std.proofs.Common.{length, drop, get_or, set, slice_get, refl, sym, ap, subst, ◌∙◌, arith}
use Rattle.std.specs.List.{AllByRecursion}
use Rattle.std.proofs.Math.ListN.{get_or-map}
use Rattle.std.proofs.lemmas.List.{append-nil, drop-map, length-map, map-append, map-set}
use Rattle.std.proofs.lemmas.Option.{slice_get-map}
use Rattle.slot_pool.specs.Held.{Held}
use Rattle.slot_pool.specs.References.{Moved, Covers}
use Rattle.slot_pool.specs.Times.{times}
use Rattle.slot_pool.proofs.Times.{times-append}
use Rattle.slot_pool.proofs.References.{moved-same, moved-before}
use Rattle.msg_core.specs.Chain.{Content}
use Rattle.layer_mean.specs.State as state
use Rattle.layer_mean.specs.State.{State, numbers_in, queues_in, cell_at, number_at, has_room, rows_at, row_at}
use Rattle.layer_mean.specs.State.{with_queue}
use Rattle.layer_mean.specs.State.{with_rows, with_row, without_front}
use Rattle.layer_mean.specs.declared.run.Row.{Row}
use Rattle.layer_desk.specs.Laid.{Laid, lifted, queued, queued_first}
use Rattle.layer_desk.specs.Spent.{Begun}
use Rattle.cell_store.specs.Kept.{KeptCell, numbers, queues, Kept, nothing_kept, numbers_kept, queues_kept, kept_at}
use Rattle.cell_store.specs.Kept.{kept_number, kept_rows, kept_row, keeps_room, rows_set, with_kept_rows, with_last}
use Rattle.cell_store.specs.Kept.{without_first, contents_seen, state_of}
use Rattle.pool_message.specs.Seen.{bodiless, refs, content_seen, Lies, row_refs, row_seen, RowLies}
use Rattle.pool_message.specs.Moves.{Returned}
use Rattle.pool_message.specs.declared.message.PoolMessage.{PoolMessage}
use Rattle.pool_message.specs.declared.row.PoolRow.{PoolRow}
use Rattle.pool_message.proofs.Stays.{message_stays}
use Rattle.live_layer.specs.Stock.{Stock, laid, StockLies}
use Rattle.live_layer.specs.Steps.{InPool, TakesOut}
use Rattle.live_layer.proofs.Hand.{laid_top}
use Rattle.live_layer.proofs.Lists.{all-append, all-front, all-following, all-set, item_there, set-set}
use Rattle.live_layer.proofs.Parts.{none_out, both_out, hand_out, message_out, kept_out}
use Rattle.live_layer.proofs.Rows.{last_times, first_times, rows_lie, rows_set_lie}
use Rattle.live_layer.proofs.Steps.{covered, rest_stays, stepped}

-- ---- what is seen of queues

module _ (see : PoolRow → Row) where
  pub cell_seen : (k : Kept PoolRow) (c : ℕ) → cell_at (state_of see k) c ≡ contents_seen see (kept_at k c)
  cell_seen k c = get_or-map (contents_seen see) k.cells c nothing_kept

  queue_seen : (i : ℕ) (cell : KeptCell PoolRow) → get_or (queues_in (contents_seen see cell)) i [] ≡
      map see (get_or (queues_kept cell) i [])
  queue_seen i (numbers shape ns) = refl
  queue_seen i (queues shape capacity qs) = get_or-map (map see) qs i []

  pub rows_seen : (k : Kept PoolRow) (c i : ℕ) → rows_at (state_of see k) c i ≡ map see (kept_rows k c i)
  rows_seen k c i = ap (λ cell. get_or (queues_in cell) i []) (cell_seen k c) ∙ queue_seen i (kept_at k c)

  filled_seen : (i : ℕ) (rows : List PoolRow) (cell : KeptCell PoolRow) →
      with_queue i (map see rows) (contents_seen see cell) ≡ contents_seen see (rows_set i rows cell)
  filled_seen i rows (numbers shape ns) = refl
  filled_seen i rows (queues shape capacity qs) = ap (λ s. state.queues s) (sym (map-set (map see) qs i rows))

  state_set : (k : Kept PoolRow) (c i : ℕ) (rows : List PoolRow) →
      state_of see (with_kept_rows k c i rows) ≡ with_rows (state_of see k) c i (map see rows)
  state_set k c i rows =
      ap (λ cells. record (state_of see k) { cells = cells })
      (map-set (contents_seen see) k.cells c (rows_set i rows (kept_at k c)) ∙
      ap (set (map (contents_seen see) k.cells) c)
      (sym (filled_seen i rows (kept_at k c)) ∙ ap (with_queue i (map see rows)) (sym (cell_seen k c))))

  pub state_last : (k : Kept PoolRow) (c i : ℕ) (row : PoolRow) → state_of see (with_last k c i row) ≡
      with_row (state_of see k) c i (see row)
  state_last k c i row =
      state_set k c i (kept_rows k c i ++ row ∷ []) ∙
      ap (with_rows (state_of see k) c i)
      (map-append see (kept_rows k c i) (row ∷ []) ∙ ap (λ rows. rows ++ see row ∷ []) (sym (rows_seen k c i)))

  pub state_first : (k : Kept PoolRow) (c i : ℕ) → state_of see (without_first k c i) ≡
      without_front (state_of see k) c i
  state_first k c i =
      state_set k c i (drop 1 (kept_rows k c i)) ∙
      ap (with_rows (state_of see k) c i) (sym (drop-map see 1 (kept_rows k c i)) ∙ ap (drop 1) (sym (rows_seen k c i)))

  number_in_seen : (i : ℕ) (cell : KeptCell PoolRow) → slice_index (numbers_in (contents_seen see cell)) i ≡
      slice_index (numbers_kept cell) i
  number_in_seen i (numbers shape ns) = refl
  number_in_seen i (queues shape capacity qs) = refl

  pub number_seen : (k : Kept PoolRow) (c i : ℕ) → kept_number k c i ≡ number_at (state_of see k) c i
  number_seen k c i = sym (ap (λ cell. slice_index (numbers_in cell) i) (cell_seen k c) ∙
      number_in_seen i (kept_at k c))

  pub length_seen : (k : Kept PoolRow) (c i : ℕ) → length (kept_rows k c i) ≡ length (rows_at (state_of see k) c i)
  length_seen k c i = sym (ap length (rows_seen k c i) ∙ length-map (kept_rows k c i) see)

  count_seen : (cell : KeptCell PoolRow) → length (queues_in (contents_seen see cell)) ≡ length (queues_kept cell)
  count_seen (numbers shape ns) = refl
  count_seen (queues shape capacity qs) = length-map qs (map see)

  pub room_seen : (k : Kept PoolRow) (c i capacity : ℕ) →
      keeps_room k c i capacity ≡ has_room (state_of see k) c i capacity
  room_seen k c i capacity =
      λ j. nat_lt i (sym (ap (λ cell. length (queues_in cell)) (cell_seen k c) ∙ count_seen (kept_at k c)) j) &&
      nat_lt (length_seen k c i j) capacity

  pub row_at_seen : (k : Kept PoolRow) (c i r : ℕ) → row_at (state_of see k) c i r ≡ option_map see (kept_row k c i r)
  row_at_seen k c i r = ap (λ rows. slice_get rows r) (rows_seen k c i) ∙ slice_get-map see (kept_rows k c i) r

-- ---- a row is put

module _ (b : Begun) (p : List Held) (s : Stock) (is : InPool b p s) (c i : ℕ) where
  -- A row is put at the back of a queue, whose references were taken out.
  queued_step : (t : Stock) (xs : List ℕ) → TakesOut s t xs → StockLies p t →
      i < length (queues_kept (kept_at t.kept c)) →
      (row : PoolRow) → row_refs row ≡ xs → RowLies p row →
      InPool b p (record t { kept = with_last t.kept c i row }) ×
      (laid p (record t { kept = with_last t.kept c i row }) ≡ queued c i (row_seen p row) (laid p t))
  queued_step t xs out left within row same lies =
      let put = kept_out t (with_last t.kept c i row) t.kept (row_refs row) (last_times t.kept c i within row) in (
        stepped b p p s t (record t { kept = with_last t.kept c i row }) xs xs is out
            (subst (TakesOut (record t { kept = with_last t.kept c i row }) t) same put) (moved-same p xs)
            (record {
              kept = rows_set_lie p t.kept c i left.kept (kept_rows t.kept c i ++ row ∷ [])
                  (all-append (RowLies p) (kept_rows t.kept c i) (row ∷ []) (rows_lie p t.kept c i left.kept)
                  (lies, tt));
              messages = left.messages;
              arrived = left.arrived;
              hand = left.hand;
              sent = left.sent;
            }),
        ap (λ state. record (laid p t) { state = state }) (state_last (row_seen p) t.kept c i row),
      )

  pub queued_alone : i < length (queues_kept (kept_at s.kept c)) → (ns : List ℕ) →
      let row : PoolRow = record { numbers = ns; message = None } in
      InPool b p (record s { kept = with_last s.kept c i row }) ×
      (laid p (record s { kept = with_last s.kept c i row }) ≡ queued c i (record { numbers = ns; message = None })
      (laid p s))
  queued_alone within ns = queued_step s [] (none_out s) is.lies within
      (record { numbers = ns; message = None }) refl tt

  pub queued_top : i < length (queues_kept (kept_at s.kept c)) →
      (ns : List ℕ) (rest : List PoolMessage) (m : PoolMessage) → s.hand ≡ rest ++ m ∷ [] →
      let row : PoolRow = record { numbers = ns; message = Some m } in
      InPool b p (record s { hand = rest; kept = with_last s.kept c i row }) ×
      (laid p (record s { hand = rest; kept = with_last s.kept c i row }) ≡ queued_first c i ns (laid p s))
  queued_top within ns rest m at =
      let lie = subst (AllByRecursion (Lies p)) at is.lies.hand in
      let out : TakesOut s (record s { hand = rest }) (refs m) =
      subst (λ hand. TakesOut (record s { hand = hand }) (record s { hand = rest }) (refs m)) (sym at)
      (subst (TakesOut (record s { hand = rest ++ m ∷ [] }) (record s { hand = rest })) (append-nil (refs m))
      (hand_out s rest (m ∷ []))) in
      let left : StockLies p (record s { hand = rest }) =
      record {
        kept = is.lies.kept;
        messages = is.lies.messages;
        arrived = is.lies.arrived;
        hand =
            all-front (Lies p) rest (m ∷ []) lie;
        sent = is.lies.sent;
      } in
      let step = queued_step (record s { hand = rest }) (refs m) out left within
      (record { numbers = ns; message = Some m }) refl (all-following (Lies p) rest (m ∷ []) lie).0 in
      let before : laid p s ≡ lifted (content_seen p m) (laid p (record s { hand = rest })) =
      ap (λ hand. laid p (record s { hand = hand })) at ∙ laid_top p s rest m in
      (step.0, step.1 ∙ ap (queued_first c i ns) (sym before))

-- ---- the front row is taken

-- What lies on a desk, with other messages in the scope.
abbrev in_scope : List Content → Laid → Laid
in_scope ms l = record l { scope = record l.scope { messages = ms } }

module _ (b : Begun) (p q : List Held) (s : Stock) (is : InPool b p s) (c i : ℕ)
    (within : i < length (queues_kept (kept_at s.kept c)))
    (row : PoolRow) (rest : List PoolRow) (at : kept_rows s.kept c i ≡ row ∷ rest) where
  abbrev fewer : Stock
  fewer = record s { kept = without_first s.kept c i }

  fewer_out : TakesOut s fewer (row_refs row)
  fewer_out = kept_out s s.kept (without_first s.kept c i) (row_refs row) (first_times s.kept c i within row rest at)

  both_lie : AllByRecursion (RowLies p) (row ∷ rest)
  both_lie = subst (AllByRecursion (RowLies p)) at (rows_lie p s.kept c i is.lies.kept)

  fewer_lies : StockLies p fewer
  fewer_lies = record {
    kept = rows_set_lie p s.kept c i is.lies.kept (drop 1 (kept_rows s.kept c i))
        (subst (λ rows. AllByRecursion (RowLies p) (drop 1 rows)) (sym at) both_lie.1);
    messages = is.lies.messages;
    arrived = is.lies.arrived;
    hand = is.lies.hand;
    sent = is.lies.sent;
  }

  fewer_laid : laid p fewer ≡ record (laid p s) { state = without_front (laid p s).state c i }
  fewer_laid = ap (λ state. record (laid p s) { state = state }) (state_first (row_seen p) s.kept c i)

  -- Its message is given back.
  pub row_gone : Returned p q (row_refs row) →
      RowLies p row × InPool b q fewer ×
      (laid q fewer ≡ record (laid p s) { state = without_front (laid p s).state c i })
  row_gone gone =
      let stays = rest_stays b p q s fewer (row_refs row) [] is fewer_out fewer_lies gone.moved in (
        both_lie.0,
        stepped b p q s fewer fewer (row_refs row) [] is fewer_out (none_out fewer) gone.moved stays.0,
        stays.1 ∙ fewer_laid,
      )

  -- Its message stands in the scope in the place of one that is given back.
  pub row_bound : (k : ℕ) (old m : PoolMessage) → slice_get s.messages k ≡ Some old → refs m ≡ row_refs row → Lies p m →
      Returned p q (refs old) →
      InPool b q (record fewer { messages = set s.messages k m }) ×
      (laid q (record fewer { messages = set s.messages k m }) ≡
      record (laid p s) {
        state = without_front (laid p s).state c i;
        scope =
            record (laid p s).scope { messages = set (laid p s).scope.messages k (content_seen p m) };
      })
  row_bound k old m there same lies gone =
      let bare : PoolMessage = bodiless [] in
      let t : Stock = record fewer { messages = set s.messages k bare } in
      let u : Stock = record fewer { messages = set s.messages k m } in
      let item = item_there s.messages k old there in
      let first : TakesOut fewer t (refs old) =
      subst (λ ms. TakesOut (record fewer { messages = ms }) t (refs old)) item.1
      (message_out fewer s.messages k old bare refl item.0) in
      let out = both_out s fewer t (row_refs row) (refs old) fewer_out first in
      let left : StockLies p t = record {
        kept = fewer_lies.kept;
        messages = all-set (Lies p) s.messages k bare is.lies.messages tt;
        arrived = is.lies.arrived;
        hand = is.lies.hand;
        sent = is.lies.sent;
      } in
      let moved : Moved p q (row_refs row ++ refs old) (refs m) =
      subst (Moved p q (row_refs row ++ refs old)) (append-nil (row_refs row) ∙ sym same)
      (moved-before p q (refs old) [] (row_refs row) gone.moved) in
      let stays = rest_stays b p q s t (row_refs row ++ refs old) (refs m) is out left moved in
      let beside : Covers p (refs old ++ refs m) = record {
        covers = λ j.
            let all = (covered b p s is).covers j in let parts = out.times j in let both =
            times-append j (row_refs row) (refs old) in
            let two = times-append j (refs old) (refs m) in let one = ap (times j) same in omega arith;
      } in
      let kept = message_stays p q (refs old) [] gone.moved m beside lies in
      let messages = all-set (Lies q) (set s.messages k bare) k m stays.0.messages kept.0 in (
        stepped b p q s t u (row_refs row ++ refs old) (refs m) is out
            (message_out fewer s.messages k m bare refl item.0) moved
            (record {
              kept = stays.0.kept;
              messages = subst (AllByRecursion (Lies q)) (set-set s.messages k bare m) messages;
              arrived = stays.0.arrived;
              hand = stays.0.hand;
              sent = stays.0.sent;
            }),
        ap (λ ms. in_scope ms (laid q u))
            (ap (map (content_seen q)) (sym (set-set s.messages k bare m)) ∙
            map-set (content_seen q) (set s.messages k bare) k m) ∙
            ap (λ l. in_scope (set l.scope.messages k (content_seen q m)) l) stays.1 ∙
            (λ j. record {
              state = state_first (row_seen p) s.kept c i j;
              scope = record {
                numbers = s.numbers;
                messages =
                    (ap (λ ms. set ms k (content_seen q m)) (map-set (content_seen p) s.messages k bare) ∙
                    set-set (map (content_seen p) s.messages) k (content_seen p bare) (content_seen q m) ∙
                    ap (set (map (content_seen p) s.messages) k) kept.1) j;
              };
              arrived = (laid p s).arrived;
              hand = (laid p s).hand;
              sent = (laid p s).sent;
            }),
      )
