-- What each call leaves of the places, and what it shows. The pool was seen as p, and s is the number of the slot at
-- the place i.
use Rattle.std.proofs.Common.{◌≡◌, ℕ, true, false, ◌+◌, ◌-◌, ◌<◌, ◌≤◌, List, [], ◌∷◌, ◌++◌, length, take, set, refl}
use Rattle.std.proofs.Common.{sym, ap, ◌∙◌, subst, arith}
use Rattle.std.proofs.lemmas.List.Elements.{All-get_or}
use Rattle.std.specs.Prelude.{All}
use Rattle.raw_block.specs.Run.{Run}
use Rattle.slot_pool.specs.Held.{Held, held_bytes, held_if, unused, held_at, count_at, bytes_at, one_less, IsFull, Puts}
use Rattle.slot_pool.specs.Places.{shown_place, shown_slots, IsPool}
use Rattle.slot_pool.specs.Spots.{Spot, no_spot, spot_at, Sets, Adds}
use Rattle.slot_pool.proofs.Held.{held_if_used}
use Rattle.slot_pool.proofs.Places.{in_use, held_at-shown, held_at-shown_past, length-shown, shown-set, shown-push}
use Rattle.slot_pool.proofs.Places.{all_used, all_in_use, stays, freed, taken, pushed}
use Rattle.slot_pool.specs.declared.slot_record.TheConstants.{LONGEST}

pub sized_at : (ps : List Spot) (n first i : ℕ) → IsPool ps n first → i < length ps → (spot_at ps i).len ≤ LONGEST
sized_at ps n first i is lt = All-get_or (λ (p : Spot). p.len ≤ LONGEST) ps i no_spot lt is.sized

module _ (ps : List Spot) (n first i : ℕ) (w v : Spot) (p : List Held) (s : ℕ) where
  -- the place is in use
  abbrev Used : Type 0
  Used = (i < length ps) × (w ≡ spot_at ps i) × (0 < w.count) × (held_at p s ≡ held_bytes w.count (take w.len w.bytes))

  used : shown_slots ps n ≡ p → i ≡ s → 0 < count_at p s → w ≡ spot_at ps i → Used
  used view at pos read =
      let pos' : 0 < count_at (shown_slots ps n) i =
      subst (λ m. 0 < count_at (shown_slots ps n) m) (sym at) (subst (λ q. 0 < count_at q s) (sym view) pos) in
      let is = in_use ps n i pos' in let w_is = read in
      let counts : w.count ≡ count_at (shown_slots ps n) i = ap (λ (x : Spot). x.count) w_is ∙ sym is.1 in
      let some : 0 < w.count = omega arith in
      let seen : held_at p s ≡ shown_place w = (λ j. held_at (sym view j) (sym at j)) ∙ held_at-shown ps n i is.0 ∙
      ap shown_place (sym w_is) in
      (is.0, w_is, some, seen ∙ held_if_used w.count (take w.len w.bytes) some)

  pub within : shown_slots ps n ≡ p → i ≡ s → 0 < count_at p s → w ≡ spot_at ps i → i < length ps
  within view at pos read = (used view at pos read).0

  pub keep_pool : shown_slots ps n ≡ p → i ≡ s → 0 < count_at p s → w ≡ spot_at ps i →
      v ≡ record w { count = w.count + 1 } →
      IsPool ps n first → IsPool (set ps i v) n first
  keep_pool view at pos read made is =
      let u = used view at pos read in let fits = sized_at ps n first i is u.0 in
      let old : 0 < (spot_at ps i).count = subst (λ (x : Spot). 0 < x.count) u.1 u.2 in let len : v.len ≡
      (spot_at ps i).len = ap (λ (x : Spot). x.len) made ∙ ap (λ (x : Spot). x.len) u.1 in
      let count : v.count ≡ w.count + 1 = ap (λ (x : Spot). x.count) made in
      stays ps n first i v is u.0 old (omega arith) (omega arith)

  pub keep_shown : shown_slots ps n ≡ p → i ≡ s → 0 < count_at p s → w ≡ spot_at ps i →
      v ≡ record w { count = w.count + 1 }
      → shown_slots (set ps i v) n ≡ set p s (held_bytes (count_at p s + 1) (bytes_at p s))
  keep_shown view at pos read made =
      let u = used view at pos read in let more : 0 < w.count + 1 = omega arith in
      shown-set ps n i v u.0 ∙ (λ j. set (view j) (at j) (shown_place (made j))) ∙
      ap (set p s) (held_if_used (w.count + 1) (take w.len w.bytes) more ∙
      ap (λ (h : Held). held_bytes (h.count + 1) h.bytes) (sym u.3))

  pub end_pool : shown_slots ps n ≡ p → i ≡ s → 0 < count_at p s → w ≡ spot_at ps i →
      v ≡ record w { count = w.count - 1 } →
      (w.count ≡ 1 → ⊥) → IsPool ps n first → IsPool (set ps i v) n first
  end_pool view at pos read made more is =
      let u = used view at pos read in let fits = sized_at ps n first i is u.0 in
      let old : 0 < (spot_at ps i).count = subst (λ (x : Spot). 0 < x.count) u.1 u.2 in let len : v.len ≡
      (spot_at ps i).len = ap (λ (x : Spot). x.len) made ∙ ap (λ (x : Spot). x.len) u.1 in
      let count : v.count ≡ w.count - 1 = ap (λ (x : Spot). x.count) made in let some = u.2 in
      stays ps n first i v is u.0 old (omega arith) (omega arith)

  pub end_shown : shown_slots ps n ≡ p → i ≡ s → 0 < count_at p s → w ≡ spot_at ps i →
      v ≡ record w { count = w.count - 1 } →
      shown_slots (set ps i v) n ≡ set p s (one_less (held_at p s))
  end_shown view at pos read made =
      let u = used view at pos read in
      shown-set ps n i v u.0 ∙ (λ j. set (view j) (at j) (shown_place (made j))) ∙ ap (set p s) (ap one_less (sym u.3))

  -- with the last reference its place is the first of the free ones
  pub free_pool : shown_slots ps n ≡ p → i ≡ s → 0 < count_at p s → w ≡ spot_at ps i →
      v ≡ record w { count = w.count - 1 } →
      w.count ≡ 1 → IsPool ps n first
      → IsPool (set ps i (record v { next = first })) n i
  free_pool view at pos read made last is =
      let u = used view at pos read in let fits = sized_at ps n first i is u.0 in
      let old : 0 < (spot_at ps i).count = subst (λ (x : Spot). 0 < x.count) u.1 u.2 in let len : v.len ≡
      (spot_at ps i).len = ap (λ (x : Spot). x.len) made ∙ ap (λ (x : Spot). x.len) u.1 in
      let count : v.count ≡ w.count - 1 = ap (λ (x : Spot). x.count) made in
      freed ps n first i (record v { next = first }) is u.0 old (omega arith) refl (omega arith)

  pub free_shown : shown_slots ps n ≡ p → i ≡ s → 0 < count_at p s → w ≡ spot_at ps i →
      v ≡ record w { count = w.count - 1 } →
      shown_slots (set ps i (record v { next = first })) n ≡ set p s (one_less (held_at p s))
  free_shown view at pos read made =
      let u = used view at pos read in
      shown-set ps n i (record v { next = first }) u.0 ∙ (λ j. set (view j) (at j) (shown_place (made j))) ∙
      ap (set p s) (ap one_less (sym u.3))

module _ (ps : List Spot) (n first : ℕ) (v : Spot) where
  -- the first free place is taken, whose link was that of w
  pub take_pool : (w : Spot) → first < length ps → w ≡ spot_at ps first → v.count ≡ 1 → v.len ≤ LONGEST →
      IsPool ps n first → IsPool (set ps first v) n w.next
  take_pool w lt read one fits is =
      subst (λ m. IsPool (set ps first v) n m) (ap (λ (x : Spot). x.next) (sym read))
      (taken ps n first v is lt (omega arith) fits).0

  pub push_pool : length ps ≤ first → length ps < n → v.count ≡ 1 → v.len ≤ LONGEST → IsPool ps n first →
      IsPool (ps ++ v ∷ []) n first
  push_pool past lt one fits is = pushed ps n first v is past lt (omega arith) fits

  module _ (p : List Held) (bs : List ℕ) where
    one_held : v.count ≡ 1 → v.len ≡ length bs → take (length bs) v.bytes ≡ bs → shown_place v ≡ held_bytes 1 bs
    one_held one long same = (λ j. held_if (one j) (take (long j) v.bytes)) ∙ ap (held_bytes 1) same

    pub take_shown : shown_slots ps n ≡ p → first < length ps → IsPool ps n first → v.count ≡ 1 → v.len ≡ length bs →
        take (length bs) v.bytes ≡ bs → length bs ≤ LONGEST
        → Puts p (shown_slots (set ps first v) n) bs first
    take_shown view lt is one long same fits =
        let room = is.room in let all : length p ≡ n = ap length (sym view) ∙ length-shown ps n is.room in
        let free = (taken ps n first v is lt (omega arith) (omega arith)).1 in let place = spot_at ps first in
        let none : count_at p first ≡ 0 = ap (λ q. count_at q first) (sym view) ∙
        ap (λ (h : Held). h.count)
        (held_at-shown ps n first lt ∙ ap (λ m. held_if m (take place.len place.bytes)) free) in
        record {
          within = omega arith;
          free = none;
          holds = shown-set ps n first v lt ∙
              (λ j. set (view j) first (one_held one long same j));
        }

    pub push_shown : (s : ℕ) → s ≡ length ps → shown_slots ps n ≡ p → length ps < n → IsPool ps n first → v.count ≡ 1 →
        v.len ≡ length bs → take (length bs) v.bytes ≡ bs
        → Puts p (shown_slots (ps ++ v ∷ []) n) bs s
    push_shown s at view lt is one long same =
        let room = is.room in let all : length p ≡ n = ap length (sym view) ∙ length-shown ps n is.room in
        let none : count_at p s ≡ 0 = ap (λ q. count_at q s) (sym view) ∙
        ap (λ (h : Held). h.count) (held_at-shown_past ps n s (omega arith)) in
        record {
          within = omega arith;
          free = none;
          holds = shown-push ps n v lt ∙
              (λ j. set (view j) (sym at j) (one_held one long same j));
        }

-- a pool into which bytes were put was not full
pub put_not_full : (p q : List Held) (bs : List ℕ) (s : ℕ) → Puts p q bs s →
    (true ≡ false → IsFull p) × (IsFull p → true ≡ false)
put_not_full p q bs s puts = (
  λ e. absurd (cc),
  λ full. let free = puts.free in let used =
      All-get_or (λ (h : Held). 0 < h.count) p s unused puts.within full in absurd (omega arith),
)

pub none_full : (ps : List Spot) (n first : ℕ) (p : List Held) → shown_slots ps n ≡ p → length ps ≤ first →
    n ≤ length ps →
    IsPool ps n first → (false ≡ false → IsFull p) × (IsFull p → false ≡ false)
none_full ps n first p view past full is =
    (λ e. subst (All (λ (h : Held). 0 < h.count)) view (all_used ps n full (all_in_use ps n first is past)), λ e. refl)

-- ---- what calls of a row leave

module _ (q new : Run Spot) (first : ℕ) (bs : List ℕ) (is : IsPool q.values q.capacity first)
    (fits : length bs ≤ LONGEST) where
  module _ (s : Sets q new first bs) (lt : first < length q.values) where
    pub sets_pool : (next : ℕ) → next ≡ (spot_at q.values first).next → IsPool new.values new.capacity next
    sets_pool next e = subst (λ m. IsPool new.values new.capacity m) (sym e)
        (subst (λ (r : Run Spot). IsPool r.values r.capacity (spot_at q.values first).next) (sym s.rest)
        (take_pool q.values q.capacity first (spot_at new.values first) (spot_at q.values first) lt refl s.holds.one
        (omega (arith, s.holds.sized)) is))

    pub sets_shown : (p : List Held) → shown_slots q.values q.capacity ≡ p →
        Puts p (shown_slots new.values new.capacity) bs first
    sets_shown p view = subst (λ (r : Run Spot). Puts p (shown_slots r.values r.capacity) bs first) (sym s.rest)
        (take_shown q.values q.capacity first (spot_at new.values first) p bs view lt is s.holds.one s.holds.sized
        s.holds.body fits)

  module _ (a : Adds q new bs) (lt : length q.values < q.capacity) where
    pub adds_pool : length q.values ≤ first → IsPool new.values new.capacity first
    adds_pool past = subst (λ (r : Run Spot). IsPool r.values r.capacity first) (sym a.rest)
        (push_pool q.values q.capacity first (spot_at new.values (length q.values)) past lt a.holds.one
        (omega (arith, a.holds.sized)) is)

    pub adds_shown : (p : List Held) (s : ℕ) → s ≡ length q.values → shown_slots q.values q.capacity ≡ p →
        Puts p (shown_slots new.values new.capacity) bs s
    adds_shown p s at view = subst (λ (r : Run Spot). Puts p (shown_slots r.values r.capacity) bs s) (sym a.rest)
        (push_shown q.values q.capacity first (spot_at new.values (length q.values)) p bs s at view lt is a.holds.one
        a.holds.sized a.holds.body)
