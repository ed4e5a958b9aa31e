-- Laws of places that are joined with those for long bodies.
use Rattle.std.proofs.Common.{◌≡◌, ℕ, zero, suc, ◌+◌, ◌<◌, ◌≤◌, List, [], ◌∷◌, ◌++◌, inl, inr, length, take, get_or}
use Rattle.std.proofs.Common.{set, refl, sym, ap, ◌∙◌, subst, arith, length-append, length-set, get_or-set_same}
use Rattle.std.proofs.Common.{get_or-set_other}
use Rattle.std.specs.Prelude.{if◌then◌else◌}
use Rattle.std.proofs.lemmas.List.{get_or_append_left, get_or-append-add, get_or_default, set-set}
use Rattle.std.proofs.Math.Seq.{set-append_seam}
use Rattle.std.proofs.lemmas.Bool.{le-ltb, lt-ltb}
use Rattle.std.proofs.lemmas.Bool.Decides.{eqb_tells}
use Rattle.raw_block.specs.Run.{Run, run}
use Rattle.slot_pool.specs.Spots.{Spot, no_spot, spot_at, spot, joined_spots, no_place, place_at, ArePlaces, HoldsOne}
use Rattle.slot_pool.specs.Spots.{Sets}
use Rattle.slot_pool.specs.Spots.{Adds, Reaches, Grows}
use Rattle.slot_pool.specs.declared.slot_record.TheConstants.{SHORT}
use Rattle.slot_pool.specs.declared.slot_record.SlotRecord.{SlotRecord}
use Rattle.slot_pool.proofs.Held.{below_or_not}

pub length_joined : (ps : List SlotRecord) (ls : List (List ℕ)) → length (joined_spots ps ls) ≡ length ps
length_joined [] ls = refl
length_joined (p ∷ ps) [] = ap suc (length_joined ps [])
length_joined (p ∷ ps) (l ∷ ls) = ap suc (length_joined ps ls)

pub spot_at_joined : (ps : List SlotRecord) (ls : List (List ℕ)) (i : ℕ) → i < length ps →
    spot_at (joined_spots ps ls) i ≡ spot (place_at ps i) (get_or ls i [])
spot_at_joined [] ls i lt = absurd (omega arith)
spot_at_joined (p ∷ ps) [] zero lt = refl
spot_at_joined (p ∷ ps) [] (suc i) lt = spot_at_joined ps [] i (omega arith)
spot_at_joined (p ∷ ps) (l ∷ ls) zero lt = refl
spot_at_joined (p ∷ ps) (l ∷ ls) (suc i) lt = spot_at_joined ps ls i (omega arith)

pub joined_set : (ps : List SlotRecord) (ls : List (List ℕ)) (i : ℕ) (v : SlotRecord) →
    joined_spots (set ps i v) ls ≡ set (joined_spots ps ls) i (spot v (get_or ls i []))
joined_set [] ls i v = refl
joined_set (p ∷ ps) [] zero v = refl
joined_set (p ∷ ps) [] (suc i) v = ap (λ ss. spot p [] ∷ ss) (joined_set ps [] i v)
joined_set (p ∷ ps) (l ∷ ls) zero v = refl
joined_set (p ∷ ps) (l ∷ ls) (suc i) v = ap (λ ss. spot p l ∷ ss) (joined_set ps ls i v)

-- a place and its long body are written
pub joined_both : (ps : List SlotRecord) (ls : List (List ℕ)) (i : ℕ) (v : SlotRecord) (b : List ℕ) → i < length ls →
    joined_spots (set ps i v) (set ls i b) ≡ set (joined_spots ps ls) i (spot v b)
joined_both [] ls i v b lt = refl
joined_both (p ∷ ps) [] i v b lt = absurd (omega arith)
joined_both (p ∷ ps) (l ∷ ls) zero v b lt = refl
joined_both (p ∷ ps) (l ∷ ls) (suc i) v b lt = ap (λ ss. spot p l ∷ ss) (joined_both ps ls i v b (omega arith))

pub joined_push : (ps : List SlotRecord) (ls : List (List ℕ)) (v : SlotRecord) → length ls ≤ length ps →
    joined_spots (ps ++ v ∷ []) ls ≡ joined_spots ps ls ++ spot v [] ∷ []
joined_push [] [] v le = refl
joined_push [] (l ∷ ls) v le = absurd (omega arith)
joined_push (p ∷ ps) [] v le = ap (λ ss. spot p [] ∷ ss) (joined_push ps [] v (omega arith))
joined_push (p ∷ ps) (l ∷ ls) v le = ap (λ ss. spot p l ∷ ss) (joined_push ps ls v (omega arith))

-- the bytes of a short body are those of its place
pub spot_short : (p : SlotRecord) (long : List ℕ) → p.len ≤ SHORT → (spot p long).bytes ≡ p.bytes
spot_short p long le = ap (λ b. if b then long else p.bytes) (le-ltb SHORT p.len (omega arith))

-- and those of a long one are elsewhere
spot_long : (p : SlotRecord) (long : List ℕ) → SHORT < p.len → (spot p long).bytes ≡ long
spot_long p long lt = ap (λ b. if b then long else p.bytes) (lt-ltb SHORT p.len lt)

-- more places for long bodies show none
pub joined_more : (ps : List SlotRecord) (ls zs : List (List ℕ)) →
    ((i : ℕ) → i < length ps → SHORT < (place_at ps i).len → i < length ls) → joined_spots ps (ls ++ zs) ≡
    joined_spots ps ls
joined_more [] ls zs long = refl
joined_more (p ∷ ps) [] [] long = refl
joined_more (p ∷ ps) [] (z ∷ zs) long =
    let none : p.len ≤ SHORT =
    elim (below_or_not SHORT p.len)
    [ inl far ↦ let within : 0 < 0 = long 0 (omega arith) far in absurd (omega arith) | inr le ↦ le ] in
    let bytes : (spot p z).bytes ≡ (spot p []).bytes = spot_short p z none ∙ sym (spot_short p [] none) in
    (λ i. (record { count = p.count; next = p.next; len = p.len; bytes = bytes i }) ∷
    joined_more ps [] zs (λ j lt far. let within : suc j < 0 = long (suc j) (omega arith) far in
    absurd (omega arith)) i)
joined_more (p ∷ ps) (l ∷ ls) zs long =
    ap (λ ss. spot p l ∷ ss)
    (joined_more ps ls zs (λ j lt far. let within : suc j < suc (length ls) = long (suc j) (omega arith) far in
    omega arith))

module _ (ps : List SlotRecord) (ls : List (List ℕ)) (n m : ℕ) (are : ArePlaces ps ls n m) where
  pub set_places : (i : ℕ) (v : SlotRecord) → i < length ps → (SHORT < v.len → i < length ls) →
      ArePlaces (set ps i v) ls n m
  set_places i v lt far = let count = length-set ps i v in record {
    few = are.few;
    same = are.same;
    within = omega (arith, are.within);
    fewer = omega (arith, are.fewer);
    long = λ j within is. let inside : j < length ps = omega arith in elim (eqb_tells j i) [
      | inl same ↦ subst (λ k. k < length ls) (sym same.1)
          (far (subst (λ (p : SlotRecord). SHORT < p.len)
          (ap (place_at (set ps i v)) same.1 ∙ get_or-set_same ps i v no_place lt) is))
      | inr other ↦ are.long j inside
          (subst (λ (p : SlotRecord). SHORT < p.len) (get_or-set_other ps i j v no_place other.1) is)
    ];
  }

  pub more_places : (zs : List (List ℕ)) → length (ls ++ zs) ≤ length ps → ArePlaces ps (ls ++ zs) n m
  more_places zs few = let count = length-append ls zs in record {
    few = are.few;
    same = are.same;
    within = are.within;
    fewer = few;
    long = λ j within is. let there : j < length ls = are.long j within is in omega arith;
  }

  pub push_places : (v : SlotRecord) → length ps < n → v.len ≡ 0 → ArePlaces (ps ++ v ∷ []) ls n m
  push_places v lt none = let count = length-append ps (v ∷ []) in record {
    few = are.few;
    same = are.same;
    within = omega arith;
    fewer = omega (arith, are.fewer);
    long = λ j within is. elim (below_or_not j (length ps)) [
      | inl inside ↦ are.long j inside
          (subst (λ (p : SlotRecord). SHORT < p.len) (get_or_append_left ps (v ∷ []) no_place j inside) is)
      | inr last ↦ let same : j ≡ length ps + 0 = omega arith in
          let long : SHORT < v.len =
          subst (λ (p : SlotRecord). SHORT < p.len)
          (ap (place_at (ps ++ v ∷ [])) same ∙ get_or-append-add ps (v ∷ []) 0 no_place) is in absurd (omega arith)
    ];
  }

  pub long_places : (i : ℕ) (b : List ℕ) → ArePlaces ps (set ls i b) n m
  long_places i b = let count = length-set ls i b in record {
    few = are.few;
    same = are.same;
    within = are.within;
    fewer = omega (arith, are.fewer);
    long = λ j within is. let there : j < length ls = are.long j within is in omega arith;
  }

-- a place was written
pub sets : (old new : Run Spot) (i : ℕ) (s : Spot) (bs : List ℕ) → i < length old.values →
    new ≡ run (set old.values i s) old.capacity → HoldsOne s bs → Sets old new i bs
sets old new i s bs lt is holds =
    let here : spot_at new.values i ≡ s = ap (λ (r : Run Spot). spot_at r.values i) is ∙
    get_or-set_same old.values i s no_spot lt in record {
      holds = subst (λ x. HoldsOne x bs) (sym here) holds;
      rest = is ∙ ap (λ x. run (set old.values i x) old.capacity) (sym here);
    }

-- ---- what calls of a row leave

module _ (ps : List SlotRecord) (ls : List (List ℕ)) (n i : ℕ) (q : Run Spot) (view : run (joined_spots ps ls) n ≡ q)
  where
    pub count_is : length ps ≡ length q.values
    count_is = sym (length_joined ps ls) ∙ ap (λ (r : Run Spot). length r.values) view

    pub there : i < length q.values → i < length ps
    there lt = let count = count_is in omega arith

    pub seen : i < length ps → spot_at q.values i ≡ spot (place_at ps i) (get_or ls i [])
    seen lt = ap (λ (r : Run Spot). spot_at r.values i) (sym view) ∙ spot_at_joined ps ls i lt

    module _ (w : SlotRecord) (lt : i < length q.values) (read : w ≡ get_or ps i w) where
      pub seen_read : spot_at q.values i ≡ spot w (get_or ls i [])
      seen_read = seen (there lt) ∙
          ap (λ p. spot p (get_or ls i [])) (sym (read ∙ get_or_default ps i w no_place (there lt)))

      -- a place is changed
      pub changes : (f : Spot → Spot) (v : SlotRecord) → spot v (get_or ls i []) ≡ f (spot w (get_or ls i [])) →
          run (joined_spots (set ps i v) ls) n ≡ run (set q.values i (f (spot_at q.values i))) q.capacity
      changes f v is = (λ j. run (joined_set ps ls i v j) n) ∙
          (λ j. run (set (view j).values i ((is ∙ ap f (sym seen_read)) j)) (view j).capacity)
      -- a place is written

    pub written : (v : SlotRecord) → run (joined_spots (set ps i v) ls) n ≡
        run (set q.values i (spot v (get_or ls i []))) q.capacity
    written v = (λ j. run (joined_set ps ls i v j) n) ∙
        (λ j. run (set (view j).values i (spot v (get_or ls i []))) (view j).capacity)

    -- its one reference is to a short body
    pub sets_short : (v : SlotRecord) (bs : List ℕ) → i < length q.values → v.count ≡ 1 → v.len ≡ length bs →
        take (length bs) v.bytes ≡ bs → length bs ≤ SHORT
        → Sets q (run (joined_spots (set ps i v) ls) n) i bs
    sets_short v bs lt one long same few = sets q _ i (spot v (get_or ls i [])) bs lt (written v) (record {
      one = one;
      sized = long;
      body = ap (take (length bs)) (spot_short v (get_or ls i []) (omega arith)) ∙ same;
    })

-- places for long bodies are there up to one
pub reaches : (old new : Run (List ℕ)) (i at : ℕ) → Grows old new i at → i < at → Reaches old new i
reaches old new i at g lt = record {
  more = g.more;
  values = ap (λ (r : Run (List ℕ)). r.values) g.is;
  reached = omega (arith, g.count);
  fewer = λ k old_fit i_fits. let fits : at ≤ k = g.fewer k old_fit i_fits in omega (arith, g.count);
  capacity = ap (λ (r : Run (List ℕ)). r.capacity) g.is;
}

module _ (ps : List SlotRecord) (long longer : Run (List ℕ)) (n i : ℕ) (reach : Reaches long longer i)
    (are : ArePlaces ps long.values n long.capacity) (lt : i < length ps) where
  still : ArePlaces ps longer.values n longer.capacity
  still =
      let few : length longer.values ≤ length ps = reach.fewer (length ps) are.fewer lt in
      subst (λ m. ArePlaces ps longer.values n m) (sym reach.capacity)
      (subst (λ ls. ArePlaces ps ls n long.capacity) (sym reach.values)
      (more_places ps long.values n long.capacity are reach.more
      (subst (λ (ls : List (List ℕ)). length ls ≤ length ps) reach.values few)))

  pub are_long : (v : SlotRecord) (b : List ℕ) → ArePlaces (set ps i v) (set longer.values i b) n longer.capacity
  are_long v b = long_places (set ps i v) longer.values n longer.capacity
      (set_places ps longer.values n longer.capacity still i v lt (λ _. reach.reached)) i b

  -- the one reference of a place is to a long body
  pub sets_long : (q : Run Spot) → run (joined_spots ps long.values) n ≡ q → (v : SlotRecord) (b bs : List ℕ) →
      v.count ≡ 1 →
      v.len ≡ length bs → take (length bs) b ≡ bs → SHORT < length bs
      → Sets q (run (joined_spots (set ps i v) (set longer.values i b)) n) i bs
  sets_long q view v b bs one sized same far =
      let as_seen : joined_spots ps longer.values ≡ joined_spots ps long.values = ap (joined_spots ps) reach.values ∙
      joined_more ps long.values reach.more are.long in
      let count = count_is ps long.values n i q view in
      sets q _ i (spot v b) bs (omega arith)
      ((λ j. run (joined_both ps longer.values i v b reach.reached j) n) ∙ (λ j. run (set (as_seen j) i (spot v b)) n) ∙
      (λ j. run (set (view j).values i (spot v b)) (view j).capacity))
      (record { one = one; sized = sized; body = ap (take (length bs)) (spot_long v b (omega arith)) ∙ same })

-- a place is put after the others, and written
pub adds : (ps : List SlotRecord) (ls : List (List ℕ)) (n : ℕ) (q : Run Spot) → run (joined_spots ps ls) n ≡ q →
    (f : SlotRecord) (block : Run SlotRecord) (new : Run Spot) (last : ℕ) (bs : List ℕ)
    → block ≡ run (ps ++ f ∷ []) n → last ≡ length ps → length ls ≤ length ps →
    Sets (run (joined_spots block.values ls) block.capacity) new last bs → Adds q new bs
adds ps ls n q view f block new last bs is last_is fewer s =
    let at : last ≡ length q.values = last_is ∙ count_is ps ls n last q view in record {
      holds = subst (λ k. HoldsOne (spot_at new.values k) bs) at s.holds;
      rest = s.rest ∙ (λ j. run (set (joined_spots (is j).values ls) last (spot_at new.values last)) (is j).capacity)
          ∙ (λ j. run (set (joined_push ps ls f fewer j) last (spot_at new.values last)) n)
          ∙ (λ j. run (set ((view j).values ++ spot f [] ∷ []) (at j) (spot_at new.values (at j))) (view j).capacity)
          ∙ ap (λ xs. run xs q.capacity)
          (set-append_seam q.values (spot f []) [] (spot_at new.values (length q.values)));
    }

-- a place is changed, and then its link
pub linked_after : (old mid new : Run Spot) (i first : ℕ) (v : Spot) → i < length old.values →
    mid ≡ run (set old.values i v) old.capacity
    → new ≡ run (set mid.values i (record (spot_at mid.values i) { next = first })) mid.capacity →
    new ≡ run (set old.values i (record v { next = first })) old.capacity
linked_after old mid new i first v lt was is =
    let here : spot_at mid.values i ≡ v = ap (λ (r : Run Spot). spot_at r.values i) was ∙
    get_or-set_same old.values i v no_spot lt in
    is ∙ (λ j. run (set (was j).values i (record (here j) { next = first })) (was j).capacity) ∙
    ap (λ xs. run xs old.capacity) (set-set old.values i v (record v { next = first }))
