-- References that are kept, given back, and put.
use Rattle.std.proofs.Common.{◌≡◌, ℕ, ◌+◌, ◌<◌, ◌≤◌, get_or-set_same, List, [], ◌∷◌, ◌++◌, length, set, if◌then◌else◌}
use Rattle.std.proofs.Common.{Option, Some, sym, ap, subst, ◌∙◌, arith}
use Rattle.std.proofs.lemmas.Bool.{le-leb}
use Rattle.std.proofs.lemmas.List.{length-append}
use Rattle.slot_pool.specs.Held.{Held, held_bytes, unused, held_at, count_at, bytes_at, one_less, range, spare, IsFull}
use Rattle.slot_pool.specs.Held.{Puts}
use Rattle.slot_pool.specs.References.{Moved, Covers}
use Rattle.slot_pool.specs.Times.{times}
use Rattle.slot_pool.proofs.Times.{hit_same}
use Rattle.slot_pool.proofs.References.{keep-moves, end-moves, puts-moves, moved-same, moved-chain, moved-beside}
use Rattle.slot_pool.proofs.References.{moved-before, keep-spare, end-spare, puts-spare, spare-full}
use Rattle.msg_core.specs.declared.message.Header.{Header}
use Rattle.msg_core.specs.Parts.{longest_body}
use Rattle.pool_message.specs.Seen.{LiesIn}
use Rattle.pool_message.specs.Moves.{Kept, Returned, Made, BodyMade, NoSlot, joined_bytes}
use Rattle.pool_message.specs.declared.part.Part.{Part}
use Rattle.pool_message.proofs.Ranges.{length-range, range_all}

-- A slot with a reference is in use.
pub is_used : (p : List Held) (s : ℕ) (xs : List ℕ) → Covers p (s ∷ xs) → 0 < count_at p s
is_used p s xs covers = let one = hit_same s in let there = covers.covers s in omega arith

pub kept_one : (p q : List Held) (s : ℕ) → Covers p (s ∷ []) →
    q ≡ set p s (held_bytes (count_at p s + 1) (bytes_at p s)) →
    Kept p q (s ∷ [])
kept_one p q s covers is =
    let used = is_used p s [] covers in
    record {
      moved = subst (λ r. Moved p r [] (s ∷ [])) (sym is) (keep-moves p s used);
      slots = ap spare is ∙ keep-spare p s (bytes_at p s) used;
    }

pub returned_one : (p q : List Held) (s : ℕ) → Covers p (s ∷ []) → q ≡ set p s (one_less (held_at p s)) →
    Returned p q (s ∷ [])
returned_one p q s covers is =
    let used = is_used p s [] covers in
    let more = end-spare p s used in let new = ap spare is in
    record { moved = subst (λ r. Moved p r (s ∷ []) []) (sym is) (end-moves p s used); slots = omega arith }

-- First these references are given back and then those.
pub returned_both : (p q r : List Held) (xs ys : List ℕ) → Returned p q xs → Returned q r ys → Returned p r (xs ++ ys)
returned_both p q r xs ys one two = record {
  moved = moved-chain p q r (xs ++ ys) ys [] (moved-beside p q xs [] ys one.moved) two.moved;
  slots = let a = one.slots in let b = two.slots in omega arith;
}

module _ (p q r : List Held) (bs : List ℕ) (s : ℕ) (xs : List ℕ) (puts : Puts p q bs s) (covers : Covers p xs)
    (gone : Returned q r xs) where
  -- The new slot is none of the references that go.
  none_of : times s xs ≡ 0
  none_of = let free = puts.free in let there = covers.covers s in omega arith

  holds : held_at q s ≡ held_bytes 1 bs
  holds = ap (λ x. held_at x s) puts.holds ∙ get_or-set_same p s (held_bytes 1 bs) unused puts.within

  -- Bytes are put into a slot, and then these references are given back.
  pub put_then : (part : Part) → part.slot ≡ s → part.from ≡ 0 → part.len ≡ length bs → BodyMade p r xs bs (Some part)
  put_then part at start long =
      let moved = puts-moves p q bs s puts in let none = none_of in
      let one = ap (λ (h : Held). h.count) holds in let all = gone.moved.counts s in let same =
      gone.moved.kept s (omega arith) in
      let bytes : bytes_at r part.slot ≡ bs = ap (bytes_at r) at ∙ same ∙ ap (λ (h : Held). h.bytes) holds in
      let counts : count_at r part.slot ≡ count_at r s = ap (count_at r) at in
      let lengths = ap length bytes in
      let before = puts-spare p q bs s puts in let after = gone.slots in
      record {
        moved = subst (λ t. Moved p r xs (t ∷ [])) (sym at)
            (moved-chain p q r xs (s ∷ xs) (s ∷ []) (moved-beside p q [] (s ∷ []) xs moved)
            (moved-before q r xs [] (s ∷ []) gone.moved));
        slots = omega arith;
        lies = record { used = omega arith; within = omega arith };
        shows = (λ i. range (start i) (long i) (bytes i)) ∙ range_all bs;
      }

-- Bytes are put into a slot, and no reference goes.
pub put_alone : (p q : List Held) (bs : List ℕ) (s : ℕ) → Puts p q bs s → (part : Part) → part.slot ≡ s →
    part.from ≡ 0 → part.len ≡ length bs →
    BodyMade p q [] bs (Some part)
put_alone p q bs s puts part at start long =
    put_then p q q bs s [] puts (record { covers = λ i. omega arith })
    (record { moved = moved-same q []; slots = omega arith }) part at start long

-- A message is made where its body is.
pub made_of : (p q : List Held) (xs bs : List ℕ) (headers : List Header) (b : Option Part) → BodyMade p q xs bs b →
    Made p q xs (record { headers = headers; body = bs }) (record { headers = headers; body = b })
made_of p q xs bs headers b made = record {
  moved = made.moved;
  slots = made.slots;
  lies = made.lies;
  shows = ap (λ bytes. record { headers = headers; body = bytes }) made.shows;
}

module _ (p : List Held) (front back : Part) (front_lies : LiesIn p front) (back_lies : LiesIn p back)
    (few : front.len + back.len ≤ longest_body) where
  abbrev front_bytes : List ℕ
  front_bytes = range front.from front.len (bytes_at p front.slot)

  abbrev back_bytes : List ℕ
  back_bytes = range back.from back.len (bytes_at p back.slot)

  front_long : length front_bytes ≡ front.len
  front_long = length-range front.from front.len (bytes_at p front.slot) front_lies.within

  back_long : length back_bytes ≡ back.len
  back_long = length-range back.from back.len (bytes_at p back.slot) back_lies.within

  fit : joined_bytes front_bytes back_bytes ≡ front_bytes ++ back_bytes
  fit =
      let a = front_long in let b = back_long in
      ap (λ c. if c then front_bytes ++ back_bytes else back_bytes)
      (le-leb (length front_bytes + length back_bytes) longest_body (omega arith))

  pub two_joined : (q r t : List Held) (s : ℕ) (part : Part) → Covers p (front.slot ∷ back.slot ∷ []) →
      Puts p q (front_bytes ++ back_bytes) s →
      Returned q r (front.slot ∷ []) → Returned r t (back.slot ∷ []) → part.slot ≡ s → part.from ≡ 0 →
      part.len ≡ front.len + back.len →
      BodyMade p t (front.slot ∷ back.slot ∷ []) (joined_bytes front_bytes back_bytes) (Some part)
  two_joined q r t s part covers puts one two at start long =
      let a = front_long in let b = back_long in let all = length-append front_bytes back_bytes in
      subst (λ bytes. BodyMade p t (front.slot ∷ back.slot ∷ []) bytes (Some part)) (sym fit)
      (put_then p q t (front_bytes ++ back_bytes) s (front.slot ∷ back.slot ∷ []) puts covers
      (returned_both q r t (front.slot ∷ []) (back.slot ∷ []) one two) part at start (omega arith))

  pub two_left : (q r t : List Held) → q ≡ p → IsFull p → Returned q r (front.slot ∷ []) →
      Returned r t (back.slot ∷ []) →
      0 < front.len → 0 < back.len → NoSlot p t (front.slot ∷ back.slot ∷ []) front_bytes back_bytes
  two_left q r t same full one two some more =
      let a = front_long in let b = back_long in
      record {
        returned = subst (λ x. Returned x t (front.slot ∷ back.slot ∷ [])) same
            (returned_both q r t (front.slot ∷ []) (back.slot ∷ []) one two);
        full = spare-full p full;
        front = omega arith;
        back = omega arith;
        few = omega arith;
      }
