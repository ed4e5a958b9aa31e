-- Numbers are read as they were written, and what was read was so written.
use Rattle.std.proofs.Common.{◌≡◌, ℕ, zero, suc, ◌<◌, List, [], ◌∷◌, ◌++◌, Option, Some, None, refl, sym, ap, ◌∙◌}
use Rattle.std.proofs.Common.{subst, arith}
use Rattle.std.specs.Prelude.{length, flat_map, slice_index, unwrap_or, option_and_then}
use Rattle.std.specs.Int.{w32, from_be_bytes, to_be_bytes}
use Rattle.std.proofs.lemmas.Nat.{from_be_bytes-to_be_bytes_4, be_bytes_4}
use Rattle.packet_mean.specs.Spelling.{number_bytes}
use Rattle.packet_mean.specs.Reading.{option_reader, number, numbers}
use Rattle.packet_laws.proofs.Each.{Numbers, Bytes}

-- where two steps gave something, the first gave something, and the second then gave this
pub through : {A B C : Type 0} (f : A → Option B) (o : Option A) (y : B) → option_and_then f o ≡ Some y →
    ((x : A) → o ≡ Some x → f x ≡ Some y → C) → C
through f None y h k = absurd (cc h)
through f (Some x) y h k = k x refl h

-- where a step after a value that takes no bytes gave something, there was a value, and the step then gave this on all
-- the bytes
pub through_known : {A B C : Type 0} (f : A × List ℕ → Option B) (o : Option A) (bytes : List ℕ) (y : B) →
    option_and_then f (option_reader o bytes) ≡ Some y → ((x : A) → o ≡ Some x → f (x, bytes) ≡ Some y → C) → C
through_known f None bytes y h k = absurd (cc h)
through_known f (Some x) bytes y h k = k x refl h

-- two readings that are the same
pub same_read : {A : Type 0} {p q : A} → Some p ≡ Some q → p ≡ q
same_read {p = p} h = ap (λ o. unwrap_or o p) h

pub number_back : (n : ℕ) (rest : List ℕ) → n < 4294967296 → number (number_bytes n ++ rest) ≡ Some (n, rest)
number_back n rest small = ap (λ m. Some (m, rest)) (from_be_bytes-to_be_bytes_4 n small)

-- what reading a number says
pub record NumberRead (bytes : List ℕ) (n : ℕ) (rest : List ℕ) : Type 0 where
  pub small : n < 4294967296
  pub written : bytes ≡ number_bytes n ++ rest
  pub following : Bytes rest

four : (a b c d : ℕ) → a < 256 → b < 256 → c < 256 → d < 256 → (i : ℕ) → slice_index (a ∷ b ∷ c ∷ d ∷ []) i < 256
four a b c d ha hb hc hd zero = ha
four a b c d ha hb hc hd (suc zero) = hb
four a b c d ha hb hc hd (suc (suc zero)) = hc
four a b c d ha hb hc hd (suc (suc (suc zero))) = hd
four a b c d ha hb hc hd (suc (suc (suc (suc i)))) = omega arith

pub number_read : (bytes : List ℕ) (n : ℕ) (rest : List ℕ) → Bytes bytes → number bytes ≡ Some (n, rest) →
    NumberRead bytes n rest
number_read (a ∷ b ∷ c ∷ d ∷ following) n rest (ha, (hb, (hc, (hd, h)))) is =
    let m = from_be_bytes w32 (a ∷ b ∷ c ∷ d ∷ []) in
    let front : to_be_bytes w32 m ≡ a ∷ b ∷ c ∷ d ∷ [] =
    be_bytes_4 (a ∷ b ∷ c ∷ d ∷ []) m refl (four a b c d ha hb hc hd) refl in
    subst (λ q. NumberRead (a ∷ b ∷ c ∷ d ∷ following) q.0 q.1) (same_read is)
    record { small = omega arith; written = ap (λ xs. xs ++ following) (sym front); following = h }
number_read _ n rest h is = absurd (cc is)

pub numbers_back : (ns rest : List ℕ) → Numbers ns → numbers (length ns) (flat_map number_bytes ns ++ rest) ≡
    Some (ns, rest)
numbers_back [] rest h = refl
numbers_back (n ∷ ns) rest h = rw (from_be_bytes-to_be_bytes_4 n h.0, numbers_back ns rest h.1)

pub record NumbersRead (k : ℕ) (bytes ns rest : List ℕ) : Type 0 where
  pub count : length ns ≡ k
  pub small : Numbers ns
  pub written : bytes ≡ flat_map number_bytes ns ++ rest
  pub following : Bytes rest

pub numbers_read : (k : ℕ) (bytes ns rest : List ℕ) → Bytes bytes → numbers k bytes ≡ Some (ns, rest) →
    NumbersRead k bytes ns rest
numbers_read zero bytes ns rest h is =
    subst (λ q. NumbersRead zero bytes q.0 q.1) (same_read is) record
    { count = refl; small = tt; written = refl; following = h }
numbers_read (suc k) bytes ns rest h is =
    through _ (number bytes) _ is (λ (n, r) one is_n. through _ (numbers k r) _ is_n (λ (ms, s) more is_s.
    let first = number_read bytes n r h one in
    let others = numbers_read k r ms s first.following more in
    subst (λ q. NumbersRead (suc k) bytes q.0 q.1) (same_read is_s)
    record {
      count = ap suc others.count;
      small = (first.small, others.small);
      written = first.written ∙ ap (λ xs. number_bytes n ++ xs) others.written;
      following = others.following;
    }))
