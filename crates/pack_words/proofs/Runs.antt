-- How many bytes at the front of a text are a name's, or a word's.
use Rattle.std.proofs.Common.{◌≡◌, ℕ, ◌+◌, Bool, true, false, not, if◌then◌else◌, List, [], ◌∷◌, refl, sym, ap₂}
use Rattle.std.specs.Prelude.{◌==◌}
use Rattle.std.specs.List.{position_or_len, prefix_len}
use Rattle.pack_mean.specs.Reader.{is_name_byte}

twice : (b : Bool) → not (not b) ≡ b
twice true = refl
twice false = refl

same_run : (p q : ℕ → Bool) → ((x : ℕ) → p x ≡ q x) → (xs : List ℕ) → prefix_len p xs ≡ prefix_len q xs
same_run p q same [] = refl
same_run p q same (x ∷ xs) = ap₂ (λ b n. if b then 1 + n else 0) (same x) (same_run p q same xs)

pub name_run : (text : List ℕ) → prefix_len is_name_byte text ≡ position_or_len (λ byte. not (is_name_byte byte)) text
name_run text = same_run is_name_byte (λ byte. not (not (is_name_byte byte))) (λ x. sym (twice (is_name_byte x))) text

pub word_run : (text : List ℕ) → prefix_len (λ byte. not (byte == 32)) text ≡
    position_or_len (λ byte. not (not (byte == 32))) text
word_run text = same_run (λ byte. not (byte == 32)) (λ byte. not (not (not (byte == 32))))
    (λ x. sym (twice (not (x == 32)))) text
