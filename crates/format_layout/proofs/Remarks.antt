-- The last byte of a line that is no blank, byte by byte.
use Rattle.std.proofs.Common.{◌≡◌, ℕ, zero, suc, ◌+◌, ◌≤◌, nat_eq, Bool, true, false, cond, List, [], ◌∷◌, length, refl}
use Rattle.std.proofs.Common.{sym, ap, ◌∙◌, arith}
use Rattle.layer_words.specs.Spelling.{is_blank}
use Rattle.format_mean.specs.Pieces.{one_more, comment_length}

-- what is found of a line after its first bytes were seen, by how many they were and how many are left
abbrev pub so_far : (last seen : ℕ) → ℕ → ℕ
so_far last seen zero = last
so_far last seen (suc n) = seen + suc n

-- what the loop keeps
pub record Counting (bytes : List ℕ) (last seen : ℕ) (rest : List ℕ) : Type 0 where
  pub same : so_far last seen (comment_length rest) ≡ comment_length bytes
  pub size : seen + length rest ≡ length bytes
  pub most : last ≤ seen

none_seen : (n : ℕ) → so_far 0 0 n ≡ n
none_seen zero = refl
none_seen (suc n) = omega arith

pub at_first : (bytes : List ℕ) → Counting bytes 0 0 bytes
at_first bytes = record { same = none_seen (comment_length bytes); size = omega arith; most = omega arith }

module _ (bytes : List ℕ) (last seen first : ℕ) (rest following : List ℕ) (split : rest ≡ first ∷ following)
    (c : Counting bytes last seen rest) where
  same_here : so_far last seen (comment_length (first ∷ following)) ≡ comment_length bytes
  same_here = ap (λ xs. so_far last seen (comment_length xs)) (sym split) ∙ c.same

  sizes : seen + (1 + length following) ≡ length bytes
  sizes = let e : length rest ≡ suc (length following) = ap length split in omega (arith, e, c.size)

  after_blank : (n : ℕ) → so_far last (seen + 1) n ≡ so_far last seen (one_more true n)
  after_blank zero = refl
  after_blank (suc n) = omega arith

  after_byte : (n : ℕ) → so_far (seen + 1) (seen + 1) n ≡ so_far last seen (one_more false n)
  after_byte zero = omega arith
  after_byte (suc n) = omega arith

  module _ (no_feed : nat_eq first 10 ≡ false) (next : ℕ) (next_is : next ≡ seen + 1) where
    one_is : (t : Bool) → is_blank first ≡ t → so_far last seen (one_more t (comment_length following)) ≡
        comment_length bytes
    one_is t is =
        ap (λ t. so_far last seen (one_more t (comment_length following))) (sym is)
        ∙ (ap (λ e. so_far last seen (cond e 0 (one_more (is_blank first) (comment_length following)))) (sym no_feed) ∙
        same_here)

    pub past_blank : is_blank first ≡ true → Counting bytes last next following
    past_blank is = record {
      same = ap (λ n. so_far last n (comment_length following)) next_is ∙
          (after_blank (comment_length following) ∙ one_is true is);
      size = omega (arith, next_is, sizes);
      most = omega (arith, next_is, c.most);
    }

    pub past_byte : is_blank first ≡ false → Counting bytes next next following
    past_byte is = record {
      same = ap (λ n. so_far n n (comment_length following)) next_is ∙
          (after_byte (comment_length following) ∙ one_is false is);
      size = omega (arith, next_is, sizes);
      most = omega arith;
    }

  pub at_feed : nat_eq first 10 ≡ true → last ≡ comment_length bytes
  at_feed is =
      ap (λ e. so_far last seen (cond e 0 (one_more (is_blank first) (comment_length following)))) (sym is) ∙ same_here

pub at_end : (bytes : List ℕ) (last seen : ℕ) (rest : List ℕ) → Counting bytes last seen rest → length rest ≡ 0 →
    last ≡ comment_length bytes
at_end bytes last seen [] c none = c.same
at_end bytes last seen (b ∷ bs) c none = absurd (omega (arith, none))

pub within : (bytes : List ℕ) (last seen : ℕ) (rest : List ℕ) → Counting bytes last seen rest → last ≤ length bytes
within bytes last seen rest c = omega (arith, c.size, c.most)
