-- Piece after piece, a text is laid out.
use Rattle.std.proofs.Common.{◌≡◌, ℕ, zero, suc, nat_eq, true, false, cond, List, [], ◌∷◌, ◌++◌, length, take, drop}
use Rattle.std.proofs.Common.{refl, sym, ap, ◌∙◌, arith, append_assoc}
use Rattle.std.specs.Prelude.{Result, Err}
use Rattle.layer_words.specs.Spelling.{is_blank}
use Rattle.outside.proofs.Gaining.{gains_none, gains_then, cut_short}
use Rattle.outside.proofs.Turns.{wrote_both, wrote_as}
use Rattle.outside.specs.Lines.{Gains, Wrote}
use Rattle.outside.specs.Tells.{Tells}
use Rattle.outside.specs.declared.sink.SinkError.{SinkError}
use Rattle.format_mean.specs.Layout.{Begun, beginning, lines_at, begun_at, last_line, lines_from, formatted_lines}
use Rattle.format_mean.specs.Pieces.{Piece, Front, feed, blank, whole, length_after, front, more_feeds, with_front}
use Rattle.format_mean.specs.Pieces.{pieces_from, pieces}

-- what the loop keeps: these lines were put, and with those of what is left they are all
pub record SoFar (all : List (List ℕ)) (a b : Tells) (begun : Begun) (feeds : ℕ) (rest : List ℕ) : Type 0 where
  pub put : List (List ℕ)
  pub gains : Gains a b put
  pub same : put ++ lines_from begun (pieces_from feeds 0 rest) ≡ all

pub at_first : (a : Tells) (text : List ℕ) (begun : Begun) → begun ≡ beginning →
    SoFar (formatted_lines text) a a begun 0 text
at_first a text begun is = record { put = []; gains = gains_none a; same = ap (λ t. lines_from t (pieces text)) is }

passed : (feeds n : ℕ) (bs : List ℕ) → pieces_from feeds n bs ≡ pieces_from feeds 0 (drop n bs)
passed feeds zero bs = refl
passed feeds (suc n) [] = refl
passed feeds (suc n) (b ∷ bs) = passed feeds n bs

module _ (all : List (List ℕ)) (a b : Tells) (begun : Begun) (feeds first : ℕ) (rest following : List ℕ)
    (split : rest ≡ first ∷ following)
    (s : SoFar all a b begun feeds rest) where
  by_front : (f : Front) → front first following ≡ f →
      s.put ++ lines_from begun
      (with_front f feeds first following (λ feeds inside. pieces_from feeds inside following)) ≡
      all
  by_front f is =
      ap (λ f. s.put ++ lines_from begun
      (with_front f feeds first following (λ feeds inside. pieces_from feeds inside following))) (sym is)
      ∙ (ap (λ xs. s.put ++ lines_from begun (pieces_from feeds 0 xs)) (sym split) ∙ s.same)

  pub past_feed : (next : ℕ) → nat_eq first 10 ≡ true → next ≡ more_feeds feeds → SoFar all a b begun next following
  past_feed next is next_is = record {
    put = s.put;
    gains = s.gains;
    same =
        ap (λ n. s.put ++ lines_from begun (pieces_from n 0 following)) next_is
        ∙ by_front feed (ap (λ e. cond e feed (cond (is_blank first) blank (whole (length_after first following)))) is);
  }

  pub past_blank : nat_eq first 10 ≡ false → is_blank first ≡ true → SoFar all a b begun feeds following
  past_blank no_feed is = record {
    put = s.put;
    gains = s.gains;
    same = by_front blank
        (ap (λ e. cond e feed (cond (is_blank first) blank (whole (length_after first following)))) no_feed
        ∙ ap (λ t. cond t blank (whole (length_after first following))) is);
  }

  abbrev piece : Piece
  piece = record { feeds = feeds; spelling = first ∷ take (length_after first following) following }

  lines_are : nat_eq first 10 ≡ false → is_blank first ≡ false →
      s.put ++ (lines_at begun piece ++
      lines_from (begun_at begun piece) (pieces_from 0 (length_after first following) following)) ≡ all
  lines_are no_feed no_blank =
      by_front (whole (length_after first following))
      (ap (λ e. cond e feed (cond (is_blank first) blank (whole (length_after first following)))) no_feed
      ∙ ap (λ t. cond t blank (whole (length_after first following))) no_blank)

  module _ (more : ℕ) (spelling : List ℕ) (no_feed : nat_eq first 10 ≡ false) (no_blank : is_blank first ≡ false)
      (more_is : more ≡ length_after first following) (spelling_is : spelling ≡ take (suc more) rest) where
    abbrev own_piece : Piece
    own_piece = record { feeds = feeds; spelling = spelling }

    own : spelling ≡ first ∷ take (length_after first following) following
    own = spelling_is ∙ (ap (λ xs. take (suc more) xs) split ∙ ap (λ n. first ∷ take n following) more_is)

    all_are : s.put ++ (lines_at begun own_piece ++
        lines_from (begun_at begun own_piece) (pieces_from 0 (length_after first following) following)) ≡ all
    all_are =
        ap (λ w. s.put ++ (lines_at begun (record { feeds = feeds; spelling = w }) ++
        lines_from (begun_at begun (record { feeds = feeds; spelling = w }))
        (pieces_from 0 (length_after first following) following))) own
        ∙ lines_are no_feed no_blank

    pub past_piece : (c : Tells) (next : Begun) (after : List ℕ) → Gains b c (lines_at begun own_piece) →
        next ≡ begun_at begun own_piece →
        after ≡ drop more following → SoFar all a c next 0 after
    past_piece c next after gained next_is after_is = record {
      put = s.put ++ lines_at begun own_piece;
      gains = gains_then a b c s.put (lines_at begun own_piece) (s.put ++ lines_at begun own_piece) s.gains gained refl;
      same =
          append_assoc s.put (lines_at begun own_piece) (lines_from next (pieces_from 0 0 after))
          ∙ (ap (λ t. s.put ++ (lines_at begun own_piece ++ lines_from t (pieces_from 0 0 after))) next_is
          ∙ (ap (λ ps. s.put ++ (lines_at begun own_piece ++ lines_from (begun_at begun own_piece) ps))
          (ap (pieces_from 0 0) after_is
          ∙ (sym (passed 0 more following) ∙ ap (λ n. pieces_from 0 n following) more_is))
          ∙ all_are));
    }

    pub breaks_off : (c : Tells) (e : SinkError) → Wrote (lines_at begun own_piece) b c (Err e) → Wrote all a c (Err e)
    breaks_off c e wrote =
        let later = lines_from (begun_at begun own_piece) (pieces_from 0 (length_after first following) following) in
        cut_short a b c s.put (lines_at begun own_piece) all later e s.gains wrote
        (sym (append_assoc s.put (lines_at begun own_piece) later ∙ all_are))

-- at the end of the text the last line is put
pub at_end : (all : List (List ℕ)) (a b c : Tells) (begun : Begun) (feeds : ℕ) (rest : List ℕ)
    (r : Result (Unit {0}) SinkError) →
    SoFar all a b begun feeds rest → length rest ≡ 0 → Wrote (last_line begun.line) b c r → Wrote all a c r
at_end all a b c begun feeds [] r s none wrote =
    wrote_as a c (s.put ++ last_line begun.line) all r s.same
    (wrote_both a b c s.put (last_line begun.line) r s.gains wrote)
at_end all a b c begun feeds (x ∷ xs) r s none wrote = absurd (omega (arith, none))
