-- Laws of stubs.
use Rattle.std.proofs.Common.{◌≡◌, refl, ap, ◌∙◌, Bool, true, false, ℕ, List, [], ◌∷◌, ◌++◌}
use Rattle.std.specs.Prelude.{◌==◌, ◌&&◌, ◌||◌, not, if◌then◌else◌}
use Rattle.std.specs.List.{list_any}
use Rattle.std.proofs.lemmas.List.Elements.{All-head, All-tail}
use Rattle.std.proofs.lemmas.List.Folds.{list_any-append}
use Rattle.chart_mean.specs.Arrows.{NoneGives}
use Rattle.chart_mean.specs.Place.{Line}
use Rattle.chart_mean.specs.Stub.{Post, gives_at, goes_to, rank_in, stub, stub_if, was_given}

module _ (post : Post) (member : ℕ) where
  abbrev test : Line → Bool
  test = gives_at post.number member

  -- a stub by the three tests
  abbrev stub_by : (another goes given : Bool) → List ℕ
  stub_by another goes given = if another && goes && not given then stub post member else []

  either : (b : Bool) → (b || true) ≡ true
  either true = refl
  either false = refl

  none_stands : (another goes : Bool) → stub_by another goes true ≡ []
  none_stands true true = refl
  none_stands true false = refl
  none_stands false true = refl
  none_stands false false = refl

  -- no stub leads to a member to which a packet was given
  pub given_no_stub : (before after : List Line) (line : Line) → gives_at post.number member line ≡ true →
      stub_if (before ++ line ∷ after) post member ≡ []
  given_no_stub before after line is =
      let another = not (member == post.sender) in
      let goes = goes_to post.to (rank_in post.known member) in
      ap (λ given. stub_by another goes given)
      (list_any-append test before (line ∷ after)
      ∙ ap (λ b. list_any test before || (b || list_any test after)) is
      ∙ either (list_any test before))
      ∙ none_stands another goes

  none_given : (lines : List Line) → NoneGives post.number member lines → was_given lines post.number member ≡ false
  none_given [] none = refl
  none_given (line ∷ lines) none =
      ap (λ b. b || list_any test lines) (All-head (λ l. test l ≡ false) line lines none)
      ∙ none_given lines (All-tail (λ l. test l ≡ false) line lines none)

  -- one leads to each other member to which it goes and was not given
  pub stub_stands : (lines : List Line) → NoneGives post.number member lines → (member == post.sender) ≡ false →
      goes_to post.to (rank_in post.known member) ≡ true → stub_if lines post member ≡ stub post member
  stub_stands lines none another goes =
      ap (λ b. stub_by (not b) (goes_to post.to (rank_in post.known member)) (was_given lines post.number member))
      another
      ∙ ap (λ b. stub_by true b (was_given lines post.number member)) goes
      ∙ ap (stub_by true true) (none_given lines none)
