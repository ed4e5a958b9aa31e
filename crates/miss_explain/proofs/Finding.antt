-- The search through the decisions of visits.
use Rattle.std.proofs.Common.{◌≡◌, ℕ, zero, suc, ◌+◌, ◌<◌, ◌≤◌, List, [], ◌∷◌, ◌++◌, map, drop, length, get_or, Option}
use Rattle.std.proofs.Common.{Some, None, slice_get, refl, sym, ap, ap₂, ◌∙◌, subst, arith}
use Rattle.std.proofs.Math.ListN.{get_or-map}
use Rattle.std.proofs.Math.Seq.{drop-cons}
use Rattle.std.proofs.lemmas.List.{length-map}
use Rattle.std.specs.List.{enumerate_from, flat_map, fold}
use Rattle.layer_ast.specs.Tree.{FileTree}
use Rattle.layer_mean.specs.Tree.{LayerTree}
use Rattle.layer_mean.specs.declared.run.Case.{Case}
use Rattle.miss_mean.specs.Spots.{Spot, visit_lines, visit_spots}
use Rattle.file_scope.proofs.Lists.{drop_all}
use Rattle.shape_core.specs.Sketch.{visit_tree}
use Rattle.shape_core.specs.declared.types.ShapeVisit.{ShapeVisit}
use Rattle.miss_explain.specs.Search.{Passes, search_after}
use Rattle.miss_explain.specs.declared.search.Search.{Search}
use Rattle.miss_explain.specs.declared.search.Search.TheVariants.{Ahead, Found}

-- what is found stays
found_stays : (lines : List ℕ) (line : ℕ) → fold search_after (Found line) lines ≡ Found line
found_stays [] line = refl
found_stays (x ∷ lines) line = found_stays lines line

module _ {S : Type 0} where
  -- What is sought is the item of the rest that is this many places ahead.
  abbrev pub Seeks : List S → Option S → Search → Type 0
  Seeks rest sought (Ahead left) = sought ≡ slice_get rest left
  Seeks rest sought (Found line) = ⊥

  -- It is still sought so, or it is what is made of the line that was found.
  abbrev pub Sought : (ℕ → S) → List S → Option S → Search → Type 0
  Sought made rest sought (Ahead left) = sought ≡ slice_get rest left
  Sought made rest sought (Found line) = sought ≡ Some (made line)

  passes_on : (made : ℕ → S) (rest : List S) (lines : List ℕ) (left : ℕ) →
      Sought made rest (slice_get (map made lines ++ rest) left) (fold search_after (Ahead left) lines)
  passes_on made rest [] left = refl
  passes_on made rest (line ∷ lines) zero = subst (Sought made rest (Some (made line))) (sym (found_stays lines line))
      refl
  passes_on made rest (line ∷ lines) (suc left) = passes_on made rest lines left

  -- the lines of a visit are passed
  pub seeks_more : (made : ℕ → S) (rest : List S) (lines : List ℕ) (sought : Option S) (old new : Search) →
      Seeks (map made lines ++ rest) sought old → Passes old lines new → Sought made rest sought new
  unfolding Passes
  seeks_more made rest lines sought (Ahead left) new seeks is =
      subst (Sought made rest sought) (sym is)
      (subst (λ s. Sought made rest s (fold search_after (Ahead left) lines)) (sym seeks)
      (passes_on made rest lines left))
  seeks_more made rest lines sought (Found line) new seeks is = absurd seeks

-- The decisions of the visits after the first ones.
abbrev pub rest_spots : Case → FileTree → List LayerTree → List ShapeVisit → ℕ → List Spot
rest_spots case file stack visits k =
    flat_map (visit_spots case file stack) (enumerate_from (k + 1) (drop k (map visit_tree visits)))

module _ (case : Case) (file : FileTree) (stack : List LayerTree) (visits : List ShapeVisit) where
  abbrev pub spot_at : ℕ → ShapeVisit → ℕ → Spot
  spot_at k v line = record { visit = k + 1; place = v.place; line = line }

  rest_is : (k : ℕ) (v : ShapeVisit) → k < length visits → v ≡ get_or visits k v →
      rest_spots case file stack visits k
      ≡ map (spot_at k v) (visit_lines case file stack (visit_tree v)) ++ rest_spots case file stack visits (k + 1)
  rest_is k v lt is =
      let within : k < length (map visit_tree visits) = omega (arith, lt, length-map visits visit_tree) in
      let next : suc k ≡ k + 1 = omega arith in
      ap (λ vs. flat_map (visit_spots case file stack) (enumerate_from (k + 1) vs))
      (drop-cons (map visit_tree visits) k (visit_tree v) within
      ∙ ap₂ (λ x n. x ∷ drop n (map visit_tree visits)) (get_or-map visit_tree visits k v ∙ ap visit_tree (sym is))
      next)

  pub seeks_on : (k : ℕ) (v : ShapeVisit) (sought : Option Spot) (old new : Search) → k < length visits →
      v ≡ get_or visits k v →
      Seeks (rest_spots case file stack visits k) sought old →
      Passes old (visit_lines case file stack (visit_tree v)) new →
      Sought (spot_at k v) (rest_spots case file stack visits (k + 1)) sought new
  seeks_on k v sought old new lt is seeks passes =
      seeks_more (spot_at k v) (rest_spots case file stack visits (k + 1)) (visit_lines case file stack (visit_tree v))
      sought old new
      (subst (λ rest. Seeks rest sought old) (rest_is k v lt is) seeks) passes

  -- after the last visit there is none
  pub seeks_none : (k : ℕ) (sought : Option Spot) (s : Search) → length visits ≤ k →
      Seeks (rest_spots case file stack visits k) sought s → None ≡ sought
  seeks_none k sought (Ahead left) past seeks =
      let none : drop k (map visit_tree visits) ≡ [] =
      drop_all (map visit_tree visits) k (omega (arith, past, length-map visits visit_tree)) in
      sym (seeks ∙ ap (λ vs. slice_get (flat_map (visit_spots case file stack) (enumerate_from (k + 1) vs)) left) none)
  seeks_none k sought (Found line) past seeks = absurd seeks
