-- The names that are sizes tell of all sizes of a layer.
use Rattle.std.proofs.Common.{◌≡◌, ℕ, suc, Bool, true, false, ◌&&◌, if◌then◌else◌, is_some, List, [], ◌∷◌, ◌++◌}
use Rattle.std.proofs.Common.{flat_map, fold, bytes_eq, Option, Some, None, option_map, refl, sym, ap, ap₂, ◌∙◌}
use Rattle.std.specs.List.{list_all}
use Rattle.std.specs.Option.{option_map_or}
use Rattle.std.proofs.lemmas.Grind.{flat_map-append}
use Rattle.std.proofs.lemmas.List.Folds.{list_all-append}
use Rattle.std.proofs.lemmas.Slice.Eq.{bytes_eq-Decides}
use Rattle.layer_ast.specs.Tree as ast
use Rattle.layer_ast.specs.Tree.{DeclarationTree, HandlerTree, LayerTree, PlaceTree, SizeTree, StatementTree}
use Rattle.fault_mean.specs.Limits.{LimitedSize, capacity_in, is_within, is_within_at, maximum_in, sizes_in}
use Rattle.fault_mean.specs.Places.{param_value}
use Rattle.fault_mean.specs.Scope.{Standing, handler_statements, head_scope, layer_statements}
use Rattle.file_scope.specs.Words.{place_of}
use Rattle.file_names.specs.Gathered.{capacity_words, maxima_of, maximum_words, noted_words, size_words, sizes_of}
use Rattle.file_names.specs.Gathered.{statements_in}
use Rattle.file_names.specs.declared.sizes.Sizes.{Sizes}
use Rattle.file_names.proofs.Gathered.{said_in}

-- a test that holds of all words holds of each that is there
there-passes : (test : List ℕ → Bool) (word : List ℕ) (words : List (List ℕ)) → is_some (place_of word words) ≡ true →
    list_all test words ≡ (list_all test words && test word)
there-passes test word [] is = absurd (cc is)
there-passes test word (w ∷ words) is =
    go (bytes_eq w word) refl (place_of word words) is (there-passes test word words) where
      go : (b : Bool) → bytes_eq w word ≡ b → (p : Option ℕ) →
          is_some (if b then Some 0 else option_map (λ k. suc k) p) ≡ true →
          (is_some p ≡ true → list_all test words ≡ (list_all test words && test word)) →
          (test w && list_all test words) ≡ ((test w && list_all test words) && test word)
      go true e p is rest = same (test w) (list_all test words) (test word) (ap test ((bytes_eq-Decides w word).0 e))
        where
          same : (a b c : Bool) → a ≡ c → (a && b) ≡ ((a && b) && c)
          same false b c e = refl
          same true false c e = refl
          same true true c e = e
      go false e None is rest = absurd (cc is)
      go false e (Some k) is rest = following (test w) (list_all test words) (test word) (rest refl) where
        following : (a b c : Bool) → b ≡ (b && c) → (a && b) ≡ ((a && b) && c)
        following false b c e = refl
        following true b c e = e

noted_once : (test : List ℕ → Bool) (words : List (List ℕ)) (word : List ℕ) →
    list_all test (noted_words words word) ≡ (list_all test words && test word)
noted_once test words word = go (is_some (place_of word words)) refl where
  one : (b : Bool) → (b && true) ≡ b
  one true = refl
  one false = refl

  go : (b : Bool) → is_some (place_of word words) ≡ b →
      list_all test (if b then words else words ++ word ∷ []) ≡ (list_all test words && test word)
  go true is = there-passes test word words is
  go false is = list_all-append test words (word ∷ []) ∙ ap (λ b. list_all test words && b) (one (test word))

noted_all : (test : List ℕ → Bool) (words more : List (List ℕ)) →
    list_all test (fold noted_words words more) ≡ (list_all test words && list_all test more)
noted_all test words [] = go (list_all test words) where
  go : (b : Bool) → b ≡ (b && true)
  go true = refl
  go false = refl
noted_all test words (w ∷ more) =
    noted_all test (noted_words words w) more
    ∙ (ap (λ b. b && list_all test more) (noted_once test words w) ∙
    go (list_all test words) (test w) (list_all test more)) where
      go : (a b c : Bool) → ((a && b) && c) ≡ (a && (b && c))
      go true b c = refl
      go false b c = refl

-- a test of all that each of some things has, either way
all_alike : {A B C : Type 0} (p : B → Bool) (q : C → Bool) (f : A → List B) (g : A → List C) (xs : List A) →
    ((x : A) → list_all p (f x) ≡ list_all q (g x)) → list_all p (flat_map f xs) ≡ list_all q (flat_map g xs)
all_alike p q f g [] each = refl
all_alike p q f g (x ∷ xs) each =
    list_all-append p (f x) (flat_map f xs)
    ∙ (ap₂ (λ a b. a && b) (each x) (all_alike p q f g xs each) ∙ sym (list_all-append q (g x) (flat_map g xs)))

module _ (layer : LayerTree) (place : PlaceTree) where
  abbrev within : LimitedSize → Bool
  within l = is_within_at layer place l.size l.most

  abbrev test : ℕ → List ℕ → Bool
  test most word = option_map_or (is_within most) (param_value layer place.given word) true

  size_one : (most : ℕ) (size : SizeTree) →
      list_all within (record { size = size; most = most } ∷ []) ≡ list_all (test most) (size_words size ++ [])
  size_one most (ast.fixed at value) = refl
  size_one most (ast.sized name) = refl

  capacity_one : (d : DeclarationTree) → list_all within (capacity_in d) ≡ list_all (test 64) (capacity_words d)
  capacity_one (ast.param at name value) = refl
  capacity_one (ast.int at name shape initial) = refl
  capacity_one (ast.rows_cell at name capacity items) = size_one 64 capacity
  capacity_one (ast.rows_array at name capacity items) = size_one 64 capacity
  capacity_one (ast.header at name fields ending) = refl

  maximum_one : (s : StatementTree) → list_all within (maximum_in s) ≡ list_all (test 32) (maximum_words s)
  maximum_one (ast.bind at name value) = refl
  maximum_one (ast.set at name index value) = refl
  maximum_one (ast.set_square at name row column value) = refl
  maximum_one (ast.push at q items otherwise) = refl
  maximum_one (ast.take at q names block otherwise) = refl
  maximum_one (ast.when at likely condition block) = refl
  maximum_one (ast.choose at likely condition block otherwise) = refl
  maximum_one (ast.each at name below most block) = size_one 32 most
  maximum_one (ast.emit at direction kind arguments pushed) = refl

  of_handler : (h : HandlerTree) →
      list_all within (flat_map (λ (x : Standing). maximum_in x.statement) (handler_statements layer h)) ≡
      list_all (test 32) (maxima_of h)
  of_handler h =
      ap (list_all within) (sym (said_in maximum_in (head_scope layer h) h.block))
      ∙ all_alike within (test 32) maximum_in maximum_words (statements_in h.block) maximum_one

  of_handlers : (hs : List HandlerTree) →
      list_all within (flat_map (λ (x : Standing). maximum_in x.statement) (flat_map (handler_statements layer) hs))
      ≡ list_all (test 32) (flat_map maxima_of hs)
  of_handlers [] = refl
  of_handlers (h ∷ hs) =
      ap (list_all within) (flat_map-append (λ (x : Standing). maximum_in x.statement) (handler_statements layer h)
      (flat_map (handler_statements layer) hs))
      ∙ (list_all-append within (flat_map (λ (x : Standing). maximum_in x.statement) (handler_statements layer h)) _
      ∙ (ap₂ (λ a b. a && b) (of_handler h) (of_handlers hs) ∙
      sym (list_all-append (test 32) (maxima_of h) (flat_map maxima_of hs))))

-- the names that are sizes in a layer tell whether its sizes are within their limits at a place
pub words_tell : (layer : LayerTree) (place : PlaceTree) (sizes : Sizes) → sizes ≡ sizes_of layer →
    (list_all (λ w. option_map_or (is_within 64) (param_value layer place.given w) true) sizes.capacities
    && list_all (λ w. option_map_or (is_within 32) (param_value layer place.given w) true) sizes.maxima)
    ≡ list_all (λ l. is_within_at layer place l.size l.most) (sizes_in layer)
words_tell layer place sizes are =
    ap (λ (s : Sizes). list_all (test layer place 64) s.capacities && list_all (test layer place 32) s.maxima) are
    ∙ (ap₂ (λ a b. a && b)
    (noted_all (test layer place 64) [] (flat_map capacity_words layer.declarations)
    ∙ sym (all_alike (within layer place) (test layer place 64) capacity_in
    capacity_words layer.declarations (capacity_one layer place)))
    (noted_all (test layer place 32) [] (flat_map maxima_of layer.handlers) ∙
    sym (of_handlers layer place layer.handlers))
    ∙ sym (list_all-append (within layer place) (flat_map capacity_in layer.declarations)
    (flat_map (λ (x : Standing). maximum_in x.statement) (layer_statements layer))))

pub words_fail : (layer : LayerTree) (place : PlaceTree) (sizes : Sizes) → sizes ≡ sizes_of layer →
    list_all (λ w. option_map_or (is_within 64) (param_value layer place.given w) true) sizes.capacities ≡ false →
    false ≡ list_all (λ l. is_within_at layer place l.size l.most) (sizes_in layer)
words_fail layer place sizes are fails =
    sym (ap (λ b. b && list_all (test layer place 32) sizes.maxima) fails) ∙ words_tell layer place sizes are

pub words_hold : (layer : LayerTree) (place : PlaceTree) (sizes : Sizes) → sizes ≡ sizes_of layer →
    list_all (λ w. option_map_or (is_within 64) (param_value layer place.given w) true) sizes.capacities ≡ true →
    list_all (λ w. option_map_or (is_within 32) (param_value layer place.given w) true) sizes.maxima
    ≡ list_all (λ l. is_within_at layer place l.size l.most) (sizes_in layer)
words_hold layer place sizes are holds =
    sym (ap (λ b. b && list_all (test layer place 32) sizes.maxima) holds) ∙ words_tell layer place sizes are
