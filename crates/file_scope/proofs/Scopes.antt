-- What tables and locals tell of a scope.
use Rattle.std.proofs.Common.{◌≡◌, ℕ, suc, Bool, true, false, ◌||◌, if◌then◌else◌, cond, is_some, List, [], ◌∷◌, map}
use Rattle.std.proofs.Common.{slice_get, find, bytes_eq, Option, Some, None, option_map, refl, sym, ap, ◌∙◌}
use Rattle.std.specs.List.{list_any}
use Rattle.std.proofs.lemmas.List.Folds.{list_any-append}
use Rattle.layer_ast.specs.Tree.{DeclarationTree}
use Rattle.layer_ast.specs.View.{declaration_tree, layer_tree}
use Rattle.layer_ast.specs.declared.syntax.Declaration.{Declaration}
use Rattle.layer_ast.specs.declared.syntax.Layer.{Layer}
use Rattle.layer_ast.specs.declared.names.Name.{Name}
use Rattle.layer_words.specs.declared.sorts.Sort.{Sort}
use Rattle.fault_mean.specs.Declared.{declaration_of, declared_name}
use Rattle.fault_mean.specs.Scope as names
use Rattle.file_scope.specs.Scope.{local_of, locals_of, scope_of}
use Rattle.file_scope.specs.declared.scope.Local.{Local}
use Rattle.file_scope.specs.declared.scope.Scope.{Scope}
use Rattle.file_scope.specs.Words.{own_words, place_of}
use Rattle.file_scope.proofs.Lists.{any_map}
use Rattle.file_scope.proofs.Lookups.{first_at, first_nowhere}
use Rattle.std.proofs.lemmas.Option.{slice_get-map}

pub declared_at : (layer : Layer) (word : List ℕ) (own : List (List ℕ)) (k : ℕ) (got : Option Declaration) →
    own ≡ own_words (layer_tree layer) → Some k ≡ place_of word own → got ≡ slice_get layer.declarations.items k →
    option_map (λ (d : Declaration). declaration_tree d) got ≡ declaration_of (layer_tree layer) word
declared_at layer word own k got is at found =
    ap (option_map (λ (d : Declaration). declaration_tree d)) found
    ∙ (sym (slice_get-map declaration_tree layer.declarations.items k)
    ∙ first_at (λ (d : DeclarationTree). (declared_name d).word) word (map declaration_tree layer.declarations.items) k
    (sym (at ∙ ap (place_of word) is)))

pub declared_nowhere : (layer : Layer) (word : List ℕ) (own : List (List ℕ)) →
    own ≡ own_words (layer_tree layer) → None ≡ place_of word own → None ≡ declaration_of (layer_tree layer) word
declared_nowhere layer word own is at =
    sym (first_nowhere (λ (d : DeclarationTree). (declared_name d).word) word
    (map declaration_tree layer.declarations.items) (sym (at ∙ ap (place_of word) is)))

-- a word is among those of names
pub any_place : {A : Type 0} (name : A → Name) (word : List ℕ) (xs : List A) →
    is_some (place_of word (map (λ x. (name x).word) xs)) ≡ list_any (λ x. bytes_eq (name x).word word) xs
any_place name word [] = refl
any_place name word (x ∷ xs) = go (bytes_eq (name x).word word) (place_of word (map (λ x. (name x).word) xs))
    (any_place name word xs) where
      go : (b : Bool) (p : Option ℕ) → is_some p ≡ list_any (λ x. bytes_eq (name x).word word) xs →
          is_some (if b then Some 0 else option_map (λ k. suc k) p) ≡
          (b || list_any (λ x. bytes_eq (name x).word word) xs)
      go true p e = refl
      go false None e = e
      go false (Some k) e = e

visible_is : (s : Scope) (word : List ℕ) (own : List (List ℕ)) → own ≡ own_words (layer_tree s.layer.now) →
    (is_some (place_of word own) || list_any (λ (l : Local). bytes_eq l.name.word word) s.locals.items) ≡
    names.is_visible (scope_of s) word
visible_is s word own is =
    ap (λ o. is_some (place_of word o) || list_any (λ (l : Local). bytes_eq l.name.word word) s.locals.items) is
    ∙ (ap (λ b. b || list_any (λ (l : Local). bytes_eq l.name.word word) s.locals.items)
    (any_place declared_name word (layer_tree s.layer.now).declarations ∙
    sym (any_map declared_name (λ name. bytes_eq name.word word) (layer_tree s.layer.now).declarations))
    ∙ (ap (λ b. list_any (λ name. bytes_eq name.word word) (map declared_name (layer_tree s.layer.now).declarations) ||
    b)
    (sym (any_map (λ l. l.name) (λ name. bytes_eq name.word word) (locals_of s.locals.items) ∙
    any_map local_of (λ l. bytes_eq l.name.word word) s.locals.items))
    ∙ sym (list_any-append (λ name. bytes_eq name.word word) (map declared_name (layer_tree s.layer.now).declarations)
    (map (λ l. l.name) (locals_of s.locals.items)))))

pub visible_own : (s : Scope) (word : List ℕ) (own : List (List ℕ)) (k : ℕ) → own ≡ own_words (layer_tree s.layer.now) →
    Some k ≡ place_of word own → true ≡ names.is_visible (scope_of s) word
visible_own s word own k is at =
    ap (λ p. is_some p || list_any (λ (l : Local). bytes_eq l.name.word word) s.locals.items) at ∙
    visible_is s word own is

pub visible_local : (s : Scope) (word : List ℕ) (own words : List (List ℕ)) → own ≡ own_words (layer_tree s.layer.now) →
    words ≡ map (λ (l : Local). l.name.word) s.locals.items → None ≡ place_of word own →
    is_some (place_of word words) ≡ names.is_visible (scope_of s) word
visible_local s word own words is words_are at =
    ap (λ w. is_some (place_of word w)) words_are
    ∙ (any_place (λ (l : Local). l.name) word s.locals.items
    ∙ (ap (λ p. is_some p || list_any (λ (l : Local). bytes_eq l.name.word word) s.locals.items) at ∙
    visible_is s word own is))

shown_first : (word : List ℕ) (xs : List Local) →
    option_map (λ (l : Local). l.sort) (find (λ (l : Local). bytes_eq l.name.word word) xs)
    ≡ option_map (λ (l : names.Local). l.sort) (find (λ (l : names.Local). bytes_eq l.name.word word) (locals_of xs))
shown_first word [] = refl
shown_first word (x ∷ xs) = go (bytes_eq x.name.word word) (shown_first word xs) where
  go : (b : Bool) →
      option_map (λ (l : Local). l.sort) (find (λ (l : Local). bytes_eq l.name.word word) xs)
      ≡ option_map (λ (l : names.Local). l.sort) (find (λ (l : names.Local). bytes_eq l.name.word word) (locals_of xs))
      →
      option_map (λ (l : Local). l.sort) (cond b (Some x) (find (λ (l : Local). bytes_eq l.name.word word) xs))
      ≡ option_map (λ (l : names.Local). l.sort)
      (cond b (Some (local_of x)) (find (λ (l : names.Local). bytes_eq l.name.word word) (locals_of xs)))
  go true e = refl
  go false e = e

pub local_at : (word : List ℕ) (xs : List Local) (words : List (List ℕ)) (k : ℕ) (got : Option Sort) →
    words ≡ map (λ (l : Local). l.name.word) xs → Some k ≡ place_of word words →
    got ≡ option_map (λ (l : Local). l.sort) (slice_get xs k) →
    got ≡ option_map (λ (l : names.Local). l.sort)
    (find (λ (l : names.Local). bytes_eq l.name.word word) (locals_of xs))
local_at word xs words k got are at is =
    is
    ∙ (ap (option_map (λ (l : Local). l.sort))
    (first_at (λ (l : Local). l.name.word) word xs k (sym (at ∙ ap (place_of word) are)))
    ∙ shown_first word xs)

pub local_nowhere : (word : List ℕ) (xs : List Local) (words : List (List ℕ)) →
    words ≡ map (λ (l : Local). l.name.word) xs → None ≡ place_of word words →
    None ≡ option_map (λ (l : names.Local). l.sort)
    (find (λ (l : names.Local). bytes_eq l.name.word word) (locals_of xs))
local_nowhere word xs words are at =
    ap (option_map (λ (l : Local). l.sort))
    (sym (first_nowhere (λ (l : Local). l.name.word) word xs (sym (at ∙ ap (place_of word) are))))
    ∙ shown_first word xs
