-- Handlers beyond a limit.
use Rattle.std.proofs.Common.{◌≡◌, ℕ, ◌+◌, ◌<◌, ◌≤◌, List, [], ◌∷◌, flat_map, map, take, drop, length, get_or, sym, ap}
use Rattle.std.proofs.Common.{◌∙◌, subst}
use Rattle.std.proofs.lemmas.List.{map-append}
use Rattle.layer_ast.specs.Tree.{HandlerTree, LayerTree}
use Rattle.layer_ast.specs.View.{handler_tree}
use Rattle.layer_ast.specs.declared.syntax.Handler.{Handler}
use Rattle.fault_mean.specs.Faults.{NameFault, too_many, twice}
use Rattle.fault_mean.specs.Declared.{declared_name, is_cell, is_header, is_param}
use Rattle.fault_mean.specs.NameFaults.{declared_faults, handler_name_faults, layer_name_faults, names_where}
use Rattle.fault_mean.specs.NameFaults.{repetitions}
use Rattle.fault_mean.specs.NameFaults.{same_events, too_many_of, twice_among}
use Rattle.fault_mean.specs.Scope.{Scope, layer_scope}
use Rattle.file_names.specs.Declarations.{declaration_faults}
use Rattle.file_scope.proofs.Finds.{finds_both, finds_none}
use Rattle.file_scope.specs.declared.found.Found.{Found}
use Rattle.file_scope.proofs.Lists.{drop_all, trees_more}
use Rattle.file_names.specs.Found.{Finds, name_shown}
use Rattle.file_names.proofs.Rows.{map_drop}

pub handler_more : (a b c : Found) (xs : List Handler) (i : ℕ) (x : Handler) → i < length xs → x ≡ get_or xs i x →
    Finds a (map (λ (h : HandlerTree). too_many h.at) (map handler_tree (take i xs))) b →
    Finds b (too_many x.at ∷ []) c →
    Finds a (map (λ (h : HandlerTree). too_many h.at) (map handler_tree (take (i + 1) xs))) c
handler_more a b c xs i x within is so_far now =
    let f : HandlerTree → NameFault = λ h. too_many h.at in
    subst (λ l. Finds a l c)
    (sym (ap (map f) (trees_more handler_tree xs i x within is) ∙
    map-append f (map handler_tree (take i xs)) (handler_tree x ∷ [])))
    (finds_both name_shown a b c (map f (map handler_tree (take i xs))) (too_many x.at ∷ []) so_far now)

pub none_beyond : (a : Found) (xs : List Handler) → length xs ≤ 64 →
    Finds a (map (λ (h : HandlerTree). too_many h.at) (drop 64 (map handler_tree xs))) a
none_beyond a xs few =
    subst (λ l. Finds a (map (λ (h : HandlerTree). too_many h.at) l) a)
    (ap (map handler_tree) (sym (drop_all xs 64 few)) ∙ map_drop handler_tree 64 xs) (finds_none name_shown a)

pub some_beyond : (a b : Found) (xs ys : List Handler) → ys ≡ drop 64 xs →
    Finds a (map (λ (h : HandlerTree). too_many h.at) (map handler_tree ys)) b →
    Finds a (map (λ (h : HandlerTree). too_many h.at) (drop 64 (map handler_tree xs))) b
some_beyond a b xs ys is finds =
    subst (λ l. Finds a (map (λ (h : HandlerTree). too_many h.at) l) b)
    (ap (map handler_tree) is ∙ map_drop handler_tree 64 xs) finds

-- declarations, as lists of names and one by one
pub declared_parts : (layer : LayerTree) (scope : Scope) (a b c d e f : Found) → scope ≡ layer_scope layer →
    Finds a (twice_among [] (map declared_name layer.declarations)) b →
    Finds b (too_many_of 16 (names_where is_param layer)) c →
    Finds c (too_many_of 16 (names_where is_cell layer)) d → Finds d (too_many_of 7 (names_where is_header layer)) e →
    Finds e (flat_map (declaration_faults scope) layer.declarations) f → Finds a (declared_faults layer) f
declared_parts layer scope a b c d e f is once params cells headers each =
    finds_both name_shown a e f _ _
    (finds_both name_shown a d e _ _
    (finds_both name_shown a c d _ _ (finds_both name_shown a b c _ _ once params) cells) headers)
    (subst (λ s. Finds e (flat_map (declaration_faults s) layer.declarations) f) is each)

-- a layer's declarations, and its handlers in pairs, by their number and one by one
pub layer_parts : (layer : LayerTree) (a b c d e : Found) → Finds a (declared_faults layer) b →
    Finds b (map (λ (h : HandlerTree). twice h.at) (repetitions same_events [] layer.handlers)) c →
    Finds c (map (λ (h : HandlerTree). too_many h.at) (drop 64 layer.handlers)) d →
    Finds d (flat_map (handler_name_faults layer) layer.handlers) e → Finds a (layer_name_faults layer) e
layer_parts layer a b c d e declared once few each =
    finds_both name_shown a d e _ _
    (finds_both name_shown a c d _ _ (finds_both name_shown a b c _ _ declared once) few) each
