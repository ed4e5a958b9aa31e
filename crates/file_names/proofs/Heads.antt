-- The head of a handler.
use Rattle.std.proofs.Common.{◌≡◌, List, [], ◌∷◌, ◌++◌, map, ap, ap₂, ◌∙◌, subst}
use Rattle.std.specs.Option.{option_map_or}
use Rattle.std.proofs.lemmas.List.{map-append}
use Rattle.layer_ast.specs.Tree.{HandlerTree, LayerTree}
use Rattle.layer_ast.specs.declared.names.Name.{Name}
use Rattle.fault_mean.specs.NameFaults.{twice_among, uses_faults}
use Rattle.fault_mean.specs.Scope as names
use Rattle.fault_mean.specs.Uses.{of_name}
use Rattle.file_names.specs.Found.{Finds, name_shown}
use Rattle.file_names.specs.Handlers.{head_part}
use Rattle.file_names.specs.Scope.{Declares}
use Rattle.file_scope.specs.declared.found.Found.{Found}
use Rattle.file_scope.proofs.Standing.{names_of_locals}
use Rattle.file_scope.proofs.Finds.{finds_both}

head_names_are : (layer : LayerTree) (handler : HandlerTree) →
    map (λ (l : names.Local). l.name) (names.head_scope layer handler).locals ≡ names.head_names handler
head_names_are layer handler =
    let some : List names.Local = names.locals_as (names.argument_sorts layer handler)
    (handler.names.first ∷ handler.names.rest) in
    map-append (λ (l : names.Local). l.name) some (names.locals_as [] (names.popped_names handler.popped))
    ∙ ap₂ (λ (a b : List Name). a ++ b)
    (names_of_locals (names.argument_sorts layer handler) (handler.names.first ∷ handler.names.rest))
    (names_of_locals [] (names.popped_names handler.popped))

pub head_declares : (outer inner : names.Scope) (handler : HandlerTree) (locals : List names.Local) (a b c : Found) →
    outer.locals ≡ [] → locals ≡ (names.head_scope outer.layer handler).locals →
    Finds a (uses_faults outer (option_map_or (λ p. of_name p.name ∷ []) handler.popped [])) b →
    Declares outer b locals c inner →
    Finds a (head_part outer.layer handler) c × (inner ≡ names.head_scope outer.layer handler)
head_declares outer inner handler locals a b c bare are uses declares =
    let layer = outer.layer in
    let same : outer ≡ names.layer_scope layer = ap (λ (l : List names.Local). record { layer = layer; locals = l })
    bare in (
      finds_both name_shown a b c _ _
          (subst (λ s. Finds a (uses_faults s (option_map_or (λ p. of_name p.name ∷ []) handler.popped [])) b) same
          uses)
          (subst (λ l. Finds b l c)
          (ap₂ (λ s l. twice_among (names.visible s) (map (λ (x : names.Local). x.name) l)) same are
          ∙ ap (twice_among (names.visible (names.layer_scope layer))) (head_names_are layer handler))
          declares.0),
      declares.1 ∙ ap₂ names.with_locals same are,
    )
