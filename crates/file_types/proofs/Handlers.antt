-- The parts of handlers and of layers.
use Rattle.std.proofs.Common.{◌≡◌, List, [], ◌∷◌, ◌++◌, flat_map, length, None, Some, refl, ap, ap₂, ◌∙◌, subst}
use Rattle.std.specs.Bool.{◌==◌}
use Rattle.std.specs.Option.{option_map_or}
use Rattle.layer_ast.specs.Tree as ast
use Rattle.layer_ast.specs.Tree.{DeclarationTree, HandlerTree, LayerTree}
use Rattle.fault_mean.specs.Declared.{names_in}
use Rattle.fault_mean.specs.Earliest.{unless}
use Rattle.fault_mean.specs.Faults as fault
use Rattle.fault_mean.specs.Faults.{TypeFault}
use Rattle.fault_mean.specs.Kinds.{arguments_of}
use Rattle.fault_mean.specs.Scope.{Local, Scope, head_scope, layer_scope, popped_names, with_locals}
use Rattle.fault_mean.specs.TypeFaults.{declaration_type_faults, expected_type_faults, handler_type_faults, takes_off}
use Rattle.fault_mean.specs.TypeFaults.{with_faults}
use Rattle.file_scope.specs.declared.found.Found.{Found}
use Rattle.file_scope.proofs.Parts.{four_parts}
use Rattle.file_expressions.specs.Found.{Finds, type_shown}
use Rattle.file_types.specs.Blocks.{block_faults}
use Rattle.file_types.specs.Declarations.{declaration_faults}

-- a layer's own names, and the locals of a head
pub head_is : (layer : LayerTree) (handler : HandlerTree) (outer inner : Scope) (locals : List Local) →
    outer ≡ layer_scope layer → locals ≡ (head_scope outer.layer handler).locals → inner ≡ with_locals outer locals →
    inner ≡ head_scope layer handler
head_is layer handler outer inner locals bare are extends =
    extends ∙ (ap (with_locals outer) are ∙ ap (λ s. with_locals s (head_scope s.layer handler).locals) bare)

-- a handler whose parts are judged in the scope of its head
pub handler_parts : (layer : LayerTree) (handler : HandlerTree) (scope : Scope) (a b c d e : Found) →
    scope ≡ head_scope layer handler →
    Finds a (unless (length (names_in (Some handler.names)) == length (arguments_of handler.kind))
    (fault.arity handler.at)) b →
    Finds b (option_map_or
    (λ p. with_faults scope.layer handler.at p.name (length (popped_names (Some p))) (takes_off handler)) handler.popped
    []) c →
    Finds c (expected_type_faults scope handler.expected) d → Finds d (block_faults scope handler.block) e →
    Finds a (handler_type_faults layer handler) e
handler_parts layer handler scope a b c d e is one two three four =
    let faults : Scope → List TypeFault = λ s.
    unless (length (names_in (Some handler.names)) == length (arguments_of handler.kind)) (fault.arity handler.at)
    ++ option_map_or (λ p. with_faults s.layer handler.at p.name (length (popped_names (Some p))) (takes_off handler))
    handler.popped []
    ++ expected_type_faults s handler.expected
    ++ block_faults s handler.block in
    subst (λ s. Finds a (faults s) e) is
    (four_parts type_shown a b c d e _ _ (expected_type_faults scope handler.expected)
    (block_faults scope handler.block) one two three four)

declaration_is : (layer : LayerTree) (d : DeclarationTree) → declaration_faults (layer_scope layer) d ≡
    declaration_type_faults layer d
declaration_is layer (ast.param at name value) = refl
declaration_is layer (ast.int at name shape None) = refl
declaration_is layer (ast.int at name shape (Some e)) = refl
declaration_is layer (ast.rows_cell at name capacity items) = refl
declaration_is layer (ast.rows_array at name capacity items) = refl
declaration_is layer (ast.header at name fields ending) = refl

declarations_are : (layer : LayerTree) (ds : List DeclarationTree) →
    flat_map (declaration_faults (layer_scope layer)) ds ≡ flat_map (declaration_type_faults layer) ds
declarations_are layer [] = refl
declarations_are layer (d ∷ ds) = ap₂ (λ (xs ys : List TypeFault). xs ++ ys) (declaration_is layer d)
    (declarations_are layer ds)

-- declarations in the scope of their layer's own names
pub own_declarations : (layer : LayerTree) (scope : Scope) (ds : List DeclarationTree) (a b : Found) →
    scope ≡ layer_scope layer →
    Finds a (flat_map (declaration_faults scope) ds) b → Finds a (flat_map (declaration_type_faults layer) ds) b
own_declarations layer scope ds a b is finds =
    subst (λ l. Finds a l b) (ap (λ s. flat_map (declaration_faults s) ds) is ∙ declarations_are layer ds) finds
