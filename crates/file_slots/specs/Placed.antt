-- A layer at a place, and the words that its declarations declare.
use Rattle.std.specs.Prelude.{ℕ, List, map}
use Rattle.std.specs.Coded.{×_prop, Unit-prop, le_prop}
use Rattle.std.specs.List.{AllByRecursion, AllByRecursion-prop}
use Rattle.layer_ast.specs.Tree.{DeclarationTree, param, int, rows_cell, rows_array, header, LayerTree}
use Rattle.layer_ast.specs.View.{given_tree}
use Rattle.layer_ast.specs.declared.syntax.Given.{Given}
use Rattle.fault_mean.specs.Declared.{declared_name}
use Rattle.fault_mean.specs.Scope.{Scope}
use Rattle.file_mean.specs.Names.{Placed}
use Rattle.typed_layer.specs.View.{blank_headers}
use Rattle.typed_layer.specs.declared.tree.Blank.{Blank}
use Rattle.file_laws.specs.Bounds.{HoldsDeclaration}

-- The words that declarations declare, in order.
abbrev pub words_of : List DeclarationTree → List (List ℕ)
words_of declarations = map (λ d. (declared_name d).word) declarations

-- A layer at a place with these params and these places above.
abbrev pub placement : LayerTree → List Given → Blank → Placed
placement layer given blank = record { layer = layer; given = map given_tree given; blank = blank_headers blank }

-- Each declaration is one that members can keep there.
abbrev pub HoldDeclarations : Placed → Type 0
HoldDeclarations p = AllByRecursion (HoldsDeclaration p) p.layer.declarations

holds-prop : (p : Placed) (d : DeclarationTree) → IsProp (HoldsDeclaration p d)
holds-prop p (param at name value) = Unit-prop
holds-prop p (int at name shape initial) = Unit-prop
holds-prop p (rows_cell at name capacity items) = ×_prop le_prop le_prop
holds-prop p (rows_array at name capacity items) = ×_prop le_prop le_prop
holds-prop p (header at name fields ending) = le_prop

pub HoldDeclarations-prop : (p : Placed) → IsProp (HoldDeclarations p)
HoldDeclarations-prop p = AllByRecursion-prop (HoldsDeclaration p) (holds-prop p) p.layer.declarations

-- Each declaration of a scope's layer is one that members can keep at a place with these params and these places above.
abbrev pub AreHeld : Scope → List Given → Blank → Type 0
AreHeld scope given blank = HoldDeclarations (placement scope.layer given blank)

pub AreHeld-prop : (scope : Scope) (given : List Given) (blank : Blank) → IsProp (AreHeld scope given blank)
AreHeld-prop scope given blank = HoldDeclarations-prop (placement scope.layer given blank)
