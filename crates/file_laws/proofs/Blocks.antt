-- Blocks without faults are typed.
use Rattle.std.proofs.Common.{◌≡◌, ◌≤◌, List, [], ◌∷◌, ◌++◌, length, map, Some, arith}
use Rattle.std.specs.List.{AllByRecursion}
use Rattle.layer_ast.specs.declared.names.Name.{Name}
use Rattle.layer_words.specs.declared.sorts.Sort.{Sort}
use Rattle.layer_ast.specs.Tree as ast
use Rattle.fault_mean.specs.Declared.{names_in}
use Rattle.fault_mean.specs.ExpressionFaults.{arguments_faults}
use Rattle.fault_mean.specs.Forms.{row_of, queue_name}
use Rattle.fault_mean.specs.NameFaults.{uses_faults, twice_among, statement_name_faults}
use Rattle.fault_mean.specs.Scope.{Local, Scope, Standing, locals_as, visible, standing_in}
use Rattle.fault_mean.specs.TypeFaults.{row_type_faults, row_sorts, statement_type_faults}
use Rattle.fault_mean.specs.Uses.{arguments_in, statement_uses}
use Rattle.file_mean.specs.Names.{Names, with_numbers}
use Rattle.file_mean.specs.Statements.{with_taken, after_block, after_all, statements_of}
use Rattle.file_mean.specs.Layers.{layer_of}
use Rattle.chain_laws.specs.Typed.{TypedAll}
use Rattle.file_laws.specs.Literals.{LiteralStatement}
use Rattle.file_laws.proofs.Lists.{nils, each_parts}
use Rattle.file_laws.proofs.Small.{LiteralPlaced, number_small}
use Rattle.file_laws.proofs.Messages.{Agree, LastMessages}
use Rattle.file_laws.proofs.Emissions.{emission_is, push_is}
use Rattle.file_laws.proofs.Slots.{agree_numbers, locals_are_numbers, Free, free_more}
use Rattle.file_laws.proofs.Takes.{take_is}
use Rattle.file_laws.proofs.Growth.{grows, grows_all}

-- a statement without faults, in which every written number is below 2^32
pub record Good (s : Standing) : Type 0 where
  pub types : statement_type_faults s.scope s.statement ≡ []
  pub named : statement_name_faults s ≡ []
  pub literal : LiteralStatement s.statement

-- what a block is typed under
pub record Under (names : Names) (locals : List Local) (sorts : List Sort) : Type 0 where
  pub placed : LiteralPlaced names.place
  pub rows : LastMessages names.place.layer
  pub agree : Agree sorts locals names.messages
  pub free : Free sorts names.taken.messages

-- after a block as before it, with more slots taken
under_after : (names inner : Names) (locals : List Local) (sorts : List Sort) →
    names.taken.messages ≤ inner.taken.messages →
    Under names locals sorts → Under (after_block names inner) locals sorts
under_after names inner locals sorts more u = record {
  placed = u.placed;
  rows = u.rows;
  agree = u.agree;
  free = free_more sorts names.taken.messages inner.taken.messages more u.free;
}

-- with one more number
under_number : (names : Names) (locals : List Local) (sorts : List Sort) (name : Name) → Under names locals sorts →
    Under (with_numbers (name ∷ []) names) (locals ++ locals_as [] (name ∷ [])) sorts
under_number names locals sorts name u = record {
  placed = u.placed;
  rows = u.rows;
  agree = agree_numbers sorts locals (locals_as [] (name ∷ [])) names.messages (locals_are_numbers (name ∷ [])) u.agree;
  free = u.free;
}

abbrev scope_of : Names → List Local → Scope
scope_of names locals = record { layer = names.place.layer; locals = locals }

abbrev Block : Names → List Sort → ast.StatementTrees → Type 0
Block names sorts xs = TypedAll (layer_of names.place) names.place.blank sorts (statements_of names xs)

pub block_typed : (xs : ast.StatementTrees) (names : Names) (locals : List Local) (sorts : List Sort) →
    Under names locals sorts →
    (after_all xs names).taken.messages ≤ length sorts →
    AllByRecursion Good (standing_in (record { layer = names.place.layer; locals = locals }) xs) →
    TypedAll (layer_of names.place) names.place.blank sorts (statements_of names xs)
block_typed ast.none names locals sorts u bound h = tt
block_typed (ast.more (ast.bind at name e) rest) names locals sorts u bound h = (
  number_small names u.placed e h.0.literal,
  block_typed rest (with_numbers (name ∷ []) names) (locals ++ locals_as [] (name ∷ [])) sorts
      (under_number names locals sorts name u) bound h.1,
)
block_typed (ast.more (ast.set at name index e) rest) names locals sorts u bound h =
    (number_small names u.placed e h.0.literal.1, block_typed rest names locals sorts u bound h.1)
block_typed (ast.more (ast.set_square at name row column e) rest) names locals sorts u bound h =
    (number_small names u.placed e h.0.literal.2, block_typed rest names locals sorts u bound h.1)
block_typed (ast.more (ast.push at q items otherwise) rest) names locals sorts u bound h =
    let scope = scope_of names locals in
    let args = arguments_in (Some items) in
    let faults = nils (row_type_faults scope at q (length args))
    (arguments_faults scope (row_sorts names.place.layer q) args) h.0.types in
    let parts = each_parts Good (standing_in scope otherwise) (standing_in scope rest) h.1 in
    let inner = after_all otherwise names in
    let later = after_block names inner in
    let end = (grows_all rest later).messages in (
      (
        push_is names locals sorts u.agree u.rows u.placed at q args faults.0 faults.1 h.0.literal.1,
        block_typed otherwise names locals sorts u (omega (arith, end, bound)) parts.0,
      ),
      block_typed rest later locals sorts (under_after names inner locals sorts (grows_all otherwise names).messages u)
          bound
          parts.1,
    )
block_typed (ast.more (ast.take at q new block otherwise) rest) names locals sorts u bound h =
    let scope = scope_of names locals in
    let fresh_names = names_in (Some new) in
    let inner = with_taken q fresh_names names in
    let further = locals_as (map (λ (i : ast.ItemTree). i.sort) (row_of names.place.layer (queue_name q).word))
    fresh_names in
    let first = after_all block inner in
    let between = after_block names first in
    let second = after_all otherwise between in
    let later = after_block names second in
    let outer = each_parts Good (standing_in (record { layer = names.place.layer; locals = locals ++ further }) block ++
    standing_in scope otherwise)
    (standing_in scope rest) h.1 in
    let parts = each_parts Good (standing_in (record { layer = names.place.layer; locals = locals ++ further }) block)
    (standing_in scope otherwise) outer.0 in
    let named = nils (uses_faults scope (statement_uses (ast.take at q new block otherwise)) ++
    twice_among (visible scope) fresh_names) [] h.0.named in
    let fresh = nils (uses_faults scope (statement_uses (ast.take at q new block otherwise)))
    (twice_among (visible scope) fresh_names) named.0 in
    let zero_le = (grows (ast.take at q new ast.none ast.none) names).messages in
    let one = (grows_all block inner).messages in
    let two = (grows_all otherwise between).messages in
    let end = (grows_all rest later).messages in
    let taken = take_is names locals sorts u.agree u.rows u.free at q new.first new.rest h.0.types fresh.1
    (omega (arith, one, two, end, bound)) in (
      (
        taken.takes,
        block_typed block inner (locals ++ further) _
            (record { placed = u.placed; rows = u.rows; agree = taken.agree; free = taken.free })
            (omega (arith, two, end, bound, taken.same_length)) parts.0,
        block_typed otherwise between locals sorts
            (under_after names first locals sorts (omega (arith, zero_le, one)) u) (omega (arith, end, bound)) parts.1,
      ),
      block_typed rest later locals sorts (under_after names second locals sorts (omega (arith, zero_le, one, two)) u)
          bound outer.1,
    )
block_typed (ast.more (ast.when at likely e block) rest) names locals sorts u bound h =
    let scope = scope_of names locals in
    let parts = each_parts Good (standing_in scope block) (standing_in scope rest) h.1 in
    let inner = after_all block names in
    let later = after_block names inner in
    let end = (grows_all rest later).messages in (
      (block_typed block names locals sorts u (omega (arith, end, bound)) parts.0, tt),
      block_typed rest later locals sorts (under_after names inner locals sorts (grows_all block names).messages u)
          bound
          parts.1,
    )
block_typed (ast.more (ast.choose at likely e block otherwise) rest) names locals sorts u bound h =
    let scope = scope_of names locals in
    let outer = each_parts Good (standing_in scope block ++ standing_in scope otherwise) (standing_in scope rest) h.1 in
    let parts = each_parts Good (standing_in scope block) (standing_in scope otherwise) outer.0 in
    let first = after_all block names in
    let between = after_block names first in
    let second = after_all otherwise between in
    let later = after_block names second in
    let one = (grows_all block names).messages in
    let two = (grows_all otherwise between).messages in
    let end = (grows_all rest later).messages in (
      (
        block_typed block names locals sorts u (omega (arith, two, end, bound)) parts.0,
        block_typed otherwise between locals sorts (under_after names first locals sorts one u)
            (omega (arith, end, bound)) parts.1,
      ),
      block_typed rest later locals sorts (under_after names second locals sorts (omega (arith, one, two)) u) bound
          outer.1,
    )
block_typed (ast.more (ast.each at name below most block) rest) names locals sorts u bound h =
    let scope = scope_of names locals in
    let inside = scope_of names (locals ++ locals_as [] (name ∷ [])) in
    let parts = each_parts Good (standing_in inside block) (standing_in scope rest) h.1 in
    let inner = with_numbers (name ∷ []) names in
    let first = after_all block inner in
    let later = after_block names first in
    let end = (grows_all rest later).messages in (
      (
        number_small names u.placed below h.0.literal.0,
        block_typed block inner (locals ++ locals_as [] (name ∷ [])) sorts (under_number names locals sorts name u)
            (omega (arith, end, bound)) parts.0,
      ),
      block_typed rest later locals sorts (under_after names first locals sorts (grows_all block inner).messages u)
          bound
          parts.1,
    )
block_typed (ast.more (ast.emit at dir kind arguments pushed) rest) names locals sorts u bound h = (
  emission_is names locals sorts u.agree u.rows u.placed at dir kind (arguments_in (Some arguments)) pushed h.0.types
      h.0.literal.0 h.0.literal.1,
  block_typed rest names locals sorts u bound h.1,
)
