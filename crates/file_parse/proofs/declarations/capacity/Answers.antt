use Rattle.std.proofs.Common.{[], ◌∷◌}
use Rattle.layer_words.specs.declared.signs.Sign.TheVariants.{N, LeftBracket, RightBracket}
use Rattle.grammar_laws.specs.Machine.{one, a_size, a_capacity}
use Rattle.file_parse.specs.Parts.{print_capacity, capacity_tree}
use Rattle.file_parse.proofs.Under.{under, parses_as}
use Rattle.file_parse.proofs.declarations.capacity.Goals as goal

pub returns-then-begins_array : goal.returns-then-begins_array
returns-then-begins_array c =
    parses_as print_capacity capacity_tree
    (one LeftBracket ∷ one N ∷ one RightBracket ∷ one LeftBracket ∷ a_size ∷ one RightBracket ∷ [])
    (one LeftBracket ∷ a_capacity ∷ one RightBracket ∷ []) c.args.room c.args.tokens.now c.capacity_of_array.result
    (λ stack.
    rw c.in-Some.ensures.cases.0 (
    under LeftBracket a_capacity (one N ∷ one RightBracket ∷ one LeftBracket ∷ a_size ∷ []) c.in-Some.field-0-0.now
    c.in-Some.following.now c.if-begins_array.ensures c.args.room (one RightBracket ∷ stack)
    ))
    c.capacity_of_array.ensures

pub returns-else-begins_array : goal.returns-else-begins_array
returns-else-begins_array c =
    parses_as print_capacity capacity_tree (one LeftBracket ∷ a_size ∷ one RightBracket ∷ [])
    (one LeftBracket ∷ a_capacity ∷ one RightBracket ∷ []) c.args.room c.args.tokens.now c.capacity_of_one.result
    (λ stack.
    rw c.in-Some.ensures.cases.0 (
    under LeftBracket a_capacity (a_size ∷ []) c.in-Some.field-0-0.now c.in-Some.following.now c.if-begins_array.ensures
    c.args.room (one RightBracket ∷ stack)
    ))
    c.capacity_of_one.ensures
