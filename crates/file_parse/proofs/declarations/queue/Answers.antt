use Rattle.std.proofs.Common.{[], ◌∷◌, ◌∙◌}
use Rattle.layer_words.specs.declared.signs.Sign.TheVariants as sign
use Rattle.layer_ast.specs.declared.tokens.Token.TheVariants as token
use Rattle.layer_ast.specs.Print as print
use Rattle.layer_ast.specs.View.{items_tree, declaration_tree}
use Rattle.grammar_laws.specs.Machine.{one, a_name, a_sort, a_capacity, more_items, a_cell, a_declaration}
use Rattle.file_parse.specs.Parts.{print_items}
use Rattle.file_parse.proofs.Exits.{starts, fault_passes}
use Rattle.file_parse.proofs.declarations.queue.Goals as goal

pub returns-in-Err-items-clause-read : goal.returns-in-Err-items-clause-read
returns-in-Err-items-clause-read c =
    fault_passes print_items items_tree
    (one sign.Of ∷ one sign.LeftParen ∷ a_name ∷ one sign.Colon ∷ a_sort ∷ more_items ∷ one sign.RightParen
    ∷ one sign.Semicolon ∷ []) c.args.room c.in-Ok-capacity.read.1.now print.declaration declaration_tree
    (a_declaration ∷ [])
    c.args.room (c.args.first ∷ c.args.second ∷ c.args.tokens.now) c.in-Err-items.fault c.in-Err-items.ensures
    (λ n refused.
    record {
      stops = λ stack.
          let following =
          one sign.Of ∷ one sign.LeftParen ∷ a_name ∷ one sign.Colon ∷ a_sort ∷ more_items ∷ one sign.RightParen
          ∷ one sign.Semicolon ∷ stack in
          starts a_declaration c.args.first (token.Sign sign.State) (c.args.second ∷ c.args.tokens.now) c.args.room
          stack
          c.requires.state
          ∙ (starts a_cell c.args.second (token.Sign sign.Queue) c.args.tokens.now c.args.room stack c.requires.word
          ∙ (c.in-Ok.ensures.goes_on c.args.room (one sign.LeftBracket ∷ a_capacity ∷ one sign.RightBracket ∷ following)
          ∙ (c.in-Ok-capacity.ensures.goes_on following ∙ refused.stops stack)));
    })
