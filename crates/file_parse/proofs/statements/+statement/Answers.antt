use Rattle.std.proofs.Common.{[], ◌∷◌, ◌++◌, ◌∙◌}
use Rattle.layer_words.specs.declared.signs.Sign.TheVariants as sign
use Rattle.layer_ast.specs.declared.tokens.Token.TheVariants as token
use Rattle.layer_ast.specs.Print as print
use Rattle.layer_ast.specs.View.{statement_tree, block_tree}
use Rattle.grammar_laws.specs.Machine.{one, a_name, more_names, a_statement, a_block}
use Rattle.file_parse.specs.Parts.{block_after_else}
use Rattle.file_parse.proofs.Exits.{starts, fault_passes}
use Rattle.file_parse.proofs.Gathered.{statement_gathered}
use Rattle.file_parse.proofs.statements.+statement.Goals as goal

pub statements-loop-alloc-preserved : goal.statements-loop-alloc-preserved
statements-loop-alloc-preserved t c =
    rw c.in_ok-push_item.ensures (
    statement_gathered _ _ _ _ _ _ c.loop-alloc.invariant c.loop-alloc-test.ensures c.in_ok-next.ensures.read
    )

pub take-returns-in-Err-else_block-clause-read : goal.take-returns-in-Err-else_block-clause-read
take-returns-in-Err-else_block-clause-read t c =
    fault_passes block_after_else block_tree (one sign.Else ∷ a_block) c.args.room c.in-Ok-block.read.1.now
    print.statement
    statement_tree (a_statement ∷ []) c.args.room (c.args.first ∷ c.args.tokens.now) c.in-Err-else_block.fault
    c.in-Err-else_block.ensures
    (λ n refused.
    record {
      stops = λ stack.
          let following = one sign.Else ∷ a_block ++ stack in
          starts a_statement c.args.first (token.Sign sign.Take) c.args.tokens.now c.args.room stack c.requires
          ∙ (c.in-Ok.ensures.goes_on (one sign.LeftParen ∷ a_name ∷ more_names ∷ one sign.RightParen ∷ a_block ++
          following)
          ∙ (c.in-Ok-names_in_parentheses.ensures.goes_on (a_block ++ following)
          ∙ (c.in-Ok-block.ensures.goes_on following ∙ refused.stops stack)));
    })
