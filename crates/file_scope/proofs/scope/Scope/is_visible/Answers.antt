use Rattle.std.proofs.Common.{ap, is_some, rules, ◌∙◌}
use Rattle.file_scope.proofs.Scopes.{visible_local}
use Rattle.file_scope.proofs.scope.Scope.is_visible.Goals as goal

pub returns-in-None : goal.returns-in-None
returns-in-None c = c.is_some.ensures ∙ (ap is_some c.position-in-None.ensures
    ∙ visible_local c.args.self.now c.args.word.now c.args.self.now.own.now c.args.self.now.words (search rules)
    (search rules) (search rules))
