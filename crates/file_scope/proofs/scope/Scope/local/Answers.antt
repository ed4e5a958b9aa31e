use Rattle.std.proofs.Common.{rules}
use Rattle.file_scope.proofs.Scopes.{local_at, local_nowhere}
use Rattle.file_scope.proofs.scope.Scope.local.Goals as goal

pub returns-in-None : goal.returns-in-None
returns-in-None c = local_nowhere c.args.word.now c.args.self.now.locals.items c.args.self.now.words (search rules)
    (search rules)

pub returns-in-Some : goal.returns-in-Some
returns-in-Some c = local_at c.args.word.now c.args.self.now.locals.items c.args.self.now.words c.in-Some.k
    c.sort_at.result
    (search rules) (search rules) c.sort_at.ensures
