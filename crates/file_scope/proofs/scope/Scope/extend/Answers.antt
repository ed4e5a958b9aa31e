use Rattle.std.proofs.Common.{rules}
use Rattle.file_scope.specs.Scope.{scope_of}
use Rattle.file_scope.proofs.Standing.{local_more}
use Rattle.file_scope.proofs.scope.Scope.extend.Goals as goal

pub loop-local-preserved : goal.loop-local-preserved
loop-local-preserved c = local_more (scope_of c.args.self.now) (scope_of c.loop-local.self) (scope_of c.push.new.self)
    c.args.locals.now
    c.loop-local.local-index c.local-item.result (search rules) (search rules) c.loop-local.invariant
    c.in_ok-push.ensures
