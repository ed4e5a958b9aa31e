use Rattle.std.proofs.Common.{rules}
use Rattle.file_scope.specs.Scope.{scope_of}
use Rattle.file_names.proofs.Twice.{declares_next, declares_none}
use Rattle.file_names.proofs.scope.declare.Goals as goal

pub loop-local-init : goal.loop-local-init
loop-local-init c = declares_none (scope_of c.args.scope.now) c.args.found.now

pub loop-local-preserved : goal.loop-local-preserved
loop-local-preserved c = declares_next (scope_of c.args.scope.now) (scope_of c.loop-local.scope)
    (scope_of c.push.new.self)
    c.args.found.now c.loop-local.found c.note_unless.new.found c.args.locals.now c.loop-local.local-index
    c.local-item.result
    c.is_visible-again.result (search rules) (search rules) (search rules) c.loop-local.invariant (search rules)
    c.in_ok-push.ensures
