use Rattle.pool_laws.proofs.Stages.{stages_keep_few, own_pool_is_made}
use Rattle.pool_laws.proofs.stages_have_few_references.Goals as goal

pub returns-clause-few : goal.returns-clause-few
returns-clause-few g c = λ p stages ready.
    stages_keep_few g.S.Stage.refs g.S.Stage.state g.S.Stage.ready p (g.met.S.Stage.kept p) stages ready

pub returns-clause-pool : goal.returns-clause-pool
returns-clause-pool g c = λ stack most p stages own.
    own_pool_is_made g.S.Stage.refs g.S.Stage.state g.S.Stage.ready p (g.met.S.Stage.kept p) stack most stages own
