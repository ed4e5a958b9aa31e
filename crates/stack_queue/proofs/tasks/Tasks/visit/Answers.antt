use Rattle.std.proofs.Common.{ap, ◌∙◌}
use Rattle.layer_eval.specs.Did.{both}
use Rattle.stack_queue.proofs.Round.{round_state, round_tasks, round_predicted, joins_none, round_moved}
use Rattle.stack_queue.proofs.tasks.Tasks.visit.Goals as goal

pub returns-then-pass_round-clause-state : goal.returns-then-pass_round-clause-state
returns-then-pass_round-clause-state g c = round_state g.S.Stage.place g.S.Stage.layer g.S.Stage.refs g.S.Stage.ready
    g.S.Stage.state g.S.Stage.taken
    c.args.stage.now c.pass_round.new.stage c.args.pool.now c.args.self.now c.pass_round.new.self
    c.if-pass_round.ensures c.args.at c.requires.at

pub returns-then-pass_round-clause-tasks : goal.returns-then-pass_round-clause-tasks
returns-then-pass_round-clause-tasks g c = round_tasks g.S.Stage.place g.S.Stage.layer g.S.Stage.refs g.S.Stage.ready
    g.S.Stage.state g.S.Stage.taken
    c.args.stage.now c.pass_round.new.stage c.args.pool.now c.args.self.now c.pass_round.new.self
    c.if-pass_round.ensures c.args.at c.requires.at

pub returns-then-pass_round-clause-predicted : goal.returns-then-pass_round-clause-predicted
returns-then-pass_round-clause-predicted g c = joins_none c.args.predicted.now
    ∙ ap (both c.args.predicted.now) (round_predicted g.S.Stage.place g.S.Stage.layer g.S.Stage.refs g.S.Stage.ready
    g.S.Stage.state g.S.Stage.taken c.args.stage.now c.pass_round.new.stage c.args.pool.now c.args.self.now
    c.pass_round.new.self c.if-pass_round.ensures c.args.at
    c.requires.at)

pub returns-then-pass_round-clause-moved : goal.returns-then-pass_round-clause-moved
returns-then-pass_round-clause-moved g c = round_moved g.S.Stage.place g.S.Stage.layer g.S.Stage.refs g.S.Stage.ready
    g.S.Stage.state g.S.Stage.taken
    c.args.stage.now c.pass_round.new.stage c.args.pool.now c.args.self.now c.pass_round.new.self
    c.if-pass_round.ensures c.args.at c.requires.at
    c.requires.some

pub returns-then-pass_round-clause-taken : goal.returns-then-pass_round-clause-taken
returns-then-pass_round-clause-taken g c = c.if-pass_round.ensures.passed.one_taken
