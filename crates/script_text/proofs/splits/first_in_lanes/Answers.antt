use Rattle.script_text.proofs.Near.{none_in_lanes, some_in_lanes}
use Rattle.script_text.proofs.splits.first_in_lanes.Goals as goal

pub returns-then-equal-eq0 : goal.returns-then-equal-eq0
returns-then-equal-eq0 c = none_in_lanes c.args.at c.args.text.now c.requires c.if-equal-eq0.true

pub returns-else-equal-eq0 : goal.returns-else-equal-eq0
returns-else-equal-eq0 c = some_in_lanes c.args.at c.args.text.now c.requires c.if-equal-eq0.false
