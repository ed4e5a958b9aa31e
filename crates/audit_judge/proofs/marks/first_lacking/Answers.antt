use Rattle.std.proofs.Common.{None}
use Rattle.std.specs.HashMap as hash
use Rattle.audit_judge.specs.Lacks.{same_way}
use Rattle.audit_judge.specs.Marks.{same_item_key, sooner_in}
use Rattle.audit_judge.proofs.Clear.{all_clear, all_folded}
use Rattle.audit_judge.proofs.marks.first_lacking.Goals as goal

pub returns : goal.returns
returns c =
    let items = hash.get same_item_key c.in_ok-marks.marks.items in
    let groups = hash.get same_way c.in_ok-marks.marks.groups in
    all_clear items groups c.args.ended.now c.loop-one.found c.requires c.in_ok-marks.ensures
    (all_folded (sooner_in items groups) None c.loop-one.found c.args.ended.now c.loop-one.one-index
    c.loop-one-test.false c.loop-one.invariant)
