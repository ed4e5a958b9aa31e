use Rattle.std.proofs.Common.{◌∙◌, ℕ, ap, refl, true}
use Rattle.std.specs.declared.alloc.Global.{Global}
use Rattle.std.specs.declared.vec.Vec.{Vec}
use Rattle.step_outputs.specs.Gathered.{Gathered}
use Rattle.group_member.specs.Judged.{entry_meant}
use Rattle.group_member.proofs.Probing.{not_made}
use Rattle.group_member.specs.Stepping.{codes_in, plans_in}
use Rattle.group_member.proofs.Taking.{taken}
use Rattle.group_member.proofs.Places.{spare_on}
use Rattle.group_member.proofs.probes.try_common.Goals as goal

pub make_by_code-requires-clause-spare : goal.make_by_code-requires-clause-spare
make_by_code-requires-clause-spare c =
    spare_on (codes_in c.args.ground.now) (plans_in c.args.ground.now) c.args.kit.now.scratch _ refl
    c.keep_entry-what.ensures.capacity c.requires.spare

pub make_by_code-requires-clause-fields : goal.make_by_code-requires-clause-fields
make_by_code-requires-clause-fields c = λ codes is here. c.keep_entry-what.ensures.fields here

pub lacked-requires-clause-fields : goal.lacked-requires-clause-fields
lacked-requires-clause-fields c =
    ap (λ (fields : Vec ℕ Global). fields.items) c.if-make_by_code.ensures.fields
    ∙ c.keep_entry-what.ensures.fields c.args.ground.now.here.now

pub change_view-requires-clause-ready : goal.change_view-requires-clause-ready
change_view-requires-clause-ready c = (c.if-make_by_code.ensures.made 0).ready

pub change_view-requires-clause-members : goal.change_view-requires-clause-members
change_view-requires-clause-members c = (c.if-make_by_code.ensures.made 0).members

pub returns-then-make_by_code-clause-attempts : goal.returns-then-make_by_code-clause-attempts
returns-then-make_by_code-clause-attempts c =
    taken c.args.ground.now c.args.kit.now.works (entry_meant c.args.ground.now.here.now c.args.entry.now)
    c.make_by_code.new.kit.works
    c.change_view.new.works c.make_by_code.new.out 0 0 true c.change_view.result c.requires.ground
    c.requires.is_in.inside_is.states_are
    c.requires.entered (c.if-make_by_code.ensures.made 0) c.change_view.ensures

pub returns-clause-attempts : goal.returns-clause-attempts
returns-clause-attempts c =
    not_made c.args.ground.now c.args.kit.now.works c.make_by_code.new.kit.works
    (entry_meant c.args.ground.now.here.now c.args.entry.now)
    c.if-make_by_code.ensures.made.same c.requires.ready c.requires.is_in
    c.clear.new.self (ap (λ (o : Gathered). o.outputs) c.clear.ensures)
    c.lacked.result c.lacked.ensures.lacks
