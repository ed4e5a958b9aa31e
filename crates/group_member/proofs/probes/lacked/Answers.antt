use Rattle.std.proofs.Common.{◌≤◌, ◌∙◌, List, map, length, sym, ap, subst}
use Rattle.msg_core.specs.Parts.{longest_body}
use Rattle.live_layer.specs.Layer.{state_in}
use Rattle.live_layer.specs.declared.layer.FileLayer.{FileLayer}
use Rattle.code_tests.specs.Registers.{input_of}
use Rattle.group_member.specs.Judged.{entry_meant}
use Rattle.group_member.specs.Stepping.{mode_of, plans_in, stack_of}
use Rattle.group_member.specs.Working.{states_in}
use Rattle.group_member.proofs.Probing.{body_short, in_no_case, lacks_none, lacks_some}
use Rattle.group_member.proofs.probes.lacked.Goals as goal

pub returns-then-not-is_told-clause-lacks : goal.returns-then-not-is_told-clause-lacks
returns-then-not-is_told-clause-lacks c =
    let g = c.args.ground.now in
    let what = entry_meant g.here.now c.args.entry.now in
    lacks_none g c.args.kit.now.works what
    (in_no_case (mode_of g) g (states_in c.args.kit.now.works) what c.requires.mode c.requires.uncommon)
    (sym (c.is_told.ensures g.here.now (plans_in g)) ∙ c.if-not-is_told.true)

pub given_of-given-requires-clause-fields : goal.given_of-given-requires-clause-fields
given_of-given-requires-clause-fields c = c.as_slice.ensures.value ∙ c.requires.fields

pub given_of-given-requires-clause-count : goal.given_of-given-requires-clause-count
given_of-given-requires-clause-count c = c.requires.ground.count

pub given_of-given-requires-clause-few : goal.given_of-given-requires-clause-few
given_of-given-requires-clause-few c = c.requires.ground.few

pub miss-requires-clause-body : goal.miss-requires-clause-body
miss-requires-clause-body c =
    subst (λ body. length body ≤ longest_body) (sym c.given_of-given.ensures.body)
    (body_short (stack_of c.args.ground.now) c.args.ground.now.here.now c.args.entry.now c.requires.entered)

pub returns-clause-lacks : goal.returns-clause-lacks
returns-clause-lacks c =
    let g = c.args.ground.now in
    let what = entry_meant g.here.now c.args.entry.now in
    lacks_some g c.args.kit.now.works what
    (in_no_case (mode_of g) g (states_in c.args.kit.now.works) what c.requires.mode c.requires.uncommon)
    c.requires.ground c.requires.is_in c.requires.sound c.args.checks.now c.requires.checks c.requires.entered
    c.law_misses_are_told.ensures
    (sym (c.is_told.ensures g.here.now (plans_in g)) ∙ c.if-not-is_told.false) c.args.what (c.requires.what g.here.now)
    (input_of c.given_of-given.result) c.given_of-given.ensures.given _
    (ap (λ (layers : List FileLayer). map (state_in c.args.kit.now.works.pool) layers) c.as_slice-2.ensures.value)
    c.miss.result c.miss.ensures.miss
