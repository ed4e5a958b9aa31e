use Rattle.std.proofs.Common.{◌≡◌, ◌∙◌, Option, Some, sym, subst, rules}
use Rattle.layer_mean.specs.declared.run.Case.TheVariants as cases
use Rattle.code_table.specs.Codes.{CodesTree}
use Rattle.group_member.specs.Judged.{entry_meant}
use Rattle.group_member.specs.Serving.{Serves}
use Rattle.group_member.specs.Stepping.{codes_in}
use Rattle.group_member.proofs.Trying.{handles}
use Rattle.group_member.proofs.commons.make_common.Goals as goal

pub given_of-given-requires-clause-fields : goal.given_of-given-requires-clause-fields
given_of-given-requires-clause-fields c =
    let is : codes_in c.args.ground.now ≡ Some c.in-Some.codes.now = search rules in
    c.as_slice.ensures.value ∙ c.requires.fields c.in-Some.codes.now is c.args.ground.now.here.now

pub given_of-given-requires-clause-count : goal.given_of-given-requires-clause-count
given_of-given-requires-clause-count c = c.requires.ground.count

pub given_of-given-requires-clause-few : goal.given_of-given-requires-clause-few
given_of-given-requires-clause-few c = c.requires.ground.few

pub try_cases-requires-clause-first : goal.try_cases-requires-clause-first
try_cases-requires-clause-first c =
    let is : codes_in c.args.ground.now ≡ Some c.in-Some.codes.now = search rules in
    handles c.args.ground.now c.args.works.now (entry_meant c.args.ground.now.here.now c.args.entry.now)
    c.requires.ground c.requires.is_in
    c.law_steps_are_handled.ensures c.law_accepted.ensures c.requires.entered c.in-Some.codes.now is cases.First

pub try_cases-requires-clause-second : goal.try_cases-requires-clause-second
try_cases-requires-clause-second c =
    let is : codes_in c.args.ground.now ≡ Some c.in-Some.codes.now = search rules in
    handles c.args.ground.now c.args.works.now (entry_meant c.args.ground.now.here.now c.args.entry.now)
    c.requires.ground c.requires.is_in
    c.law_steps_are_handled.ensures c.law_accepted.ensures c.requires.entered c.in-Some.codes.now is cases.Second

pub returns-clause-spare : goal.returns-clause-spare
returns-clause-spare c =
    let is : codes_in c.args.ground.now ≡ Some c.in-Some.codes.now = search rules in record {
      values = subst (λ (codes : Option CodesTree). Serves codes c.try_cases.new.values) (sym is)
          c.try_cases.ensures.serves;
      fields = c.requires.spare.fields;
    }
