use Rattle.std.proofs.Common.{◌∙◌, ℕ, Option, sym, ap}
use Rattle.run_mean.specs.Common.{with_plans}
use Rattle.group_member.specs.Stepping.{stack_of, plans_in}
use Rattle.group_member.proofs.Going.{never_short}
use Rattle.group_member.proofs.steps.send_short.Goals as goal

pub returns-in_default : goal.returns-in_default
returns-in_default c = λ entered outs at full.
    let none = c.in_default.ensures.first (stack_of c.args.ground.now) c.requires.ground.starts
    (plans_in c.args.ground.now) entered at in
    λ i. record {
      here = c.args.out.now.here;
      outputs = (full ∙ sym (never_short (plans_in c.args.ground.now) outs)
          ∙ ap (λ (next : Option ℕ). with_plans (plans_in c.args.ground.now) next outs) none) i;
      places = c.args.out.now.places;
    }
