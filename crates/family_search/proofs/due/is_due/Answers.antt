use Rattle.std.proofs.Common.{◌≡◌, arith, ap, sym, ◌∙◌}
use Rattle.std.specs.Prelude.{slice_index_or}
use Rattle.std.proofs.lemmas.Grind.{common_steps}
use Rattle.script_mean.specs.declared.event.ScriptEvent.TheVariants.{Show}
use Rattle.family_search.specs.Coming.{act_due, due_in}
use Rattle.family_search.proofs.due.is_due.Goals as goal

pub returns-in-Some : goal.returns-in-Some
returns-in-Some c =
    let e : slice_index_or c.args.acts.now c.in-Act.index (Show 0) ≡ c.in-Some.act.now = grind (arith, common_steps) in
    c.act_is_due.ensures ∙ ap (act_due c.args.acts.now c.args.past.now c.in-Act.index) (sym e)
    ∙ ap (due_in c.args.acts.now c.args.repeats c.args.past.now) (sym c.in-Act.is)
