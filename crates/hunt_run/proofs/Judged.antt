-- A draft that still breaks the law in the same way, with what is told of the breach before it, is a find.
use Rattle.std.proofs.Common.{◌≡◌, subst, ◌∙◌, ℕ, List, ◌++◌}
use Rattle.std.specs.Prelude.{Ok}
use Rattle.audit_mean.specs.Finding.{audit_of}
use Rattle.audit_mean.specs.declared.law.Finding.TheVariants.{Breach}
use Rattle.hunt_mean.specs.Find.{IsFind, told_breach}
use Rattle.hunt_mean.specs.Words.{Request}
use Rattle.hunt_run.specs.Breaks.{AreSame, Breaks}
use Rattle.hunt_run.specs.declared.broken.Broken.{Broken}

pub is_find : (r : Request) (file draft text : List ℕ) (b again : Broken) → Breaks r file text again →
    text ≡ told_breach r.law b.report.items b.first b.second ++ draft → AreSame b again → IsFind r file text
is_find r file draft text b again k told same = record {
  stack = k.reports.stack;
  means = k.reports.means;
  room = k.reports.room;
  script = k.script;
  spells = k.asked.spells;
  members = k.asked.within.members;
  events = k.asked.within.events;
  first = again.first;
  second = again.second;
  breach = subst (λ report. audit_of r.law report ≡ Ok (Breach again.first again.second)) k.reports.is k.breach;
  rest = draft;
  told = subst (λ report. text ≡ told_breach r.law report again.first again.second ++ draft)
      (same.report ∙ k.reports.is)
      (subst (λ first. text ≡ told_breach r.law b.report.items first again.second ++ draft) same.first
      (subst (λ second. text ≡ told_breach r.law b.report.items b.first second ++ draft) same.second told));
}
