-- What is written of what was found.
use Rattle.std.proofs.Common.{◌≡◌, refl, sym, subst, ◌∙◌, ℕ, ◌<◌, List, ◌++◌}
use Rattle.std.specs.Prelude.{IfOk, Result, Ok, Err}
use Rattle.audit_mean.specs.Finding.{audit_of}
use Rattle.audit_mean.specs.declared.law.Law.{Law}
use Rattle.audit_mean.specs.declared.law.Finding.TheVariants as finding
use Rattle.end_mean.specs.Status.{no_memory}
use Rattle.family_mean.specs.Family.{Family, AllKeep, AllKeepTo, IsShortestBreach, report_of, script_with}
use Rattle.hunt_mean.specs.Find.{told_breach}
use Rattle.job_ends.specs.Shown.{shown_end}
use Rattle.job_ends.specs.declared.ending.Ending.{Ending}
use Rattle.msg_core.specs.declared.message.Memory.{Memory}
use Rattle.script_mean.specs.Script.{script_of}
use Rattle.script_mean.specs.declared.event.ScriptEvent.{ScriptEvent}
use Rattle.script_mean.specs.declared.script.Script.{Script}
use Rattle.bound_mean.specs.Told.{IsAbout, IsFind, holds_line, holds_to_line}
use Rattle.bound_run.specs.Looks.{IsLine, Looks, StopsOver, TellsOf}
use Rattle.bound_run.specs.Shown.{finish_for}
use Rattle.bound_run.specs.declared.output.Kind.{Kind}
use Rattle.bound_run.specs.declared.output.Kind.TheVariants.{Held, HeldTo, Breach}
use Rattle.bound_run.specs.declared.output.Output.{Output}

-- a text that tells of the breach in the report of a shortest script is a find
pub find : (f : Family) (events : List ScriptEvent) (law : Law) (report text : List ℕ) (script : Script) →
    IsShortestBreach f events → law ≡ f.law → report ≡ report_of f events → script ≡ script_with f events →
    TellsOf law report script text → IsFind f text
find f events law report text script s law_is report_is script_is t = record {
  events = events;
  shortest = record {
    of = s.of;
    breaks = record {
      first = t.first;
      second = t.second;
      breach =
          subst (λ r. audit_of f.law r ≡ Ok (finding.Breach t.first t.second)) report_is
          (subst (λ l. audit_of l report ≡ Ok (finding.Breach t.first t.second)) law_is t.breach);
    };
    shorter = s.shorter;
  };
  spells = subst (λ x. script_of text ≡ Ok x) script_is t.spells;
  rest = t.rest;
  told =
      subst (λ r. text ≡ told_breach f.law r t.first t.second ++ t.rest) report_is
      (subst (λ l. text ≡ told_breach l report t.first t.second ++ t.rest) law_is t.told);
}

-- a line is written, or memory ran out
line_so : (f : Family) (kind : Kind) (line : Result (List ℕ) Memory) (answer : Result Output Ending) →
    IfOk line (λ text. IsAbout f (finish_for kind) text) → IsLine line kind answer → Looks f answer
line_so f kind (Ok text) (Ok o) about is =
    subst (λ k. IsAbout f (finish_for k) o.text) (sym is.1) (subst (IsAbout f (finish_for kind)) (sym is.0) about)
line_so f kind (Ok text) (Err ending) about is = absurd is
line_so f kind (Err memory) (Ok o) about is = absurd is
line_so f kind (Err memory) (Err ending) about is = subst (StopsOver f) (sym is) tt

pub held_so : (f : Family) (scripts : ℕ) (line : Result (List ℕ) Memory) (answer : Result Output Ending) → AllKeep f →
    IfOk line (λ text. text ≡ holds_line f scripts) → IsLine line Held answer → Looks f answer
held_so f scripts (Ok text) answer all told is =
    line_so f Held (Ok text) answer (record { all = all; scripts = scripts; told = told }) is
held_so f scripts (Err memory) answer all told is = line_so f Held (Err memory) answer tt is

pub held_to_so : (f : Family) (most scripts : ℕ) (line : Result (List ℕ) Memory) (answer : Result Output Ending) →
    most < f.events → AllKeepTo f most → IfOk line (λ text. text ≡ holds_to_line f most scripts) →
    IsLine line HeldTo answer → Looks f answer
held_to_so f most scripts (Ok text) answer less all told is =
    line_so f HeldTo (Ok text) answer
    (record { most = most; less = less; all = all; scripts = scripts; told = told }) is
held_to_so f most scripts (Err memory) answer less all told is = line_so f HeldTo (Err memory) answer tt is
