-- A family over the counter layer, which doesn't put casts in order, and a script of it that breaks a law.
use Rattle.std.specs.Prelude.{◌≡◌, List, [], ◌∷◌, codes, Ok}
use Rattle.audit_mean.specs.Finding.{audit_of}
use Rattle.audit_mean.specs.declared.law.Law.TheVariants.{Sender}
use Rattle.audit_mean.specs.declared.law.Finding.TheVariants.{Breach}
use Rattle.layer_rows.specs.Counter.{counter}
use Rattle.script_mean.specs.declared.event.ScriptEvent.{ScriptEvent}
use Rattle.script_mean.specs.declared.event.ScriptEvent.TheVariants as script
use Rattle.family_mean.specs.Family.{Family, IsOf, Keeps, report_of}

-- Member 0 of three casts twice.
abbrev pub family : Family
family = record {
  stack = counter ∷ [];
  law = Sender;
  acts = record {
    group = 1;
    stamp = 1;
    members = 3;
    events = script.Cast 0 (codes "a") ∷ script.Cast 0 (codes "b") ∷ [];
  };
  events = 4;
  repeats = 0;
}

-- The others get the two casts in different order.
abbrev pub swapped : List ScriptEvent
swapped = script.Cast 0 (codes "a") ∷ script.Cast 0 (codes "b") ∷ script.Give 1 1 ∷ script.Give 2 2 ∷ []

-- The same without its last event.
abbrev pub begun : List ScriptEvent
begun = script.Cast 0 (codes "a") ∷ script.Cast 0 (codes "b") ∷ script.Give 1 1 ∷ []

-- Its report breaks the law, by lines 3 and 4.
abbrev pub IsBroken : Type 0
IsBroken = audit_of family.law (report_of family swapped) ≡ Ok (Breach 3 4)

-- What comes before the last event keeps it.
abbrev pub IsKept : Type 0
IsKept = Keeps family begun

-- It is one of the family.
abbrev pub IsInFamily : Type 0
IsInFamily = IsOf family swapped
