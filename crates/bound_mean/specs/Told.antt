-- What a check writes.
use Rattle.std.specs.Prelude.{◌≡◌, ℕ, ◌<◌, List, ◌++◌, codes, Ok}
use Rattle.std.specs.Fmt.{decimal}
use Rattle.audit_mean.specs.declared.law.Law.{Law}
use Rattle.end_mean.specs.Status.{Ended, done, breached}
use Rattle.layer_mean.specs.Tree.{LayerTree}
use Rattle.output_mean.specs.Judged.{Means}
use Rattle.script_mean.specs.Script.{script_of}
use Rattle.script_mean.specs.declared.event.ScriptEvent.{ScriptEvent}
use Rattle.script_mean.specs.declared.script.Script.{Script}
use Rattle.family_mean.specs.Family.{Family, AllKeep, AllKeepTo, IsShortestBreach, report_of, script_with}
use Rattle.hunt_mean.specs.Find.{law_word, told_breach}
use Rattle.bound_mean.specs.Words.{Request, family_of}

-- What was checked: the law, the most events of a script, the repeats of a packet, the members, and how many scripts
-- were tried. Of the last number nothing is claimed.
abbrev pub bounds_text : Law → (events repeats members scripts : ℕ) → List ℕ
bounds_text law events repeats members scripts =
    law_word law ++ codes " events " ++ decimal events ++ codes " repeats " ++ decimal repeats ++ codes " members " ++
    decimal members ++ codes " scripts " ++ decimal scripts ++ codes "\n"

-- That of a family.
abbrev pub bounds_of : Family → (scripts : ℕ) → List ℕ
bounds_of f scripts = bounds_text f.law f.events f.repeats f.acts.members scripts

-- The line that says that each script keeps the law.
abbrev pub holds_line : Family → (scripts : ℕ) → List ℕ
holds_line f scripts = codes "holds " ++ bounds_of f scripts

-- The line that says that each script of at most so many events does.
abbrev pub holds_to_line : Family → (most scripts : ℕ) → List ℕ
holds_to_line f most scripts = codes "holds to " ++ decimal most ++ codes " " ++ bounds_of f scripts

-- The bytes of a stack file and of a script mean these.
pub record AreGiven (file acts : List ℕ) (stack : List LayerTree) (script : Script) : Type 0 where
  pub means : Means file stack
  pub spells : script_of acts ≡ Ok script

-- Each script of a family keeps the law, and the text says so.
pub record IsHeld (f : Family) (text : List ℕ) : Type 0 where
  pub all : AllKeep f
  pub scripts : ℕ
  pub told : text ≡ holds_line f scripts

-- Each script of at most so many events does, and the text says so.
pub record IsHeldTo (f : Family) (text : List ℕ) : Type 0 where
  pub most : ℕ
  pub less : most < f.events
  pub all : AllKeepTo f most
  pub scripts : ℕ
  pub told : text ≡ holds_to_line f most scripts

-- The text spells a shortest script of a family that breaks the law, after comments that tell of the breach.
pub record IsFind (f : Family) (text : List ℕ) : Type 0 where
  pub events : List ScriptEvent
  pub shortest : IsShortestBreach f events
  pub spells : script_of text ≡ Ok (script_with f events)
  pub rest : List ℕ
  pub told : text ≡
      told_breach f.law (report_of f events) shortest.breaks.first shortest.breaks.second ++ rest

-- How a check ends: as a job does, or since its time was up.
pub data Finish : Type 0 where
  ended : Ended → Finish
  stopped : Finish

-- What a check that ends so writes about a family.
abbrev pub IsAbout : Family → Finish → (text : List ℕ) → Type 0
IsAbout f (ended done) text = IsHeld f text
IsAbout f (ended breached) text = IsFind f text
IsAbout f stopped text = IsHeldTo f text
IsAbout f _ text = ⊥

-- And over the bytes of its files.
pub record IsOutput (r : Request) (finish : Finish) (file acts text : List ℕ) : Type 0 where
  pub stack : List LayerTree
  pub script : Script
  pub given : AreGiven file acts stack script
  pub about : IsAbout (family_of r stack script) finish text
