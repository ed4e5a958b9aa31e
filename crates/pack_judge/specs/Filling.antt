-- What is made of cases with the traces of a file, each of which is judged against the stack's own.
use Rattle.std.specs.Prelude.{◌≡◌, ◌⊎◌, ℕ, suc, List, [], ◌∷◌, ◌++◌, Option, Some, None, Result, Ok, Err}
use Rattle.layer_mean.specs.declared.run.Case.{Case}
use Rattle.layer_mean.specs.declared.run.Case.TheVariants.{First, Second}
use Rattle.trace_mean.specs.Trace.{Operation}
use Rattle.symbol_mean.specs.Symbolic.{symbolic}
use Rattle.bypass_mean.specs.Bypasses.{Made, fused, absent}
use Rattle.bypass_laws.specs.Making.{simplest}
use Rattle.pack_mean.specs.File.{Due}
use Rattle.pack_mean.specs.Accepted.{DifferAt}
use Rattle.pack_laws.specs.Accepted.{chosen_trace, filled_case, second_filled}
use Rattle.synth.specs.Cases.{MadeCases}
use Rattle.trace_core.specs.declared.bypass.Bypass.{Bypass}
use Rattle.trace_core.specs.Trees.{trace_tree, guarded_tree}
use Rattle.pack_judge.specs.declared.error.BypassError.{BypassError}
use Rattle.pack_judge.specs.declared.error.BypassError.TheVariants.{Differs, Memory}

-- The own trace of a case of an entry.
pub record Owned : Type 0 where
  pub entry : ℕ
  pub case : Case
  pub own : List Operation

abbrev pub own_case : Due → Owned
own_case d = record { entry = d.entry; case = d.case; own = d.own }

-- Those of what is made: of a case, of a second one, of an entry, and of entries from a number on.
abbrev pub made_owned : ℕ → Case → Made → List Owned
made_owned n case (fused own guarded) = record { entry = n; case = case; own = own } ∷ []
made_owned n case (absent reason) = []

abbrev pub second_owned : ℕ → Option Made → List Owned
second_owned n None = []
second_owned n (Some own) = made_owned n Second own

abbrev pub cases_owned : ℕ → MadeCases → List Owned
cases_owned n c = made_owned n First c.first ++ second_owned n c.second

abbrev pub all_owned : ℕ → List MadeCases → List Owned
all_owned n [] = []
all_owned n (c ∷ cs) = cases_owned n c ++ all_owned (suc n) cs

-- As far as there are traces, they do what the stack's own do, one after another.
abbrev pub AreSame : List Owned → List (List Operation) → Type 0
AreSame (o ∷ os) (trace ∷ traces) = (symbolic trace ≡ symbolic o.own) × AreSame os traces
AreSame _ _ = Unit {0}

-- A trace does something else than the stack's own of this case, at this act first.
pub record IsOther (o : Owned) (trace : List Operation) (entry : ℕ) (case : Case) (act : ℕ) : Type 0 where
  pub entry_is : o.entry ≡ entry
  pub case_is : o.case ≡ case
  pub differ : DifferAt (symbolic trace) (symbolic o.own) act

-- The first trace that does something else than the stack's own does so in this case of this entry, at this act first.
abbrev pub FirstOther : List Owned → List (List Operation) → (entry : ℕ) → Case → (act : ℕ) → Type 0
FirstOther (o ∷ os) (trace ∷ traces) entry case act =
    IsOther o trace entry case act ⊎ ((symbolic trace ≡ symbolic o.own) × FirstOther os traces entry case act)
FirstOther _ _ entry case act = ⊥

-- What is made of an entry with the first of a file's traces, and the traces after these; and of several entries.
abbrev pub cases_filled : MadeCases → List (List Operation) → MadeCases × List (List Operation)
cases_filled own traces =
    let first = filled_case own.first traces in
    let second = second_filled own.second first.1 in
    (record { first = first.0; second = second.0 }, second.1)

abbrev pub all_filled : List MadeCases → List (List Operation) → List MadeCases × List (List Operation)
all_filled [] traces = ([], traces)
all_filled (c ∷ cs) traces =
    let one = cases_filled c traces in
    let more = all_filled cs one.1 in
    (one.0 ∷ more.0, more.1)

-- This was made of cases with these own traces, and these of a file's traces are left; those that were taken do the
-- same.
pub record Filled {A : Type 0} (owns : List Owned) (whole : A × List (List Operation)) (old : List (List Operation))
    (made : A)
    (new : List (List Operation)) : Type 0 where
  pub made_is : whole.0 ≡ made
  pub left_is : whole.1 ≡ new
  pub same : AreSame owns old

-- It was made, or the first trace that does something else was found, or memory ran out.
abbrev pub Fills : {A : Type 0} → List Owned → A × List (List Operation) → (old new : List (List Operation)) → A →
    Result (Unit {0}) BypassError →
    Type 0
Fills owns whole old new made (Ok done) = Filled owns whole old made new
Fills owns whole old new made (Err (Differs entry case act)) = FirstOther owns old entry case act
Fills owns whole old new made (Err Memory) = Unit {0}
Fills owns whole old new made (Err _) = ⊥

-- A trace does what the stack's own does; or it differs, in this case of this entry.
abbrev pub Agrees : ℕ → Case → (trace own : List Operation) → Result (Unit {0}) BypassError → Type 0
Agrees n case trace own (Ok same) = symbolic trace ≡ symbolic own
Agrees n case trace own (Err (Differs entry at act)) = IsOther (record { entry = n; case = case; own = own }) trace
    entry at act
Agrees n case trace own (Err Memory) = Unit {0}
Agrees n case trace own (Err _) = ⊥

-- A trace that does the same is in place of the stack's own, where it joins no more.
pub record IsReplaced (own trace : List Operation) (b : Bypass) : Type 0 where
  pub made : fused (trace_tree b.trace) (guarded_tree b.guarded) ≡
      fused (chosen_trace own trace) (simplest (chosen_trace own trace))
  pub same : symbolic trace ≡ symbolic own

abbrev pub Replaces : ℕ → Case → (trace own : List Operation) → Bypass → Result (Unit {0}) BypassError → Type 0
Replaces n case trace own b (Ok done) = IsReplaced own trace b
Replaces n case trace own b (Err (Differs entry at act)) = IsOther (record { entry = n; case = case; own = own }) trace
    entry at act
Replaces n case trace own b (Err Memory) = Unit {0}
Replaces n case trace own b (Err _) = ⊥

-- What is made has the hoisted and simplified checks of its trace: in a case, in a second one, in both of an entry.
abbrev pub IsSimple : Made → Type 0
IsSimple (fused trace guarded) = guarded ≡ simplest trace
IsSimple (absent reason) = Unit {0}

abbrev pub SecondIsSimple : Option Made → Type 0
SecondIsSimple None = Unit {0}
SecondIsSimple (Some made) = IsSimple made

pub record AreSimple (c : MadeCases) : Type 0 where
  pub first : IsSimple c.first
  pub second : SecondIsSimple c.second
