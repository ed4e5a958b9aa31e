-- A step made by its code, in the first case in which the code passes, if there is one.
use Rattle.std.specs.Prelude.{◌≡◌, ℕ, ◌≤◌, Bool, true, false, List, [], map, length, Option, Some, None}
use Rattle.msg_core.specs.Parts.{longest_body}
use Rattle.msg_core.specs.View.{most_members}
use Rattle.layer_mean.specs.State.{State}
use Rattle.layer_mean.specs.declared.run.Case.{Case}
use Rattle.packet_mean.specs.Plan.{fields_of, variable}
use Rattle.packet_mean.specs.declared.here.Here.{Here}
use Rattle.stack_mean.specs.Plan.{Plan}
use Rattle.stack_mean.specs.Acceptance.{largest_weight}
use Rattle.run_mean.specs.Mode.{Mode, layered, bypass}
use Rattle.run_mean.specs.Common.{is_common_in, case_of}
use Rattle.run_mean.specs.Member.{Entered, from_peer}
use Rattle.handler_laws.specs.Steps.{entry_fields}
use Rattle.stack_shapes.specs.Entries.{entry_for}
use Rattle.code_tests.specs.Registers.{input_of}
use Rattle.code_table.specs.Codes.{CodesTree, code_at}
use Rattle.handler_laws.specs.Handled.{step_input, IsHandled}
use Rattle.step_outputs.specs.Gathered.{Gathered}
use Rattle.group_member.specs.Judged.{entry_meant}
use Rattle.group_member.specs.Stepping.{stack_of, plans_in, codes_in, mode_of, in_full, step_over, HasGone}
use Rattle.group_member.specs.Working.{states_in, taken_in, AreSame, IsReady}
use Rattle.group_member.specs.declared.commons.Tried.{Tried}
use Rattle.group_member.specs.declared.entry.Entry.{Entry}
use Rattle.group_member.specs.declared.ground.Ground.{Ground}
use Rattle.group_member.specs.declared.works.Works.{Works}

-- The fields of what entered that the plan of its entry leaves variable; only packets have such fields.
abbrev pub fields_given : List Plan → Entered → List ℕ
fields_given plans (from_peer p) = variable (entry_fields plans (from_peer p)) (fields_of p.message)
fields_given plans what = []

-- Where a member runs by code, these are the fields that the code of what entered is given.
abbrev pub AreGiven : Ground → Entry → List ℕ → Type 0
AreGiven g entry fields = (codes : CodesTree) → codes_in g ≡ Some codes → (here : Here) →
    fields ≡ fields_given (plans_in g) (entry_meant here entry)

-- The code is looked for by the entry of what entered, and given what the member and its input say.
pub record IsTried (g : Ground) (what : Entered) (t : Tried) : Type 0 where
  pub codes : codes_in g ≡ Some t.codes.now
  pub entry : t.entry ≡ entry_for (plans_in g) what
  pub given : input_of t.given ≡ step_input (plans_in g) g.here.now what
  pub members : t.given.count ≤ most_members
  pub body : length t.given.body.now ≤ longest_body

-- Outputs are begun where the member stands, with a place for each that a step may have.
pub record IsBegun (g : Ground) (out : Gathered) : Type 0 where
  pub here : out.here ≡ g.here.now
  pub none : out.outputs ≡ []
  pub places : out.places ≡ largest_weight (stack_of g)

-- The code in a case does what the step does.
abbrev pub Handles : Ground → List State → Entered → CodesTree → Case → Type 0
Handles g states what codes case =
    IsHandled case (stack_of g) (plans_in g) g.here.now g.id states what
    (code_at codes (entry_for (plans_in g) what) case)

-- The step was made by its code: the member is between two steps, its states and what came out are those of the step,
-- and no layer took an event.
pub record IsMade (g : Ground) (old : Works) (what : Entered) (new : Works) (out : Gathered) : Type 0 where
  pub ready : IsReady (stack_of g) g.most new
  pub states_are : states_in new ≡ (step_over g (states_in old) what).work.states
  pub outputs : out.outputs ≡ map in_full (step_over g (states_in old) what).outputs
  pub here : out.here ≡ g.here.now
  pub taken : taken_in new ≡ taken_in old

-- One case: its code passed, and the step is common in this case and was made; or the step isn't common in it, and
-- nothing has changed.
pub record HasPassed (case : Case) (g : Ground) (old : Works) (what : Entered) (new : Works) (out : Gathered) : Type 0
  where
    pub common : is_common_in (stack_of g) (plans_in g) (step_over g (states_in old) what) case ≡ true
    pub made : IsMade g old what new out

pub record HasMissed (case : Case) (g : Ground) (old : Works) (what : Entered) (first : Gathered) (new : Works)
    (out : Gathered) : Type 0 where
  pub uncommon : is_common_in (stack_of g) (plans_in g) (step_over g (states_in old) what) case ≡ false
  pub same : AreSame old new
  pub outs : out ≡ first

abbrev pub Tries : Case → Ground → Works → Entered → Gathered → Works → Gathered → Bool → Type 0
Tries case g old what first new out true = HasPassed case g old what new out
Tries case g old what first new out false = HasMissed case g old what first new out

-- Both cases: the step was made in the first case in which it is common; or nothing has changed, and where there is
-- code the step is common in neither case.
pub record IsMadeIn (case : Case) (g : Ground) (old : Works) (what : Entered) (new : Works) (out : Gathered) : Type 0
  where
    pub mode : mode_of g ≡ bypass
    pub case_is : case_of (stack_of g) (plans_in g) (step_over g (states_in old) what) ≡ Some case
    pub made : IsMade g old what new out

abbrev pub IsUncommon : Mode → Ground → List State → Entered → Type 0
IsUncommon bypass g states what = case_of (stack_of g) (plans_in g) (step_over g states what) ≡ None
IsUncommon layered g states what = Unit {0}

pub record IsLeft (g : Ground) (old : Works) (what : Entered) (new : Works) : Type 0 where
  pub uncommon : IsUncommon (mode_of g) g (states_in old) what
  pub same : AreSame old new

abbrev pub MakesCommon : Ground → Works → Entered → Works → Gathered → Option Case → Type 0
MakesCommon g old what new out (Some case) = IsMadeIn case g old what new out
MakesCommon g old what new out None = IsLeft g old what new

-- And with what comes out sent short: a step that was made counts for no visit.
abbrev pub MakesByCode : Ground → Works → Entered → Works → Gathered → Bool → Type 0
MakesByCode g old what new out true = (visits : ℕ) → HasGone g old what new out visits visits true
MakesByCode g old what new out false = IsLeft g old what new
