-- Which outputs of a step are sent short: exactly those of a common cast or send of an application whose position in
-- the shape of the step's case has a plan.
use Rattle.std.specs.Prelude.{◌≡◌, ◌↔◌, ℕ, ◌+◌, true, List, take, length, filter, slice_get, Option, Some, None}
use Rattle.std.specs.List.{AllByRecursion}
use Rattle.msg_core.specs.declared.packet.Packet.{Packet}
use Rattle.layer_mean.specs.declared.run.Case.{Case}
use Rattle.layer_mean.specs.Tree.{LayerTree}
use Rattle.layer_mean.specs.State.{State}
use Rattle.packet_mean.specs.Spelling.{short_form}
use Rattle.packet_mean.specs.declared.here.Here.{Here}
use Rattle.stack_mean.specs.Plans.{is_packet, plan_of, outs_of, Group, groups, plans_before, plans_of}
use Rattle.stack_mean.specs.Shape.{ShapeOut, shape}
use Rattle.stack_mean.specs.Shape as entry
use Rattle.run_mean.specs.Mode.{Mode, layered, bypass}
use Rattle.run_mean.specs.Common.{case_of, as_sent, wire}
use Rattle.run_mean.specs.Member.{Entered, app_cast, app_send, Output, packet, Step, step_from}
use Rattle.member_laws.specs.Steps.{IsStep}

-- An application's own cast or send, in a case.
abbrev pub own_group : Entered → Case → Option Group
own_group (app_cast body) case = Some record { entry = entry.app_cast; case = case }
own_group (app_send to body) case = Some record { entry = entry.app_send; case = case }
own_group _ case = None

-- The outputs of a group's shape, and how many packets are among them before a position.
abbrev pub group_outs : List LayerTree → Group → List ShapeOut
group_outs stack g = outs_of (shape stack g.entry g.case)

abbrev pub packets_before : List ShapeOut → ℕ → ℕ
packets_before outs position = length (filter (λ out. is_packet out out.dir) (take position outs))

-- The output at a position of the shape of a group, which comes after n groups, has plan k: it is a packet, and this
-- plan is its own.
pub record HasPlan (stack : List LayerTree) (number : ℕ) (g : Group) (position k : ℕ) : Type 0 where
  pub out : ShapeOut
  pub stands : slice_get (group_outs stack g) position ≡ Some out
  pub packet : is_packet out out.dir ≡ true
  pub is : k ≡ plans_before stack number + packets_before (group_outs stack g) position
  pub listed : slice_get (plans_of stack) k ≡ Some (plan_of out)

-- The step is common, and an application's cast or send; and the output's position in the shape of the step's case has
-- plan k.
pub record IsShort (stack : List LayerTree) (s : Step) (position k : ℕ) : Type 0 where
  pub case : Case
  pub common : case_of stack (plans_of stack) s ≡ Some case
  pub group : Group
  pub own : own_group s.entered case ≡ Some group
  pub number : ℕ
  pub numbered : slice_get groups number ≡ Some group
  pub plan : HasPlan stack number group position k

-- In bypass mode each output of a step is sent short under a plan exactly where this is so.
abbrev pub ShortExactlyWhere : Type 0
ShortExactlyWhere = (stack : List LayerTree) (here : Here) (id : ℕ) (states : List State) (what : Entered) →
    IsStep stack here states what →
    (position : ℕ) (o : Output) (plan : Option ℕ) →
    slice_get (as_sent bypass stack (plans_of stack) (step_from stack here id states what)) position ≡ Some (o, plan) →
    (k : ℕ) →
    (plan ≡ Some k) ↔ IsShort stack (step_from stack here id states what) position k

-- Where all is layered, no output is sent short.
abbrev pub LayeredIsFull : Type 0
LayeredIsFull = (stack : List LayerTree) (s : Step) →
    AllByRecursion (λ x. x.1 ≡ None) (as_sent layered stack (plans_of stack) s)

-- Whether it is due that the output at a position is sent short, in a mode; and whether bytes have the short form,
-- which their first one says.
abbrev pub IsDueShort : Mode → List LayerTree → Step → ℕ → Type 0
IsDueShort layered stack s position = ⊥
IsDueShort bypass stack s position = (k : ℕ) × IsShort stack s position k

abbrev pub AreShort : List ℕ → Type 0
AreShort bytes = slice_get bytes 0 ≡ Some short_form

-- So the bytes as which a packet is sent have the short form exactly where it is due.
abbrev pub WiresAreShortWhereDue : Type 0
WiresAreShortWhereDue = (mode : Mode) (stack : List LayerTree) (here : Here) (id : ℕ) (states : List State)
    (what : Entered) →
    IsStep stack here states what → (position : ℕ) (p : Packet) (plan : Option ℕ) →
    slice_get (as_sent mode stack (plans_of stack) (step_from stack here id states what)) position ≡
    Some (packet p, plan) →
    AreShort (wire (plans_of stack) p plan) ↔ IsDueShort mode stack (step_from stack here id states what) position
