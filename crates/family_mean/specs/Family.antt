-- A finite family of scripts, and what it is that each of them keeps a law of the group, or that one is a shortest
-- breach.
use Rattle.std.specs.Prelude.{◌≡◌, ℕ, ◌==◌, ◌&&◌, ◌<◌, ◌≤◌, Bool, false, List, [], ◌∷◌, ◌++◌, length, filter, count_by}
use Rattle.std.specs.Prelude.{slice_get, Some, Ok}
use Rattle.std.specs.List.{concat}
use Rattle.audit_mean.specs.Finding.{audit_of}
use Rattle.audit_mean.specs.declared.law.Law.{Law}
use Rattle.audit_mean.specs.declared.law.Finding.TheVariants.{Holds, Breach}
use Rattle.layer_mean.specs.Tree.{LayerTree}
use Rattle.run_mean.specs.Report.{report_lines}
use Rattle.run_mean.specs.World.{World, first_world, Did, taken, happens}
use Rattle.script_mean.specs.Event.{member_of}
use Rattle.script_mean.specs.declared.event.ScriptEvent.{ScriptEvent}
use Rattle.script_mean.specs.declared.event.ScriptEvent.TheVariants.{Cast, Send, Leave, Tick, Give}
use Rattle.script_mean.specs.declared.script.Script.{Script}
use Rattle.stack_mean.specs.Plans.{plans_of}

-- A family: the stack that runs, and the law that is asked about; a script, whose group its scripts have, and whose
-- casts, sends, ticks and leaves are the acts of its members; how many events a script has at most; and how often a
-- packet may be given again to a member.
pub record Family : Type 0 where
  pub stack : List LayerTree
  pub law : Law
  pub acts : Script
  pub events : ℕ
  pub repeats : ℕ

-- Two events are acts of one kind and of one member.
abbrev pub same_kind : ScriptEvent → ScriptEvent → Bool
same_kind (Cast m body) (Cast m' body') = m == m'
same_kind (Send m to body) (Send m' to' body') = m == m'
same_kind (Leave m) (Leave m') = m == m'
same_kind (Tick m moment) (Tick m' moment') = m == m'
same_kind _ _ = false

-- An event gives packet number k to a member.
abbrev pub gives : (k id : ℕ) → ScriptEvent → Bool
gives k id (Give k' id') = k' == k && id' == id
gives k id _ = false

-- An event is due after others: a packet is given to a member that got it at most `repeats` times before; or a member
-- does the next of its acts of a kind.
abbrev pub IsDue : Family → (past : List ScriptEvent) → ScriptEvent → Type 0
IsDue f past (Give k id) = count_by (gives k id) past ≤ f.repeats
IsDue f past act = slice_get (filter (same_kind act) f.acts.events) (count_by (same_kind act) past) ≡ Some act

-- A member takes it: it isn't refused, and a packet that is given was sent.
abbrev pub IsTaken : Did → Type 0
IsTaken (taken step) = Unit {0}
IsTaken _ = ⊥

-- The world after events.
abbrev pub world_after : List LayerTree → World → List ScriptEvent → World
world_after stack w [] = w
world_after stack w (e ∷ events) = world_after stack (happens stack (plans_of stack) w e).world events

-- The world in which the scripts of a family begin.
abbrev pub world_first : Family → World
world_first f = first_world f.stack f.acts.group f.acts.stamp f.acts.members

-- The world after events from there on.
abbrev pub world_of : Family → List ScriptEvent → World
world_of f past = world_after f.stack (world_first f) past

-- An event of a member of the group may come after others.
pub record MayCome (f : Family) (past : List ScriptEvent) (e : ScriptEvent) : Type 0 where
  pub member : member_of e < f.acts.members
  pub due : IsDue f past e
  pub taken : IsTaken (happens f.stack (plans_of f.stack) (world_of f past) e).did

-- Events may come after others, one after the other.
abbrev pub MayFollow : Family → (past events : List ScriptEvent) → Type 0
MayFollow f past [] = Unit {0}
MayFollow f past (e ∷ events) = MayCome f past e × MayFollow f (past ++ e ∷ []) events

-- Events are those of a script of the family.
pub record IsOf (f : Family) (events : List ScriptEvent) : Type 0 where
  pub few : length events ≤ f.events
  pub follow : MayFollow f [] events

-- The script of events in the group of a family.
abbrev pub script_with : Family → List ScriptEvent → Script
script_with f events = record f.acts { events = events }

-- The report of that script.
abbrev pub report_of : Family → List ScriptEvent → List ℕ
report_of f events = concat (report_lines f.stack (plans_of f.stack) (script_with f events))

-- The report keeps the law.
abbrev pub Keeps : Family → List ScriptEvent → Type 0
Keeps f events = audit_of f.law (report_of f events) ≡ Ok Holds

-- Each script of the family keeps the law.
abbrev pub AllKeep : Family → Type 0
AllKeep f = (events : List ScriptEvent) → IsOf f events → Keeps f events

-- Each that has at most this many events does.
abbrev pub AllKeepTo : Family → (most : ℕ) → Type 0
AllKeepTo f most = (events : List ScriptEvent) → IsOf f events → length events ≤ most → Keeps f events

-- The report of events has a breach of the law, by two of its lines.
pub record Breaks (f : Family) (events : List ScriptEvent) : Type 0 where
  pub first : ℕ
  pub second : ℕ
  pub breach : audit_of f.law (report_of f events) ≡ Ok (Breach first second)

-- A script of the family breaks the law, and each shorter one keeps it.
pub record IsShortestBreach (f : Family) (events : List ScriptEvent) : Type 0 where
  pub of : IsOf f events
  pub breaks : Breaks f events
  pub shorter : (others : List ScriptEvent) → IsOf f others → length others < length events → Keeps f others
