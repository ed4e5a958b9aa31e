-- What it is to find out which events may come next.
use Rattle.std.specs.Prelude.{◌≡◌, ℕ, ◌+◌, ◌<◌, ◌⊎◌, ◌==◌, ◌&&◌, Bool, true, false, List, [], ◌∷◌, ◌++◌, length}
use Rattle.std.specs.Prelude.{take}
use Rattle.std.specs.Prelude.{count_by, nat_lt, Result, Ok, Err}
use Rattle.script_mean.specs.Event.{member_of}
use Rattle.std.specs.declared.alloc.AllocError.{AllocError}
use Rattle.script_mean.specs.declared.event.ScriptEvent.{ScriptEvent}
use Rattle.run_mean.specs.World.{happens}
use Rattle.stack_mean.specs.Plans.{plans_of}
use Rattle.family_mean.specs.Family.{Family, IsTaken, MayCome, MayFollow, world_of, same_kind, gives}
use Rattle.family_search.specs.Trying.{IsIn, event_in, event_of, events_of}
use Rattle.family_search.specs.declared.choice.Choice.{Choice}
use Rattle.family_search.specs.declared.choice.Choice.TheVariants.{Act, Give}

-- Something holds exactly where a test says so.
abbrev pub Decides : Type 0 → Bool → Type 0
Decides P true = P
Decides P false = P → ⊥

-- Whether a member takes an event.
pub record IsTried (f : Family) (past : List Choice) (choice : Choice) (f' : Family) (takes : Bool) : Type 0 where
  pub stays : f' ≡ f
  pub taken : Decides
      (IsTaken (happens f.stack (plans_of f.stack) (world_of f (events_of f past)) (event_of f choice)).did) takes

abbrev pub AnswersTakes : Family → List Choice → Choice → Family → Result Bool AllocError → Type 0
AnswersTakes f past choice f' (Ok takes) = IsTried f past choice f' takes
AnswersTakes f past choice f' (Err error) = f' ≡ f

-- How many packets were sent.
pub record AreSent (f : Family) (past : List Choice) (f' : Family) (sent : ℕ) : Type 0 where
  pub stays : f' ≡ f
  pub sent_are : length (world_of f (events_of f past)).packets ≡ sent

abbrev pub AnswersSent : Family → List Choice → Family → Result ℕ AllocError → Type 0
AnswersSent f past f' (Ok sent) = AreSent f past f' sent
AnswersSent f past f' (Err error) = f' ≡ f

-- How many acts of the kind of an act stand before it.
abbrev pub rank_of : List ScriptEvent → ℕ → ScriptEvent → ℕ
rank_of acts index act = count_by (same_kind act) (take index acts)

-- How many were done.
abbrev pub done_of : List ScriptEvent → List Choice → ScriptEvent → ℕ
done_of acts past act = count_by (λ c. same_kind act (event_in acts c)) past

-- How often a packet was given to a member.
abbrev pub times_of : List ScriptEvent → List Choice → (k id : ℕ) → ℕ
times_of acts past k id = count_by (λ c. gives k id (event_in acts c)) past

-- Whether an act is due: as many acts of its kind were done as stand before it.
abbrev pub act_due : List ScriptEvent → List Choice → ℕ → ScriptEvent → Bool
act_due acts past index act = same_kind act act && rank_of acts index act == done_of acts past act

abbrev pub due_in : List ScriptEvent → (repeats : ℕ) → List Choice → Choice → Bool
due_in acts repeats past (Act index) = act_due acts past index (event_in acts (Act index))
due_in acts repeats past (Give k id) = nat_lt (times_of acts past k id) (repeats + 1)

-- Whether an event is due, and one of a member of the group.
abbrev pub due_by : Family → List Choice → Choice → Bool
due_by f past choice = due_in f.acts.events f.repeats past choice &&
    nat_lt (member_of (event_of f choice)) f.acts.members

-- An event may come; or it mayn't, or isn't due by this choice.
abbrev pub ComesSo : Family → List Choice → Choice → Bool → Type 0
ComesSo f past choice true = MayCome f (events_of f past) (event_of f choice)
ComesSo f past choice false = due_by f past choice ≡ true → MayCome f (events_of f past) (event_of f choice) → ⊥

pub record IsAnswered (f : Family) (past : List Choice) (choice : Choice) (f' : Family) (may : Bool) : Type 0 where
  pub stays : f' ≡ f
  pub may_is : ComesSo f past choice may

abbrev pub AnswersMay : Family → List Choice → Choice → Family → Result Bool AllocError → Type 0
AnswersMay f past choice f' (Ok may) = IsAnswered f past choice f' may
AnswersMay f past choice f' (Err error) = f' ≡ f

-- A choice is among choices.
abbrev pub IsChoice : Choice → List Choice → Type 0
IsChoice c [] = ⊥
IsChoice c (x ∷ xs) = (c ≡ x) ⊎ IsChoice c xs

-- All acts of the first few are among choices; and the giving of the first few packets to each member.
abbrev pub HaveActs : ℕ → List Choice → Type 0
HaveActs acts all = (i : ℕ) → i < acts → IsChoice (Act i) all

abbrev pub HaveGives : (sent members : ℕ) → List Choice → Type 0
HaveGives sent members all = (k id : ℕ) → k < sent → id < members → IsChoice (Give (k + 1) id) all

pub record AreAll (acts sent members : ℕ) (all : List Choice) : Type 0 where
  pub have_acts : HaveActs acts all
  pub have_gives : HaveGives sent members all

-- More choices than before.
abbrev pub Extends : (before after : List Choice) → Type 0
Extends before after = (c : Choice) → IsChoice c before → IsChoice c after

-- The giving of one packet to the first few members.
abbrev pub HaveGiven : (k members : ℕ) → List Choice → Type 0
HaveGiven k members all = (id : ℕ) → id < members → IsChoice (Give k id) all

-- More choices, of which these are the givings of a packet to the first few members.
pub record AreGiven (k members : ℕ) (before after : List Choice) : Type 0 where
  pub given : HaveGiven k members after
  pub extends : Extends before after

-- An event is due by one of these choices.
pub record IsLeft (f : Family) (past left : List Choice) (e : ScriptEvent) : Type 0 where
  pub choice : Choice
  pub among : IsChoice choice left
  pub same : event_of f choice ≡ e
  pub due : due_by f past choice ≡ true

-- Of the events that may come, those that aren't due by a choice of the one list were put into the other.
pub record AreSorted (f : Family) (past : List Choice) (f' : Family) (left next : List Choice) : Type 0 where
  pub stays : f' ≡ f
  pub follow : MayFollow f [] (events_of f past)
  pub others : (e : ScriptEvent) → MayCome f (events_of f past) e → IsLeft f past left e ⊎ IsIn e (events_of f next)
  pub each : (e : ScriptEvent) → IsIn e (events_of f next) → MayCome f (events_of f past) e

-- A choice is put after others, or not.
abbrev pub PutsIf : Bool → (before : List Choice) → Choice → (after : List Choice) → Type 0
PutsIf true before choice after = after ≡ before ++ choice ∷ []
PutsIf false before choice after = after ≡ before
