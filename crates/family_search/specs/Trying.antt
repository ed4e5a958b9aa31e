-- What it is to try the scripts of a family.
use Rattle.std.specs.Prelude.{◌≡◌, ℕ, ◌+◌, ◌-◌, ◌<◌, ◌⊎◌, Bool, true, false, List, [], ◌∷◌, ◌++◌, length, map}
use Rattle.std.specs.Prelude.{slice_index_or, Result, Ok, Err}
use Rattle.std.specs.declared.alloc.AllocError.{AllocError}
use Rattle.std.specs.declared.alloc.Global.{Global}
use Rattle.std.specs.declared.vec.Vec.{Vec}
use Rattle.script_mean.specs.declared.event.ScriptEvent.{ScriptEvent}
use Rattle.script_mean.specs.declared.event.ScriptEvent.TheVariants as script
use Rattle.family_mean.specs.Family.{Family, MayCome, MayFollow, Keeps, Breaks, AllKeep, AllKeepTo, IsShortestBreach}
use Rattle.family_search.specs.declared.choice.Choice.{Choice}
use Rattle.family_search.specs.declared.choice.Choice.TheVariants.{Act, Give}
use Rattle.family_search.specs.declared.found.Found.{Found}
use Rattle.family_search.specs.declared.found.Found.TheVariants.{Holds, Breach, HoldsTo}
use Rattle.family_search.specs.declared.stop.Stop.{Stop}
use Rattle.family_search.specs.declared.stop.Stop.TheVariants.{Late, Memory}

-- The event that a choice names: one of the acts, or that a packet is given.
abbrev pub event_in : List ScriptEvent → Choice → ScriptEvent
event_in acts (Act index) = slice_index_or acts index (script.Show 0)
event_in acts (Give packet member) = script.Give packet member

-- That of a family.
abbrev pub event_of : Family → Choice → ScriptEvent
event_of f choice = event_in f.acts.events choice

abbrev pub events_of : Family → List Choice → List ScriptEvent
events_of f choices = map (event_of f) choices

-- An event is among events.
abbrev pub IsIn : ScriptEvent → List ScriptEvent → Type 0
IsIn e [] = ⊥
IsIn e (x ∷ xs) = (e ≡ x) ⊎ IsIn e xs

-- Those that may come after others, and no other ones.
pub record AreNext (f : Family) (past next : List ScriptEvent) : Type 0 where
  pub all : (e : ScriptEvent) → MayCome f past e → IsIn e next
  pub each : (e : ScriptEvent) → IsIn e next → MayCome f past e

-- What may come next is answered, or memory ran out; the family stays.
pub record AreAnswered (f : Family) (past : List ScriptEvent) (f' : Family) (next : List ScriptEvent) : Type 0 where
  pub stays : f' ≡ f
  pub are : AreNext f past next

abbrev pub AnswersNext : Family → (past : List Choice) → Family → Result (Vec Choice Global) AllocError → Type 0
AnswersNext f past f' (Ok next) = AreAnswered f (events_of f past) f' (events_of f next.items)
AnswersNext f past f' (Err error) = f' ≡ f

-- A script keeps the law, or breaks it.
abbrev pub Judges : Family → List ScriptEvent → Bool → Type 0
Judges f events true = Keeps f events
Judges f events false = Breaks f events

pub record IsJudged (f : Family) (events : List ScriptEvent) (f' : Family) (keep : Bool) : Type 0 where
  pub stays : f' ≡ f
  pub judged : Judges f events keep

abbrev pub AnswersKeeps : Family → (past : List Choice) → Family → Result Bool AllocError → Type 0
AnswersKeeps f past f' (Ok keep) = IsJudged f (events_of f past) f' keep
AnswersKeeps f past f' (Err error) = f' ≡ f

-- Each script that goes on after these events by this many more keeps the law.
abbrev pub AllGoingOnKeep : Family → ℕ → (past : List ScriptEvent) → Type 0
AllGoingOnKeep f left past =
    (events : List ScriptEvent) → length events ≡ left → MayFollow f past events → Keeps f (past ++ events)

-- They all keep it, and no choice changed.
pub record IsKept (f : Family) (left : ℕ) (past : List Choice) (f' : Family) (after : List Choice) : Type 0 where
  pub stays : f' ≡ f
  pub same : after ≡ past
  pub keep : AllGoingOnKeep f left (events_of f past)

-- One of them was found that doesn't.
pub record IsFound (f : Family) (left : ℕ) (past : List Choice) (f' : Family) (found : List Choice) : Type 0 where
  pub stays : f' ≡ f
  pub longer : length found ≡ length past + left
  pub follow : MayFollow f [] (events_of f found)
  pub breaks : Breaks f (events_of f found)

abbrev pub Tries : Family → ℕ → (past : List Choice) → Family → (after : List Choice) → Result Bool Stop → Type 0
Tries f left past f' after (Ok true) = IsKept f left past f' after
Tries f left past f' after (Ok false) = IsFound f left past f' after
Tries f left past f' after (Err Late) = (f' ≡ f) × (0 < left)
Tries f left past f' after (Err Memory) = f' ≡ f

-- Of the events that may come after others, those that aren't among these were tried.
pub record Remain (f : Family) (left : ℕ) (past next : List ScriptEvent) : Type 0 where
  pub others : (e : ScriptEvent) → MayCome f past e → IsIn e next ⊎ AllGoingOnKeep f (left - 1) (past ++ e ∷ [])
  pub each : (e : ScriptEvent) → IsIn e next → MayCome f past e

-- Between two of them.
pub record Goes (f : Family) (left : ℕ) (past : List Choice) (depth : ℕ) (f' : Family) (now next : List Choice) : Type 0
  where
    pub stays : f' ≡ f
    pub same : now ≡ past
    pub deep : depth ≡ length past
    pub some : 0 < left
    pub follow : MayFollow f [] (events_of f past)
    pub remain : Remain f left (events_of f past) (events_of f next)

-- Each script of a family that is shorter than this keeps the law.
abbrev pub ShorterKeep : Family → ℕ → Type 0
ShorterKeep f n = (events : List ScriptEvent) → length events < n → MayFollow f [] events → Keeps f events

-- Between two lengths.
pub record Grows (f : Family) (n : ℕ) (f' : Family) (past : List Choice) : Type 0 where
  pub stays : f' ≡ f
  pub none : past ≡ []
  pub keep : ShorterKeep f n

-- A search stops at scripts of some events, of which there are shorter ones where its time was up.
abbrev pub MayStop : Stop → (events : ℕ) → Type 0
MayStop Late events = 0 < events
MayStop Memory events = Unit {0}

-- Where its time was up, all shorter ones were tried.
abbrev pub StopsAt : Stop → (events : ℕ) → Result Found AllocError → Type 0
StopsAt Late events (Ok (HoldsTo most)) = most + 1 ≡ events
StopsAt Memory events (Err error) = Unit {0}
StopsAt _ events _ = ⊥

-- Each script of a family keeps the law; or these choices are a shortest script of it that breaks the law; or each
-- script of at most so many events keeps it, which is fewer than the family's have.
abbrev pub Answers : Family → Found → Type 0
Answers f Holds = AllKeep f
Answers f (Breach found) = IsShortestBreach f (events_of f found.items)
Answers f (HoldsTo most) = (most < f.events) × AllKeepTo f most

-- So it is answered, or memory ran out; the family stays.
pub record IsSearched (f f' : Family) (found : Found) : Type 0 where
  pub stays : f' ≡ f
  pub answers : Answers f found

abbrev pub Searches : Family → Family → Result Found AllocError → Type 0
Searches f f' (Ok found) = IsSearched f f' found
Searches f f' (Err error) = f' ≡ f
