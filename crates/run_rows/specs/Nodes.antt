-- Two turns of a node that runs two of three members of the counter stack.
use Rattle.std.specs.Prelude.{◌≡◌, ℕ, ◌==◌, if◌then◌else◌, List, [], ◌∷◌, ◌++◌, map, codes, replicate}
use Rattle.std.specs.List.{concat}
use Rattle.layer_mean.specs.Tree.{LayerTree}
use Rattle.script_mean.specs.declared.event.ScriptEvent.{ScriptEvent}
use Rattle.script_mean.specs.declared.event.ScriptEvent.TheVariants as script
use Rattle.script_mean.specs.declared.plan.NodePlan.{NodePlan}
use Rattle.stack_mean.specs.Plans.{plans_of}
use Rattle.run_mean.specs.Mode.{bypass}
use Rattle.run_mean.specs.Journal.{Heard, datagram, silence, failure, Note, fed, deaf, notes_of, journal}
use Rattle.run_mean.specs.Journal.{handed_datagrams}
use Rattle.run_mean.specs.Journal.{node_run, note_lines, node_lines}
use Rattle.layer_rows.specs.Counter.{counter}

-- Members 0 and 1 are the node's own. The cast of member 2 is another node's.
abbrev pub plan : NodePlan
plan = record {
  group = 1;
  stamp = 7;
  peers = replicate 3 (record { ip = 127 ∷ 0 ∷ 0 ∷ 1 ∷ []; port = 47310 });
  turns = (0, script.Cast 0 (codes "hi")) ∷ (1, script.Cast 2 []) ∷ [];
}

-- The packet of the first cast, in full and short.
abbrev pub in_full : List ℕ
in_full =
    0xE5 ∷ 0 ∷ 0 ∷ 0 ∷ 1 ∷ 0 ∷ 0 ∷ 0 ∷ 7 ∷ 0 ∷ 0 ∷ 0 ∷ 0 ∷ 0 ∷ 0 ∷ 0 ∷ 7 ∷ 0 ∷ 0xFF ∷ 1 ∷ 0 ∷ 0 ∷ 0 ∷ 0 ∷ codes "hi"

abbrev pub short : List ℕ
short =
    0xE6 ∷ 0 ∷ 0 ∷ 0 ∷ 1 ∷ 0 ∷ 0 ∷ 0 ∷ 7 ∷ 0 ∷ 0 ∷ 0 ∷ 0 ∷ 0 ∷ 0 ∷ 0 ∷ 7 ∷ 0 ∷ 0xFF ∷ 0 ∷ 0 ∷ 0 ∷ 0 ∷ 0 ∷ codes "hi"

-- In the first turn nothing is heard, and in the second the packet at member 1.
abbrev pub heard : List Heard
heard = silence ∷ silence ∷ silence ∷ datagram in_full ∷ []

-- The journal: ticks, what was heard, and the plan's events of own members.
abbrev pub events : List ScriptEvent
events =
    script.Tick 0 5 ∷ script.Tick 1 5 ∷ script.Cast 0 (codes "hi")
    ∷ script.Tick 0 6 ∷ script.Tick 1 6 ∷ script.Raw 1 in_full ∷ []

-- A failure ends it at once where none is borne; one that is borne is noted in its place.
abbrev pub Journals : Type 0
Journals =
    (notes_of plan (0 ∷ 1 ∷ []) 2 0 (5 ∷ 6 ∷ []) heard ≡ map fed events)
    × (journal (map fed events) ≡ events)
    × (notes_of plan (0 ∷ 1 ∷ []) 2 0 (5 ∷ 6 ∷ []) (datagram [] ∷ failure ∷ []) ≡
    fed (script.Tick 0 5) ∷ fed (script.Tick 1 5) ∷ fed (script.Raw 0 []) ∷ [])
    × (notes_of plan (0 ∷ 1 ∷ []) 1 1 (5 ∷ []) (failure ∷ datagram [] ∷ []) ≡
    fed (script.Tick 0 5) ∷ fed (script.Tick 1 5) ∷ deaf 0 ∷ fed (script.Raw 1 []) ∷ fed (script.Cast 0 (codes "hi")) ∷
    [])

-- The first packet's sending to one of its receivers fails.
abbrev pub fails_once : ℕ → ℕ
fails_once k = if k == 1 then 1 else 0

abbrev pub stack : List LayerTree
stack = counter ∷ []

-- What the node writes: each event after `> `, its report, and the packet that was lost.
abbrev pub Writes : Type 0
Writes = concat (node_lines stack (plans_of stack) fails_once (map fed events)
    (node_run stack (plans_of stack) plan (map fed events))) ≡
    codes "> tick 0 5\n" ++ codes "> tick 1 5\n" ++ codes "> cast 0 6869\n" ++ codes "packet 1 0 all cnt.num(0) 6869\n"
    ++ codes "lost 1\n" ++ codes "> tick 0 6\n" ++ codes "> tick 1 6\n"
    ++ codes "> raw 1 e50000000100000007000000000000000700ff01000000006869\n" ++ codes "deliver 1 cast 0 6869\n"
    ++ codes "end 6\n"

-- What it hands to the network: the cast goes short to both other members.
abbrev pub Hands : Type 0
Hands = handed_datagrams bypass stack (plans_of stack) (node_run stack (plans_of stack) plan (map fed events)) ≡
    record { from = 0; to = 1; bytes = short } ∷ record { from = 0; to = 2; bytes = short } ∷ []

-- Two turns of all three members, the fourth receive of which fails.
abbrev pub without_casts : NodePlan
without_casts = record plan { turns = [] }

abbrev pub notes : ℕ → List Heard → List Note
notes patience told = notes_of without_casts (0 ∷ 1 ∷ 2 ∷ []) 2 patience (0 ∷ 1 ∷ []) told

abbrev pub until_failure : List Heard
until_failure = silence ∷ silence ∷ silence ∷ failure ∷ []

abbrev pub none_lost : ℕ → ℕ
none_lost k = 0

abbrev pub six_ticks : List ℕ
six_ticks =
    codes "> tick 0 0\n" ++ codes "> tick 1 0\n" ++ codes "> tick 2 0\n" ++ codes "> tick 0 1\n" ++ codes "> tick 1 1\n"
    ++ codes "> tick 2 1\n"

abbrev pub noted_lines : List Note → List (List ℕ)
noted_lines ns = note_lines stack (plans_of stack) none_lost ns (node_run stack (plans_of stack) without_casts ns)

abbrev pub ended_lines : List Note → List (List ℕ)
ended_lines ns = node_lines stack (plans_of stack) none_lost ns (node_run stack (plans_of stack) without_casts ns)

-- A node that bears no failure ends there; one that bears it goes on.
abbrev pub GoesDeaf : Type 0
GoesDeaf =
    (concat (noted_lines (notes 0 until_failure)) ≡ six_ticks)
    × (concat (ended_lines (notes 1 (until_failure ++ silence ∷ silence ∷ []))) ≡
    six_ticks ++ codes "deaf 0\n" ++ codes "end 6\n")
