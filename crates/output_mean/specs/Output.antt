-- What each job writes, over the bytes of its files: the headline is the case of a replay.
use Rattle.std.specs.Prelude.{◌≡◌, ℕ, ◌+◌, ◌*◌, ◌<◌, ◌≤◌, All, Bool, List, [], ◌∷◌, ◌++◌, codes, length, Ok}
use Rattle.std.specs.Fmt.{decimal}
use Rattle.std.specs.List.{concat}
use Rattle.audit_mean.specs.Finding.{audit_of}
use Rattle.audit_mean.specs.declared.law.Law.{Law}
use Rattle.audit_mean.specs.declared.law.Finding.{Finding}
use Rattle.audit_mean.specs.declared.law.Finding.TheVariants.{Holds, Breach}
use Rattle.layer_mean.specs.Tree.{LayerTree}
use Rattle.script_mean.specs.Generate.{generate}
use Rattle.script_mean.specs.NodePlan.{node_plan}
use Rattle.script_mean.specs.Script.{script_of}
use Rattle.script_mean.specs.declared.plan.NodePlan.{NodePlan}
use Rattle.script_mean.specs.declared.script.Script.{Script}
use Rattle.stack_mean.specs.Plans.{plans_of}
use Rattle.run_mean.specs.Mode.{Mode}
use Rattle.run_mean.specs.Journal.{Heard, failure, note_lines, node_lines, Handed}
use Rattle.group_mean.specs.Told.{replay_lines}
use Rattle.run_mean.specs.Tally.{tally, accepted_lines}
use Rattle.miss_mean.specs.Text.{explained_lines}
use Rattle.group_mean.specs.Node.{Surroundings, NodeWords, failed_sends, failures, node_notes, node_moments, handed_by}
use Rattle.group_mean.specs.Node.{receiving}
use Rattle.group_mean.specs.Room.{HasRoom}
use Rattle.output_mean.specs.Judged.{Means}

-- `check`: the file means an accepted stack, whose places are counted.
pub record Checks (file out : List ℕ) : Type 0 where
  pub stack : List LayerTree
  pub means : Means file stack
  pub written : out ≡ concat (accepted_lines stack)

-- `replay`: whatever stack the file means and whatever script the other bytes spell, what is written is the output of
-- the layered meaning, in either mode. Without the packets' bytes and the number of visits it is the report, which
-- knows of no mode; with the events it tells these, too.
pub record Replays (file script_text : List ℕ) (mode : Mode) (events wire count : Bool) (out : List ℕ) : Type 0 where
  pub stack : List LayerTree
  pub means : Means file stack
  pub script : Script
  pub spelled : script_of script_text ≡ Ok script
  pub room : HasRoom stack script.members
  pub written : out ≡ concat (replay_lines stack (plans_of stack) script mode events wire count)

-- `explain`: whatever stack the file means and whatever script the other bytes spell, what is written says of each step
-- that was taken and wasn't common what it lacked, with the lines of that file.
pub record Explains (file script_text out : List ℕ) : Type 0 where
  pub stack : List LayerTree
  pub means : Means file stack
  pub script : Script
  pub spelled : script_of script_text ≡ Ok script
  pub room : HasRoom stack script.members
  pub written : out ≡ concat (explained_lines means.file stack (plans_of stack) script)

-- `load`: a generated script is run, and its lines are counted.
pub record Loads (file : List ℕ) (seed events members : ℕ) (raw : Bool) (mode : Mode) (out : List ℕ) : Type 0 where
  pub stack : List LayerTree
  pub means : Means file stack
  pub room : HasRoom stack members
  pub written : out ≡ concat (tally stack (plans_of stack) mode (generate seed events members raw))

-- A node whose files are good: an accepted stack, and a plan of a group that has its members.
pub record IsNode (file plan_text : List ℕ) (me : List ℕ) : Type 0 where
  pub stack : List LayerTree
  pub means : Means file stack
  pub plan : NodePlan
  pub spelled : node_plan plan_text ≡ Ok plan
  pub members : All (λ id. id < length plan.peers) me
  pub room : HasRoom stack (length plan.peers)

-- `node`: own members of the plan's group run over a network through all turns, each with a moment and an answer for
-- each receive of an own member; no more of these answers are failures than are borne. What is written and what is
-- handed to the network are those of the journal.
pub record Serves (file plan_text : List ℕ) (words : NodeWords) (s : Surroundings) (out : List ℕ) (sent : List Handed) :
    Type 0 where
  pub node : IsNode file plan_text words.me
  pub moments : length s.clock ≡ words.turns
  pub answers : length s.heard ≡ words.turns * length (receiving words.me)
  pub borne : failures s.heard ≤ words.patience
  pub written :
      out ≡ concat (node_lines node.stack (plans_of node.stack) (failed_sends s) (node_notes node.plan words s)
      (node_moments node.stack node.plan words s))
  pub handed_on : sent ≡ handed_by node.stack node.plan words s

-- A node that couldn't listen made no turn.
pub record CannotListen (file plan_text : List ℕ) (words : NodeWords) (s : Surroundings) (out : List ℕ)
    (sent : List Handed) : Type 0 where
  pub node : IsNode file plan_text words.me
  pub moments : s.clock ≡ []
  pub answers : s.heard ≡ []
  pub written : out ≡ []
  pub handed_on : sent ≡ []

-- A node that ended at a failed receive, one more than it bears: the last answer, in the turn of the last moment. What
-- was written before is the whole journal's.
pub record GoesDeaf (file plan_text : List ℕ) (words : NodeWords) (s : Surroundings) (out : List ℕ) (sent : List Handed)
    : Type 0 where
  pub node : IsNode file plan_text words.me
  pub before : List Heard
  pub last : s.heard ≡ before ++ failure ∷ []
  pub borne : failures before ≡ words.patience
  pub turns : length s.clock ≤ words.turns
  pub within : length s.heard ≤ length s.clock * length (receiving words.me)
  pub begun : length s.clock * length (receiving words.me) < length s.heard + length (receiving words.me)
  pub written :
      out ≡ concat (note_lines node.stack (plans_of node.stack) (failed_sends s) (node_notes node.plan words s)
      (node_moments node.stack node.plan words s))
  pub handed_on : sent ≡ handed_by node.stack node.plan words s

-- The line of an audit's finding.
abbrev pub finding_line : Finding → List ℕ
finding_line Holds = codes "holds\n"
finding_line (Breach first second) = codes "breach " ++ decimal first ++ codes " " ++ decimal second ++ codes "\n"

-- `audit`: the file is a report, and what is written is what a law of the group gives on it.
pub record Audits (file : List ℕ) (law : Law) (out : List ℕ) : Type 0 where
  pub finding : Finding
  pub found : audit_of law file ≡ Ok finding
  pub written : out ≡ finding_line finding
