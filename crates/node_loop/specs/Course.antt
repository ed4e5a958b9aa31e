-- What a node has done so far, and what is left.
use Rattle.std.specs.Prelude.{◌≡◌, ℕ, ◌+◌, ◌*◌, ◌<◌, ◌≤◌, Bool, List, [], ◌∷◌, ◌++◌, length, Option, Result, Ok, Err}
use Rattle.outside.specs.declared.sink.SinkError.{SinkError}
use Rattle.outside.specs.declared.sink.SinkError.TheVariants as sink
use Rattle.layer_mean.specs.Tree.{LayerTree}
use Rattle.stack_judge.specs.Answer.{stack_tree}
use Rattle.stack_shapes.specs.Trees.{plans_tree}
use Rattle.stack_mean.specs.Plan.{Plan}
use Rattle.run_mean.specs.Mode.{Mode}
use Rattle.script_mean.specs.declared.event.ScriptEvent.{ScriptEvent}
use Rattle.run_mean.specs.Journal.{Heard, failure}
use Rattle.run_mean.specs.Report.{end_line}
use Rattle.run_mean.specs.World.{World}
use Rattle.group_mean.specs.Node.{failures, receiving}
use Rattle.outside.specs.Lines.{Gains}
use Rattle.group_feed.specs.Standing.{Peopled}
use Rattle.node_laws.specs.Acts.{Act, puts, acts_of, sends_in}
use Rattle.node_laws.specs.Doings.{Doing, does, doings_of, events_of, heard_in}
use Rattle.node_laws.specs.Losses.{following, lost_of, written_of}
use Rattle.node_laws.specs.Network.{Goes, Tells}
use Rattle.node_laws.specs.Stages.{Course, clock_on, heard_on}
use Rattle.node_loop.specs.Around.{Around, count_on, Told}
use Rattle.node_loop.specs.Feeding.{Rests}
use Rattle.node_loop.specs.Passing.{Stops, WentOn}
use Rattle.node_loop.specs.declared.course.Course as code
use Rattle.node_loop.specs.declared.desk.NodeDesk.{NodeDesk}
use Rattle.node_loop.specs.declared.error.NodeError.{NodeError}
use Rattle.node_loop.specs.declared.error.NodeError.TheVariants.{Link, Write, Memory}

-- What a node began with: the mode of its group and its world, of n members, how many failures it bears, and what
-- surrounded it when all its members listened.
pub record Begun : Type 0 where
  pub mode : Mode
  pub first : World
  pub members : ℕ
  pub patience : ℕ
  pub around : Around
  pub clock : Option (List ℕ)

-- Where a node is: its group and its desk, and what surrounds it.
pub record Now : Type 0 where
  pub group : Peopled
  pub desk : NodeDesk
  pub around : Around
  pub clock : Option (List ℕ)

abbrev pub now : Peopled → NodeDesk → Around → Option (List ℕ) → Now
now group desk around clock = record { group = group; desk = desk; around = around; clock = clock }

-- So far a node was told `moments` moments and `answers` answers, of which `borne` are failures; it did what they call
-- for, wrote the lines of that and handed on its packets, and what is left to do depends on what it will be told.
pub record SoFar (stack : List LayerTree) (plans : List Plan) (c : Course) (b : Begun) (moments answers : ℕ)
    (rest : List ℕ → List Heard → List Doing) (borne : ℕ) (at : Now) : Type 0 where
  pub clock : List ℕ
  pub heard : List Heard
  pub done : List Doing
  pub failed : List (List Bool)
  pub world : World
  pub goes : (later : List ℕ) (more : List Heard) →
      doings_of c.plan c.me c.turns b.patience (clock ++ later) (heard ++ more) ≡ done ++ rest later more
  pub moments_are : length clock ≡ moments
  pub answers_are : length heard ≡ answers
  pub asked : heard_in done ≡ heard
  pub borne_are : failures heard ≡ borne
  pub world_is : world ≡ following stack plans b.first done
  pub rests : Rests b.mode stack plans b.members at.group at.desk world
  pub each : length failed ≡ length (events_of done)
  pub counted : at.desk.events ≡ length (events_of done)
  pub gained : Gains b.around.output at.around.output (written_of stack plans b.first done failed)
  pub faults : at.around.faults ≡ count_on b.around.faults borne
  pub sends : at.around.sends ≡ count_on b.around.sends (length (lost_of stack plans b.first done failed))
  pub told : Tells (Goes b.mode stack plans b.first done failed) b.around.told at.around.told
  pub clock_told : Told b.clock at.clock clock

-- No more moments and answers than in all turns, and no more failures than are borne.
pub record Within (c : Course) (b : Begun) (moments answers borne : ℕ) : Type 0 where
  pub turns : moments ≤ c.turns
  pub all : answers ≤ c.turns * length (receiving c.me)
  pub patient : borne ≤ b.patience

-- A node was broken off: it was told these moments and answers, and the acts that it did are the first of those that it
-- does where it goes on to be told moments and silence.
pub record CutOff (stack : List LayerTree) (plans : List Plan) (c : Course) (b : Begun) (e : SinkError) (at : Around)
    (clock_now : Option (List ℕ))
    : Type 0 where
  pub clock : List ℕ
  pub heard : List Heard
  pub failed : List (List Bool)
  pub done : List Act
  pub rest : List Act
  pub turns : length clock ≤ c.turns
  pub answers : length heard ≤ c.turns * length (receiving c.me)
  pub borne : failures heard ≤ b.patience
  pub doings : List Doing
  pub doings_are : doings ≡ doings_of c.plan c.me c.turns b.patience (clock ++ clock_on c clock)
      (heard ++ heard_on c heard)
  pub are : acts_of b.mode stack plans b.first doings failed ++ puts (end_line (length (events_of doings))) ∷ [] ≡
      done ++ rest
  pub stopped : Stops e done rest b.around.output at.output
  pub faults : at.faults ≡ count_on b.around.faults (failures heard)
  pub sends : at.sends ≡ count_on b.around.sends (length (lost_of stack plans b.first doings failed))
  pub told : Tells (WentOn [] (sends_in done) heard) b.around.told at.told
  pub clock_told : Told b.clock clock_now clock

-- A node went on to what is left after a stage, or was broken off.
abbrev pub Advances : List LayerTree → List Plan → Course → Begun → (moments answers : ℕ) →
    (List ℕ → List Heard → List Doing) → (borne : ℕ) → Now →
    Result (Unit {0}) SinkError → Type 0
Advances stack plans c b moments answers rest borne at (Ok done) = SoFar stack plans c b moments answers rest borne at
Advances stack plans c b moments answers rest borne at (Err e) = CutOff stack plans c b e at.around at.clock

-- What feeding an event leads to, where that is the next thing to do.
abbrev pub FedOn : List LayerTree → List Plan → ScriptEvent → Peopled → Peopled → NodeDesk → NodeDesk → Around →
    Around →
    Result (Unit {0}) SinkError → Type 0
FedOn stack plans event g g' d d' a a' r =
    (c : Course) (b : Begun) (moments answers borne : ℕ) (rest : List ℕ → List Heard → List Doing)
    (clock : Option (List ℕ)) →
    Within c b moments answers borne →
    SoFar stack plans c b moments answers (λ later more. does event ∷ rest later more) borne (now g d a clock) →
    Advances stack plans c b moments answers rest borne (now g' d' a' clock) r

-- Nothing is left to do.
abbrev pub nothing_left : List ℕ → List Heard → List Doing
nothing_left clock heard = []

-- One more receive failed than is borne, as the last answer.
pub record DeafAt (stack : List LayerTree) (plans : List Plan) (c : Course) (b : Begun) (moments answers : ℕ) (at : Now)
    : Type 0 where
  pub so : SoFar stack plans c b moments answers nothing_left (b.patience + 1) at
  pub before : List Heard
  pub last : so.heard ≡ before ++ failure ∷ []

-- Members asked: some failures were borne, and `left` more may be. What is left to do depends on that.
pub record Asked (stack : List LayerTree) (plans : List Plan) (c : Course) (b : Begun) (moments answers : ℕ)
    (rest : ℕ → List ℕ → List Heard → List Doing) (left : ℕ) (at : Now) : Type 0 where
  pub borne : ℕ
  pub sum : borne + left ≡ b.patience
  pub so : SoFar stack plans c b moments answers (rest left) borne at

-- A node went deaf after more than `least` answers, and at most `most`.
pub record Deafened (stack : List LayerTree) (plans : List Plan) (c : Course) (b : Begun) (moments least most : ℕ)
    (at : Now) : Type 0 where
  pub answers : ℕ
  pub begun : least < answers
  pub within : answers ≤ most
  pub deaf : DeafAt stack plans c b moments answers at

-- A node went on, went deaf, or was broken off.
abbrev pub Hears : List LayerTree → List Plan → Course → Begun → (moments least most : ℕ) →
    (ℕ → List ℕ → List Heard → List Doing) → (left : ℕ) → Now →
    Result (Unit {0}) NodeError → Type 0
Hears stack plans c b moments least most rest left at (Ok done) = Asked stack plans c b moments most rest left at
Hears stack plans c b moments least most rest left at (Err Link) = Deafened stack plans c b moments least most at
Hears stack plans c b moments least most rest left at (Err Write) =
    CutOff stack plans c b sink.Failed at.around at.clock
Hears stack plans c b moments least most rest left at (Err Memory) =
    CutOff stack plans c b sink.Memory at.around at.clock

-- The stack of a course, its plans of packets, and the rest of it.
abbrev pub stack_in : code.Course → List LayerTree
stack_in c = stack_tree c.stack.now

abbrev pub plans_in : code.Course → List Plan
plans_in c = plans_tree c.plans.now

abbrev pub course_of : code.Course → Course
course_of c = record { plan = c.plan.now; me = c.me.now; turns = c.turns }

-- All turns were made, and no more receives failed than are borne.
pub record MadeAll (stack : List LayerTree) (plans : List Plan) (c : Course) (b : Begun) (at : Now) : Type 0 where
  pub borne : ℕ
  pub few : borne ≤ b.patience
  pub so : SoFar stack plans c b c.turns (c.turns * length (receiving c.me)) nothing_left borne at

-- The node went deaf: the failure that isn't borne came in the turn of the last moment.
pub record MadeSome (stack : List LayerTree) (plans : List Plan) (c : Course) (b : Begun) (at : Now) : Type 0 where
  pub moments : ℕ
  pub answers : ℕ
  pub turns : moments ≤ c.turns
  pub within : answers ≤ moments * length (receiving c.me)
  pub begun : moments * length (receiving c.me) < answers + length (receiving c.me)
  pub deaf : DeafAt stack plans c b moments answers at

-- All turns were made, or the node went deaf in one of them, or it was broken off.
abbrev pub Made : List LayerTree → List Plan → Course → Begun → Now → Result (Unit {0}) NodeError → Type 0
Made stack plans c b at (Ok done) = MadeAll stack plans c b at
Made stack plans c b at (Err Link) = MadeSome stack plans c b at
Made stack plans c b at (Err Write) = CutOff stack plans c b sink.Failed at.around at.clock
Made stack plans c b at (Err Memory) = CutOff stack plans c b sink.Memory at.around at.clock
