-- That the packets of predicted steps fit their plans, so that what is sent short can be read.
use Rattle.std.specs.Prelude.{◌≡◌, ℕ, true, List, slice_get, Option, Some, IsSomeAnd}
use Rattle.std.specs.List.{All}
use Rattle.layer_mean.specs.declared.run.Case.{Case}
use Rattle.layer_mean.specs.Tree.{LayerTree}
use Rattle.layer_mean.specs.State.{State}
use Rattle.packet_mean.specs.Plan.{fits}
use Rattle.packet_mean.specs.Spelling.{IsSpellable, SpellsPacket}
use Rattle.packet_mean.specs.declared.here.Here.{Here}
use Rattle.stack_mean.specs.Plan.{Plan}
use Rattle.stack_mean.specs.Plans.{plans_of}
use Rattle.run_mean.specs.Mode.{Mode}
use Rattle.run_mean.specs.Common.{as_sent, wire}
use Rattle.run_mean.specs.Member.{Entered, Output, packet, first_task, step_from}
use Rattle.shape_laws.specs.Bare.{BareRun}
use Rattle.shape_laws.specs.Law.{run_start}

-- A packet that is sent short fits its plan, and its bytes spell it, where it can be spelled.
abbrev pub FitsItsPlan : List Plan → Output × Option ℕ → Type 0
FitsItsPlan plans (packet p, Some k) = IsSomeAnd (slice_get plans k) (λ plan. fits plan p ≡ true)
FitsItsPlan plans _ = Unit {0}

abbrev pub WireSpells : List LayerTree → List Plan → Output × Option ℕ → Type 0
WireSpells stack plans (packet p, plan) = IsSpellable stack p → SpellsPacket stack plans (wire plans p plan) p
WireSpells stack plans _ = Unit {0}

-- Parts that a step's run reads have no headers, as far as it goes as predicted.
abbrev pub IsBare : List LayerTree → Here → List State → Entered → Type 0
IsBare stack here states what = (case : Case) → BareRun case stack (run_start states (first_task stack here.rank what))

-- In either mode, each packet of a step that is sent short fits its plan.
abbrev pub PredictedPacketsFit : Type 0
PredictedPacketsFit = (mode : Mode) (stack : List LayerTree) (here : Here) (id : ℕ) (states : List State)
    (what : Entered) →
    IsBare stack here states what →
    All (FitsItsPlan (plans_of stack)) (as_sent mode stack (plans_of stack) (step_from stack here id states what))

-- So the bytes that are sent of a packet that can be spelled spell it, short or in full.
abbrev pub ShortWiresSpell : Type 0
ShortWiresSpell = (mode : Mode) (stack : List LayerTree) (here : Here) (id : ℕ) (states : List State) (what : Entered) →
    IsBare stack here states what →
    All (WireSpells stack (plans_of stack)) (as_sent mode stack (plans_of stack) (step_from stack here id states what))
