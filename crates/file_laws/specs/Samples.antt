-- The laws on small files: the counter's, and one with queues of messages and of parts at two places.
use Rattle.std.specs.Prelude.{◌≡◌, [], ◌∷◌, map, Some, None, codes}
use Rattle.msg_core.specs.Chain.{plain}
use Rattle.layer_words.specs.declared.events.Dir.TheVariants.{Down}
use Rattle.layer_words.specs.declared.events.Kind.TheVariants.{Cast}
use Rattle.layer_mean.specs.declared.run.Event.{Event}
use Rattle.layer_mean.specs.Event.{event_of}
use Rattle.layer_mean.specs.Visit.{fresh}
use Rattle.layer_mean.specs.Queue.{Task, run}
use Rattle.fault_mean.specs.FileFault.{file_fault}
use Rattle.file_mean.specs.CounterFile as counter
use Rattle.file_mean.specs.QueuesFile as queues
use Rattle.chain_laws.specs.Runs.{TypedStack, IsChainedTask, IsChainedLine}
use Rattle.file_laws.specs.Literals.{LiteralFile}
use Rattle.chain_laws.specs.Named.{NamedStack}

-- Their numbers are in range and they have no faults, so their stacks are typed.
abbrev pub CounterIsTyped : Type 0
CounterIsTyped = LiteralFile counter.file × (file_fault counter.file ≡ None) × TypedStack counter.stack

abbrev pub QueuesAreTyped : Type 0
QueuesAreTyped = LiteralFile queues.file × (file_fault queues.file ≡ None) × TypedStack queues.stack

-- And all that their layers name is there.
abbrev pub SmallFilesAreNamed : Type 0
SmallFilesAreNamed = NamedStack counter.stack × NamedStack queues.stack

-- A cast that comes from above the counter is chained, and so is all that its run leaves at the first of three members.
abbrev pub first_cast : Task Event
first_cast = record { at = 1; dir = Down; event = event_of Cast (0 ∷ []) (Some (plain (codes "hi"))) }

abbrev pub CounterRuns : Type 0
CounterRuns =
    IsChainedTask counter.stack first_cast
    × IsChainedLine counter.stack (run 4 counter.stack (map (λ layer. fresh layer 0 3 0) counter.stack) first_cast)
