-- A cast over the counter's stack that is given to a member twice: the second time it isn't the one that is due. And
-- the world of two members over that stack.
use Rattle.std.specs.Prelude.{◌≡◌, ℕ, List, [], ◌∷◌, length, map, slice_get, Option, Some, None, codes, Result, Ok}
use Rattle.std.specs.Prelude.{Err}
use Rattle.std.specs.List.{AllByRecursion}
use Rattle.layer_words.specs.declared.events.Kind.TheVariants.{Cast}
use Rattle.layer_mean.specs.declared.run.Case.TheVariants.{First}
use Rattle.packet_mean.specs.Spelling.{full_form, short_form}
use Rattle.stack_mean.specs.NoShape.{NoShape}
use Rattle.stack_mean.specs.Plans.{plans_of}
use Rattle.stack_mean.specs.Shape.{app_cast, packet_entry, Shape, shape}
use Rattle.script_mean.specs.declared.event.ScriptEvent.{ScriptEvent}
use Rattle.script_mean.specs.declared.event.ScriptEvent.TheVariants as script
use Rattle.run_mean.specs.Mode.{Mode, layered, bypass}
use Rattle.file_mean.specs.CounterFile as counter
use Rattle.run_mean.specs.Common.{first_missed}
use Rattle.run_mean.specs.World.{World, first_world, happens, Did, taken}
use Rattle.run_mean.specs.Report.{Moment, moments}
use Rattle.member_laws.specs.Members.{IsChainedWorld, IsChainedMoment}
use Rattle.replay_laws.specs.Datagrams.{datagrams}
use Rattle.replay_laws.specs.Missed.{shape_decisions}

abbrev pub given_twice : List ScriptEvent
given_twice = script.Cast 0 (codes "hi") ∷ script.Give 1 1 ∷ script.Give 1 1 ∷ []

abbrev pub counter_moments : List Moment
counter_moments = moments counter.stack (plans_of counter.stack) (first_world counter.stack 1 7 3) given_twice

-- The numbers of its datagrams in a mode, with the first byte of each.
abbrev pub forms : Mode → List (ℕ × Option ℕ)
forms mode = map (λ d. (d.number, slice_get d.bytes 0))
    (datagrams mode counter.stack (plans_of counter.stack) counter_moments)

-- The first decision of a step that isn't as predicted, and how many decisions a shape has.
abbrev pub missed_by : Did → Option ℕ
missed_by (taken s) = first_missed First s
missed_by _ = None

abbrev pub decisions_of : Result Shape NoShape → ℕ
decisions_of (Ok s) = shape_decisions First counter.stack s
decisions_of (Err reason) = 0

-- The one datagram is short in bypass mode and full where all is layered; the packet's shape has one decision, which
-- the second give misses.
abbrev pub GivenTwice : Type 0
GivenTwice =
    (forms bypass ≡ (1, Some short_form) ∷ []) × (forms layered ≡ (1, Some full_form) ∷ []) ×
    (map (λ m. missed_by m.happening.did) counter_moments ≡ None ∷ None ∷ Some 0 ∷ []) ×
    (decisions_of (shape counter.stack app_cast First) ≡ 0) ×
    (decisions_of (shape counter.stack (packet_entry Cast (1 ∷ [])) First) ≡ 1)

-- Two members over the counter's stack, of whom the first casts.
abbrev pub two_members : World
two_members = first_world counter.stack 1 1 2

abbrev pub one_cast : List ScriptEvent
one_cast = script.Cast 0 (codes "hi") ∷ []

-- Their world is chained at first and after the cast, which sent a packet.
abbrev pub CounterWorld : Type 0
CounterWorld =
    IsChainedWorld counter.stack two_members ×
    AllByRecursion (IsChainedMoment counter.stack) (moments counter.stack (plans_of counter.stack) two_members one_cast)
    ×
    (length (happens counter.stack (plans_of counter.stack) two_members (script.Cast 0 (codes "hi"))).world.packets ≡ 1)
