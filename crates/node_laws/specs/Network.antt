-- How a network that tells goes on as a node runs.
use Rattle.std.specs.Prelude.{◌≡◌, ℕ, zero, suc, Bool, List, [], ◌∷◌, length, drop, Option, Some, None}
use Rattle.outside.specs.Links.{Network, Sent, Met, Came, Quiet, Broke, next_fate, is_failure, next_met, after_send}
use Rattle.outside.specs.Links.{after_recv}
use Rattle.outside.specs.declared.links.Fate.{Fate}
use Rattle.layer_mean.specs.Tree.{LayerTree}
use Rattle.stack_mean.specs.Plan.{Plan}
use Rattle.run_mean.specs.Mode.{Mode}
use Rattle.run_mean.specs.Journal.{Handed, Heard, datagram, silence, failure}
use Rattle.run_mean.specs.World.{World, happens}
use Rattle.node_laws.specs.Doings.{Doing, does, asks, bears}
use Rattle.node_laws.specs.Losses.{event_sends, first_of}

-- A datagram that is handed on, and what a member hears, as the network tells them.
abbrev pub sent_as : Handed → Sent
sent_as h = record { from = h.from; to = h.to; bytes = h.bytes }

abbrev pub met_as : Heard → Met
met_as (datagram bytes) = Came bytes
met_as silence = Quiet
met_as failure = Broke

-- Which of the next `count` sendings fail.
abbrev pub fates_of : ℕ → List Fate → List Bool
fates_of zero fates = []
fates_of (suc count) fates = is_failure (next_fate fates) ∷ fates_of count (drop 1 fates)

-- A network after these sendings.
abbrev pub after_sends : List Handed → Network → Network
after_sends [] n = n
after_sends (h ∷ handed) n = after_sends handed (after_send (sent_as h) n)

-- A network goes on as a node does this in a mode from a world on: each member hears what the network has for it then,
-- each packet is handed on in its place, and those sendings fail that are to fail.
abbrev pub Goes : Mode → List LayerTree → List Plan → World → List Doing → List (List Bool) → Network → Network → Type 0
Goes mode stack plans w [] failed n n' = n' ≡ n
Goes mode stack plans w (does event ∷ doings) failed n n' =
    (first_of failed ≡ fates_of (length (event_sends mode stack plans w event)) n.fates)
    × Goes mode stack plans (happens stack plans w event).world doings (drop 1 failed)
    (after_sends (event_sends mode stack plans w event) n) n'
Goes mode stack plans w (asks id heard ∷ doings) failed n n' =
    (next_met id n ≡ met_as heard) × Goes mode stack plans w doings failed (after_recv id n) n'
Goes mode stack plans w (bears id ∷ doings) failed n n' = Goes mode stack plans w doings failed n n'

-- Where a network tells, before and after, something holds of what it tells.
abbrev pub Tells : (Network → Network → Type 0) → Option Network → Option Network → Type 0
Tells Holds None None = Unit {0}
Tells Holds (Some n) (Some n') = Holds n n'
Tells Holds None (Some n') = ⊥
Tells Holds (Some n) None = ⊥
