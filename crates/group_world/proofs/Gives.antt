-- A packet that is given by an event.
use Rattle.std.proofs.Common.{◌≡◌, ℕ, List, sym, subst}
use Rattle.layer_mean.specs.Tree.{LayerTree}
use Rattle.stack_mean.specs.Plan.{Plan}
use Rattle.script_mean.specs.declared.event.ScriptEvent.{ScriptEvent}
use Rattle.script_mean.specs.declared.event.ScriptEvent.TheVariants as script
use Rattle.run_mean.specs.World.{World, happens, packet_number, given_packet}
use Rattle.group_world.specs.Asking.{Asks}
use Rattle.group_world.specs.declared.asked.Asked.{Asked}

-- what is asked of a packet that is given is what is asked of the event
pub give_asks : (stack : List LayerTree) (plans : List Plan) (w : World) (e : ScriptEvent) (number id : ℕ) (a : Asked) →
    e ≡ script.Give number id →
    Asks stack plans w (given_packet stack plans w id (packet_number w number)) a →
    Asks stack plans w (happens stack plans w e) a
unfolding happens
give_asks stack plans w e number id a is h =
    subst (λ (x : ScriptEvent). Asks stack plans w (happens stack plans w x) a) (sym is) h
