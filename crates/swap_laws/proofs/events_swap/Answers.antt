use Rattle.swap_laws.proofs.Swapped.{can_swap}
use Rattle.swap_laws.proofs.events_swap.Goals as goal

pub returns : goal.returns
returns c = can_swap
