-- What is reserved for a layout, as numbers of 32 bits.
use Rattle.stack_mean.specs.Acceptance.{held_at_most}
use Rattle.layer_desk.specs.Need.{Layout}
use Rattle.desk_needs.specs.declared.reserve.Reserve.{Reserve}

abbrev pub layout_reserve : Layout → Reserve
layout_reserve layout = record { numbers = layout.numbers; messages = layout.messages; hand = held_at_most layout.hand }
