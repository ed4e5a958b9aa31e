-- Lemmas that go together, for the functions whose goals want them.
use Rattle.pack_read.proofs.Cells.{element_read, square_read}
use Rattle.trace_core.proofs.Makes.{number_made, made_two, made_three, message_three}
use Rattle.pack_read.proofs.Arms.{no_item, not_held}

-- For `cell_number`.
pub ruleset of_cell_number = (element_read, square_read, number_made)

-- For `item`.
pub ruleset of_item = (no_item, number_made, made_two)

-- For `choice`.
pub ruleset of_choice = (number_made, made_two, made_three)

-- For `held`.
pub ruleset of_held = (not_held, number_made, made_two)

-- For `cut`.
pub ruleset of_cut = (number_made, made_two, message_three)
