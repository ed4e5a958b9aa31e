-- Lemmas that go together, for the functions whose goals want them.
use Rattle.symbol_compare.proofs.Acting.{push_made}
use Rattle.symbol_compare.proofs.Sent.{
  all_numbers,
  row_end,
  row_next,
  row_there,
  number_kept,
  chain_end,
  chain_next,
  chain_there,
  chain_later,
  message_sent,
}
use Rattle.symbol_compare.proofs.Growing.{knows_made, knows_numbers, knows_three, knows_act, message_later}
use Rattle.symbol_compare.proofs.Learning.{stepped, operation_there, set_learns, take_learns, pass_learns}
use Rattle.symbol_compare.proofs.Differing.{same_more, ends_apart, ends_same}

-- For `push_act`.
pub ruleset of_push_act = (push_made, all_numbers, knows_made, knows_numbers, knows_three)

-- For `step`.
pub ruleset of_step = (stepped, operation_there, knows_act)

-- For `first_apart`.
pub ruleset of_first_apart = (same_more, ends_apart, ends_same)

-- For `learn`.
pub ruleset of_learn = (set_learns, take_learns, pass_learns)

-- For `row_after`.
pub ruleset of_row_after = (row_end, row_next, row_there, number_kept)

-- For `chain`.
pub ruleset of_chain = (chain_end, chain_next, row_there, chain_there, chain_later, knows_made)

-- For `sent_message`.
pub ruleset of_sent_message = (message_sent, chain_later, message_later, knows_made)
