use Rattle.symbol_compare.proofs.Growing.{knows_grown, stands_grown}
use Rattle.symbol_compare.proofs.Sent.{chain_next, chain_there, row_there}
use Rattle.symbol_compare.specs.Walk.{known_to}
use Rattle.symbol_compare.proofs.sending.+chain.Goals as goal

pub atom_row-requires : goal.atom_row-requires
atom_row-requires t c = record { knows = knows_grown c.in_ok-rest-in-Some.ensures.grows c.requires.knows }

pub put-requires-in-Some : goal.put-requires-in-Some
put-requires-in-Some t c = (
  row_there c.in_ok-fields-in-Some.ensures.stands,
  chain_there (stands_grown c.in_ok-fields-in-Some.ensures.grows c.in_ok-rest-in-Some.ensures.stands),
)

pub returns-in_ok-made-in-Some : goal.returns-in_ok-made-in-Some
returns-in_ok-made-in-Some t c = chain_next (known_to c.args.walk.now) _ _ c.in-Some.link c.in-Some.ensures.parts
    c.in_ok-rest-in-Some.ensures c.in_ok-fields-in-Some.ensures c.in_ok-made-in-Some.ensures
