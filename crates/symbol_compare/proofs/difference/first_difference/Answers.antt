use Rattle.std.proofs.Common.{None, Some, rules}
use Rattle.symbol_compare.proofs.Differing.{traces_told}
use Rattle.symbol_compare.proofs.difference.first_difference.Goals as goal

pub returns-in-None : goal.returns-in-None
returns-in-None c = traces_told _ _ _ _ _ c.as_slice.result.now c.as_slice-2.result.now _ _ None
    c.law_sound.ensures.well
    c.law_sound.ensures.once c.in_ok-acts.ensures c.in_ok-own_acts.ensures (search rules) (search rules)
    c.in-None.ensures

pub returns : goal.returns
returns c = traces_told _ _ _ _ _ c.as_slice.result.now c.as_slice-2.result.now _ _ (Some c.in-Some.place)
    c.law_sound.ensures.well c.law_sound.ensures.once c.in_ok-acts.ensures c.in_ok-own_acts.ensures (search rules)
    (search rules) c.in-Some.ensures
