-- Lists of events that are the same place by place.
use Rattle.std.proofs.Common.{◌≡◌, sym, ◌∙◌, ℕ, ◌+◌, ◌<◌, ◌≤◌, List, length, take, get_or, Some, arith}
use Rattle.std.specs.Prelude.{slice_get}
use Rattle.std.proofs.lemmas.List.{take_all, take_more_same}
use Rattle.std.proofs.lemmas.Option.{get_or_from_slice_get, slice_get_within}
use Rattle.script_mean.specs.declared.event.ScriptEvent.{ScriptEvent}

pub same_further : (xs ys : List ScriptEvent) (i : ℕ) (d : ScriptEvent) → i < length xs →
    slice_get ys i ≡ Some (get_or xs i d) → take i xs ≡ take i ys → take (i + 1) xs ≡ take (i + 1) ys
same_further xs ys i d inside is before =
    take_more_same xs ys i d inside (slice_get_within ys i (get_or xs i d) is) before
    (sym (get_or_from_slice_get ys i (get_or xs i d) d is))

pub same_whole : (xs ys : List ScriptEvent) (i : ℕ) → length xs ≡ length ys → length xs ≤ i → take i xs ≡ take i ys →
    xs ≡ ys
same_whole xs ys i same past before =
    sym (take_all i xs past) ∙ before ∙ take_all i ys (omega (arith, same, past))
