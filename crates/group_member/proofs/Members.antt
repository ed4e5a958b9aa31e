-- States of the member that an input is for.
use Rattle.std.proofs.Common.{◌≡◌, ◌∙◌, List, [], ◌∷◌, map, refl}
use Rattle.std.specs.List.{AllByRecursion}
use Rattle.layer_mean.specs.State.{State}
use Rattle.layer_mean.specs.Tree.{LayerTree}
use Rattle.layer_mean.specs.Visit.{fresh}
use Rattle.trace_mean.specs.Worth.{Input}
use Rattle.trace_laws.specs.Members.{AreOf}

-- they count as many members as the input does
pub counts_are : (i : Input) (stack : List LayerTree) (states : List State) → AreOf i stack states →
    AllByRecursion (λ (s : State). s.count ≡ i.count) states
counts_are i [] [] are = tt
counts_are i (layer ∷ stack) (s ∷ states) are = (are.0.count, counts_are i stack states are.1)
counts_are i [] (s ∷ states) are = absurd are
counts_are i (layer ∷ stack) [] are = absurd are

-- fresh ones are so
pub fresh_are_of : (i : Input) (stack : List LayerTree) →
    AreOf i stack (map (λ (layer : LayerTree). fresh layer i.me i.count i.ltime) stack)
fresh_are_of i [] = tt
fresh_are_of i (layer ∷ stack) = (record { me = refl; count = refl; ltime = refl }, fresh_are_of i stack)

-- and so they are at each other input that is for the same member
pub are_also : (i j : Input) → i.me ≡ j.me → i.count ≡ j.count → i.ltime ≡ j.ltime →
    (stack : List LayerTree) (states : List State) →
    AreOf i stack states → AreOf j stack states
are_also i j me count ltime [] [] are = tt
are_also i j me count ltime (layer ∷ stack) (s ∷ states) are = (
  record { me = are.0.me ∙ me; count = are.0.count ∙ count; ltime = are.0.ltime ∙ ltime },
  are_also i j me count ltime stack states are.1,
)
are_also i j me count ltime [] (s ∷ states) are = absurd are
are_also i j me count ltime (layer ∷ stack) [] are = absurd are
