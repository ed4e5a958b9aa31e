-- A layer that writes before it branches: what it reads in its condition is what it has just written, if both are one
-- place.
use Rattle.std.specs.Prelude.{◌≡◌, ℕ, List, [], ◌∷◌, codes}
use Rattle.msg_core.specs.Chain.{plain}
use Rattle.layer_words.specs.declared.events.Dir.TheVariants.{Down}
use Rattle.layer_words.specs.declared.events.Kind.TheVariants.{Cast}
use Rattle.layer_words.specs.declared.sorts.Likely.TheVariants as likely
use Rattle.layer_words.specs.declared.operators.Operator.TheVariants.{Add, Equal, BitAnd}
use Rattle.layer_words.specs.declared.sorts.Shape.TheVariants.{Array}
use Rattle.layer_mean.specs.Tree.{number, local, element, binary, assign, emit, branch, always, numbers, LayerTree}
use Rattle.layer_mean.specs.State.{State}
use Rattle.layer_mean.specs.State as state
use Rattle.layer_mean.specs.Effect.{Decision, usual, unusual}
use Rattle.layer_mean.specs.Visit.{Visited, fresh, step}
use Rattle.layer_rows.specs.Words.{cast_down, block, handler, cell_of_one, passing, cast}

-- It writes 5 at the place k & 1 of an array, counts the cast in k, and then asks whether the first place has 5.
abbrev pub alias : LayerTree
alias = record {
  name = codes "alias";
  cells = cell_of_one (codes "k") 1 ∷ record { name = codes "e"; form = numbers Array (number 0) } ∷ [];
  headers = passing (codes "a") 0 ∷ passing (codes "b") 0 ∷ [];
  handlers = handler Down Cast 0 always (
      assign 1 (binary BitAnd (element 0 (number 0)) (number 1)) (number 5)
      ∷ assign 0 (number 0) (binary Add (element 0 (number 0)) (number 1))
      ∷ branch likely.First (binary Equal (element 1 (number 0)) (number 5))
      (block (emit (cast_down (local 0) 1 []) ∷ []))
      (block (emit (cast_down (local 0) 2 []) ∷ [])) ∷ []
      ) ∷ [];
}

-- A visit of the layer at the member of rank 0 of 2, with an application's cast.
abbrev pub visit : State → Visited
visit s = step 0 alias s Down (cast 0 (plain []))

-- The state with this count and these elements.
abbrev pub at_count : ℕ → List ℕ → State
at_count k e = record { me = 0; count = 2; ltime = 0; cells = state.numbers (k ∷ []) ∷ state.numbers e ∷ [] }

-- The visit after which the state has this count and these elements, a cast with the header of this tag is sent, and
-- the condition went so.
abbrev pub left : ℕ → List ℕ → ℕ → Decision → Visited
left k e tag decision = record {
  state = at_count k e;
  sent = (Down, cast 0 (record { headers = record { layer = 0; tag = tag; fields = [] } ∷ []; body = [] })) ∷ [];
  decided = decision ∷ [];
}

-- The first cast writes the other element and takes the other way; the second writes the element that is read; the
-- third finds it.
abbrev pub ThreeCasts : Type 0
ThreeCasts =
    (visit (fresh alias 0 2 0) ≡ left 2 (0 ∷ 5 ∷ []) 2 unusual)
    × (visit (at_count 2 (0 ∷ 5 ∷ [])) ≡ left 3 (5 ∷ 5 ∷ []) 1 usual)
    × (visit (at_count 3 (5 ∷ 5 ∷ [])) ≡ left 4 (5 ∷ 5 ∷ []) 1 usual)
