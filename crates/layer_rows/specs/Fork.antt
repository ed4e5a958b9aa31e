-- A layer with a condition that has two predicted ways: casts are counted, and those of odd numbers get another header
-- than those of even ones.
use Rattle.std.specs.Prelude.{◌≡◌, ℕ, ◌+◌, Bool, true, false, List, [], ◌∷◌, codes, Option, Some, None}
use Rattle.msg_core.specs.Chain.{plain, pushed}
use Rattle.layer_words.specs.declared.events.Dir.TheVariants.{Down}
use Rattle.layer_words.specs.declared.events.Kind.TheVariants.{Cast}
use Rattle.layer_words.specs.declared.sorts.Likely.TheVariants.{Two}
use Rattle.layer_words.specs.declared.operators.Operator.TheVariants.{Add, BitAnd, Equal}
use Rattle.layer_mean.specs.declared.run.Case.TheVariants.{First, Second}
use Rattle.layer_mean.specs.Tree.{number, me, local, element, binary, assign, branch, emit, Expected, always, common}
use Rattle.layer_mean.specs.Tree.{LayerTree}
use Rattle.layer_mean.specs.State.{State}
use Rattle.layer_mean.specs.State as state
use Rattle.layer_mean.specs.Effect.{Decision, usual, unusual, forked, all_as, first_missed}
use Rattle.layer_mean.specs.Visit.{step}
use Rattle.layer_rows.specs.Words.{cast_down, block, handler, cell_of_one, passing, cast}

-- Its handler goes with an expectation.
abbrev pub flip_where : Expected → LayerTree
flip_where expected = record {
  name = codes "flip";
  cells = cell_of_one (codes "k") 0 ∷ [];
  headers = passing (codes "a") 1 ∷ passing (codes "b") 1 ∷ [];
  handlers = handler Down Cast 0 expected (
      assign 0 (number 0) (binary Add (element 0 (number 0)) (number 1))
      ∷ branch Two (binary Equal (binary BitAnd (element 0 (number 0)) (number 1)) (number 1))
      (block (emit (cast_down (local 0) 1 (element 0 (number 0) ∷ [])) ∷ []))
      (block (emit (cast_down (local 0) 2 (element 0 (number 0) ∷ [])) ∷ [])) ∷ []
      ) ∷ [];
}

-- The layer for which every cast is the common case.
abbrev pub flip : LayerTree
flip = flip_where always

-- The own casts are the common case.
abbrev pub own_flip : LayerTree
own_flip = flip_where (common (binary Equal (local 0) me))

-- The layer's state at the member of rank 1 of 2 after k casts.
abbrev pub state_after : ℕ → State
state_after k = record { me = 1; count = 2; ltime = 0; cells = state.numbers (k ∷ []) ∷ [] }

-- A visit of a member's cast after `before` others, and what it is to give: the header's tag, and the decisions.
abbrev pub Flips : LayerTree → (peer before tag : ℕ) → List Decision → Type 0
Flips layer peer before tag decided = step 0 layer (state_after before) Down (cast peer (plain (codes "x"))) ≡ record {
  state = state_after (before + 1);
  sent = (Down, cast peer (pushed (record { layer = 0; tag = tag; fields = (before + 1) ∷ [] }) (plain (codes "x")))) ∷
      [];
  decided = decided;
}

-- Whether decisions went as predicted in the first case and in the second, and the first that didn't in either.
pub record Told : Type 0 where
  pub first : Bool × Option ℕ
  pub second : Bool × Option ℕ

-- These of a list of decisions.
abbrev pub told_cases : List Decision → Told
told_cases decided = record {
  first = (all_as First decided, first_missed First decided);
  second = (all_as Second decided, first_missed Second decided);
}

-- Odd casts go as predicted in the first case, even ones in the second, and those of another member in neither.
abbrev pub Forks : Type 0
Forks =
    Flips flip 1 0 1 (forked First ∷ []) × Flips flip 1 1 2 (forked Second ∷ [])
    × Flips own_flip 1 0 1 (usual ∷ forked First ∷ [])
    × (told_cases (usual ∷ forked First ∷ []) ≡ record { first = (true, None); second = (false, Some 1) })
    × Flips own_flip 1 1 2 (usual ∷ forked Second ∷ [])
    × (told_cases (usual ∷ forked Second ∷ []) ≡ record { first = (false, Some 1); second = (true, None) })
    × Flips own_flip 0 1 2 (unusual ∷ forked Second ∷ [])
    × (told_cases (unusual ∷ forked Second ∷ []) ≡ record { first = (false, Some 0); second = (false, Some 0) })
    × (told_cases (usual ∷ []) ≡ record { first = (true, None); second = (true, None) })
