-- Places for what each of two runs keeps.
use Rattle.std.proofs.Common.{ℕ, ◌≤◌, max, arith}
use Rattle.std.proofs.Math.Nat.{le-max_left, le-max_right}
use Rattle.code_tests.specs.Registers.{Needed, HasPlaces, most_needed}
use Rattle.code_tests.specs.declared.values.Values.{Values}

first_within : (a b places : ℕ) → max a b ≤ places → a ≤ places
first_within a b places within = let most = le-max_left a b in omega (arith, within, most)

second_within : (a b places : ℕ) → max a b ≤ places → b ≤ places
second_within a b places within = let most = le-max_right a b in omega (arith, within, most)

-- What has places for the larger of each has places for each.
pub places_for_each : (a b : Needed) (v : Values) → HasPlaces (most_needed a b) v → HasPlaces a v × HasPlaces b v
places_for_each a b v has = (
  record {
    numbers = first_within a.numbers b.numbers _ has.numbers;
    messages = first_within a.messages b.messages _ has.messages;
    rows = first_within a.rows b.rows _ has.rows;
    body = has.body;
  },
  record {
    numbers = second_within a.numbers b.numbers _ has.numbers;
    messages = second_within a.messages b.messages _ has.messages;
    rows = second_within a.rows b.rows _ has.rows;
    body = has.body;
  },
)
