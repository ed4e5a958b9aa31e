-- Why an entry has no shape.
use Rattle.std.specs.Prelude.{ℕ, Result, Ok, Err}

-- At a place, counted from 0, a loop stands on the predicted way; or a handler is rare, or there is none for a message
-- that isn't passed on; or a message is sent whose headers aren't known, since it was stored; or there are too many
-- visits; or the second case is the same as the first, which meets no condition with two predicted ways.
pub data NoShape : Type 0 where
  loop : (place : ℕ) → NoShape
  rare : (place : ℕ) → NoShape
  stored : (place : ℕ) → NoShape
  long : NoShape
  same : NoShape

-- What is drawn from what was drawn before; the first reason against it stays.
abbrev pub drawn_from : {A B : Type 0} → (A → Result B NoShape) → Result A NoShape → Result B NoShape
drawn_from f (Ok x) = f x
drawn_from f (Err reason) = Err reason
