-- What the makers of events answer.
use Rattle.std.specs.Prelude.{◌≡◌, ℕ, ◌≤◌, ◌*◌, List, Result, Ok, Err, slice_index}
use Rattle.std.specs.declared.alloc.AllocError.{AllocError}
use Rattle.script_mean.specs.declared.event.ScriptEvent.{ScriptEvent}
use Rattle.script_text.specs.declared.maker.Maker.{Maker}

-- what was made, and the seed after it; want of memory says nothing
abbrev pub Makes : {A : Type 0} → A × ℕ → Result A AllocError → ℕ → Type 0
Makes made (Ok value) seed = made ≡ (value, seed)
Makes made (Err error) seed = Unit {0}

-- the event that was made, with the cursors and the seed after it; want of memory says nothing
abbrev pub MakesEvent : (ScriptEvent × List ℕ) × ℕ → Result ScriptEvent AllocError → Maker → Type 0
MakesEvent made (Ok event) following = made ≡ ((event, following.cursors.items), following.seed.value)
MakesEvent made (Err error) following = Unit {0}

-- no cursor is higher than twice the number of events
abbrev pub IsWithin : ℕ → List ℕ → Type 0
IsWithin number cursors = (member : ℕ) → slice_index cursors member ≤ 2 * number
