-- The mode in which a member runs, and what a step in it leaves.
use Rattle.std.specs.Prelude.{◌≡◌, ℕ, Bool, true, false, List, Option, Some, None, refl}
use Rattle.std.specs.Coded.{Coded, code_by, coded_bool}
use Rattle.run_mean.specs.Mode.{Mode, layered, bypass}
use Rattle.code_table.specs.Codes.{CodesTree}

-- A member with code of its bypasses runs by it; a member without runs layer by layer.
abbrev pub mode_with : Option CodesTree → Mode
mode_with (Some codes) = bypass
mode_with None = layered

-- In bypass mode a common step is no event to any layer, so each has taken as many as before. After any other step, and
-- after every step in layered mode, they have taken what its run gives.
abbrev pub IsTakenSo : Mode → (common : Bool) → (old ran new : List ℕ) → Type 0
IsTakenSo bypass true old ran new = new ≡ old
IsTakenSo bypass false old ran new = new ≡ ran
IsTakenSo layered common old ran new = new ≡ ran

-- How modes are told apart.
abbrev is_bypass : Mode → Bool
is_bypass layered = false
is_bypass bypass = true

abbrev mode_at : Bool → Mode
mode_at false = layered
mode_at true = bypass

pub mode_back : (mode : Mode) → mode_at (is_bypass mode) ≡ mode
mode_back layered = refl
mode_back bypass = refl

abbrev pub mode_code : Coded Mode
mode_code = code_by Bool coded_bool is_bypass mode_at mode_back
