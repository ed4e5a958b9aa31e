-- Lines, as they are made and as the definitions have them.
use Rattle.std.proofs.Common.{arith, ◌≡◌, refl, sym, ◌∙◌, ap, ℕ, zero, suc, ◌-◌, List, ◌++◌, codes, append_assoc}
use Rattle.std.specs.Fmt.{decimal}
use Rattle.pack_mean.specs.File.{entry_name}
use Rattle.end_mean.specs.Status.{status_number, error_line}
use Rattle.outside.specs.Said.{Errors, SaysLine}
use Rattle.job_ends.specs.Shown.{Said, file_end}
use Rattle.file_judge.specs.declared.error.FileError.{FileError}
use Rattle.file_judge.specs.declared.error.FileError.TheVariants.{TooLarge, BadToken, Unexpected, Unknown, Twice}
use Rattle.file_judge.specs.declared.error.FileError.TheVariants.{OverLimit, Kind, Arity, Direction, Header, Initial}
use Rattle.file_judge.specs.declared.error.FileError.TheVariants.{Cycle, TooMany, TooManyJoins, Memory}

-- texts joined from the left, and from the right
pub four_joined : (a x b y : List ℕ) → a ++ (x ++ (b ++ y)) ≡ a ++ x ++ b ++ y
four_joined a x b y = sym (append_assoc (a ++ x) b y ∙ append_assoc a x (b ++ y))

pub six_joined : (a x b y c z : List ℕ) → a ++ (x ++ (b ++ (y ++ (c ++ z)))) ≡ a ++ x ++ b ++ y ++ c ++ z
six_joined a x b y c z = four_joined a x b (y ++ (c ++ z)) ∙ four_joined (a ++ x ++ b) y c z

-- the line of a trace that does something else, of an entry by its name
pub differ_line : (name number act : List ℕ) →
    codes "bypass: entry " ++ (name ++ (codes " case " ++ (number ++ (codes " op " ++ (act ++ codes "\n"))))) ≡
    codes "bypass: " ++ (codes "entry " ++ name ++ codes " case " ++ number ++ codes " op " ++ act) ++ codes "\n"
differ_line name number act =
    ap (λ t. codes "bypass: entry " ++ t) (six_joined name (codes " case ") number (codes " op ") act (codes "\n"))

-- that of a plan's
plan_named : (n : ℕ) → (n ≡ 0 → ⊥) × (n ≡ 1 → ⊥) → codes "plan " ++ decimal (n - 2) ≡ entry_name n
plan_named zero other = absurd (other.0 refl)
plan_named (suc zero) other = absurd (other.1 refl)
plan_named (suc (suc k)) other = let following : suc (suc k) - 2 ≡ k = omega arith in
    ap (λ n. codes "plan " ++ decimal n) following

pub plan_line : (n : ℕ) (number act : List ℕ) → (n ≡ 0 → ⊥) × (n ≡ 1 → ⊥) →
    codes "bypass: entry plan " ++
    (decimal (n - 2) ++ (codes " case " ++ (number ++ (codes " op " ++ (act ++ codes "\n"))))) ≡
    codes "bypass: " ++ (codes "entry " ++ entry_name n ++ codes " case " ++ number ++ codes " op " ++ act) ++
    codes "\n"
plan_line n number act other = differ_line (codes "plan " ++ decimal (n - 2)) number act
    ∙ ap (λ name. codes "bypass: " ++ (codes "entry " ++ name ++ codes " case " ++ number ++ codes " op " ++ act) ++
    codes "\n") (plan_named n other)

-- what is said of a file that is refused
pub says_file : (error : FileError) (e : Errors) →
    SaysLine (error_line (file_end error)) (status_number (file_end error)) e → Said (file_end error) e
says_file TooLarge e h = h
says_file (BadToken at) e h = h
says_file (Unexpected at) e h = h
says_file (Unknown at) e h = h
says_file (Twice at) e h = h
says_file (OverLimit at) e h = h
says_file (Kind at) e h = h
says_file (Arity at) e h = h
says_file (Direction at) e h = h
says_file (Header at) e h = h
says_file (Initial at) e h = h
says_file (Cycle place kind) e h = h
says_file (TooMany weight) e h = h
says_file TooManyJoins e h = h
says_file Memory e h = h
