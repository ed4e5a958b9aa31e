-- What `clap` found, where it took the words and where it refused them.
use Rattle.std.proofs.Common.{◌≡◌, refl, sym, ap, subst, ◌∙◌, true, Bool, false, List, [], ◌∷◌, length, None, Some}
use Rattle.std.proofs.Common.{Option}
use Rattle.std.proofs.Common.{inl, inr, arith, ne_eqb}
use Rattle.std.specs.Prelude.{if◌then◌else◌, ◌≢◌, IfOk, Result, Ok, Err, option_map}
use Rattle.clap.specs.Faults.{fault_of, is_simple_and_free}
use Rattle.clap.specs.Kinds.{HasKind, Kinds}
use Rattle.clap.specs.Simple.{App, is_simple, matches_of}
use Rattle.clap.specs.Walk.{Row, Text, is_empty}
use Rattle.clap.specs.Values.{kind_of}
use Rattle.clap.specs.declared.error.Error.{Error}
use Rattle.clap.specs.declared.error.ErrorKind.TheVariants as kind
use Rattle.command_line.specs.Rules.{IsExact, read_in, rows_in}

-- in words that were taken, what was found
pub found : {S : Type 0} (told app : App) (words : List Text) (rows : List Row) → told ≡ app → IsExact app →
    (is_simple_and_free told ≡ true → fault_of told words ≡ []) →
    (is_simple told ≡ true → (rows ≡ matches_of told words) × S) →
    Some rows ≡ rows_in app words
found told app words rows is exact faultless matches =
    let none : fault_of app words ≡ [] = sym (ap (λ a. fault_of a words) is) ∙
    faultless (ap is_simple_and_free is ∙ exact.free) in
    ap Some ((matches (ap is_simple is ∙ exact.simple)).0 ∙ ap (λ a. matches_of a words) is)
    ∙ ap (λ faults. if is_empty faults then Some (matches_of app words) else None) (sym none)

-- in words that were refused, but for want of memory, nothing
refused : (told app : App) (words : List Text) (error : Error) → told ≡ app → IsExact app →
    (is_simple_and_free told ≡ true → HasKind (fault_of told words) error) → kind_of error ≢ kind.OutOfMemory →
    ◌≡◌ {A = Option (List Row)} None (rows_in app words)
refused told app words error is exact faults memory = go (fault_of app words) among_all where
  among_all : HasKind (fault_of app words) error
  among_all = subst (λ a. HasKind (fault_of a words) error) is (faults (ap is_simple_and_free is ∙ exact.free))

  go : (kinds : Kinds) → HasKind kinds error →
      ◌≡◌ {A = Option (List Row)} None (if is_empty kinds then Some (matches_of app words) else None)
  go kinds (inl out) = absurd (memory out)
  go [] (inr among) = absurd among
  go (one ∷ more) (inr among) =
      ap (λ b. if b then Some (matches_of app words) else None)
      (sym (ne_eqb (length (one ∷ more)) 0 (λ e. omega (arith, e))))

pub none_found : {X E : Type 0} (shown : X → List Row) (told app : App) (words : List Text) (error : Error)
    (r : Result (Option X) E) → told ≡ app → IsExact app →
    (is_simple_and_free told ≡ true → HasKind (fault_of told words) error) →
    IfOk r (λ found. (found ≡ None) × (kind_of error ≢ kind.OutOfMemory)) →
    IfOk r (λ found. option_map shown found ≡ rows_in app words)
none_found shown told app words error (Ok found) is exact faults out = ap (option_map shown) out.0 ∙
    refused told app words error is exact faults out.1
none_found shown told app words error (Err e) is exact faults out = tt

-- what a reader makes of words in which something was found, or nothing
pub read_rows : {A : Type 0} (app : App) (reader : List Row → Option A) (words : List Text) (rows : List Row) →
    Some rows ≡ rows_in app words → reader rows ≡ read_in app reader words
read_rows app reader words rows is = go (is_empty (fault_of app words)) is where
  go : (b : Bool) → Some rows ≡ (if b then Some (matches_of app words) else None) →
      reader rows ≡ (if b then reader (matches_of app words) else None)
  go true is = ap reader (cc is)
  go false is = absurd (cc is)

pub read_none : {A : Type 0} (app : App) (reader : List Row → Option A) (words : List Text) →
    ◌≡◌ {A = Option (List Row)} None (rows_in app words) → None ≡ read_in app reader words
read_none app reader words is = go (is_empty (fault_of app words)) is where
  go : (b : Bool) → ◌≡◌ {A = Option (List Row)} None (if b then Some (matches_of app words) else None) →
      None ≡ (if b then reader (matches_of app words) else None)
  go true is = absurd (cc is)
  go false is = refl
