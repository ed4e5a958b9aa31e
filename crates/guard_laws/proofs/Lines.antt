-- What reads of a log are worth: the lines of the table.
use Rattle.std.proofs.Common.{◌≡◌, ℕ, zero, suc, ◌+◌, ◌-◌, ◌*◌, ◌^◌, ◌<◌, ◌≤◌, ◌==◌, nat_lt, Bool, true, false, ◌&&◌}
use Rattle.std.proofs.Common.{◌⊎◌, inl, inr, if◌then◌else◌, List, [], ◌∷◌, ◌++◌, map, length, drop, slice_get}
use Rattle.std.proofs.Common.{slice_index, slice_index_or, Option, option_map, Some, None, refl, sym, ap, ap₂, ◌∙◌}
use Rattle.std.proofs.Common.{subst, arith}
use Rattle.std.proofs.lemmas.Bool.{eqb-true, eqb-false, eq-eqb, ltb-true, ltb-false, lt-ltb, le-ltb, ne_eqb, and_from}
use Rattle.std.proofs.lemmas.Bool.{and_parts, or_cases, cases_lt, or_parts}
use Rattle.std.proofs.lemmas.List.{length-map, length-drop}
use Rattle.std.proofs.lemmas.Option.{slice_get_past}
use Rattle.std.proofs.lemmas.Nat.{mul-add-lt, same_from_place}
use Rattle.std.proofs.Math.Nat.{mod-eq_of_lt, add-mod_right}
use Rattle.layer_words.specs.declared.operators.Operator.TheVariants.{Add, Subtract, Less}
use Rattle.layer_mean.specs.declared.run.Row.{Row}
use Rattle.layer_mean.specs.State.{State, number_at, flat_index, rows_at}
use Rattle.layer_mean.specs.Tree.{part}
use Rattle.layer_mean.specs.Value.{is_true, of_bool, wrapped, number_in, message_in}
use Rattle.trace_mean.specs.Trace.{number, peer, field, bound, taken_number, value, TraceNumber, atom, me, count, ltime}
use Rattle.trace_mean.specs.Trace.{element, square, rows, item, size, binary, apply, pick}
use Rattle.trace_mean.specs.Worth.{Input, Kept, state_of, number_of}
use Rattle.guard_mean.specs.Hoist.{Write, wrote, wrote_square, put, got, zero_number, both, equal, is_zero, are_zero}
use Rattle.guard_mean.specs.Hoist.{is_here, set_term, element_term, square_condition, square_term, hit, rows_term, Part}
use Rattle.guard_mean.specs.Hoist.{number_part, size_part, part_at_entry, part_of_put, is_put, deep_term, part_term}
use Rattle.guard_mean.specs.Hoist.{moves}
use Rattle.guard_laws.specs.Sound.{extent, fits_extent, Squares}

-- what a guard knows of a row
pub record Outline : Type 0 where
  pub numbers : List ℕ
  pub size : ℕ

abbrev pub outline : Row → Outline
outline r = record { numbers = r.numbers; size = length (message_in part (Some r)).body }

pub true_of : (b : Bool) → is_true (of_bool b) ≡ b
true_of true = refl
true_of false = refl

pub get_map : {A B : Type 0} (f : A → B) (xs : List A) (k : ℕ) → slice_get (map f xs) k ≡ option_map f (slice_get xs k)
get_map f [] k = refl
get_map f (x ∷ xs) zero = refl
get_map f (x ∷ xs) (suc k) = get_map f xs k

pub read_map : {A B : Type 0} (f : A → B) (xs : List A) (k : ℕ) (d : A) → slice_index_or (map f xs) k (f d) ≡
    f (slice_index_or xs k d)
read_map f [] k d = refl
read_map f (x ∷ xs) zero d = refl
read_map f (x ∷ xs) (suc k) d = read_map f xs k d

pub get_last : {A : Type 0} (xs : List A) (x : A) → slice_get (xs ++ x ∷ []) (length xs) ≡ Some x
get_last [] x = refl
get_last (y ∷ xs) x = get_last xs x

pub get_before : {A : Type 0} (xs : List A) (x : A) (k : ℕ) → k < length xs → slice_get (xs ++ x ∷ []) k ≡
    slice_get xs k
get_before [] x k h = absurd (omega (arith, h))
get_before (y ∷ xs) x zero h = refl
get_before (y ∷ xs) x (suc k) h = get_before xs x k (omega (arith, h))

pub get_after : {A : Type 0} (xs : List A) (k : ℕ) → slice_get (drop 1 xs) k ≡ slice_get xs (suc k)
get_after [] k = refl
get_after (x ∷ xs) k = refl

pub less_last : (k n : ℕ) → (k ≡ n → ⊥) → k < suc n → k < n
less_last k n other h = go (cases_lt k n) where
  go : (k < n) ⊎ (n ≤ k) → k < n
  go (inl l) = l
  go (inr g) = absurd (other (omega (arith, g, h)))

-- what is read of a row that may be there
abbrev pub part_in : Part → Option Outline → ℕ
part_in f None = 0
part_in (number_part f) (Some o) = slice_index o.numbers f
part_in size_part (Some o) = o.size

pub entry_number : (f : ℕ) (r : Option Row) → number_in f r ≡ part_in (number_part f) (option_map outline r)
entry_number f None = refl
entry_number f (Some r) = refl

pub entry_size : (r : Option Row) → length (message_in part r).body ≡ part_in size_part (option_map outline r)
entry_size None = refl
entry_size (Some r) = refl

module _ (i : Input) (kept : Kept) (ss : List State) where
  -- numbers and rows as a log leaves them
  abbrev pub logged_number : List Write → ℕ → ℕ → ℕ → ℕ
  logged_number [] p c j = number_at (state_of ss p) c j
  logged_number (wrote q d k x ∷ log) p c j =
      if is_here p c q d && ((j == number_of i kept ss k) && nat_lt j (extent ss p c)) then number_of i kept ss x else
      logged_number log p c j
  logged_number (wrote_square q d r k x ∷ log) p c j =
      if is_here p c q d &&
      ((j == flat_index i.count (number_of i kept ss r) (number_of i kept ss k)) && nat_lt j (extent ss p c))
      then number_of i kept ss x else logged_number log p c j
  logged_number (_ ∷ log) p c j = logged_number log p c j

  abbrev pub logged_rows : List Write → ℕ → ℕ → ℕ → List Outline
  logged_rows [] p c j = map outline (rows_at (state_of ss p) c j)
  logged_rows (put q d k xs b ∷ log) p c j = if is_here p c q d && (j == number_of i kept ss k)
      then logged_rows log p c j ++ record { numbers = map (number_of i kept ss) xs; size = number_of i kept ss b } ∷ []
      else logged_rows log p c j
  logged_rows (got q d k ∷ log) p c j =
      if is_here p c q d && (j == number_of i kept ss k) then drop 1 (logged_rows log p c j) else logged_rows log p c j
  logged_rows (_ ∷ log) p c j = logged_rows log p c j

  -- what is known of the writes of a log
  abbrev pub LogFits : Squares → List Write → Type 0
  LogFits sq [] = Unit {0}
  LogFits sq (wrote q d k x ∷ log) = (sq q d ≡ false) × (0 < i.count) × (fits_extent i.count (extent ss q d) k ≡ true) ×
      LogFits sq log
  LogFits sq (wrote_square q d r k x ∷ log) = (sq q d ≡ true) × (extent ss q d ≡ i.count * i.count) × LogFits sq log
  LogFits sq (put q d k xs b ∷ log) = (suc (length (logged_rows log q d (number_of i kept ss k))) < 2 ^ 32) ×
      ((j : ℕ) → length (logged_rows log q d j) < 2 ^ 32) × LogFits sq log
  LogFits sq (got q d k ∷ log) =
      (0 < length (logged_rows log q d (number_of i kept ss k))) × ((j : ℕ) → length (logged_rows log q d j) < 2 ^ 32) ×
      LogFits sq log

  pub zero_worth : (e : TraceNumber) → is_zero e ≡ true → number_of i kept ss e ≡ 0
  zero_worth (atom (number n)) is = eqb-true n 0 is
  zero_worth (atom peer) is = absurd (cc is)
  zero_worth (atom (field k)) is = absurd (cc is)
  zero_worth (atom (bound k)) is = absurd (cc is)
  zero_worth (atom (taken_number r k)) is = absurd (cc is)
  zero_worth (atom (value k)) is = absurd (cc is)
  zero_worth me is = absurd (cc is)
  zero_worth count is = absurd (cc is)
  zero_worth ltime is = absurd (cc is)
  zero_worth (element p c e) is = absurd (cc is)
  zero_worth (square p c r k) is = absurd (cc is)
  zero_worth (rows p c e) is = absurd (cc is)
  zero_worth (item p c e r k) is = absurd (cc is)
  zero_worth (size m) is = absurd (cc is)
  zero_worth (binary o a b) is = absurd (cc is)
  zero_worth (apply f a) is = absurd (cc is)
  zero_worth (pick c a b) is = absurd (cc is)

  -- a condition with two parts
  both_worth : (a b : TraceNumber) → is_true (number_of i kept ss (both a b)) ≡
      (is_true (number_of i kept ss a) && is_true (number_of i kept ss b))
  both_worth a b = true_of _

  -- an index is within n exactly where it is within the extent
  inside : (n many : ℕ) (d : TraceNumber) (x : ℕ) → 0 < n → fits_extent n many d ≡ true → x ≡ number_of i kept ss d →
      nat_lt x n ≡ nat_lt x many
  inside n many d x some fits is = go (or_cases (many == n) ((many == 1) && is_zero d) fits) where
    one : (many ≡ 1) → is_zero d ≡ true → nat_lt x n ≡ nat_lt x many
    one only zeroed = let none : x ≡ 0 = is ∙ zero_worth d zeroed in lt-ltb x n (omega (arith, none, some)) ∙
        sym (lt-ltb x many (omega (arith, none, only)))

    go : ((many == n) ≡ true) ⊎ (((many == 1) && is_zero d) ≡ true) → nat_lt x n ≡ nat_lt x many
    go (inl same) = ap (nat_lt x) (sym (eqb-true many n same))
    go (inr only) = let parts = and_parts (many == 1) (is_zero d) only in one (eqb-true many 1 parts.0) parts.1

  -- the line of a set
  set_line : (d x e rest : TraceNumber) (many : ℕ) → 0 < i.count → fits_extent i.count many d ≡ true →
      number_of i kept ss (set_term d x e rest) ≡
      (if (number_of i kept ss e == number_of i kept ss d) && nat_lt (number_of i kept ss e) many then number_of i kept
      ss x else number_of i kept ss rest)
  set_line d x e rest many some fits = go (are_zero d e) refl where
    ve : ℕ
    ve = number_of i kept ss e

    vd : ℕ
    vd = number_of i kept ss d

    chosen : Bool → ℕ
    chosen b = if b then number_of i kept ss x else number_of i kept ss rest

    same_test : (b : Bool) → (ve == vd) ≡ b → (b && nat_lt ve i.count) ≡ (b && nat_lt ve many)
    same_test true is = inside i.count many d ve some fits (eqb-true ve vd is)
    same_test false is = refl

    go : (b : Bool) → are_zero d e ≡ b →
        number_of i kept ss (if b then x else pick (both (equal e d) (binary Less e count)) x rest) ≡
        chosen ((ve == vd) && nat_lt ve many)
    go true zeroed =
        let parts = and_parts (is_zero d) (is_zero e) zeroed in
        let none : ve ≡ 0 = zero_worth e parts.1 in
        let start : vd ≡ 0 = zero_worth d parts.0 in
        let there : nat_lt ve many ≡ true = sym (inside i.count many d ve some fits (none ∙ sym start)) ∙
        lt-ltb ve i.count (omega (arith, none, some)) in
        sym (ap chosen (ap₂ (λ a b. a && b) (eq-eqb ve vd (none ∙ sym start)) there))
    go false other =
        ap chosen (both_worth (equal e d) (binary Less e count) ∙
        ap₂ (λ a b. a && b) (true_of (ve == vd)) (true_of (nat_lt ve i.count))
        ∙ same_test (ve == vd) refl)

  -- a cell that is here is the same
  here : (p c q d : ℕ) → is_here p c q d ≡ true → (q ≡ p) × (d ≡ c)
  here p c q d is = let parts = and_parts (p == q) (c == d) is in
      (sym (eqb-true p q parts.0), sym (eqb-true c d parts.1))

  moved : (P : ℕ → ℕ → Type 0) (p c q d : ℕ) → is_here p c q d ≡ true → P q d → P p c
  moved P p c q d is h = let same = here p c q d is in subst (λ x. P p x) same.1 (subst (λ x. P x d) same.0 h)

  pub element_line : (sq : Squares) (log : List Write) (p c : ℕ) (e : TraceNumber) → sq p c ≡ false → LogFits sq log →
      number_of i kept ss (element_term log p c e) ≡ logged_number log p c (number_of i kept ss e)
  element_line sq [] p c e flat fits = refl
  element_line sq (wrote q d k x ∷ log) p c e flat fits =
      go (is_here p c q d) refl (element_line sq log p c e flat fits.3) where
        many : ℕ
        many = extent ss p c

        left : Bool → TraceNumber
        left b = if b then set_term k x e (element_term log p c e) else element_term log p c e

        right : Bool → ℕ
        right b = if b && ((number_of i kept ss e == number_of i kept ss k) && nat_lt (number_of i kept ss e) many)
            then number_of i kept ss x
            else logged_number log p c (number_of i kept ss e)

        go : (b : Bool) → is_here p c q d ≡ b → number_of i kept ss (element_term log p c e) ≡
            logged_number log p c (number_of i kept ss e) →
            number_of i kept ss (left b) ≡ right b
        go true is rest =
            set_line k x e (element_term log p c e) many fits.1
            (moved (λ p c. fits_extent i.count (extent ss p c) k ≡ true) p c q d is fits.2)
            ∙ ap (λ r. if (number_of i kept ss e == number_of i kept ss k) &&
            nat_lt (number_of i kept ss e) many then number_of i kept ss x else r) rest
        go false is rest = rest
  element_line sq (wrote_square q d r k x ∷ log) p c e flat fits =
      go (is_here p c q d) refl (element_line sq log p c e flat fits.2) where
        right : Bool → ℕ
        right b = if b && ((number_of i kept ss e == flat_index i.count (number_of i kept ss r) (number_of i kept ss k))
            &&
            nat_lt (number_of i kept ss e)
            (extent ss p c))
            then number_of i kept ss x else logged_number log p c (number_of i kept ss e)

        go : (b : Bool) → is_here p c q d ≡ b → number_of i kept ss (element_term log p c e) ≡
            logged_number log p c (number_of i kept ss e) →
            number_of i kept ss (element_term log p c e) ≡ right b
        go true is rest = let squared : sq p c ≡ true = moved (λ p c. sq p c ≡ true) p c q d is fits.0 in
            absurd (cc (squared, flat))
        go false is rest = rest
  element_line sq (put q d k xs b ∷ log) p c e flat fits = element_line sq log p c e flat fits.2
  element_line sq (got q d k ∷ log) p c e flat fits = element_line sq log p c e flat fits.2

  -- two flat indexes of a square
  flat_same : (n many r k r' k' : ℕ) → many ≡ n * n →
      (((r == r') && (k == k')) && (nat_lt r n && nat_lt k n)) ≡
      ((flat_index n r k == flat_index n r' k') && nat_lt (flat_index n r k) many)
  flat_same n many r k r' k' is = go (nat_lt r n && nat_lt k n) (nat_lt r' n && nat_lt k' n) refl refl where
    test : Bool
    test = (r == r') && (k == k')

    flat : (b : Bool) (x y : ℕ) → ℕ
    flat b x y = if b then x * n + y else n * n

    within : nat_lt r n && nat_lt k n ≡ true → r * n + k < n * n
    within e = let parts = and_parts (nat_lt r n) (nat_lt k n) e in
        mul-add-lt r n k n (ltb-true r n parts.0) (ltb-true k n parts.1)

    -- both are inside
    inner : (t : Bool) → test ≡ t → (k < n) → (k' < n) → t ≡ (r * n + k == r' * n + k')
    inner true e h h' = let parts = and_parts (r == r') (k == k') e in
        sym (eq-eqb _ _ (ap₂ (λ x y. x * n + y) (eqb-true r r' parts.0) (eqb-true k k' parts.1)))
    inner false e h h' = sym
        (ne_eqb (r * n + k) (r' * n + k') (λ same. let parts = same_from_place r k r' k' n h h' same in
        let alike : test ≡ true = and_from (r == r') (k == k') (eq-eqb r r' parts.0) (eq-eqb k k' parts.1) in
        absurd (cc (alike, e))))

    -- the one is inside and the other isn't
    outer : (t : Bool) → test ≡ t → nat_lt r n && nat_lt k n ≡ true → nat_lt r' n && nat_lt k' n ≡ false →
        t ≡ (r * n + k == n * n)
    outer true e inn out = let parts = and_parts (r == r') (k == k') e in
        let same : (nat_lt r n && nat_lt k n) ≡ (nat_lt r' n && nat_lt k' n) =
        ap₂ (λ x y. nat_lt x n && nat_lt y n) (eqb-true r r' parts.0) (eqb-true k k' parts.1) in
        absurd (cc (inn, out, same))
    outer false e inn out = let w = within inn in sym (ne_eqb (r * n + k) (n * n) (λ same. omega (arith, w, same)))

    and-true : (b : Bool) → (b && true) ≡ b
    and-true true = refl
    and-true false = refl

    and-false : (b : Bool) → (b && false) ≡ false
    and-false true = refl
    and-false false = refl

    go : (b b' : Bool) → nat_lt r n && nat_lt k n ≡ b → nat_lt r' n && nat_lt k' n ≡ b' →
        (test && b) ≡ ((flat b r k == flat b' r' k') && nat_lt (flat b r k) many)
    go true true e e' =
        let parts = and_parts (nat_lt r n) (nat_lt k n) e in
        let parts' = and_parts (nat_lt r' n) (nat_lt k' n) e' in
        let w = within e in
        ap₂ (λ x y. x && y) (inner test refl (ltb-true k n parts.1) (ltb-true k' n parts'.1))
        (sym (lt-ltb (r * n + k) many (omega (arith, w, is))))
    go true false e e' = let w = within e in
        ap₂ (λ x y. x && y) (outer test refl e e') (sym (lt-ltb (r * n + k) many (omega (arith, w, is))))
    go false b'' e e' = and-false test ∙
        sym (ap (λ x. (n * n == flat b'' r' k') && x) (le-ltb (n * n) many (omega (arith, is))) ∙ and-false _)

  square_condition_worth : (r' k' r k : TraceNumber) →
      is_true (number_of i kept ss (square_condition r' k' r k)) ≡
      (((number_of i kept ss r == number_of i kept ss r') && (number_of i kept ss k == number_of i kept ss k')) &&
      (nat_lt (number_of i kept ss r) i.count && nat_lt (number_of i kept ss k) i.count))
  square_condition_worth r' k' r k =
      both_worth (both (equal r r') (equal k k')) (both (binary Less r count) (binary Less k count))
      ∙ ap₂ (λ a b. a && b)
      (both_worth (equal r r') (equal k k')
      ∙ ap₂ (λ a b. a && b) (true_of (number_of i kept ss r == number_of i kept ss r'))
      (true_of (number_of i kept ss k == number_of i kept ss k')))
      (both_worth (binary Less r count) (binary Less k count)
      ∙ ap₂ (λ a b. a && b) (true_of (nat_lt (number_of i kept ss r) i.count))
      (true_of (nat_lt (number_of i kept ss k) i.count)))

  pub square_line : (sq : Squares) (log : List Write) (p c : ℕ) (r k : TraceNumber) → sq p c ≡ true → LogFits sq log →
      number_of i kept ss (square_term log p c r k) ≡
      logged_number log p c (flat_index i.count (number_of i kept ss r) (number_of i kept ss k))
  square_line sq [] p c r k full fits = refl
  square_line sq (wrote q d r' x ∷ log) p c r k full fits =
      go (is_here p c q d) refl (square_line sq log p c r k full fits.3) where
        j : ℕ
        j = flat_index i.count (number_of i kept ss r) (number_of i kept ss k)

        right : Bool → ℕ
        right b = if b && ((j == number_of i kept ss r') && nat_lt j (extent ss p c)) then number_of i kept ss x else
            logged_number log p c j

        go : (b : Bool) → is_here p c q d ≡ b → number_of i kept ss (square_term log p c r k) ≡
            logged_number log p c j →
            number_of i kept ss (square_term log p c r k) ≡ right b
        go true is rest = let flat : sq p c ≡ false = moved (λ p c. sq p c ≡ false) p c q d is fits.0 in
            absurd (cc (full, flat))
        go false is rest = rest
  square_line sq (wrote_square q d r' k' x ∷ log) p c r k full fits =
      go (is_here p c q d) refl (square_line sq log p c r k full fits.2) where
        j : ℕ
        j = flat_index i.count (number_of i kept ss r) (number_of i kept ss k)

        j' : ℕ
        j' = flat_index i.count (number_of i kept ss r') (number_of i kept ss k')

        left : Bool → TraceNumber
        left b = if b then pick (square_condition r' k' r k) x (square_term log p c r k) else square_term log p c r k

        right : Bool → ℕ
        right b = if b && ((j == j') && nat_lt j (extent ss p c)) then number_of i kept ss x else logged_number log p c
            j

        go : (b : Bool) → is_here p c q d ≡ b → number_of i kept ss (square_term log p c r k) ≡
            logged_number log p c j →
            number_of i kept ss (left b) ≡ right b
        go true is rest = ap₂ (λ (t : Bool) (n : ℕ). if t then number_of i kept ss x else n)
            (square_condition_worth r' k' r k
            ∙ flat_same i.count (extent ss p c) _ _ _ _
            (moved (λ p c. extent ss p c ≡ i.count * i.count) p c q d is fits.1))
            rest
        go false is rest = rest
  square_line sq (put q d k' xs b ∷ log) p c r k full fits = square_line sq log p c r k full fits.2
  square_line sq (got q d k' ∷ log) p c r k full fits = square_line sq log p c r k full fits.2

  pub hit_worth : (d e : TraceNumber) → number_of i kept ss (hit d e) ≡
      of_bool (number_of i kept ss e == number_of i kept ss d)
  hit_worth d e = go (are_zero d e) refl where
    go : (b : Bool) → are_zero d e ≡ b →
        number_of i kept ss (if b then atom (number 1) else equal e d) ≡
        of_bool (number_of i kept ss e == number_of i kept ss d)
    go true zeroed = let parts = and_parts (is_zero d) (is_zero e) zeroed in
        sym (ap of_bool (eq-eqb _ _ (zero_worth e parts.1 ∙ sym (zero_worth d parts.0))))
    go false other = refl

  pub length_last : {A : Type 0} (xs : List A) (x : A) → length (xs ++ x ∷ []) ≡ suc (length xs)
  length_last [] x = refl
  length_last (y ∷ xs) x = ap suc (length_last xs x)

  length_front : {A : Type 0} (xs : List A) → 0 < length xs → suc (length (drop 1 xs)) ≡ length xs
  length_front [] h = absurd (omega (arith, h))
  length_front (x ∷ xs) h = refl

  -- sums and differences that don't wrap
  pub put_count : (x len h : ℕ) (t : Bool) → x ≡ len → h ≡ of_bool t → (t ≡ true → suc len < 2 ^ 32) → len < 2 ^ 32 →
      wrapped (x + h) ≡ (if t then suc len else len)
  put_count x len h true same one room small = let fits = room refl in
      ap wrapped (let e : x + h ≡ suc len = omega (arith, same, one) in e) ∙ mod-eq_of_lt fits
  put_count x len h false same none room small =
      ap wrapped (let e : x + h ≡ len = omega (arith, same, none) in e) ∙ mod-eq_of_lt small

  pub got_count : (x len h : ℕ) (t : Bool) → x ≡ len → h ≡ of_bool t → (t ≡ true → 0 < len) → len < 2 ^ 32 →
      wrapped (x + 2 ^ 32 - h) ≡ (if t then len - 1 else len)
  got_count x len h true same one some small = let there = some refl in
      ap wrapped (let e : x + 2 ^ 32 - h ≡ (len - 1) + 2 ^ 32 = omega (arith, same, one, there) in e)
      ∙ add-mod_right (len - 1) (2 ^ 32) ∙ mod-eq_of_lt (omega (arith, small))
  got_count x len h false same none some small =
      ap wrapped (let e : x + 2 ^ 32 - h ≡ len + 2 ^ 32 = omega (arith, same, none) in e)
      ∙ add-mod_right len (2 ^ 32) ∙ mod-eq_of_lt small

  pub last_count : {A : Type 0} (t : Bool) (xs : List A) (x : A) → length (if t then xs ++ x ∷ [] else xs) ≡
      (if t then suc (length xs) else length xs)
  last_count true xs x = length_last xs x
  last_count false xs x = refl

  pub front_count : {A : Type 0} (t : Bool) (xs : List A) → length (if t then drop 1 xs else xs) ≡
      (if t then length xs - 1 else length xs)
  front_count true xs = length-drop 1 xs
  front_count false xs = refl

  pub rows_line : (sq : Squares) (log : List Write) (p c : ℕ) (e : TraceNumber) → LogFits sq log →
      number_of i kept ss (rows_term log p c e) ≡ length (logged_rows log p c (number_of i kept ss e))
  rows_line sq [] p c e fits = sym (length-map (rows_at (state_of ss p) c (number_of i kept ss e)) outline)
  rows_line sq (wrote q d k x ∷ log) p c e fits = rows_line sq log p c e fits.3
  rows_line sq (wrote_square q d r k x ∷ log) p c e fits = rows_line sq log p c e fits.2
  rows_line sq (put q d k xs b ∷ log) p c e fits = go (is_here p c q d) refl (rows_line sq log p c e fits.2) where
    before : List Outline
    before = logged_rows log p c (number_of i kept ss e)

    new : Outline
    new = record { numbers = map (number_of i kept ss) xs; size = number_of i kept ss b }

    left : Bool → TraceNumber
    left t = if t then binary Add (rows_term log p c e) (hit k e) else rows_term log p c e

    right : Bool → ℕ
    right t = length (if t && (number_of i kept ss e == number_of i kept ss k) then before ++ new ∷ [] else before)

    go : (t : Bool) → is_here p c q d ≡ t → number_of i kept ss (rows_term log p c e) ≡ length before →
        number_of i kept ss (left t) ≡ right t
    go true is rest =
        let room : suc (length (logged_rows log p c (number_of i kept ss k))) < 2 ^ 32 =
        moved (λ p c. suc (length (logged_rows log p c (number_of i kept ss k))) < 2 ^ 32) p c q d is fits.0 in
        let small : (j : ℕ) → length (logged_rows log p c j) < 2 ^ 32 =
        moved (λ p c. (j : ℕ) → length (logged_rows log p c j) < 2 ^ 32) p c q d is fits.1 in
        put_count (number_of i kept ss (rows_term log p c e)) (length before) (number_of i kept ss (hit k e))
        (number_of i kept ss e == number_of i kept ss k)
        rest (hit_worth k e)
        (λ same. subst (λ j. suc (length (logged_rows log p c j)) < 2 ^ 32) (sym (eqb-true _ _ same)) room)
        (small (number_of i kept ss e))
        ∙ sym (last_count (number_of i kept ss e == number_of i kept ss k) before new)
    go false is rest = rest
  rows_line sq (got q d k ∷ log) p c e fits = go (is_here p c q d) refl (rows_line sq log p c e fits.2) where
    before : List Outline
    before = logged_rows log p c (number_of i kept ss e)

    left : Bool → TraceNumber
    left t = if t then binary Subtract (rows_term log p c e) (hit k e) else rows_term log p c e

    right : Bool → ℕ
    right t = length (if t && (number_of i kept ss e == number_of i kept ss k) then drop 1 before else before)

    go : (t : Bool) → is_here p c q d ≡ t → number_of i kept ss (rows_term log p c e) ≡ length before →
        number_of i kept ss (left t) ≡ right t
    go true is rest =
        let there : 0 < length (logged_rows log p c (number_of i kept ss k)) =
        moved (λ p c. 0 < length (logged_rows log p c (number_of i kept ss k))) p c q d is fits.0 in
        let small : (j : ℕ) → length (logged_rows log p c j) < 2 ^ 32 =
        moved (λ p c. (j : ℕ) → length (logged_rows log p c j) < 2 ^ 32) p c q d is fits.1 in
        got_count (number_of i kept ss (rows_term log p c e)) (length before) (number_of i kept ss (hit k e))
        (number_of i kept ss e == number_of i kept ss k)
        rest (hit_worth k e)
        (λ same. subst (λ j. 0 < length (logged_rows log p c j)) (sym (eqb-true _ _ same)) there)
        (small (number_of i kept ss e))
        ∙ sym (front_count (number_of i kept ss e == number_of i kept ss k) before)
    go false is rest = rest

  pub entry_part : (f : Part) (p c : ℕ) (e k : TraceNumber) →
      number_of i kept ss (part_at_entry f p c e k) ≡
      part_in f (slice_get (map outline (rows_at (state_of ss p) c (number_of i kept ss e))) (number_of i kept ss k))
  entry_part (number_part f) p c e k = entry_number f _ ∙ ap (part_in (number_part f))
      (sym (get_map outline (rows_at (state_of ss p) c (number_of i kept ss e)) (number_of i kept ss k)))
  entry_part size_part p c e k = entry_size _ ∙ ap (part_in size_part) (sym
      (get_map outline (rows_at (state_of ss p) c (number_of i kept ss e)) (number_of i kept ss k)))

  pub put_part : (f : Part) (xs : List TraceNumber) (b : TraceNumber) →
      number_of i kept ss (part_of_put f xs b) ≡ part_in
      f (Some (record { numbers = map (number_of i kept ss) xs; size = number_of i kept ss b }))
  put_part (number_part f) xs b = sym (read_map (number_of i kept ss) xs f zero_number)
  put_part size_part xs b = refl

  pub put_worth : (d e k many : TraceNumber) →
      is_true (number_of i kept ss (is_put d e k many)) ≡ ((number_of i kept ss e == number_of i kept ss d) &&
      (number_of i kept ss k == number_of i kept ss many))
  put_worth d e k many = go (are_zero d e) refl where
    go : (b : Bool) → are_zero d e ≡ b →
        is_true (number_of i kept ss (if b then equal k many else both (equal e d) (equal k many))) ≡
        ((number_of i kept ss e == number_of i kept ss d) && (number_of i kept ss k == number_of i kept ss many))
    go true zeroed = let parts = and_parts (is_zero d) (is_zero e) zeroed in
        true_of _ ∙ ap (λ t. t && (number_of i kept ss k == number_of i kept ss many))
        (sym (eq-eqb _ _ (zero_worth e parts.1 ∙ sym (zero_worth d parts.0))))
    go false other = both_worth (equal e d) (equal k many)
        ∙ ap₂ (λ a b. a && b) (true_of (number_of i kept ss e == number_of i kept ss d))
        (true_of (number_of i kept ss k == number_of i kept ss many))

  pub deep_line : (sq : Squares) (log : List Write) (f : Part) (p c : ℕ) (e k : TraceNumber) → LogFits sq log →
      number_of i kept ss k < length (logged_rows log p c (number_of i kept ss e)) →
      number_of i kept ss (deep_term log f p c e k) ≡ part_in
      f (slice_get (logged_rows log p c (number_of i kept ss e)) (number_of i kept ss k))
  deep_line sq [] f p c e k fits there = entry_part f p c e k
  deep_line sq (wrote q d k' x ∷ log) f p c e k fits there = deep_line sq log f p c e k fits.3 there
  deep_line sq (wrote_square q d r k' x ∷ log) f p c e k fits there = deep_line sq log f p c e k fits.2 there
  deep_line sq (put q d k' xs b ∷ log) f p c e k fits there =
      go (is_here p c q d) there (rows_line sq log p c e fits.2) (deep_line sq log f p c e k fits.2) where
        before : List Outline
        before = logged_rows log p c (number_of i kept ss e)

        new : Outline
        new = record { numbers = map (number_of i kept ss) xs; size = number_of i kept ss b }

        ve : ℕ
        ve = number_of i kept ss e

        vk : ℕ
        vk = number_of i kept ss k

        many : TraceNumber
        many = rows_term log p c e

        deep : TraceNumber
        deep = deep_term log f p c e k

        left : Bool → TraceNumber
        left t = if t then pick (is_put k' e k many) (part_of_put f xs b) deep else deep

        following : Bool → List Outline
        following t = if t && (ve == number_of i kept ss k') then before ++ new ∷ [] else before

        hit_here : (u w : Bool) → (u ≡ true → (vk == length before) ≡ w) →
            vk < length (if u then before ++ new ∷ [] else before) →
            (vk < length before → number_of i kept ss deep ≡ part_in f (slice_get before vk)) →
            (if u && w then number_of i kept ss (part_of_put f xs b) else number_of i kept ss deep) ≡ part_in f
            (slice_get (if u then before ++ new ∷ [] else before) vk)
        hit_here true true is there rest =
            put_part f xs b ∙ sym
            (ap (part_in f) (ap (slice_get (before ++ new ∷ [])) (eqb-true vk (length before) (is refl)) ∙
            get_last before new))
        hit_here true false is there rest =
            let other : vk < length before = less_last vk (length before) (eqb-false vk (length before) (is refl))
            (subst (λ n. vk < n) (length_last before new) there) in
            rest other ∙ sym (ap (part_in f) (get_before before new vk other))
        hit_here false w is there rest = rest there

        go : (t : Bool) → vk < length (following t) → number_of i kept ss many ≡ length before →
            (vk < length before → number_of i kept ss deep ≡ part_in f (slice_get before vk)) →
            number_of i kept ss (left t) ≡ part_in f (slice_get (following t) vk)
        go true there same rest =
            ap (λ (t : Bool). if t then number_of i kept ss (part_of_put f xs b) else number_of i kept ss deep)
            (put_worth k' e k many ∙ ap (λ n. (ve == number_of i kept ss k') && (vk == n)) same)
            ∙ hit_here (ve == number_of i kept ss k') (vk == length before) (λ same. refl) there rest
        go false there same rest = rest there
  deep_line sq (got q d k' ∷ log) f p c e k fits there =
      go (is_here p c q d) refl there (deep_line sq log f p c e (binary Add k (hit k' e)) fits.2)
      (deep_line sq log f p c e k fits.2) where
        before : List Outline
        before = logged_rows log p c (number_of i kept ss e)

        ve : ℕ
        ve = number_of i kept ss e

        vk : ℕ
        vk = number_of i kept ss k

        next : TraceNumber
        next = binary Add k (hit k' e)

        left : Bool → TraceNumber
        left t = if t then deep_term log f p c e next else deep_term log f p c e k

        following : Bool → List Outline
        following t = if t && (ve == number_of i kept ss k') then drop 1 before else before

        shifted : (u : Bool) (v : ℕ) → v ≡ wrapped (vk + of_bool u) → length before < 2 ^ 32 →
            vk < length (if u then drop 1 before else before) →
            (v < length before → number_of i kept ss (deep_term log f p c e next) ≡ part_in f (slice_get before v)) →
            number_of i kept ss (deep_term log f p c e next) ≡ part_in
            f (slice_get (if u then drop 1 before else before) vk)
        shifted true v is small there rest =
            let less : suc vk < length before = let l = length-drop 1 before in omega (arith, l, there) in
            let e : v ≡ suc vk = is ∙ ap wrapped (let e : vk + 1 ≡ suc vk = omega arith in e) ∙
            mod-eq_of_lt (omega (arith, less, small)) in
            rest (omega (arith, e, less)) ∙ ap (part_in f) (ap (slice_get before) e ∙ sym (get_after before vk))
        shifted false v is small there rest =
            let e : v ≡ vk = is ∙ ap wrapped (let e : vk + 0 ≡ vk = omega arith in e) ∙
            mod-eq_of_lt (omega (arith, there, small)) in
            rest (omega (arith, e, there)) ∙ ap (λ n. part_in f (slice_get before n)) e

        go : (t : Bool) → is_here p c q d ≡ t → vk < length (following t) →
            (number_of i kept ss next < length before → number_of i kept ss (deep_term log f p c e next) ≡ part_in f
            (slice_get before (number_of i kept ss next))) →
            (vk < length before → number_of i kept ss (deep_term log f p c e k) ≡ part_in f (slice_get before vk)) →
            number_of i kept ss (left t) ≡ part_in f (slice_get (following t) vk)
        go true is there rest other =
            let small : (j : ℕ) → length (logged_rows log p c j) < 2 ^ 32 =
            moved (λ p c. (j : ℕ) → length (logged_rows log p c j) < 2 ^ 32) p c q d is fits.1 in
            shifted (ve == number_of i kept ss k') (number_of i kept ss next)
            (ap (λ n. wrapped (vk + n)) (hit_worth k' e)) (small ve) there rest
        go false is there rest other = other there

  -- a queue that no write moves is as at entry
  unmoved : (log : List Write) (p c j : ℕ) → moves log p c ≡ false →
      logged_rows log p c j ≡ map outline (rows_at (state_of ss p) c j)
  unmoved [] p c j is = refl
  unmoved (wrote q d k x ∷ log) p c j is = unmoved log p c j is
  unmoved (wrote_square q d r k x ∷ log) p c j is = unmoved log p c j is
  unmoved (put q d k xs b ∷ log) p c j is = let parts = or_parts (is_here p c q d) (moves log p c) is in
      ap (λ t. if t && (j == number_of i kept ss k) then logged_rows log p c j ++
      record { numbers = map (number_of i kept ss) xs; size = number_of i kept ss b } ∷ [] else logged_rows log p c j)
      parts.0
      ∙ unmoved log p c j parts.1
  unmoved (got q d k ∷ log) p c j is = let parts = or_parts (is_here p c q d) (moves log p c) is in
      ap (λ t. if t && (j == number_of i kept ss k) then drop 1 (logged_rows log p c j) else logged_rows log p c j)
      parts.0
      ∙ unmoved log p c j parts.1

  pub part_line : (sq : Squares) (log : List Write) (f : Part) (p c : ℕ) (e k : TraceNumber) → LogFits sq log →
      number_of i kept ss (part_term log f p c e k) ≡ part_in
      f (slice_get (logged_rows log p c (number_of i kept ss e)) (number_of i kept ss k))
  part_line sq log f p c e k fits = go (moves log p c) refl where
    now : List Outline
    now = logged_rows log p c (number_of i kept ss e)

    vk : ℕ
    vk = number_of i kept ss k

    deep : TraceNumber
    deep = deep_term log f p c e k

    nothing_there : (o : Option Outline) → o ≡ None → 0 ≡ part_in f o
    nothing_there o is = sym (ap (part_in f) is)

    there : (t : Bool) → nat_lt vk (length now) ≡ t → (if t then number_of i kept ss deep else 0) ≡ part_in
        f (slice_get now vk)
    there true is = deep_line sq log f p c e k fits (ltb-true vk (length now) is)
    there false is = nothing_there (slice_get now vk) (slice_get_past now vk (ltb-false vk (length now) is))

    go : (t : Bool) → moves log p c ≡ t →
        number_of i kept ss (if t then pick (binary Less k (rows_term log p c e)) deep zero_number else part_at_entry f
        p c e k) ≡ part_in f (slice_get now vk)
    go true is = ap (λ (t : Bool). if t then number_of i kept ss deep else 0)
        (true_of _ ∙ ap (nat_lt vk) (rows_line sq log p c e fits))
        ∙ there (nat_lt vk (length now)) refl
    go false is = entry_part f p c e k ∙
        ap (λ rows. part_in f (slice_get rows vk)) (sym (unmoved log p c (number_of i kept ss e) is))
