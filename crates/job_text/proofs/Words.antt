-- What words give, and the members that they name.
use Rattle.std.proofs.Common.{◌≡◌, ℕ, Bool, true, false, not, List, [], ◌∷◌, ◌++◌, Option, Some, None, refl, ap, ap₂}
use Rattle.std.proofs.Common.{◌∙◌}
use Rattle.std.specs.Prelude.{◌&&◌, ◌||◌, map, filter, is_some, option_map, if◌then◌else◌}
use Rattle.std.specs.List.{list_all, list_any}
use Rattle.clap.specs.Walk.{Text}
use Rattle.script_mean.specs.Words.{◌>>=◌}
use Rattle.job_mean.specs.Job.{extras, with_only}
use Rattle.job_text.specs.Shown.{shown_given, text}
use Rattle.job_text.specs.declared.given.Given.{Given}
use denote.Ref.{Bor}
use Rattle.std.specs.Prelude.{codes}
use Rattle.std.specs.Str.{bytes_eq}

-- members that were read, before those that other words name
abbrev pub with_front : List ℕ → Option (List ℕ) → Option (List ℕ)
with_front front = option_map (λ members. front ++ members)

-- a text that was given is given as the definitions see it
has : (o : Option (Bor Text)) → is_some o ≡ is_some (text o)
has None = refl
has (Some s) = refl

pub extras_of : (g : Given) →
    ((codes "second", is_some g.second) ∷ (codes "run", is_some g.run) ∷ (codes "seed", is_some g.seed) ∷
    (codes "events", is_some g.events) ∷ (codes "members", is_some g.members) ∷ (codes "turns", is_some g.turns) ∷
    (codes "me", is_some g.me) ∷ (codes "patience", is_some g.patience) ∷ (codes "law", is_some g.law) ∷
    (codes "with", is_some g.traces) ∷
    (codes "wire", g.wire) ∷ (codes "count", g.count) ∷ (codes "raw", g.raw) ∷ []) ≡ extras (shown_given g)
extras_of g = λ i.
    (codes "second", has g.second i) ∷ (codes "run", has g.run i) ∷ (codes "seed", has g.seed i) ∷
    (codes "events", has g.events i) ∷ (codes "members", has g.members i) ∷ (codes "turns", has g.turns i) ∷
    (codes "me", has g.me i) ∷ (codes "patience", has g.patience i) ∷ (codes "law", has g.law i) ∷
    (codes "with", has g.traces i) ∷
    (codes "wire", g.wire) ∷ (codes "count", g.count) ∷ (codes "raw", g.raw) ∷ []

-- a test of the names of what was given, as a test of all
pub given_all : (p : Text → Bool) (xs : List (Text × Bool)) →
    list_all (λ x. not x.1 || p x.0) xs ≡ list_all p (map (λ x. x.0) (filter (λ x. x.1) xs))
given_all p [] = refl
given_all p ((name, true) ∷ xs) = ap (λ b. p name && b) (given_all p xs)
given_all p ((name, false) ∷ xs) = given_all p xs

-- that nothing but what is listed was given, as a test of each word that may be
any_named : (name : Text) (listed : List (Bor Text)) →
    list_any (λ l. bytes_eq name l.now) listed ≡ list_any (bytes_eq name) (map (λ l. l.now) listed)
any_named name [] = refl
any_named name (l ∷ listed) = ap (λ rest. bytes_eq name l.now || rest) (any_named name listed)

pub only_listed : (g : Given) (xs : List (Bor Text × Bool)) (listed : List (Bor Text)) →
    map (λ x. (x.0.now, x.1)) xs ≡ extras (shown_given g) →
    list_all (λ x. not x.1 || list_any (λ name. bytes_eq x.0.now name.now) listed) xs
    ≡ is_some (with_only (map (λ name. name.now) listed) (shown_given g))
only_listed g xs listed are = by_names xs ∙ ap names are ∙
    given_all (λ name. list_any (bytes_eq name) (map (λ l. l.now) listed)) (extras (shown_given g)) ∙
    some_if (tested (extras (shown_given g)))
  where
    tested : List (Text × Bool) → Bool
    tested ys = list_all (λ name. list_any (bytes_eq name) (map (λ name. name.now) listed))
        (map (λ y. y.0) (filter (λ y. y.1) ys))

    names : List (Text × Bool) → Bool
    names ys = list_all (λ y. not y.1 || list_any (bytes_eq y.0) (map (λ name. name.now) listed)) ys

    by_names : (xs : List (Bor Text × Bool)) →
        list_all (λ x. not x.1 || list_any (λ name. bytes_eq x.0.now name.now) listed) xs ≡
        names (map (λ x. (x.0.now, x.1)) xs)
    by_names [] = refl
    by_names (x ∷ xs) = ap₂ (λ b rest. (not x.1 || b) && rest) (any_named x.0.now listed) (by_names xs)

    some_if : (b : Bool) → b ≡ is_some (if b then Some (tt {0}) else None)
    some_if true = refl
    some_if false = refl

-- a step that goes on after what was listed
pub goes_on : {A : Type 0} (o : Option (Unit {0})) (next : Option A) → is_some o ≡ true → next ≡ (o >>= λ _. next)
goes_on None next is = absurd (cc is)
goes_on (Some x) next is = refl
