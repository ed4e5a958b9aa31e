-- Names that are there twice, one name further.
use Rattle.std.proofs.Common.{◌≡◌, ℕ, ◌+◌, ◌<◌, Bool, true, false, ◌||◌, not, if◌then◌else◌, is_some, List, [], ◌∷◌}
use Rattle.std.proofs.Common.{◌++◌, map, take, length, get_or, bytes_eq, refl, sym, ap, ◌∙◌, subst, append_assoc}
use Rattle.std.proofs.Common.{append-nil, arith}
use Rattle.std.specs.List.{list_any}
use Rattle.std.proofs.lemmas.List.{map-append, take_more}
use Rattle.std.proofs.lemmas.List.Folds.{list_any-append}
use Rattle.std.proofs.lemmas.Slice.Eq.{bytes_eq-Decides}
use Rattle.layer_ast.specs.declared.names.Name.{Name}
use Rattle.layer_ast.specs.declared.syntax.Handler.{Handler}
use Rattle.layer_words.specs.declared.sorts.Sort.{Sort}
use Rattle.layer_ast.specs.Tree.{HandlerTree}
use Rattle.layer_ast.specs.View.{handler_tree}
use Rattle.fault_mean.specs.Declared.{declared_name}
use Rattle.fault_mean.specs.Earliest.{unless}
use Rattle.fault_mean.specs.Faults.{NameFault, twice}
use Rattle.fault_mean.specs.NameFaults.{repetitions, same_events, same_word, twice_among}
use Rattle.fault_mean.specs.Scope as names
use Rattle.file_names.specs.Found.{Finds, name_shown}
use Rattle.file_names.specs.Scope.{Declares}
use Rattle.file_scope.specs.Scope.{local_of, locals_of}
use Rattle.file_scope.specs.Words.{place_of}
use Rattle.file_scope.specs.declared.found.Found.{Found}
use Rattle.file_scope.specs.declared.scope.Local.{Local}
use Rattle.file_scope.proofs.Finds.{finds_both, finds_none}
use Rattle.file_scope.proofs.Lists.{any_map, trees_more}
use Rattle.file_scope.proofs.Scopes.{any_place}

true-is : (a b : Bool) → (a ≡ true → b ≡ true) → (b ≡ true → a ≡ true) → a ≡ b
true-is true b there back = sym (there refl)
true-is false true there back = back refl
true-is false false there back = refl

pub bytes_eq-sym : (v w : List ℕ) → bytes_eq v w ≡ bytes_eq w v
bytes_eq-sym v w = true-is (bytes_eq v w) (bytes_eq w v)
    (λ e. (bytes_eq-Decides w v).1 (sym ((bytes_eq-Decides v w).0 e)))
    (λ e. (bytes_eq-Decides v w).1 (sym ((bytes_eq-Decides w v).0 e)))

-- whether a name is among others, from either side
either_side : (x : Name) (xs : List Name) → list_any (same_word x) xs ≡ list_any (λ name. bytes_eq name.word x.word) xs
either_side x [] = refl
either_side x (y ∷ xs) =
    ap (λ b. b || list_any (same_word x) xs) (bytes_eq-sym x.word y.word)
    ∙ ap (λ b. bytes_eq y.word x.word || b) (either_side x xs)

pub repeated_more : {A : Type 0} (same : A → A → Bool) (earlier xs : List A) (x : A) →
    repetitions same earlier (xs ++ x ∷ []) ≡
    repetitions same earlier xs ++ (if list_any (same x) earlier || list_any (same x) xs then x ∷ [] else [])
repeated_more {A} same earlier [] x = go (list_any (same x) earlier) where
  go : (b : Bool) → (if b then x ∷ [] else []) ++ [] ≡ (if b || false then x ∷ [] else [])
  go true = refl
  go false = refl
repeated_more {A} same earlier (y ∷ xs) x =
    let hit : List A = if list_any (same y) earlier then y ∷ [] else [] in
    ap (λ l. hit ++ l) (repeated_more same (y ∷ earlier) xs x)
    ∙ (sym (append_assoc hit (repetitions same (y ∷ earlier) xs) _)
    ∙ ap (λ b. (hit ++ repetitions same (y ∷ earlier) xs) ++ (if b then x ∷ [] else []))
    (go (same x y) (list_any (same x) earlier) (list_any (same x) xs))) where
      go : (a b c : Bool) → ((a || b) || c) ≡ (b || (a || c))
      go true true c = refl
      go true false c = refl
      go false true c = refl
      go false false c = refl

-- one more name, which is known or isn't
once_more : (earlier xs : List Name) (x : Name) (known : Bool) →
    known ≡ (list_any (λ name. bytes_eq name.word x.word) earlier || list_any (λ name. bytes_eq name.word x.word) xs) →
    twice_among earlier (xs ++ x ∷ []) ≡ twice_among earlier xs ++ unless (not known) (twice x.at)
once_more earlier xs x known is =
    ap (map (λ name. twice name.at)) (repeated_more same_word earlier xs x)
    ∙ (map-append (λ name. twice name.at) (repetitions same_word earlier xs) _
    ∙ (ap (λ b. twice_among earlier xs ++ map (λ name. twice name.at) (if b then x ∷ [] else []))
    (ap (λ b. b || list_any (same_word x) xs) (either_side x earlier)
    ∙ (ap (λ b. list_any (λ name. bytes_eq name.word x.word) earlier || b) (either_side x xs) ∙ sym is))
    ∙ ap (λ l. twice_among earlier xs ++ l) (go known))) where
      go : (b : Bool) → map (λ name. twice name.at) (if b then x ∷ [] else []) ≡ unless (not b) (twice x.at)
      go true = refl
      go false = refl

take_next : {X : Type 0} (xs : List X) (i : ℕ) (x : X) → i < length xs → x ≡ get_or xs i x →
    take (i + 1) xs ≡ take i xs ++ x ∷ []
take_next xs i x within is = take_more xs i x within ∙ ap (λ y. take i xs ++ y ∷ []) (sym is)

-- one name alone is there once
pub alone : (a : Found) (names : List Name) → length names < 2 → Finds a (twice_among [] names) a
alone a [] few = finds_none name_shown a
alone a (x ∷ []) few = finds_none name_shown a
alone a (x ∷ y ∷ names) few = absurd (omega (arith, few))

-- one more of some names, which is judged
pub twice_next : (a b c : Found) (xs : List Name) (i : ℕ) (x : Name) (seen : List (List ℕ)) (known : Bool) →
    i < length xs → x ≡ get_or xs i x → seen ≡ map (λ n. n.word) (take i xs) → known ≡ is_some (place_of x.word seen) →
    Finds a (twice_among [] (take i xs)) b → Finds b (unless (not known) (twice x.at)) c →
    Finds a (twice_among [] (take (i + 1) xs)) c
twice_next a b c xs i x seen known within is sees knows so_far now =
    let more : take (i + 1) xs ≡ take i xs ++ x ∷ [] = take_next xs i x within is in
    subst (λ l. Finds a l c)
    (sym (ap (twice_among []) more ∙ once_more [] (take i xs) x known
    (knows ∙ (ap (λ w. is_some (place_of x.word w)) sees ∙ any_place (λ (n : Name). n) x.word (take i xs)))))
    (finds_both name_shown a b c (twice_among [] (take i xs)) (unless (not known) (twice x.at)) so_far now)

pub seen_next : (xs : List Name) (i : ℕ) (x : Name) (seen new : List (List ℕ)) → i < length xs → x ≡ get_or xs i x →
    seen ≡ map (λ n. n.word) (take i xs) → new ≡ seen ++ x.word ∷ [] → new ≡ map (λ n. n.word) (take (i + 1) xs)
seen_next xs i x seen new within is sees pushed =
    pushed ∙ (ap (λ w. w ++ x.word ∷ []) sees ∙ sym (trees_more (λ n. n.word) xs i x within is))

-- one more handler
pub repeated_next : (a b c : Found) (xs : List Handler) (i : ℕ) (x : Handler) (known : Bool) →
    i < length xs → x ≡ get_or xs i x →
    known ≡ list_any (λ h. same_events (handler_tree x) (handler_tree h)) (take i xs) →
    Finds a (map (λ (h : HandlerTree). twice h.at) (repetitions same_events [] (map handler_tree (take i xs)))) b →
    Finds b (unless (not known) (twice x.at)) c →
    Finds a (map (λ (h : HandlerTree). twice h.at) (repetitions same_events [] (map handler_tree (take (i + 1) xs)))) c
repeated_next a b c xs i x known within is knows so_far now =
    let g : HandlerTree → NameFault = λ h. twice h.at in
    let before = map handler_tree (take i xs) in
    subst (λ l. Finds a l c)
    (sym (ap (λ l. map g (repetitions same_events [] l)) (trees_more handler_tree xs i x within is)
    ∙ (ap (map g) (repeated_more same_events [] before (handler_tree x))
    ∙ (map-append g (repetitions same_events [] before) _
    ∙ ap (λ l. map g (repetitions same_events [] before) ++ l)
    (ap (λ b. map g (if b then handler_tree x ∷ [] else []))
    (any_map handler_tree (same_events (handler_tree x)) (take i xs) ∙ sym knows) ∙ go known)))))
    (finds_both name_shown a b c (map g (repetitions same_events [] before)) (unless (not known) (twice x.at)) so_far
    now)
  where
    go : (b : Bool) → map (λ (h : HandlerTree). twice h.at) (if b then handler_tree x ∷ [] else []) ≡
        unless (not b) (twice x.at)
    go true = refl
    go false = refl

-- no local
pub declares_none : (scope : names.Scope) (a : Found) → Declares scope a [] a scope
declares_none scope a =
    (finds_none name_shown a, ap (λ m. record { layer = scope.layer; locals = m }) (sym (append-nil scope.locals)))

-- one more local
pub declares_next : (outer scope inner : names.Scope) (a b c : Found) (locals : List Local) (i : ℕ) (l : Local)
    (known : Bool) →
    i < length locals → l ≡ get_or locals i l → known ≡ names.is_visible scope l.name.word →
    Declares outer a (locals_of (take i locals)) b scope → Finds b (unless (not known) (twice l.name.at)) c →
    inner ≡ names.with_locals scope (local_of l ∷ []) →
    Declares outer a (locals_of (take (i + 1) locals)) c inner
declares_next outer scope inner a b c locals i l known within is knows so_far now then_ =
    let ls = locals_of (take i locals) in
    let more : locals_of (take (i + 1) locals) ≡ ls ++ local_of l ∷ [] = trees_more local_of locals i l within is in
    let declared = map declared_name outer.layer.declarations in
    let outside = map (λ (x : names.Local). x.name) outer.locals in
    let test : Name → Bool = λ name. bytes_eq name.word l.name.word in
    let sees : known ≡ (list_any test (declared ++ outside) || list_any test (map (λ (x : names.Local). x.name) ls)) =
    knows ∙ (ap (λ s. names.is_visible s l.name.word) so_far.1
    ∙ (ap (λ ns. list_any test (declared ++ ns)) (map-append (λ (x : names.Local). x.name) outer.locals ls)
    ∙ (ap (list_any test) (sym (append_assoc declared outside (map (λ (x : names.Local). x.name) ls)))
    ∙ list_any-append test (declared ++ outside) (map (λ (x : names.Local). x.name) ls)))) in
    subst (λ (m : List names.Local). Declares outer a m c inner) (sym more) (
      subst (λ f. Finds a f c)
          (sym (ap (twice_among (names.visible outer)) (map-append (λ (x : names.Local). x.name) ls (local_of l ∷ []))
          ∙ once_more (names.visible outer) (map (λ (x : names.Local). x.name) ls) l.name known sees))
          (finds_both name_shown a b c (twice_among (names.visible outer) (map (λ (x : names.Local). x.name) ls))
          (unless (not known) (twice l.name.at)) so_far.0 now),
      then_ ∙ (ap (λ s. names.with_locals s (local_of l ∷ [])) so_far.1
          ∙ ap (λ m. record { layer = outer.layer; locals = m }) (append_assoc outer.locals ls (local_of l ∷ []))),
    )

pub declares_one : (outer inner : names.Scope) (a b : Found) (name : Name) (sort : Sort) (known : Bool) →
    known ≡ names.is_visible outer name.word → Finds a (unless (not known) (twice name.at)) b →
    inner ≡ names.with_locals outer (record { name = name; sort = sort } ∷ []) →
    Declares outer a (record { name = name; sort = sort } ∷ []) b inner
declares_one outer inner a b name sort known knows now then_ =
    let l : Local = record { name = name; sort = sort } in
    declares_next outer outer inner a a b (l ∷ []) 0 l known (omega arith) refl knows (declares_none outer a) now then_
