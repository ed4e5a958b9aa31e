-- Handlers of one event, one handler further.
use Rattle.std.proofs.Common.{◌≡◌, ℕ, ◌+◌, ◌<◌, Bool, true, false, ◌&&◌, ◌||◌, cond, not, List, [], ◌∷◌, ◌++◌, map}
use Rattle.std.proofs.Common.{take, length, get_or, bytes_eq, Option, Some, None, refl, sym, ap, ap₂, ◌∙◌, subst}
use Rattle.std.specs.List.{list_any}
use denote.Enum.Bare.{sameb}
use Rattle.layer_words.specs.contracts.events.Dir as dir_row
use Rattle.layer_words.specs.contracts.events.Kind as kind_row
use Rattle.std.proofs.lemmas.List.Folds.{list_any-append}
use Rattle.indexmap.specs.IndexSet.{IndexSet, Updates, contains}
use Rattle.layer_ast.specs.Tree.{HandlerTree, PoppedTree}
use Rattle.layer_ast.specs.View.{handler_tree}
use Rattle.layer_ast.specs.declared.syntax.Handler.{Handler}
use Rattle.fault_mean.specs.Earliest.{unless}
use Rattle.fault_mean.specs.Faults.{twice}
use Rattle.fault_mean.specs.NameFaults.{repetitions, same_events, same_popped}
use Rattle.file_scope.specs.declared.found.Found.{Found}
use Rattle.file_scope.proofs.Lists.{any_map, trees_more}
use Rattle.file_names.specs.Events.{IsSeen, event_code, popped_code}
use Rattle.file_names.specs.Found.{Finds}
use Rattle.file_names.proofs.Twice.{bytes_eq-sym, repeated_next}

same_headers : (p q : Option PoppedTree) → bytes_eq (popped_code p) (popped_code q) ≡ same_popped p q
same_headers None None = refl
same_headers None (Some q) = refl
same_headers (Some p) None = refl
same_headers (Some p) (Some q) = refl

-- what two handlers take is the same where they are of one event
same_codes : (a b : HandlerTree) → bytes_eq (event_code a) (event_code b) ≡ same_events a b
same_codes a b =
    go (sameb dir_row.the_type a.direction b.direction) (sameb kind_row.the_type a.kind b.kind) _ _
    (same_headers a.popped b.popped) where
      go : (d k p q : Bool) → p ≡ q → (d && (k && p)) ≡ ((d && k) && q)
      go true true p q e = e
      go true false p q e = refl
      go false k p q e = refl

any_same : {A : Type 0} (p q : A → Bool) (xs : List A) → ((x : A) → p x ≡ q x) → list_any p xs ≡ list_any q xs
any_same p q [] e = refl
any_same p q (x ∷ xs) e = ap₂ (λ a b. a || b) (e x) (any_same p q xs e)

knows : (x : Handler) (xs : List Handler) →
    list_any (λ h. bytes_eq (event_code h) (event_code (handler_tree x))) (map handler_tree xs)
    ≡ list_any (λ h. same_events (handler_tree x) (handler_tree h)) xs
knows x xs =
    any_map handler_tree (λ h. bytes_eq (event_code h) (event_code (handler_tree x))) xs
    ∙ any_same (λ (h : Handler). bytes_eq (event_code (handler_tree h)) (event_code (handler_tree x)))
    (λ (h : Handler). same_events (handler_tree x) (handler_tree h)) xs
    (λ h. bytes_eq-sym (event_code (handler_tree h)) (event_code (handler_tree x)) ∙
    same_codes (handler_tree x) (handler_tree h))

seen_more : {S : Type 0} (seen new : IndexSet (List ℕ) S) (hs : List HandlerTree) (h : HandlerTree) →
    IsSeen seen hs → Updates bytes_eq seen new (event_code h) true → IsSeen new (hs ++ h ∷ [])
seen_more seen new hs h sees updates code =
    updates.0 code
    ∙ (go (bytes_eq (event_code h) code) _ _ (sees code)
    ∙ sym (list_any-append (λ h. bytes_eq (event_code h) code) hs (h ∷ []))) where
      go : (b p q : Bool) → p ≡ q → cond b true p ≡ (q || (b || false))
      go true p true e = refl
      go true p false e = refl
      go false p true e = e
      go false p false e = e

-- one more handler
pub event_next : {S : Type 0} (a b c : Found) (xs : List Handler) (i : ℕ) (x : Handler) (code : List ℕ)
    (seen new : IndexSet (List ℕ) S)
    (is_new : Bool) → i < length xs → x ≡ get_or xs i x → code ≡ event_code (handler_tree x) →
    IsSeen seen (map handler_tree (take i xs)) → is_new ≡ not (contains bytes_eq seen code) →
    Updates bytes_eq seen new code true →
    Finds a (map (λ (h : HandlerTree). twice h.at) (repetitions same_events [] (map handler_tree (take i xs)))) b →
    Finds b (unless is_new (twice x.at)) c →
    Finds a (map (λ (h : HandlerTree). twice h.at) (repetitions same_events [] (map handler_tree (take (i + 1) xs)))) c
    × IsSeen new (map handler_tree (take (i + 1) xs))
event_next a b c xs i x code seen new is_new within is codes sees added updates so_far now = (
  repeated_next a b c xs i x (contains bytes_eq seen code) within is
      (sees code ∙ (ap (λ k. list_any (λ h. bytes_eq (event_code h) k) (map handler_tree (take i xs))) codes ∙
      knows x (take i xs)))
      so_far (subst (λ r. Finds b (unless r (twice x.at)) c) added now),
  subst (IsSeen new) (sym (trees_more handler_tree xs i x within is))
      (seen_more seen new (map handler_tree (take i xs)) (handler_tree x) sees
      (subst (λ k. Updates bytes_eq seen new k true) codes updates)),
)
