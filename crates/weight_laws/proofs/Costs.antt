-- In a stack without cycles a node costs its own and what its arrows cost.
use Rattle.std.proofs.Common.{◌≡◌, ℕ, zero, suc, ◌+◌, ◌*◌, ◌<◌, Bool, true, false, ◌&&◌, ◌==◌, List, [], ◌∷◌, ◌++◌, map}
use Rattle.std.proofs.Common.{length, flat_map, Some, None, refl, sym, ap, ◌∙◌, ◌⊎◌, inl, inr, arith, rules, eqb-true}
use Rattle.std.proofs.Common.{eq-eqb}
use Rattle.std.specs.Prelude.{if◌then◌else◌}
use Rattle.std.specs.List.{find, list_any}
use Rattle.std.proofs.lemmas.Bool.{and_parts, and_from}
use Rattle.std.proofs.lemmas.List.Sums.{sum_by-cons}
use denote.Enum.Bare.{sameb, same_true}
use Rattle.layer_words.specs.contracts.events.Dir as dir_row
use Rattle.layer_words.specs.contracts.events.Kind as kind_row
use Rattle.layer_mean.specs.Tree.{LayerTree}
use Rattle.stack_mean.specs.Graph.{Node, same_node, nodes, Arrow, arrows, following, unknown_of, reached_nodes}
use Rattle.stack_mean.specs.Graph.{is_on_cycle}
use Rattle.stack_mean.specs.Graph.{first_on_cycle}
use Rattle.stack_mean.specs.Acceptance.{largest, cost_in, cost}
use Rattle.weight_laws.specs.Nodes.{IsNode}
use Rattle.weight_laws.specs.Orderly.{IsOrderly}
use Rattle.weight_laws.specs.Costs.{after_arrows, CostsFollowArrows}
use Rattle.weight_laws.proofs.Members.{In, in_left, in_right}
use Rattle.weight_laws.proofs.Reach.{unknown_by, reached_by, reachable, rank, rank_falls, rank_below}
use Rattle.weight_laws.proofs.Nodes.{listed, next_node}

-- the test of nodes tells equal ones
pub node_is : (a b : Node) → a.at ≡ b.at → a.tag ≡ b.tag → a.dir ≡ b.dir → a.kind ≡ b.kind → a ≡ b
node_is a b at tag dir kind = λ i. record { at = at i; dir = dir i; kind = kind i; tag = tag i }

pub sound : (a b : Node) → same_node a b ≡ true → a ≡ b
sound a b h =
    let first = and_parts ((a.at == b.at) && (a.tag == b.tag) && sameb dir_row.the_type a.dir b.dir)
    (sameb kind_row.the_type a.kind b.kind) h in
    let second = and_parts ((a.at == b.at) && (a.tag == b.tag)) (sameb dir_row.the_type a.dir b.dir) first.0 in
    let third = and_parts (a.at == b.at) (a.tag == b.tag) second.0 in
    node_is a b (eqb-true a.at b.at third.0) (eqb-true a.tag b.tag third.1)
    (same_true dir_row.the_type (search rules) a.dir b.dir second.1)
    (same_true kind_row.the_type (search rules) a.kind b.kind first.1)

pub itself : (a : Node) → same_node a a ≡ true
itself a = and_from _ _
    (and_from _ _ (and_from _ _ (eq-eqb a.at a.at refl) (eq-eqb a.tag a.tag refl)) (eq-eqb _ _ refl)) (eq-eqb _ _ refl)

-- what is reached in a stack is what is reached in its graph
unknown_is : (known xs : List Node) → unknown_of known xs ≡ unknown_by same_node known xs
unknown_is known [] = refl
unknown_is known (x ∷ xs) =
    λ i. if list_any (same_node x) known then unknown_is known xs i else x ∷ unknown_is (x ∷ known) xs i

reached_is : (stack : List LayerTree) (steps : ℕ) (known new : List Node) →
    reached_nodes steps stack known new ≡ reached_by same_node (following stack) steps known new
reached_is stack steps known [] = refl
reached_is stack zero known (x ∷ xs) = refl
reached_is stack (suc steps) known (x ∷ xs) =
    let all = known ++ x ∷ xs in
    let found = flat_map (following stack) (x ∷ xs) in
    ap (reached_nodes steps stack all) (unknown_is all found) ∙
    reached_is stack steps all (unknown_by same_node all found)

-- none is found where none is
none_found : {A : Type 0} (p : A → Bool) (xs : List A) (x : A) → find p xs ≡ None → In x xs → p x ≡ false
none_found p [] x h m = absurd m
none_found p (y ∷ ys) x h m = go (p y) refl h m (none_found p ys x) where
  go : (b : Bool) → p y ≡ b → (if b then Some y else find p ys) ≡ None → (x ≡ y) ⊎ In x ys →
      (find p ys ≡ None → In x ys → p x ≡ false) →
      p x ≡ false
  go true is h m later = absurd (cc h)
  go false is h (inl e) later = ap p e ∙ is
  go false is h (inr k) later = later h k

-- sums over arrows are equal where the targets cost the same
same_map : (f g : Node → ℕ) (ts : List Node) → ((t : Node) → In t ts → f t ≡ g t) → map f ts ≡ map g ts
same_map f g [] h = refl
same_map f g (t ∷ ts) h = λ i. h t (inl refl) i ∷ same_map f g ts (λ x m. h x (inr m)) i

same_after : (f g : Node → ℕ) (arrs : List Arrow) →
    ((t : Node) → In t (flat_map (λ arrow. arrow.targets) arrs) → f t ≡ g t) →
    after_arrows f arrs ≡ after_arrows g arrs
same_after f g [] h = refl
same_after f g (a ∷ arrs) h =
    sum_by-cons (λ arrow. arrow.times * largest (map f arrow.targets)) a arrs
    ∙ (λ i. a.times * largest (same_map f g a.targets (λ t m. h t (in_left t a.targets _ m)) i)
    + same_after f g arrs (λ t m. h t (in_right t a.targets _ m)) i)
    ∙ sym (sum_by-cons (λ arrow. arrow.times * largest (map g arrow.targets)) a arrs)

-- a node is on a cycle where it is after itself
pub cycle_is : (stack : List LayerTree) (n : Node) →
    is_on_cycle stack n ≡ list_any (same_node n) (reachable same_node (following stack) (nodes stack) n)
cycle_is stack n = ap (list_any (same_node n))
    (ap (reached_nodes (length (nodes stack)) stack []) (unknown_is [] (following stack n))
    ∙ reached_is stack (length (nodes stack)) [] (unknown_by same_node [] (following stack n)))

module _ (stack : List LayerTree) (orderly : IsOrderly stack) (off : first_on_cycle stack ≡ None) where
  pub cycle_free : (n : Node) → IsNode stack n →
      list_any (same_node n) (reachable same_node (following stack) (nodes stack) n) ≡ false
  cycle_free n is = sym (cycle_is stack n) ∙ none_found (is_on_cycle stack) (nodes stack) n off (listed stack n is)

  -- the number of steps changes nothing once it is above the rank
  steady : (own : Node → ℕ) (k : ℕ) (n : Node) → IsNode stack n → rank same_node (following stack) (nodes stack) n < k →
      cost_in k stack own n ≡ cost_in (suc k) stack own n
  steady own zero n is less = absurd (omega arith)
  steady own (suc k) n is less =
      ap (λ s. own n + s) (same_after (cost_in k stack own) (cost_in (suc k) stack own) (arrows stack n)
      (λ t m.
      let next = next_node stack orderly n t is m in
      let falls = rank_falls same_node sound itself (following stack) (nodes stack) (IsNode stack) (listed stack)
      (next_node stack orderly) n t is m (cycle_free t next) in
      steady own k t next (omega arith)))

  pub follows : (own : Node → ℕ) (n : Node) → IsNode stack n →
      cost stack own n ≡ own n + after_arrows (cost stack own) (arrows stack n)
  follows own n is = steady own (length (nodes stack)) n is
      (rank_below same_node sound itself (following stack) (nodes stack) (IsNode stack) (listed stack)
      (next_node stack orderly) n is (cycle_free n is))

pub costs_follow_arrows : CostsFollowArrows
costs_follow_arrows stack own n orderly off is = follows stack orderly off own n is
