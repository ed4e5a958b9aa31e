-- What the tables tell of a stack.
use Rattle.std.proofs.Common.{◌≡◌, ℕ, ◌-◌, ◌<◌, ◌≤◌, Bool, true, false, max, nat_lt, All, List, [], ◌∷◌, ◌++◌, map}
use Rattle.std.proofs.Common.{length, slice_index, Option, Some, None, Result, Ok, Err, refl, sym, ap, ◌∙◌, inl, inr}
use Rattle.std.proofs.Common.{arith, lt-ltb, le-ltb}
use Rattle.std.specs.Prelude.{if◌then◌else◌, is_ok}
use Rattle.std.specs.List.{find, range_with_len}
use Rattle.layer_words.specs.declared.events.Dir.{Dir}
use Rattle.layer_words.specs.declared.events.Kind.{Kind}
use Rattle.layer_mean.specs.Tree.{LayerTree}
use Rattle.layer_words.specs.declared.events.Dir.TheVariants.{Up, Down}
use Rattle.layer_words.specs.declared.events.Kind.TheVariants.{Cast, Send, Timer, Leave}
use Rattle.stack_mean.specs.Graph.{Node, nodes, nodes_of, first_on_cycle, is_on_cycle}
use Rattle.stack_mean.specs.Acceptance.{Refusal, acceptance, without_cycle, cycle, too_many, too_many_joins}
use Rattle.stack_mean.specs.Acceptance.{held_at_most}
use Rattle.stack_mean.specs.Acceptance.{largest, largest_weight, largest_joins, weight_limit, joins_limit}
use Rattle.weight_laws.specs.Orderly.{IsOrderly}
use Rattle.weight_laws.specs.Tables.{HasFewHeaders, node_number, table_of}
use Rattle.weight_laws.specs.Rounds.{largest_entry, rounds}
use Rattle.weight_laws.proofs.Members.{In}
use Rattle.weight_laws.proofs.Built.{nodes_are, tables_tell}
use Rattle.weight_laws.proofs.Search.{search_tells_cycles}
use Rattle.weight_laws.proofs.Rounds.{largest_in_rounds}
use Rattle.std.proofs.lemmas.List.{length-map}
use Rattle.std.proofs.lemmas.List.Elements.{All-head, All-tail}
use Rattle.std.proofs.lemmas.Simd.{map-map}
use Rattle.std.specs.declared.alloc.Global.{Global}
use Rattle.std.specs.declared.rc.Rc.{Rc}
use Rattle.std.specs.Rc.{rc_value}
use Rattle.weight_laws.proofs.Held.{largest_cons}
use Rattle.typed_layer.specs.declared.tree.TypedLayer.{TypedLayer}
use Rattle.typed_layer.specs.View.{layer_tree, header_tree}
use Rattle.typed_layer.specs.Headers.{HasFewHeaders as HasFew}
use Rattle.stack_judge.specs.Vertices.{node_at}
use Rattle.stack_judge.proofs.Numbered.{numbered}
use Rattle.stack_judge.specs.Measures.{own_of}
use Rattle.stack_judge.specs.Searches.{meets_itself}
use Rattle.stack_judge.specs.Judged.{largest_of, largest_at}
use Rattle.stack_judge.specs.declared.rounds.Measure.{Measure}
use Rattle.stack_judge.specs.declared.rounds.Measure.TheVariants.{Tasks, Joins}

same_find : {A : Type 0} (p q : A → Bool) (xs : List A) → ((x : A) → In x xs → p x ≡ q x) → find p xs ≡ find q xs
same_find p q [] same = refl
same_find p q (x ∷ xs) same = λ i. if same x (inl refl) i then Some x else same_find p q xs (λ y m. same y (inr m)) i

pub cycles_tell : (stack : List LayerTree) → IsOrderly stack → HasFewHeaders stack →
    find (meets_itself (table_of stack) (length (nodes stack))) (nodes stack) ≡ first_on_cycle stack
cycles_tell stack orderly few =
    same_find (meets_itself (table_of stack) (length (nodes stack))) (is_on_cycle stack) (nodes stack)
    (λ n m. search_tells_cycles stack (table_of stack) n orderly few (tables_tell stack few) (nodes_are stack n m))

pub costs_tell : (stack : List LayerTree) (measure : Measure) → IsOrderly stack → HasFewHeaders stack →
    largest_entry stack (rounds (own_of measure) (table_of stack) (length (nodes stack))) ≡
    held_at_most (largest_of measure stack)
costs_tell stack Tasks orderly few = (largest_in_rounds stack (table_of stack) orderly (tables_tell stack few)).0
costs_tell stack Joins orderly few = (largest_in_rounds stack (table_of stack) orderly (tables_tell stack few)).1

pub on_cycle : (stack : List LayerTree) (n : Node) → Some n ≡ first_on_cycle stack →
    acceptance stack ≡ Err (cycle (n.at - 1) n.kind)
on_cycle stack n found = ap (without_cycle stack) (sym found)

judged_without : (stack : List LayerTree) → None ≡ first_on_cycle stack →
    acceptance stack ≡ (if nat_lt weight_limit (largest_weight stack) then Err
    (too_many (held_at_most (largest_weight stack)))
    else if nat_lt joins_limit (largest_joins stack) then Err too_many_joins else Ok stack)
judged_without stack none = ap (without_cycle stack) (sym none)

pub too_heavy : (stack : List LayerTree) (weight : ℕ) → None ≡ first_on_cycle stack →
    weight ≡ held_at_most (largest_weight stack) →
    65536 < weight → acceptance stack ≡ Err (too_many weight)
too_heavy stack weight none is more =
    let above : weight_limit < largest_weight stack = omega (arith, is) in
    judged_without stack none
    ∙ ap (λ b. if b then Err (too_many (held_at_most (largest_weight stack))) else if nat_lt joins_limit
    (largest_joins stack) then Err too_many_joins else Ok stack)
    (lt-ltb weight_limit (largest_weight stack) above)
    ∙ ap (λ w. Err (too_many w)) (sym is)

light : (stack : List LayerTree) (weight : ℕ) → None ≡ first_on_cycle stack →
    weight ≡ held_at_most (largest_weight stack) → weight ≤ 65536 →
    acceptance stack ≡ (if nat_lt joins_limit (largest_joins stack) then Err too_many_joins else Ok stack)
light stack weight none is few =
    let within : largest_weight stack ≤ weight_limit = omega (arith, is) in
    judged_without stack none
    ∙ ap (λ b. if b then Err (too_many (held_at_most (largest_weight stack))) else if nat_lt joins_limit
    (largest_joins stack) then Err too_many_joins else Ok stack)
    (le-ltb weight_limit (largest_weight stack) within)

pub joins_too_much : (stack : List LayerTree) (weight joins : ℕ) → None ≡ first_on_cycle stack →
    weight ≡ held_at_most (largest_weight stack) →
    weight ≤ 65536 → joins ≡ held_at_most (largest_joins stack) → 1024 < joins → acceptance stack ≡ Err too_many_joins
joins_too_much stack weight joins none is few joins_are more =
    let above : joins_limit < largest_joins stack = omega (arith, joins_are) in
    light stack weight none is few
    ∙ ap (λ b. if b then Err too_many_joins else Ok stack) (lt-ltb joins_limit (largest_joins stack) above)

pub passes : (stack : List LayerTree) (weight joins : ℕ) → None ≡ first_on_cycle stack →
    weight ≡ held_at_most (largest_weight stack) →
    weight ≤ 65536 → joins ≡ held_at_most (largest_joins stack) → joins ≤ 1024 → (acceptance stack ≡ Ok stack) ×
    (weight ≡ largest_weight stack)
passes stack weight joins none is few joins_are few_joins =
    let within : largest_joins stack ≤ joins_limit = omega (arith, joins_are) in (
      light stack weight none is few ∙ ap (λ b. if b then Err too_many_joins else Ok stack)
          (le-ltb joins_limit (largest_joins stack) within),
      omega (arith, is),
    )

-- the headers of typed layers, and of their trees
pub few_headers : (layers : List (Rc TypedLayer Global)) → All HasFew layers →
    HasFewHeaders (map (λ layer. layer_tree (rc_value layer)) layers)
few_headers [] h = tt
few_headers (layer ∷ above) h = (
  omega (arith, All-head HasFew layer above h, length-map (rc_value layer).headers.items header_tree),
  few_headers above (All-tail HasFew layer above h),
)

pub largest_both : {A : Type 0} (f : A → ℕ) (xs ys : List A) → largest (map f (xs ++ ys)) ≡
    max (largest (map f xs)) (largest (map f ys))
largest_both f [] ys = omega arith
largest_both f (x ∷ xs) ys =
    omega (arith, largest_cons (f x) (map f (xs ++ ys)), largest_cons (f x) (map f xs), largest_both f xs ys)

pub largest_numbered : (costs : List ℕ) (at : ℕ) (dir : Dir) (kind : Kind) (count : ℕ) (tags : List ℕ) →
    range_with_len 0 count ≡ tags →
    largest (map (slice_index costs) (range_with_len (node_number (node_at at dir kind 0)) count)) ≡
    largest_at costs (map (node_at at dir kind) tags)
largest_numbered costs at dir kind count tags is =
    ap (λ ns. largest (map (slice_index costs) ns)) (numbered at dir kind 0 count)
    ∙ ap largest (map-map (slice_index costs) node_number (map (node_at at dir kind) (range_with_len 0 count)))
    ∙ ap (λ ts. largest_at costs (map (node_at at dir kind) ts)) is

joined : {A : Type 0} (g : A → ℕ) (xs ys : List A) (x y both : ℕ) → x ≡ largest (map g xs) → y ≡ largest (map g ys) →
    both ≡ max x y →
    both ≡ largest (map g (xs ++ ys))
joined g xs ys x y both x_is y_is is = is ∙ (λ i. max (x_is i) (y_is i)) ∙ sym (largest_both g xs ys)

six : {A : Type 0} (g : A → ℕ) (ps bs cs ds es fs : List A) (a b c d e f ab abc abcd abcde all : ℕ) →
    a ≡ largest (map g ps) → b ≡ largest (map g bs) → c ≡ largest (map g cs) → d ≡ largest (map g ds) →
    e ≡ largest (map g es) → f ≡ largest (map g fs) →
    ab ≡ max a b → abc ≡ max ab c → abcd ≡ max abc d → abcde ≡ max abcd e → all ≡ max abcde f →
    all ≡ largest (map g (ps ++ bs ++ cs ++ ds ++ es ++ fs))
six g ps bs cs ds es fs a b c d e f ab abc abcd abcde all a_is b_is c_is d_is e_is f_is ab_is abc_is abcd_is abcde_is
    all_is =
    joined g (ps ++ bs ++ cs ++ ds ++ es) fs abcde f all
    (joined g (ps ++ bs ++ cs ++ ds) es abcd e abcde
    (joined g (ps ++ bs ++ cs) ds abc d abcd
    (joined g (ps ++ bs) cs ab c abc (joined g ps bs a b ab a_is b_is ab_is) c_is abc_is) d_is abcd_is) e_is abcde_is)
    f_is all_is

-- the largest cost of the entries, one kind after the other
pub entries_largest : (stack : List LayerTree) (costs : List ℕ) (top a b c d e f ab abc abcd abcde all : ℕ) →
    top ≡ length stack →
    a ≡ largest_at costs (nodes_of stack 1 Up Cast) → b ≡ largest_at costs (nodes_of stack 1 Up Send) →
    c ≡ largest_at costs (nodes_of stack 1 Up Timer) → d ≡ largest_at costs (nodes_of stack top Down Cast) →
    e ≡ largest_at costs (nodes_of stack top Down Send) → f ≡ largest_at costs (nodes_of stack top Down Leave) →
    ab ≡ max a b → abc ≡ max ab c → abcd ≡ max abc d → abcde ≡ max abcd e → all ≡ max abcde f →
    all ≡ largest_entry stack costs
entries_largest stack costs top a b c d e f ab abc abcd abcde all top_is a_is b_is c_is d_is e_is f_is ab_is abc_is
    abcd_is abcde_is all_is =
    let cost : Node → ℕ = λ n. slice_index costs (node_number n) in
    let at_top : Kind → ℕ → ℕ = λ kind at. largest_at costs (nodes_of stack at Down kind) in
    six cost (nodes_of stack 1 Up Cast) (nodes_of stack 1 Up Send) (nodes_of stack 1 Up Timer)
    (nodes_of stack (length stack) Down Cast) (nodes_of stack (length stack) Down Send)
    (nodes_of stack (length stack) Down Leave)
    a b c d e f ab abc abcd abcde all a_is b_is c_is (d_is ∙ ap (at_top Cast) top_is) (e_is ∙ ap (at_top Send) top_is)
    (f_is ∙ ap (at_top Leave) top_is) ab_is abc_is abcd_is abcde_is all_is

abbrev by_limits : (stack : List LayerTree) → Bool → Bool → ℕ → Result (List LayerTree) Refusal
by_limits stack heavy much weight = if heavy then Err (too_many weight) else if much then Err too_many_joins else Ok
    stack

within_limits : (stack : List LayerTree) (heavy much : Bool) (weight : ℕ) → is_ok (by_limits stack heavy much weight) ≡
    true →
    by_limits stack heavy much weight ≡ Ok stack
within_limits stack true much weight h = absurd (cc h)
within_limits stack false true weight h = absurd (cc h)
within_limits stack false false weight h = refl

-- a stack is accepted as it is
pub accepted_is : (stack : List LayerTree) → is_ok (acceptance stack) ≡ true → acceptance stack ≡ Ok stack
accepted_is stack h = by_cycle (first_on_cycle stack) h where
  by_cycle : (found : Option Node) → is_ok (without_cycle stack found) ≡ true → without_cycle stack found ≡ Ok stack
  by_cycle (Some n) h = absurd (cc h)
  by_cycle None h =
      within_limits stack (nat_lt weight_limit (largest_weight stack)) (nat_lt joins_limit (largest_joins stack))
      (held_at_most (largest_weight stack)) h
