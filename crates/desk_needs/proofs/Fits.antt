-- No part of a typed layer is a misfit.
use Rattle.std.proofs.Common.{◌≡◌, ℕ, suc, zero, ◌≤◌, max, Bool, true, false, nat_lt, not, if◌then◌else◌, List, [], ◌∷◌}
use Rattle.std.proofs.Common.{length, map, slice_get, slice_index, Option, Some, None, refl, sym, ap, ◌∙◌, subst, arith}
use Rattle.std.specs.List.{fold, find, AllByRecursion}
use Rattle.std.specs.Option.{option_map_or, IsSomeAnd}
use Rattle.std.proofs.lemmas.Bool.{le-ltb}
use Rattle.std.specs.Prelude.{option_and_then}
use Rattle.msg_core.specs.declared.message.Header.{Header}
use Rattle.layer_words.specs.declared.sorts.Sort.{Sort}
use Rattle.layer_words.specs.declared.sorts.Sort.TheVariants.{Msg}
use Rattle.layer_words.specs.declared.events.Dir.{Dir}
use Rattle.layer_words.specs.declared.events.Dir.TheVariants.{Up, Down}
use Rattle.layer_words.specs.declared.events.Kind.{Kind}
use Rattle.layer_mean.specs.Event.{carries}
use Rattle.layer_mean.specs.Headers.{header_of_tag}
use Rattle.layer_mean.specs.Tree.{Carried, part, whole, MessageTree, message, nothing, held, cut, tail, join}
use Rattle.layer_mean.specs.Tree.{ContentTree, CellTree, Form, numbers, queue, queues, StatementTree, bind, assign}
use Rattle.layer_mean.specs.Tree.{assign_square, push, take, branch, each, emit, StatementTrees, none, more}
use Rattle.layer_mean.specs.Tree.{HandlerTree, LayerTree}
use Rattle.layer_mean.specs.Visit.{Met, handler_for}
use Rattle.chain_laws.specs.Typed as typed
use Rattle.chain_laws.specs.Typed.{Sorted, Typed, TypedAll, TypedLayer, TypedHandler, queue_at, queue_in, sort_under}
use Rattle.chain_laws.specs.Typed.{sorts_of}
use Rattle.layer_desk.specs.Need.{too_wide, too_short, are_above, one_if, message_misfits, misfits, block_misfits}
use Rattle.layer_desk.specs.Need.{visit_need, block_in_hand}
use Rattle.desk_needs.specs.Layouts.{most, rows_kept, layout_of}
use Rattle.desk_needs.specs.Laws.{FitsLayout, TypedLayersFit}

-- what stands in for a message
carried_fits : (blank : List Header) (carried : Carried) → are_above blank ≡ true → typed.HasBlank blank carried →
    too_wide carried ≡ 0
carried_fits blank part above has = refl
carried_fits blank (whole headers) above has = ap (λ b. one_if (not b)) (ap are_above has ∙ above)

-- what is no less isn't less
not_less : (a b : ℕ) → b ≤ a → one_if (nat_lt a b) ≡ 0
not_less a b le = ap one_if (le-ltb a b le)

kept_in : (form : Form) (q : typed.Queue) → queue_in form ≡ Some q → rows_kept form ≡ q.capacity
kept_in (numbers shape initial) q listed = absurd (cc)
kept_in (queue capacity items) q listed =
    ap (λ (o : Option typed.Queue). option_map_or (λ (z : typed.Queue). z.capacity) o 0) listed
kept_in (queues capacity items) q listed =
    ap (λ (o : Option typed.Queue). option_map_or (λ (z : typed.Queue). z.capacity) o 0) listed

-- a queue of the layer keeps as many rows as its cell says
kept_of : (cells : List CellTree) (c : ℕ) (q : typed.Queue) →
    option_and_then (λ (cell : CellTree). queue_in cell.form) (slice_get cells c) ≡ Some q →
    slice_index (map (λ (cell : CellTree). rows_kept cell.form) cells) c ≡ q.capacity
kept_of [] c q listed = absurd (cc)
kept_of (cell ∷ cells) zero q listed = kept_in cell.form q listed
kept_of (cell ∷ cells) (suc c) q listed = kept_of cells c q listed

-- what is said of a declared header
said_of : {A B : Type 0} (P : A → Type 0) (o : Option A) → IsSomeAnd o P → ((a : A) → P a → B) → B
said_of P None is f = absurd is
said_of P (Some a) is f = f a is

module _ (layer : LayerTree) (blank : List Header) (places : ℕ) (above : are_above blank ≡ true) where
  message_fits : (sorts : List Sort) (sort : Sort) (m : MessageTree) → Sorted layer blank sorts sort m →
      message_misfits m ≡ 0
  message_fits sorts sort (message k) s = refl
  message_fits sorts sort nothing s = refl
  message_fits sorts sort (held c i row carried) s = carried_fits blank carried above s.0.blanks
  message_fits sorts sort (cut m from length) s = refl
  message_fits sorts sort (tail m from) s = message_fits sorts sort m s
  message_fits sorts sort (join p m) s = message_fits sorts sort m s

  capacity_fits : (c capacity : ℕ) (q : typed.Queue) → queue_at layer c ≡ Some q → capacity ≡ q.capacity →
      too_short (layout_of layer places) c capacity ≡ 0
  capacity_fits c capacity q listed room =
      ap (λ n. one_if (nat_lt n capacity)) (kept_of layer.cells c q listed ∙ sym room) ∙
      not_less capacity capacity (omega arith)

  ends_fit : (sorts : List Sort) (item : Option (List ℕ × Carried)) (m : Option MessageTree) →
      typed.Ends layer blank sorts item m →
      option_map_or message_misfits m 0 ≡ 0
  ends_fit sorts None None ends = refl
  ends_fit sorts (Some item) (Some m) ends = message_fits sorts (typed.sort_of item.1) m ends
  ends_fit sorts None (Some m) ends = absurd ends
  ends_fit sorts (Some item) None ends = absurd ends

  taken_fits : (sorts : List Sort) (c : ℕ) (t : Option (ℕ × Carried)) → typed.Takes layer blank sorts c t →
      option_map_or (λ (slot : ℕ × Carried). too_wide slot.1) t 0 ≡ 0
  taken_fits sorts c None takes = refl
  taken_fits sorts c (Some item) takes = carried_fits blank item.1 above takes.0.blanks

  pushed_fits : (sorts : List Sort) (c : ContentTree) → typed.Pushed layer blank sorts c → message_misfits c.message ≡ 0
  pushed_fits sorts c pushed =
      said_of _ (header_of_tag layer c.tag) pushed.declares
      (λ d is. message_fits sorts (sort_under d.ends) c.message is.1)

  content_fits : (sorts : List Sort) (dir : Dir) (c : ContentTree) → typed.Content layer blank sorts dir c →
      message_misfits c.message ≡ 0
  content_fits sorts Up c is = message_fits sorts Msg c.message is
  content_fits sorts Down c is = pushed_fits sorts c is

  sends_fits : (sorts : List Sort) (carry : Bool) (dir : Dir) (c : Option ContentTree) →
      typed.Sends layer blank sorts carry dir c →
      option_map_or (λ (x : ContentTree). message_misfits x.message) c 0 ≡ 0
  sends_fits sorts true dir (Some c) is = content_fits sorts dir c is
  sends_fits sorts true dir None is = absurd is
  sends_fits sorts false dir None is = refl
  sends_fits sorts false dir (Some c) is = absurd is

  mutual
    statement_fits : (sorts : List Sort) (x : StatementTree) → Typed layer blank sorts x →
        misfits (layout_of layer places) x ≡ 0
    statement_fits sorts (bind k e) is = refl
    statement_fits sorts (assign c i e) is = refl
    statement_fits sorts (assign_square c row column e) is = refl
    statement_fits sorts (push c i capacity row otherwise) is =
        let room = capacity_fits c capacity is.0.rows is.0.listed is.0.room in
        let ends = ends_fit sorts is.0.rows.items.message row.message is.0.message in
        let rest = block_fits sorts otherwise is.1 in omega (arith, room, ends, rest)
    statement_fits sorts (take c i taken block otherwise) is =
        let takes = taken_fits sorts c taken.message is.0 in
        let first = block_fits (typed.with_taken_sort sorts taken.message) block is.1 in
        let second = block_fits sorts otherwise is.2 in omega (arith, takes, first, second)
    statement_fits sorts (branch likely e block otherwise) is =
        let first = block_fits sorts block is.0 in let second = block_fits sorts otherwise is.1 in
        omega (arith, first, second)
    statement_fits sorts (each k below most block) is = block_fits sorts block is.1
    statement_fits sorts (emit e) is = sends_fits sorts (carries e.kind) e.direction e.content is.1

    block_fits : (sorts : List Sort) (b : StatementTrees) → TypedAll layer blank sorts b →
        block_misfits (layout_of layer places) b ≡ 0
    block_fits sorts none is = refl
    block_fits sorts (more x rest) is =
        let first = statement_fits sorts x is.0 in let second = block_fits sorts rest is.1 in
        omega (arith, first, second)

-- the most of any is no less than what it began with, nor than that of one that is found
module _ {A : Type 0} (f : A → ℕ) where
  begun_most : (m : ℕ) (xs : List A) → m ≤ fold (λ n x. max n (f x)) m xs
  begun_most m [] = omega arith
  begun_most m (x ∷ xs) = let rest = begun_most (max m (f x)) xs in omega (arith, rest)

  found_most : (p : A → Bool) (m : ℕ) (xs : List A) (h : A) → find p xs ≡ Some h → f h ≤ fold (λ n x. max n (f x)) m xs
  found_most p m [] h found = absurd (cc)
  found_most p m (x ∷ xs) h found = go (p x) found (found_most p (max m (f x)) xs h) where
    go : (b : Bool) → (if b then Some x else find p xs) ≡ Some h →
        (find p xs ≡ Some h → f h ≤ fold (λ n y. max n (f y)) (max m (f x)) xs) →
        f h ≤ fold (λ n y. max n (f y)) (max m (f x)) xs
    go true is rest = let same : x ≡ h = cc in let begun = begun_most (max m (f x)) xs in
        omega (arith, begun, ap f same)
    go false is rest = rest is

found_all : {A : Type 0} (P : A → Type 0) (p : A → Bool) (xs : List A) (h : A) → AllByRecursion P xs →
    find p xs ≡ Some h → P h
found_all P p [] h all found = absurd (cc)
found_all P p (x ∷ xs) h all found = go (p x) found (found_all P p xs h all.1) where
  go : (b : Bool) → (if b then Some x else find p xs) ≡ Some h → (find p xs ≡ Some h → P h) → P h
  go true is rest = let same : x ≡ h = cc in subst P same all.0
  go false is rest = rest is

visit_fits : (blank : List Header) (layer : LayerTree) (places : ℕ) (dir : Dir) (kind : Kind) (m : Met) →
    are_above blank ≡ true → TypedLayer blank layer →
    (o : Option HandlerTree) → handler_for layer dir kind m.tag ≡ o →
    FitsLayout (layout_of layer places) (visit_need (layout_of layer places) o m)
visit_fits blank layer places dir kind m above is None found = record { misfits = refl; hand = omega arith }
visit_fits blank layer places dir kind m above is (Some h) found =
    let block = block_fits layer blank places above (sorts_of layer h) h.block
    (found_all (TypedHandler layer blank) _ layer.handlers h is.handlers found) in
    let numbers_fit = not_less _ h.numbers (found_most (λ (x : HandlerTree). x.numbers) _ 0 layer.handlers h found) in
    let messages_fit = not_less _ h.messages (found_most (λ (x : HandlerTree). x.messages) _ 0 layer.handlers h found)
    in
    record {
      misfits = omega (arith, block, numbers_fit, messages_fit);
      hand =
          found_most (λ (x : HandlerTree). block_in_hand x.block) _ 0 layer.handlers h found;
    }

pub typed_layers_fit : TypedLayersFit
typed_layers_fit blank layer places dir kind m above is =
    visit_fits blank layer places dir kind m above is (handler_for layer dir kind m.tag) refl
