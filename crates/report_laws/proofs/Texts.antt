-- Headers, messages and rows as a report writes them are whole: they have no line feed.
use Rattle.std.proofs.Common.{◌≡◌, ℕ, ◌+◌, ◌-◌, ◌==◌, Bool, true, false, List, [], ◌∷◌, ◌++◌, map, refl}
use Rattle.std.proofs.Common.{arith}
use Rattle.std.specs.Prelude.{if◌then◌else◌, codes, slice_index_or, option_to_list}
use Rattle.std.specs.Fmt.{decimal}
use Rattle.std.specs.List.{AllByRecursion, list_all, join_by, flat_map, enumerate_from}
use Rattle.std.proofs.lemmas.Bool.{and_parts}
use Rattle.msg_core.specs.Chain.{Content}
use Rattle.msg_core.specs.declared.message.Header.{Header}
use Rattle.layer_mean.specs.declared.run.Row.{Row}
use Rattle.layer_mean.specs.Tree.{LayerTree, Form, numbers, queue, queues, no_layer}
use Rattle.layer_mean.specs.State.{Contents, numbers_in, queues_in}
use Rattle.script_mean.specs.EventText.{hex_text}
use Rattle.chain_laws.proofs.Lists.{each_or, each_append}
use Rattle.run_mean.specs.Text.{layer_number, header_name, header_text, chain_text, message_text, row_text, rows_text}
use Rattle.run_mean.specs.Lines.{queue_name, cell_values}
use Rattle.report_laws.specs.ReadsBack.{is_whole, has_whole_names, HasWholeNames}
use Rattle.report_laws.proofs.Clear.{Clear, clear_text, clear_both, clear_joined, clear_flat, decimal_clear}
use Rattle.report_laws.proofs.Clear.{body_clear}

-- the names of a layer, one by one
pub record Whole (layer : LayerTree) : Type 0 where
  pub name : Clear 10 layer.name
  pub headers : AllByRecursion (λ h. Clear 10 h.name) layer.headers
  pub cells : AllByRecursion (λ c. Clear 10 c.name) layer.cells

all_clear : {A : Type 0} (f : A → List ℕ) (xs : List A) → list_all (λ x. is_whole (f x)) xs ≡ true →
    AllByRecursion (λ x. Clear 10 (f x)) xs
all_clear f [] h = tt
all_clear f (x ∷ xs) h =
    let parts = and_parts (is_whole (f x)) (list_all (λ y. is_whole (f y)) xs) h in
    (clear_text 10 (f x) parts.0, all_clear f xs parts.1)

whole_layer : (layer : LayerTree) → has_whole_names layer ≡ true → Whole layer
whole_layer layer h =
    let first = and_parts (is_whole layer.name) _ h in
    let second = and_parts (list_all (λ x. is_whole x.name) layer.headers) _ first.1 in
    record {
      name = clear_text 10 layer.name first.0;
      headers = all_clear (λ x. x.name) layer.headers second.0;
      cells = all_clear (λ x. x.name) layer.cells second.1;
    }

pub whole_layers : (stack : List LayerTree) → HasWholeNames stack → AllByRecursion Whole stack
whole_layers [] h = tt
whole_layers (layer ∷ stack) h =
    let parts = and_parts (has_whole_names layer) (list_all has_whole_names stack) h in
    (whole_layer layer parts.0, whole_layers stack parts.1)

constant : (text : List ℕ) → is_whole text ≡ true → Clear 10 text
constant text h = clear_text 10 text h

number_clear : (n : ℕ) → Clear 10 (decimal n)
number_clear n = decimal_clear 10 n (omega arith)

module _ (stack : List LayerTree) (whole : AllByRecursion Whole stack) where
  layer_is : (place : ℕ) → Whole (layer_number stack place)
  layer_is place = each_or Whole stack place no_layer whole (whole_layer no_layer refl)

  header_name_clear : (layer : LayerTree) (tag : ℕ) → Whole layer → Clear 10 (header_name layer tag)
  header_name_clear layer tag is = by (tag == 0) where
    by : (b : Bool) → Clear 10 (if b then codes "none"
        else (slice_index_or layer.headers (tag - 1) (record { name = []; fields = 0; ends = false })).name)
    by true = constant (codes "none") refl
    by false = each_or (λ h. Clear 10 h.name) layer.headers (tag - 1)
        (record { name = []; fields = 0; ends = false }) is.headers tt

  header_clear : (h : Header) → Clear 10 (header_text stack h)
  header_clear h =
      let layer = layer_number stack h.layer in
      let is = layer_is h.layer in
      clear_both 10 _ (codes ")")
      (clear_both 10 _ (join_by decimal (codes ",") h.fields)
      (clear_both 10 _ (codes "(")
      (clear_both 10 _ (header_name layer h.tag)
      (clear_both 10 layer.name (codes ".") is.name (constant (codes ".") refl)) (header_name_clear layer h.tag is))
      (constant (codes "(") refl))
      (clear_joined 10 decimal (codes ",") (constant (codes ",") refl) number_clear h.fields))
      (constant (codes ")") refl)

  pub chain_clear : (headers : List Header) → Clear 10 (chain_text stack headers)
  chain_clear [] = constant (codes "-") refl
  chain_clear (h ∷ headers) =
      clear_joined 10 (header_text stack) (codes "/") (constant (codes "/") refl) header_clear (h ∷ headers)

  message_clear : (m : Content) → Clear 10 (message_text stack m)
  message_clear m =
      clear_both 10 _ (hex_text m.body)
      (clear_both 10 (chain_text stack m.headers) (codes ":") (chain_clear m.headers) (constant (codes ":") refl))
      (body_clear m.body)

  -- texts that are each clear, joined
  texts_clear : (sep : List ℕ) → Clear 10 sep → (texts : List (List ℕ)) → AllByRecursion (Clear 10) texts →
      Clear 10 (join_by (λ t. t) sep texts)
  texts_clear sep between [] all = tt
  texts_clear sep between (t ∷ texts) all =
      clear_both 10 t (flat_map (λ w. sep ++ w) texts) all.0 (clear_flat 10 sep between texts all.1)

  each_clear : {A : Type 0} (f : A → List ℕ) → ((x : A) → Clear 10 (f x)) → (xs : List A) →
      AllByRecursion (Clear 10) (map f xs)
  each_clear f each [] = tt
  each_clear f each (x ∷ xs) = (each x, each_clear f each xs)

  row_clear : (row : Row) → Clear 10 (row_text stack row)
  row_clear row =
      let items = map decimal row.numbers ++ map (message_text stack) (option_to_list row.message) in
      clear_both 10 (codes "[" ++ join_by (λ item. item) (codes ",") items) (codes "]")
      (clear_both 10 (codes "[") (join_by (λ item. item) (codes ",") items) (constant (codes "[") refl)
      (texts_clear (codes ",") (constant (codes ",") refl) items
      (each_append (Clear 10) (map decimal row.numbers) (map (message_text stack) (option_to_list row.message))
      (each_clear decimal number_clear row.numbers)
      (each_clear (message_text stack) message_clear (option_to_list row.message)))))
      (constant (codes "]") refl)

  rows_clear : (rows : List Row) → Clear 10 (rows_text stack rows)
  rows_clear [] = constant (codes "-") refl
  rows_clear (r ∷ rows) =
      clear_joined 10 (row_text stack) (codes " ") (constant (codes " ") refl) row_clear (r ∷ rows)

  -- the values of a cell, each with its name
  abbrev pub BothClear : List ℕ × List ℕ → Type 0
  BothClear x = Clear 10 x.0 × Clear 10 x.1

  queue_clear : (name : List ℕ) (i : ℕ) → Clear 10 name → Clear 10 (queue_name name i)
  queue_clear name i h =
      clear_both 10 _ (codes "]")
      (clear_both 10 _ (decimal i) (clear_both 10 name (codes "[") h (constant (codes "[") refl)) (number_clear i))
      (constant (codes "]") refl)

  rows_named : (name : List ℕ) → Clear 10 name → (qs : List (List Row)) →
      AllByRecursion BothClear (map (λ rows. (name, rows_text stack rows)) qs)
  rows_named name h [] = tt
  rows_named name h (rows ∷ qs) = ((h, rows_clear rows), rows_named name h qs)

  queues_named : (name : List ℕ) → Clear 10 name → (qs : List (List Row)) (n : ℕ) →
      AllByRecursion BothClear (map (λ q. (queue_name name q.0, rows_text stack q.1)) (enumerate_from n qs))
  queues_named name h [] n = tt
  queues_named name h (rows ∷ qs) n = ((queue_clear name n h, rows_clear rows), queues_named name h qs (n + 1))

  pub values_clear : (name : List ℕ) (form : Form) (held : Contents) → Clear 10 name →
      AllByRecursion BothClear (cell_values stack name form held)
  values_clear name (numbers shape initial) held h =
      ((h, clear_joined 10 decimal (codes " ") (constant (codes " ") refl) number_clear (numbers_in held)), tt)
  values_clear name (queue capacity items) held h = rows_named name h (queues_in held)
  values_clear name (queues capacity items) held h = queues_named name h (queues_in held) 0
