-- Emissions and pushes without faults send and keep what suits.
use Rattle.std.proofs.Common.{◌≡◌, ◌∙◌, ◌-◌, Bool, true, false, List, [], ◌∷◌, ◌++◌, length, map, Option, Some, None}
use Rattle.std.proofs.Common.{refl, sym, ap, subst, arith}
use Rattle.std.specs.Prelude.{◌==◌, ◌&&◌, is_some, slice_get, option_map, flat_map}
use Rattle.std.specs.List.{AllByRecursion, AllZip, last_or}
use Rattle.std.specs.Option.{option_map_or}
use Rattle.std.proofs.lemmas.Bool.{eqb-true}
use Rattle.std.proofs.lemmas.List.{length-map, length-take}
use Rattle.layer_words.specs.declared.places.At.{At}
use Rattle.layer_words.specs.declared.sorts.Sort.{Sort}
use Rattle.layer_words.specs.declared.sorts.Sort.TheVariants.{Int, Msg, Part}
use Rattle.layer_words.specs.declared.events.Dir.{Dir}
use Rattle.layer_words.specs.declared.events.Dir.TheVariants.{Up, Down}
use Rattle.layer_words.specs.declared.events.Kind.{Kind}
use Rattle.layer_words.specs.declared.events.Kind.TheVariants as kinds
use Rattle.layer_ast.specs.Tree as ast
use Rattle.layer_mean.specs.Event.{carries}
use Rattle.layer_mean.specs.Headers.{header_of_tag}
use Rattle.layer_mean.specs.Tree.{Carried, part, whole}
use Rattle.fault_mean.specs.Declared.{is_header}
use Rattle.fault_mean.specs.Earliest.{unless}
use Rattle.fault_mean.specs.Faults.{kind, arity, direction, header}
use Rattle.fault_mean.specs.Forms.{declared_as, is_end, items_of, fields_of, queue_name}
use Rattle.fault_mean.specs.Kinds.{allows, a_number, a_message, arguments_of}
use Rattle.fault_mean.specs.Scope.{Local, Scope}
use Rattle.fault_mean.specs.Sorts.{argument_sort}
use Rattle.fault_mean.specs.Uses.{arguments_in}
use Rattle.fault_mean.specs.ExpressionFaults.{queue_faults, argument_faults, arguments_faults}
use Rattle.fault_mean.specs.TypeFaults.{pushes, suits, with_faults, pushed_faults, ends_with, sent_sort}
use Rattle.fault_mean.specs.TypeFaults.{emission_faults, row_type_faults, row_sorts}
use Rattle.file_mean.specs.Names.{Names, capacity_declared, capacity_of, carried_in, message_among, numbers_among}
use Rattle.file_mean.specs.Names.{tag_of}
use Rattle.file_mean.specs.Values.{queue_row, queue_carries, queue_cell, argument_number, argument_message}
use Rattle.file_mean.specs.Statements.{pushed_tag, pushed_fields, emission_of, pushed_row}
use Rattle.file_mean.specs.Layers.{row_items, layer_of}
use Rattle.chain_laws.specs.Typed.{Small, sort_of, sort_under, Sorted, Pushed, Content, Sends, Ends, Pushes}
use Rattle.chain_laws.proofs.Lists.{some_and, each_map}
use Rattle.file_laws.specs.Literals.{LiteralArgument, LiteralPushed}
use Rattle.file_laws.proofs.Lists.{nils, unless_nil, zip_each, Both, last_zip, last_map}
use Rattle.file_laws.proofs.Own.{Declares, declares_it, is_rows, queue_listed, headed}
use Rattle.file_laws.proofs.Small.{LiteralPlaced, argument_small, arguments_small}
use Rattle.file_laws.proofs.Messages.{Finds, Agree, LastMessages, queue_declared, row_items_are, argument_found}

-- which sort suits

up_is : (P : Sort → Type 0) (o : Option Sort) (ends : Bool) → Finds P o → option_map_or (suits Up ends) o true ≡ true →
    P Msg
up_is P None ends h is = absurd h
up_is P (Some Int) ends h is = absurd h
up_is P (Some Msg) ends h is = h
up_is P (Some Part) ends h is = absurd (cc is)

down_is : (P : Sort → Type 0) (o : Option Sort) (ends : Bool) → Finds P o → option_map_or (suits Down ends) o true ≡
    true → P (sort_under ends)
down_is P None ends h is = absurd h
down_is P (Some Int) ends h is = absurd h
down_is P (Some Msg) true h is = absurd (cc is)
down_is P (Some Msg) false h is = h
down_is P (Some Part) true h is = h
down_is P (Some Part) false h is = absurd (cc is)

pub kind_arguments : (k : Kind) → carries k ≡ true → arguments_of k ≡ a_number ∷ a_message ∷ []
kind_arguments kinds.Cast is = refl
kind_arguments kinds.Send is = refl
kind_arguments _ is = absurd (cc is)

-- the second of two arguments is the message
record Second (scope : Scope) (args : List ast.ArgumentTree) : Type 0 where
  message : ast.ArgumentTree
  at : slice_get args 1 ≡ Some message
  last : last_or None args ≡ Some message
  faultless : argument_faults scope a_message message ≡ []

second : (scope : Scope) (args : List ast.ArgumentTree) → length args ≡ 2 →
    arguments_faults scope (a_number ∷ a_message ∷ []) args ≡ [] →
    Second scope args
second scope [] two h = absurd (omega (arith, two))
second scope (x ∷ []) two h = absurd (omega (arith, two))
second scope (x ∷ m ∷ []) two h = record {
  message = m;
  at = refl;
  last = refl;
  faultless = (nils (argument_faults scope a_message m) []
      (nils (argument_faults scope a_number x) (argument_faults scope a_message m ++ []) h).1).0;
}
second scope (x ∷ m ∷ y ∷ args) two h = absurd (omega (arith, two))

sent_is : (scope : Scope) (k : Kind) (args : List ast.ArgumentTree) (m : ast.ArgumentTree) → carries k ≡ true →
    slice_get args 1 ≡ Some m →
    sent_sort scope k args ≡ argument_sort scope m
sent_is scope k args m is at = rw (is, at) refl

same_count : {A B : Type 0} (b : Bool) (xs : List A) (ys : List B) → length xs ≡ length ys →
    length (numbers_among b xs) ≡ length (numbers_among b ys)
same_count true xs ys same = omega (arith, same, length-take (length xs - 1) xs, length-take (length ys - 1) ys)
same_count false xs ys same = same

one_allowed : (a b : Sort) → allows (a ∷ []) b ≡ true → b ≡ a
one_allowed Int Int is = refl
one_allowed Msg Msg is = refl
one_allowed Part Part is = refl
one_allowed Int Msg is = absurd (cc is)
one_allowed Int Part is = absurd (cc is)
one_allowed Msg Int is = absurd (cc is)
one_allowed Msg Part is = absurd (cc is)
one_allowed Part Int is = absurd (cc is)
one_allowed Part Msg is = absurd (cc is)

finds_one : (P : Sort → Type 0) (sort : Sort) (o : Option Sort) → Finds (λ s. (allows (sort ∷ []) s ≡ true) × P s) o →
    P sort
finds_one P sort None h = absurd h
finds_one P sort (Some Int) h = absurd h
finds_one P sort (Some Msg) h = subst P (one_allowed sort Msg h.0) h.1
finds_one P sort (Some Part) h = subst P (one_allowed sort Part h.0) h.1

some_same : {A : Type 0} {x y : A} → Some x ≡ Some y → x ≡ y
some_same e = cc e

pub unmapped : (scope : Scope) (items : List ast.ItemTree) (args : List ast.ArgumentTree) →
    AllZip (λ wanted a. argument_faults scope wanted a ≡ []) (map (λ (i : ast.ItemTree). i.sort ∷ []) items) args →
    AllZip (λ (i : ast.ItemTree) a. argument_faults scope (i.sort ∷ []) a ≡ []) items args
unmapped scope [] [] h = tt
unmapped scope [] (a ∷ args) h = absurd h
unmapped scope (i ∷ items) [] h = absurd h
unmapped scope (i ∷ items) (a ∷ args) h = (h.0, unmapped scope items args h.1)

module _ (names : Names) (locals : List Local) (sorts : List Sort) (agree : Agree sorts locals names.messages)
    (rows : LastMessages names.place.layer)
    (placed : LiteralPlaced names.place) where
  abbrev scope : Scope
  scope = record { layer = names.place.layer; locals = locals }

  abbrev M : ast.ArgumentTree → Sort → Type 0
  M m sort = Sorted (layer_of names.place) names.place.blank sorts sort (argument_message names m)

  finds_second : (o : Option Sort) (m : ast.ArgumentTree) →
      Finds (λ sort. (allows a_message sort ≡ true) × M m sort) o → Finds (M m) o
  finds_second None m h = h
  finds_second (Some Int) m h = h
  finds_second (Some Msg) m h = h.1
  finds_second (Some Part) m h = h.1

  pushed_is : (at : At) (dir : Dir) (k : Kind) (m : ast.ArgumentTree) (pushed : Option ast.PushedTree) →
      Finds (M m) (argument_sort scope m) →
      option_map_or (suits Down (ends_with names.place.layer pushed)) (argument_sort scope m) true ≡ true →
      option_map_or (pushed_faults scope at dir k) pushed [] ≡ [] → LiteralPushed pushed →
      Pushed (layer_of names.place) names.place.blank sorts
      (record {
        message = argument_message names m;
        tag = pushed_tag names pushed;
        fields =
            pushed_fields names pushed;
      })
  pushed_is at dir k m None found suited h literal = record {
    fields = tt;
    declares = (refl, down_is (M m) (argument_sort scope m) false found suited);
  }
  pushed_is at dir k m (Some x) found suited h literal =
      let args = arguments_in x.fields in
      let a = unless (declared_as is_header names.place.layer x.name.word) (kind at) in
      let b = unless (length (fields_of names.place.layer x.name.word) == length args) (arity at) in
      let outer = nils (with_faults names.place.layer at x.name (length args) (pushes dir && carries k))
      (flat_map (argument_faults scope a_number) args) h in
      let middle = nils (a ++ b) (unless (pushes dir && carries k) (direction at)) outer.0 in
      let inner = nils a b middle.0 in
      let head = headed names.place x.name (declares_it is_header names.place.layer x.name.word
      (unless_nil (declared_as is_header names.place.layer x.name.word) (kind at) inner.0)) in
      let count = eqb-true (length (fields_of names.place.layer x.name.word)) (length args)
      (unless_nil (length (fields_of names.place.layer x.name.word) == length args) (arity at) inner.1) in
      record {
        fields = each_map LiteralArgument Small (argument_number names) (argument_small names placed) args literal;
        declares = some_and (header_of_tag (layer_of names.place) (tag_of names.place x.name)) _ head.declaration
            head.listed (
              length-map args (argument_number names) ∙ sym count ∙ sym head.fields,
              subst (λ ends. M m (sort_under ends)) (sym head.ends)
                  (down_is (M m) (argument_sort scope m) (declared_as is_end names.place.layer x.name.word) found
                  suited),
            );
      }

  content_is : (at : At) (dir : Dir) (k : Kind) (m : ast.ArgumentTree) (pushed : Option ast.PushedTree) →
      Finds (M m) (argument_sort scope m) →
      option_map_or (suits dir (ends_with names.place.layer pushed)) (argument_sort scope m) true ≡ true →
      option_map_or (pushed_faults scope at dir k) pushed [] ≡ [] → LiteralPushed pushed →
      Content (layer_of names.place) names.place.blank sorts dir
      (record {
        message = argument_message names m;
        tag = pushed_tag names pushed;
        fields =
            pushed_fields names pushed;
      })
  content_is at Up k m pushed found suited h literal =
      up_is (M m) (argument_sort scope m) (ends_with names.place.layer pushed) found suited
  content_is at Down k m pushed found suited h literal = pushed_is at Down k m pushed found suited h literal

  sent_last : (dir : Dir) (args : List ast.ArgumentTree) (m : ast.ArgumentTree) (pushed : Option ast.PushedTree) →
      last_or None args ≡ Some m →
      Content (layer_of names.place) names.place.blank sorts dir
      (record {
        message = argument_message names m;
        tag = pushed_tag names pushed;
        fields =
            pushed_fields names pushed;
      }) →
      Sends (layer_of names.place) names.place.blank sorts true dir
      (option_map (λ m. record {
        message = argument_message names m;
        tag = pushed_tag names pushed;
        fields =
            pushed_fields names pushed;
      })
      (last_or None args))
  sent_last dir args m pushed last h = rw last h

  sends_is : (at : At) (dir : Dir) (k : Kind) (args : List ast.ArgumentTree) (pushed : Option ast.PushedTree)
      (b : Bool) → carries k ≡ b →
      emission_faults scope at dir k args pushed ≡ [] → LiteralPushed pushed →
      Sends (layer_of names.place) names.place.blank sorts b dir
      (option_map (λ m. record {
        message = argument_message names m;
        tag = pushed_tag names pushed;
        fields =
            pushed_fields names pushed;
      })
      (message_among b args))
  sends_is at dir k args pushed false is h literal = tt
  sends_is at dir k args pushed true is h literal =
      let a = unless (length args == length (arguments_of k)) (arity at) in
      let b = arguments_faults scope (arguments_of k) args in
      let c = option_map_or (pushed_faults scope at dir k) pushed [] in
      let suited = option_map_or (suits dir (ends_with names.place.layer pushed)) (sent_sort scope k args) true in
      let one = nils (a ++ b ++ c) (unless suited (header at)) h in
      let two = nils (a ++ b) c one.0 in
      let three = nils a b two.0 in
      let kinds_are = kind_arguments k is in
      let count : length args ≡ 2 =
      eqb-true (length args) (length (arguments_of k))
      (unless_nil (length args == length (arguments_of k)) (arity at) three.0)
      ∙ ap length kinds_are in
      let m = second scope args count (subst (λ wanted. arguments_faults scope wanted args ≡ []) kinds_are three.1) in
      let sort_is = sent_is scope k args m.message is m.at in
      let found = finds_second (argument_sort scope m.message) m.message
      (argument_found names locals sorts agree rows a_message m.message refl m.faultless) in
      sent_last dir args m.message pushed m.last (content_is at dir k m.message pushed found
      (subst (λ o. option_map_or (suits dir (ends_with names.place.layer pushed)) o true ≡ true) sort_is
      (unless_nil suited (header at) one.1))
      two.1 literal)

  pub emission_is : (at : At) (dir : Dir) (k : Kind) (args : List ast.ArgumentTree) (pushed : Option ast.PushedTree) →
      emission_faults scope at dir k args pushed ≡ [] → AllByRecursion LiteralArgument args → LiteralPushed pushed →
      AllByRecursion Small (emission_of names dir k args pushed).numbers
      × Sends (layer_of names.place) names.place.blank sorts (carries k) dir
      (emission_of names dir k args pushed).content
  emission_is at dir k args pushed h literal literal_pushed = (
    arguments_small names placed (carries k) args literal,
    sends_is at dir k args pushed (carries k) refl h literal_pushed,
  )

  -- pushes

  arguments_zip : (q : ast.QueueTree) (args : List ast.ArgumentTree) → length (queue_row names q) ≡ length args →
      arguments_faults scope (row_sorts names.place.layer q) args ≡ [] →
      AllZip (λ (i : ast.ItemTree) a. argument_faults scope (i.sort ∷ []) a ≡ []) (queue_row names q) args
  arguments_zip q args same h = unmapped scope (queue_row names q) args
      (zip_each (λ x. argument_faults scope x.0 x.1) (map (λ (i : ast.ItemTree). i.sort ∷ []) (queue_row names q)) args
      (length-map (queue_row names q) (λ (i : ast.ItemTree). i.sort ∷ []) ∙ same) h)

  -- the last argument is of the last item's sort
  ends_is : (items : List ast.ItemTree) (args : List ast.ArgumentTree) (i : Option ast.ItemTree)
      (a : Option ast.ArgumentTree) →
      last_or None items ≡ i → last_or None args ≡ a →
      Both (λ (i : ast.ItemTree) a. argument_faults scope (i.sort ∷ []) a ≡ []) i a →
      Ends (layer_of names.place) names.place.blank sorts (row_items names.place items).message
      (option_map (argument_message names) (message_among (is_some (carried_in names.place items)) args))
  ends_is items args None None last_item last_arg both = rw last_item tt
  ends_is items args None (Some a) last_item last_arg both = absurd both
  ends_is items args (Some i) None last_item last_arg both = absurd both
  ends_is items args (Some i) (Some a) last_item last_arg faultless =
      go i.sort refl (λ none.
      finds_one (M a) i.sort (argument_sort scope a)
      (argument_found names locals sorts agree rows (i.sort ∷ []) a none faultless)) where
        labels : last_or None (map (λ (i : ast.ItemTree). i.name.word) items) ≡ Some i.name.word
        labels = last_map (λ (i : ast.ItemTree). i.name.word) items None ∙
            ap (option_map (λ (i : ast.ItemTree). i.name.word)) last_item

        ends_with_it : (o : Option Carried) → carried_in names.place items ≡ o →
            ((carried : Carried) → o ≡ Some carried → M a (sort_of carried)) →
            Ends (layer_of names.place) names.place.blank sorts (row_items names.place items).message
            (option_map (argument_message names) (message_among (is_some (carried_in names.place items)) args))
        ends_with_it None is h = rw is tt
        ends_with_it (Some carried) is h = rw (is, labels, last_arg) (h carried refl)

        go : (sort : Sort) → i.sort ≡ sort → (allows (i.sort ∷ []) Int ≡ false → M a i.sort) →
            Ends (layer_of names.place) names.place.blank sorts (row_items names.place items).message
            (option_map (argument_message names) (message_among (is_some (carried_in names.place items)) args))
        go Int is h = ends_with_it None (rw (last_item, is) refl) (λ carried none. absurd (cc none))
        go Msg is h = ends_with_it (Some (whole names.place.blank)) (rw (last_item, is) refl)
            (λ carried same. subst (M a) (is ∙ ap sort_of (some_same same)) (h (rw is refl)))
        go Part is h = ends_with_it (Some part) (rw (last_item, is) refl)
            (λ carried same. subst (M a) (is ∙ ap sort_of (some_same same)) (h (rw is refl)))

  capacity_is : (q : ast.QueueTree) (d : Declares is_rows names.place.layer (queue_name q).word) →
      capacity_of names.place (queue_name q) ≡ capacity_declared names.place d.declaration
  capacity_is q d = rw d.found refl

  pub push_is : (at : At) (q : ast.QueueTree) (args : List ast.ArgumentTree) →
      row_type_faults scope at q (length args) ≡ [] →
      arguments_faults scope (row_sorts names.place.layer q) args ≡ [] → AllByRecursion LiteralArgument args →
      Pushes (layer_of names.place) names.place.blank sorts (queue_cell names q)
      (capacity_of names.place (queue_name q)) (pushed_row names q args)
  push_is at q args typed faultless literal =
      let outer = nils (queue_faults scope at q) (unless (length (queue_row names q) == length args) (arity at)) typed
      in
      let d = queue_declared scope at q outer.0 in
      let same = eqb-true (length (queue_row names q)) (length args)
      (unless_nil (length (queue_row names q) == length args) (arity at) outer.1) in
      let items_are = row_items_are names.place.layer (queue_name q).word d in
      let has = is_some (queue_carries names q) in
      record {
        rows = record {
          capacity = capacity_declared names.place d.declaration;
          items =
              row_items names.place (items_of d.declaration);
        };
        listed = queue_listed names.place (queue_name q) d.declaration d.found d.passes;
        room = capacity_is q d;
        count = subst (λ items. length (map (argument_number names) (numbers_among has args)) ≡
            length (row_items names.place items).numbers) items_are
            (length-map (numbers_among has args) (argument_number names)
            ∙ same_count has args (map (λ (i : ast.ItemTree). i.name.word) (queue_row names q))
            (sym same ∙ sym (length-map (queue_row names q) (λ (i : ast.ItemTree). i.name.word))));
        numbers_are = arguments_small names placed has args literal;
        message = subst (λ items. Ends (layer_of names.place) names.place.blank sorts
            (row_items names.place items).message
            (option_map (argument_message names) (message_among has args))) items_are
            (ends_is (queue_row names q) args (last_or None (queue_row names q)) (last_or None args) refl refl
            (last_zip (λ (i : ast.ItemTree) a. argument_faults scope (i.sort ∷ []) a ≡ []) (queue_row names q) args None
            None tt
            (arguments_zip q args same faultless)));
      }
