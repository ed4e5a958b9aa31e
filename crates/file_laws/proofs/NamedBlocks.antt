-- What blocks without faults name is there.
use Rattle.std.proofs.Common.{◌≡◌, ◌∙◌, ℕ, zero, suc, ◌+◌, ◌<◌, ◌≤◌, Bool, true, false, List, [], ◌∷◌, ◌++◌, length}
use Rattle.std.proofs.Common.{map, Option, Some, None, refl, sym, subst, arith}
use Rattle.std.specs.Prelude.{◌==◌, ◌&&◌, is_some, flat_map, option_map, option_and_then, if◌then◌else◌}
use Rattle.std.specs.List.{AllByRecursion, AllZip, last_or, range_with_len}
use Rattle.std.specs.Option.{option_map_or}
use Rattle.std.proofs.lemmas.Bool.{eqb-true}
use Rattle.std.proofs.lemmas.List.{length-map}
use Rattle.msg_core.specs.declared.message.Header.{Header}
use Rattle.layer_words.specs.declared.places.At.{At}
use Rattle.layer_words.specs.declared.sorts.Sort.{Sort}
use Rattle.layer_words.specs.declared.sorts.Sort.TheVariants.{Int, Msg, Part}
use Rattle.layer_words.specs.declared.events.Dir.{Dir}
use Rattle.layer_words.specs.declared.events.Kind.{Kind}
use Rattle.layer_words.specs.declared.events.Kind.TheVariants as kinds
use Rattle.layer_ast.specs.Tree as ast
use Rattle.layer_mean.specs.Event.{carries}
use Rattle.fault_mean.specs.Earliest.{unless}
use Rattle.fault_mean.specs.Faults.{arity, header}
use Rattle.fault_mean.specs.Kinds.{allows, a_number, a_message, arguments_of}
use Rattle.fault_mean.specs.Limits.{messages_inside}
use Rattle.fault_mean.specs.Scope.{Local, Scope}
use Rattle.fault_mean.specs.Uses.{arguments_in}
use Rattle.fault_mean.specs.ExpressionFaults.{argument_faults, arguments_faults}
use Rattle.fault_mean.specs.TypeFaults.{pushes, suits, ends_with, sent_sort, with_faults, pushed_faults}
use Rattle.fault_mean.specs.TypeFaults.{emission_faults, row_sorts}
use Rattle.file_mean.specs.Names.{Names, Placed, carried_as, carried_in, numbers_among, message_among}
use Rattle.file_mean.specs.Values.{queue_row, queue_carries, argument_number, argument_message}
use Rattle.file_mean.specs.Statements.{pushed_tag, pushed_fields, emission_of, pushed_row}
use Rattle.file_mean.specs.Layers.{layer_of}
use Rattle.chain_laws.specs.Named.{Named, NamedMessage, NamedOption, NamedContent}
use Rattle.file_laws.proofs.Lists.{nils, each_nil, unless_nil, zip_each, last_map}
use Rattle.file_laws.proofs.Messages.{IsLastMessage, inner_number}
use Rattle.file_laws.proofs.Emissions.{kind_arguments, unmapped}
use Rattle.file_laws.proofs.Fronts.{front, front_is, IsMessageSort, LastSort, Sees}
use Rattle.file_laws.proofs.NamedValues.{int_sort, argument_numbered, argument_messaged}
use Rattle.chain_laws.proofs.Lists.{Where, each_map}

-- rows

message_sort_is : (blank : List Header) (s : Sort) → is_some (carried_as blank s) ≡ true → IsMessageSort (Some s)
message_sort_is blank Int h = absurd (cc h)
message_sort_is blank Msg h = tt
message_sort_is blank Part h = tt

pub last_sort : (p : Placed) (items : List ast.ItemTree) (b : Bool) → is_some (carried_in p items) ≡ b →
    LastSort b (map (λ i. i.sort) items)
last_sort p items false is = tt
last_sort p items true is = subst IsMessageSort (sym (last_map (λ (i : ast.ItemTree). i.sort) items None))
    (go (last_or None items) is) where
      go : (o : Option ast.ItemTree) → is_some (option_and_then (λ i. carried_as p.blank i.sort) o) ≡ true →
          IsMessageSort (option_map (λ i. i.sort) o)
      go None h = tt
      go (Some i) h = message_sort_is p.blank i.sort h

no_message_sort : (blank : List Header) (s : Sort) → is_some (carried_as blank s) ≡ false → s ≡ Int
no_message_sort blank Int h = refl
no_message_sort blank Msg h = absurd (cc h)
no_message_sort blank Part h = absurd (cc h)

pub range_below : (first n slots : ℕ) → first + n ≤ slots → AllByRecursion (λ k. k < slots) (range_with_len first n)
range_below first zero slots le = tt
range_below first (suc n) slots le = (omega (arith, le), range_below (first + 1) n slots (omega (arith, le)))

last_where : {A : Type 0} (P : A → Type 0) (xs : List A) (o : Option A) → Where P o → AllByRecursion P xs →
    Where P (last_or o xs)
last_where P [] o here h = here
last_where P (x ∷ xs) o here h = last_where P xs (Some x) h.0 h.1

-- arguments
module _ (names : Names) (locals : List Local) (slots : ℕ) (sees : Sees names locals)
    (bound : names.taken.numbers ≤ slots) where
  abbrev scope : Scope
  scope = record { layer = names.place.layer; locals = locals }

  abbrev Counts : ast.ArgumentTree → Type 0
  Counts a = argument_faults (record { layer = names.place.layer; locals = locals }) a_number a ≡ []

  abbrev Suits : ast.ItemTree → ast.ArgumentTree → Type 0
  Suits i a = argument_faults (record { layer = names.place.layer; locals = locals }) (i.sort ∷ []) a ≡ []

  counts_int : (s : Sort) (a : ast.ArgumentTree) → s ≡ Int →
      argument_faults (record { layer = names.place.layer; locals = locals }) (s ∷ []) a ≡ [] → Counts a
  counts_int s a is h =
      subst (λ s. argument_faults (record { layer = names.place.layer; locals = locals }) (s ∷ []) a ≡ []) is h

  front_counts : (items : List ast.ItemTree) (args : List ast.ArgumentTree) → IsLastMessage items →
      AllZip Suits items args →
      AllByRecursion Counts (front args)
  front_counts [] [] last h = tt
  front_counts [] (a ∷ args) last h = absurd h
  front_counts (i ∷ items) [] last h = absurd h
  front_counts (i ∷ []) (a ∷ []) last h = tt
  front_counts (i ∷ []) (a ∷ b ∷ args) last h = absurd h.1
  front_counts (i ∷ j ∷ items) (a ∷ []) last h = absurd h.1
  front_counts (i ∷ j ∷ items) (a ∷ b ∷ args) last h =
      let parts = nils (if allows a_number i.sort then [] else i ∷ []) (messages_inside (j ∷ items)) last in (
        counts_int i.sort a (int_sort i.sort (inner_number i (allows a_number i.sort) refl parts.0)) h.0,
        front_counts (j ∷ items) (b ∷ args) parts.1 h.1,
      )

  all_counts : (items : List ast.ItemTree) (args : List ast.ArgumentTree) (o : Option ast.ItemTree) →
      IsLastMessage items →
      is_some (option_and_then (λ i. carried_as names.place.blank i.sort) (last_or o items)) ≡ false →
      AllZip Suits items args →
      AllByRecursion Counts args
  all_counts [] [] o last is h = tt
  all_counts [] (a ∷ args) o last is h = absurd h
  all_counts (i ∷ items) [] o last is h = absurd h
  all_counts (i ∷ []) (a ∷ []) o last is h = (counts_int i.sort a (no_message_sort names.place.blank i.sort is) h.0, tt)
  all_counts (i ∷ []) (a ∷ b ∷ args) o last is h = absurd h.1
  all_counts (i ∷ j ∷ items) (a ∷ []) o last is h = absurd h.1
  all_counts (i ∷ j ∷ items) (a ∷ b ∷ args) o last is h =
      let parts = nils (if allows a_number i.sort then [] else i ∷ []) (messages_inside (j ∷ items)) last in (
        counts_int i.sort a (int_sort i.sort (inner_number i (allows a_number i.sort) refl parts.0)) h.0,
        all_counts (j ∷ items) (b ∷ args) (Some i) parts.1 is h.1,
      )

  numbers_named : (xs : List ast.ArgumentTree) → AllByRecursion Counts xs →
      AllByRecursion (Named (layer_of names.place) slots) (map (argument_number names) xs)
  numbers_named xs h = each_map Counts (Named (layer_of names.place) slots) (argument_number names)
      (λ a is. argument_numbered names locals slots sees bound a is) xs h

  messages_are : (items : List ast.ItemTree) (args : List ast.ArgumentTree) → AllZip Suits items args →
      AllByRecursion (λ a. NamedMessage (layer_of names.place) slots (argument_message names a)) args
  messages_are [] [] h = tt
  messages_are [] (a ∷ args) h = absurd h
  messages_are (i ∷ items) [] h = absurd h
  messages_are (i ∷ items) (a ∷ args) h =
      (argument_messaged names locals slots sees bound (i.sort ∷ []) a h.0, messages_are items args h.1)

  option_named : (o : Option ast.ArgumentTree) →
      Where (λ a. NamedMessage (layer_of names.place) slots (argument_message names a)) o →
      NamedOption (layer_of names.place) slots (option_map (argument_message names) o)
  option_named None h = tt
  option_named (Some a) h = h

  pub row_named : (q : ast.QueueTree) (args : List ast.ArgumentTree) → IsLastMessage (queue_row names q) →
      length (queue_row names q) ≡ length args →
      arguments_faults (record { layer = names.place.layer; locals = locals }) (row_sorts names.place.layer q) args ≡
      [] →
      AllByRecursion (Named (layer_of names.place) slots) (pushed_row names q args).numbers
      × NamedOption (layer_of names.place) slots (pushed_row names q args).message
  row_named q args last same h = go (is_some (queue_carries names q)) refl where
    zipped : AllZip Suits (queue_row names q) args
    zipped = unmapped (record { layer = names.place.layer; locals = locals }) (queue_row names q) args
        (zip_each (λ x. argument_faults (record { layer = names.place.layer; locals = locals }) x.0 x.1)
        (map (λ (i : ast.ItemTree). i.sort ∷ []) (queue_row names q)) args
        (length-map (queue_row names q) (λ (i : ast.ItemTree). i.sort ∷ []) ∙ same) h)

    go : (b : Bool) → is_some (queue_carries names q) ≡ b →
        AllByRecursion (Named (layer_of names.place) slots) (map (argument_number names) (numbers_among b args))
        × NamedOption (layer_of names.place) slots (option_map (argument_message names) (message_among b args))
    go true is = (
      subst (λ xs. AllByRecursion (Named (layer_of names.place) slots) (map (argument_number names) xs))
          (sym (front_is args))
          (numbers_named (front args) (front_counts (queue_row names q) args last zipped)),
      option_named (last_or None args) (last_where _ args None tt (messages_are (queue_row names q) args zipped)),
    )
    go false is = (numbers_named args (all_counts (queue_row names q) args None last is zipped), tt)

  -- emissions

  kind_numbers : (k : Kind) → carries k ≡ false → AllByRecursion (λ wanted. wanted ≡ a_number) (arguments_of k)
  kind_numbers kinds.Cast is = absurd (cc is)
  kind_numbers kinds.Send is = absurd (cc is)
  kind_numbers kinds.Stable is = (refl, (refl, tt))
  kind_numbers kinds.Ack is = (refl, (refl, tt))
  kind_numbers _ is = (refl, tt)

  abbrev Fits : List Sort → ast.ArgumentTree → Type 0
  Fits wanted a = argument_faults (record { layer = names.place.layer; locals = locals }) wanted a ≡ []

  zip_counts : (wanted : List (List Sort)) (args : List ast.ArgumentTree) → AllByRecursion (λ w. w ≡ a_number) wanted →
      AllZip Fits wanted args →
      AllByRecursion Counts args
  zip_counts [] [] are h = tt
  zip_counts [] (a ∷ args) are h = absurd h
  zip_counts (w ∷ wanted) [] are h = absurd h
  zip_counts (w ∷ wanted) (a ∷ args) are h = (subst (λ w. Fits w a) are.0 h.0, zip_counts wanted args are.1 h.1)

  zip_messages : (wanted : List (List Sort)) (args : List ast.ArgumentTree) → AllZip Fits wanted args →
      AllByRecursion (λ a. NamedMessage (layer_of names.place) slots (argument_message names a)) args
  zip_messages [] [] h = tt
  zip_messages [] (a ∷ args) h = absurd h
  zip_messages (w ∷ wanted) [] h = absurd h
  zip_messages (w ∷ wanted) (a ∷ args) h =
      (argument_messaged names locals slots sees bound w a h.0, zip_messages wanted args h.1)

  two_counts : (args : List ast.ArgumentTree) → AllZip Fits (a_number ∷ a_message ∷ []) args →
      AllByRecursion Counts (front args)
  two_counts [] h = absurd h
  two_counts (a ∷ []) h = absurd h.1
  two_counts (a ∷ m ∷ []) h = (h.0, tt)
  two_counts (a ∷ m ∷ b ∷ args) h = absurd h.1.1

  fields_named : (at : At) (dir : Dir) (k : Kind) (pushed : Option ast.PushedTree) →
      option_map_or (pushed_faults (record { layer = names.place.layer; locals = locals }) at dir k) pushed [] ≡ [] →
      AllByRecursion (Named (layer_of names.place) slots) (pushed_fields names pushed)
  fields_named at dir k None h = tt
  fields_named at dir k (Some p) h =
      let args = arguments_in p.fields in
      let parts = nils (with_faults names.place.layer at p.name (length args) (pushes dir && carries k))
      (flat_map (argument_faults scope a_number) args) h in
      numbers_named args (each_nil (argument_faults scope a_number) args parts.1)

  content_named : (pushed : Option ast.PushedTree) (o : Option ast.ArgumentTree) →
      Where (λ a. NamedMessage (layer_of names.place) slots (argument_message names a)) o →
      AllByRecursion (Named (layer_of names.place) slots) (pushed_fields names pushed) →
      NamedContent (layer_of names.place) slots
      (option_map (λ m. record {
        message = argument_message names m;
        tag = pushed_tag names pushed;
        fields =
            pushed_fields names pushed;
      }) o)
  content_named pushed None h fields = tt
  content_named pushed (Some a) h fields = (h, fields)

  pub emission_named : (at : At) (dir : Dir) (k : Kind) (args : List ast.ArgumentTree)
      (pushed : Option ast.PushedTree) →
      emission_faults (record { layer = names.place.layer; locals = locals }) at dir k args pushed ≡ [] →
      AllByRecursion (Named (layer_of names.place) slots) (emission_of names dir k args pushed).numbers
      × NamedContent (layer_of names.place) slots (emission_of names dir k args pushed).content
  emission_named at dir k args pushed h =
      let a = unless (length args == length (arguments_of k)) (arity at) in
      let b = arguments_faults scope (arguments_of k) args in
      let c = option_map_or (pushed_faults scope at dir k) pushed [] in
      let suited = option_map_or (suits dir (ends_with names.place.layer pushed)) (sent_sort scope k args) true in
      let one = nils (a ++ b ++ c) (unless suited (header at)) h in
      let two = nils (a ++ b) c one.0 in
      let three = nils a b two.0 in
      let count = eqb-true (length args) (length (arguments_of k))
      (unless_nil (length args == length (arguments_of k)) (arity at) three.0) in
      let zipped = zip_each (λ x. argument_faults scope x.0 x.1) (arguments_of k) args (sym count) three.1 in
      go (carries k) refl zipped (fields_named at dir k pushed two.1)
    where
      go : (b : Bool) → carries k ≡ b → AllZip Fits (arguments_of k) args →
          AllByRecursion (Named (layer_of names.place) slots) (pushed_fields names pushed) →
          AllByRecursion (Named (layer_of names.place) slots) (map (argument_number names) (numbers_among b args))
          × NamedContent (layer_of names.place) slots (option_map
          (λ m. record {
            message = argument_message names m;
            tag = pushed_tag names pushed;
            fields =
                pushed_fields names pushed;
          })
          (message_among b args))
      go true is zipped fields = (
        subst (λ xs. AllByRecursion (Named (layer_of names.place) slots) (map (argument_number names) xs))
            (sym (front_is args))
            (numbers_named (front args)
            (two_counts args (subst (λ wanted. AllZip Fits wanted args) (kind_arguments k is) zipped))),
        content_named pushed (last_or None args) (last_where _ args None tt (zip_messages (arguments_of k) args zipped))
            fields,
      )
      go false is zipped fields = (numbers_named args (zip_counts (arguments_of k) args (kind_numbers k is) zipped), tt)
