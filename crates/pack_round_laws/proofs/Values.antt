-- Expressions of a file without faults fit in its layers, by their tokens.
use Rattle.std.proofs.Common.{◌≡◌, ℕ, zero, suc, Bool, true, false, not, List, [], ◌∷◌, ◌++◌, map, flat_map, length}
use Rattle.std.proofs.Common.{zip, is_some, Option, Some, None, option_map, option_and_then, unwrap_or, refl, sym, ap}
use Rattle.std.proofs.Common.{◌∙◌, subst, arith, eqb-true}
use Rattle.std.specs.Prelude.{◌==◌, ◌&&◌, find}
use Rattle.std.specs.List.{AllByRecursion, last_or}
use Rattle.std.specs.Option.{option_or, option_map_or}
use Rattle.std.proofs.lemmas.List.{length-map}
use Rattle.layer_words.specs.declared.places.At.{At}
use Rattle.layer_ast.specs.declared.names.Name.{Name}
use Rattle.layer_words.specs.declared.sorts.Sort.{Sort}
use Rattle.layer_words.specs.declared.sorts.Sort.TheVariants.{Int}
use Rattle.layer_words.specs.declared.events.Dir.{Dir}
use Rattle.layer_words.specs.declared.events.Kind.{Kind}
use Rattle.layer_words.specs.declared.events.Kind.TheVariants.{Cast, Send, Stable, Ack}
use Rattle.layer_ast.specs.Tree as ast
use Rattle.layer_mean.specs.Event.{carries}
use Rattle.layer_mean.specs.Tree.{Carried, part, ExpressionTree, number, local, element}
use Rattle.packet_mean.specs.ChainedState.{IsNumber}
use Rattle.fault_mean.specs.Declared.{names_in}
use Rattle.fault_mean.specs.Earliest.{unless}
use Rattle.fault_mean.specs.ExpressionFaults.{may_be, must_be, reads_number, number_faults, queue_faults}
use Rattle.fault_mean.specs.ExpressionFaults.{message_faults, built_faults, argument_faults, arguments_faults}
use Rattle.fault_mean.specs.Faults.{kind, arity, header}
use Rattle.fault_mean.specs.Forms.{declared_as, is_numbers, is_queue_array, queue_name}
use Rattle.fault_mean.specs.Kinds.{allows, a_number, a_msg, a_part, a_message, arguments_of}
use Rattle.fault_mean.specs.Places.{param_value}
use Rattle.fault_mean.specs.Scope.{Local, Scope, Standing, locals_as, standing_in}
use Rattle.fault_mean.specs.Sorts.{held_sort, message_sort, message_at, argument_sort, argument_at, expression_at}
use Rattle.fault_mean.specs.TypeFaults.{pushes, suits, ends_with, sent_sort, with_faults, pushed_faults}
use Rattle.fault_mean.specs.TypeFaults.{emission_faults, row_type_faults, row_sorts}
use Rattle.fault_mean.specs.Uses.{arguments_in}
use Rattle.layer_words.specs.declared.sorts.Shape.TheVariants.{One, Array, Square}
use Rattle.file_mean.specs.Layers.{row_items, layer_of}
use Rattle.file_mean.specs.Names.{Names, Placed, cell_of, carried_as, carried_in, number_slot, numbers_among}
use Rattle.file_mean.specs.Names.{message_among, with_numbers}
use Rattle.file_mean.specs.Statements.{pushed_tag, pushed_fields, emission_of, pushed_row, with_taken, taken_row}
use Rattle.file_mean.specs.Statements.{after_block, after_all, statements_of}
use Rattle.file_mean.specs.Values.{named_number, queue_row, queue_carries, queue_cell, number_of, queue_index}
use Rattle.file_mean.specs.Values.{message_of, built_of, argument_number, argument_message}
use Rattle.file_laws.specs.Literals.{Literal, LiteralQueue, LiteralMessage, LiteralBuilt, LiteralArgument}
use Rattle.file_laws.specs.Literals.{LiteralPushed, LiteralStatement}
use Rattle.file_laws.proofs.Lists.{nils, each_nil, each_parts, unless_nil, last_map}
use Rattle.file_laws.proofs.Messages.{LastMessages, last_message, row_carries, found_passes, queue_declared}
use Rattle.file_laws.proofs.Messages.{row_items_are}
use Rattle.file_laws.proofs.NamedLayers.{Clean}
use Rattle.file_laws.proofs.Own.{Declares, is_rows, queue_listed}
use Rattle.file_laws.proofs.Small.{LiteralPlaced, param_small}
use Rattle.chain_laws.proofs.Lists.{Where, each_map, each_take}
use Rattle.pack_mean.specs.Operation as operation
use Rattle.pack_round_laws.proofs.Fits.{Carries}
use Rattle.pack_round_laws.proofs.Layers.{cell_items, ExpressionFits, MessageFits, most_nested, Fits, TakenFits}
use Rattle.pack_round_laws.proofs.Walked.{Deep, DeepQueue, DeepMessage, DeepBuilt, DeepArgument, DeepPushed}
use Rattle.pack_round_laws.proofs.Walked.{DeepStatement}
use Rattle.pack_round_laws.proofs.Walked.{DeepStanding, deepest, deep_one}
use Rattle.pack_round_laws.proofs.Ways.{queue_items, OptionFits, ContentsFit, FitsAll}

-- an event has as many numbers as its kind
one_of_two : {A : Type 0} (xs : List A) → length xs ≡ 2 → length (numbers_among true xs) ≡ 1
one_of_two [] two = absurd (omega (arith, two))
one_of_two (a ∷ []) two = absurd (omega (arith, two))
one_of_two (a ∷ b ∷ []) two = refl
one_of_two (a ∷ b ∷ c ∷ more) two = absurd (omega (arith, two))

counted : {A : Type 0} (k : Kind) (args : List A) → length args ≡ length (arguments_of k) →
    length (numbers_among (carries k) args) ≡ operation.numbers_of k
counted Cast args count = one_of_two args count
counted Send args count = one_of_two args count
counted Stable args count = count
counted Ack args count = count
counted _ args count = count

-- what rows carry, their message is
rows_carry : (p : Placed) (items : List ast.ItemTree) (carried : Carried) → carried_in p items ≡ Some carried →
    Carries (row_items p items) carried
rows_carry p items carried is = go (last_or None items) refl is where
  go : (o : Option ast.ItemTree) → last_or None items ≡ o → option_and_then (λ i. carried_as p.blank i.sort) o ≡
      Some carried →
      Carries (row_items p items) carried
  go None last k = absurd (cc k)
  go (Some i) last k =
      let label = last_map (λ (i : ast.ItemTree). i.name.word) items None ∙
      ap (option_map (λ (i : ast.ItemTree). i.name.word)) last in
      rw (is, label) refl

module _ (names : Names) where
  queue_has : (q : ast.QueueTree) → Declares is_rows names.place.layer (queue_name q).word →
      cell_items (layer_of names.place) (queue_cell names q) ≡ row_items names.place (queue_row names q)
  queue_has q d = queue_items _ _ (queue_listed names.place (queue_name q) d.declaration d.found d.passes) ∙
      ap (row_items names.place) (sym (row_items_are names.place.layer (queue_name q).word d))

  queue_carried : (q : ast.QueueTree) → Declares is_rows names.place.layer (queue_name q).word → (carried : Carried) →
      queue_carries names q ≡ Some carried →
      Carries (cell_items (layer_of names.place) (queue_cell names q)) carried
  queue_carried q d carried is =
      subst (λ items. Carries items carried) (sym (queue_has q d))
      (rows_carry names.place (queue_row names q) carried is)

  module _ (locals : List Local) (placed : LiteralPlaced names.place) (last : LastMessages names.place.layer) where
    abbrev scope : Scope
    scope = record { layer = names.place.layer; locals = locals }

    held_carried : (at : At) (q : ast.QueueTree) →
        queue_faults (record { layer = names.place.layer; locals = locals }) at q ≡ [] →
        is_some (held_sort (record { layer = names.place.layer; locals = locals }) q) ≡ true →
        Carries (cell_items (layer_of names.place) (queue_cell names q)) (unwrap_or (queue_carries names q) part)
    held_carried at q faults held = go (find (λ (i : ast.ItemTree). allows a_message i.sort) (queue_row names q)) refl
        held where
          go : (o : Option ast.ItemTree) → find (λ (i : ast.ItemTree). allows a_message i.sort) (queue_row names q) ≡
              o →
              is_some (option_map (λ (i : ast.ItemTree). i.sort) o) ≡ true →
              Carries (cell_items (layer_of names.place) (queue_cell names q)) (unwrap_or (queue_carries names q) part)
          go None found k = absurd (cc k)
          go (Some i) found k =
              let allowed = found_passes (λ (i : ast.ItemTree). allows a_message i.sort) (queue_row names q) i found in
              let row = row_carries names.place (queue_row names q) i
              (last_message (queue_row names q) None i (last (queue_name q).word) found) allowed in
              subst (λ o. Carries (cell_items (layer_of names.place) (queue_cell names q)) (unwrap_or o part))
              (sym row.is)
              (queue_carried q (queue_declared scope at q faults) row.carried row.is)

    named_fits : (n : ℕ) (name : Name) → ExpressionFits (layer_of names.place) (suc n) (named_number names name)
    named_fits n name = go (number_slot names name) (param_value names.place.layer names.place.given name.word)
        (param_small names.place name.word placed) where
          go : (o v : Option ℕ) → Where IsNumber v → ExpressionFits (layer_of names.place) (suc n)
              (unwrap_or (option_or (option_map local o) (option_map number v))
              (element (cell_of names.place name) (number 0)))
          go (Some k) v small = tt
          go None (Some v) small = omega (arith, small)
          go None None small = omega arith

    mutual
      pub number_fits : (e : ast.ExpressionTree) (n : ℕ) → Deep n e → Literal e →
          number_faults (record { layer = names.place.layer; locals = locals }) e ≡ [] →
          ExpressionFits (layer_of names.place) (suc n) (number_of names e)
      number_fits (ast.number at k) n deep literal h = omega (arith, literal)
      number_fits (ast.me at) n deep literal h = tt
      number_fits (ast.members at) n deep literal h = tt
      number_fits (ast.ltime at) n deep literal h = tt
      number_fits (ast.named name) n deep literal h = named_fits n name
      number_fits (ast.element name index) (suc n) deep literal h =
          number_fits index n deep literal
          (nils (unless (declared_as (is_numbers Array) names.place.layer name.word) (kind name.at))
          (number_faults scope index) h).1
      number_fits (ast.square name row column) (suc n) deep literal h =
          let test = declared_as (is_numbers Square) names.place.layer name.word in
          let one = nils (unless test (kind name.at) ++ number_faults scope row) (number_faults scope column) h in
          let two = nils (unless test (kind name.at)) (number_faults scope row) one.0 in
          (number_fits row n deep.0 literal.0 two.1, number_fits column n deep.1 literal.1 one.1)
      number_fits (ast.rows at q) (suc n) deep literal h = queue_fits at q n deep literal h
      number_fits (ast.item at q row label) (suc n) deep literal h =
          let test = reads_number names.place.layer q label in
          let one = nils (queue_faults scope at q ++ unless test (kind at)) (number_faults scope row) h in
          let two = nils (queue_faults scope at q) (unless test (kind at)) one.0 in
          (queue_fits at q n deep.0 literal.0 two.0, number_fits row n deep.1 literal.1 one.1)
      number_fits (ast.size at m) (suc n) deep literal h = message_fits m n deep literal h
      number_fits (ast.binary at left operator right) (suc n) deep literal h =
          let parts = nils (number_faults scope left) (number_faults scope right) h in
          (number_fits left n deep.0 literal.0 parts.0, number_fits right n deep.1 literal.1 parts.1)
      number_fits (ast.apply at function operand) (suc n) deep literal h = number_fits operand n deep literal h
      number_fits (ast.pick at condition first second) (suc n) deep literal h =
          let one = nils (number_faults scope condition ++ number_faults scope first) (number_faults scope second) h in
          let two = nils (number_faults scope condition) (number_faults scope first) one.0 in (
            number_fits condition n deep.0 literal.0 two.0,
            number_fits first n deep.1 literal.1 two.1,
            number_fits second n deep.2 literal.2 one.1,
          )
      number_fits (ast.element name index) zero deep literal h = absurd deep
      number_fits (ast.square name row column) zero deep literal h = absurd deep
      number_fits (ast.rows at q) zero deep literal h = absurd deep
      number_fits (ast.item at q row label) zero deep literal h = absurd deep
      number_fits (ast.size at m) zero deep literal h = absurd deep
      number_fits (ast.binary at left operator right) zero deep literal h = absurd deep
      number_fits (ast.apply at function operand) zero deep literal h = absurd deep
      number_fits (ast.pick at condition first second) zero deep literal h = absurd deep

      queue_fits : (at : At) (q : ast.QueueTree) (n : ℕ) → DeepQueue n q → LiteralQueue q →
          queue_faults (record { layer = names.place.layer; locals = locals }) at q ≡ [] →
          ExpressionFits (layer_of names.place) n (queue_index names q)
      queue_fits at (ast.queue name) n deep literal h = omega arith
      queue_fits at (ast.queue_at name index) (suc n) deep literal h =
          number_fits index n deep literal
          (nils (unless (declared_as is_queue_array names.place.layer name.word) (kind at)) (number_faults scope index)
          h).1
      queue_fits at (ast.queue_at name index) zero deep literal h = absurd deep

      message_fits : (m : ast.MessageTree) (n : ℕ) → DeepMessage n m → LiteralMessage m →
          message_faults (record { layer = names.place.layer; locals = locals }) m ≡ [] →
          MessageFits (layer_of names.place) (suc n) (message_of names m)
      message_fits (ast.bare name) n deep literal h = tt
      message_fits (ast.built b) n deep literal h = built_fits b n deep literal h

      built_fits : (b : ast.BuiltTree) (n : ℕ) → DeepBuilt n b → LiteralBuilt b →
          built_faults (record { layer = names.place.layer; locals = locals }) b ≡ [] →
          MessageFits (layer_of names.place) (suc n) (built_of names b)
      built_fits (ast.nothing at) n deep literal h = tt
      built_fits (ast.held at q row) (suc n) deep literal h =
          let test = is_some (held_sort scope q) in
          let one = nils (queue_faults scope at q ++ unless test (kind at)) (number_faults scope row) h in
          let two = nils (queue_faults scope at q) (unless test (kind at)) one.0 in (
            held_carried at q two.0 (unless_nil test (kind at) two.1),
            queue_fits at q n deep.0 literal.0 two.0,
            number_fits row n deep.1 literal.1 one.1,
          )
      built_fits (ast.cut at m from most) (suc n) deep literal h =
          let one = nils (message_faults scope m ++ number_faults scope from) (number_faults scope most) h in
          let two = nils (message_faults scope m) (number_faults scope from) one.0 in (
            message_fits m n deep.0 literal.0 two.0,
            number_fits from n deep.1 literal.1 two.1,
            number_fits most n deep.2 literal.2 one.1,
          )
      built_fits (ast.tail at m from) (suc n) deep literal h =
          let test = unless (not (must_be a_part (message_sort scope m))) (kind at) in
          let one = nils (test ++ message_faults scope m) (number_faults scope from) h in (
            message_fits m n deep.0 literal.0 (nils test (message_faults scope m) one.0).1,
            number_fits from n deep.1 literal.1 one.1,
          )
      built_fits (ast.join at first second) (suc n) deep literal h =
          let a = unless (may_be a_part (message_sort scope first)) (kind (message_at first)) in
          let b = unless (may_be a_msg (message_sort scope second)) (kind (message_at second)) in
          let one = nils (a ++ b ++ message_faults scope first) (message_faults scope second) h in (
            message_fits first n deep.0 literal.0 (nils (a ++ b) (message_faults scope first) one.0).1,
            message_fits second n deep.1 literal.1 one.1,
          )
      built_fits (ast.held at q row) zero deep literal h = absurd deep
      built_fits (ast.cut at m from most) zero deep literal h = absurd deep
      built_fits (ast.tail at m from) zero deep literal h = absurd deep
      built_fits (ast.join at first second) zero deep literal h = absurd deep

    index_fits : (at : At) (q : ast.QueueTree) → DeepQueue deepest q → LiteralQueue q →
        queue_faults (record { layer = names.place.layer; locals = locals }) at q ≡ [] →
        Fits (layer_of names.place) (queue_index names q)
    index_fits at (ast.queue name) deep literal h = omega arith
    index_fits at (ast.queue_at name index) deep literal h = number_fits index deepest (deep_one index 194 deep) literal
        (nils (unless (declared_as is_queue_array names.place.layer name.word) (kind at)) (number_faults scope index)
        h).1

    -- arguments
    abbrev ArgumentFits : ast.ArgumentTree → Type 0
    ArgumentFits a = Fits (layer_of names.place) (argument_number names a) ×
        MessageFits (layer_of names.place) most_nested (argument_message names a)

    argument_fits : (wanted : List Sort) (a : ast.ArgumentTree) → DeepArgument a → LiteralArgument a →
        argument_faults (record { layer = names.place.layer; locals = locals }) wanted a ≡ [] → ArgumentFits a
    argument_fits wanted (ast.value (ast.named name)) deep literal h = (named_fits deepest name, tt)
    argument_fits wanted (ast.content b) deep literal h = (
      omega arith,
      built_fits b deepest deep literal
          (nils (unless (may_be wanted (argument_sort scope (ast.content b))) (kind (argument_at (ast.content b))))
          (built_faults scope b) h).1,
    )
    argument_fits wanted (ast.value e) deep literal h = (
      number_fits e deepest deep literal
          (nils (unless (allows wanted Int) (kind (expression_at e))) (number_faults scope e) h).1,
      tt,
    )

    zipped_fit : (wanted : List (List Sort)) (args : List ast.ArgumentTree) → length wanted ≡ length args →
        AllByRecursion DeepArgument args →
        AllByRecursion LiteralArgument args →
        AllByRecursion (λ x. argument_faults (record { layer = names.place.layer; locals = locals }) x.0 x.1 ≡ [])
        (zip wanted args) → AllByRecursion ArgumentFits args
    zipped_fit [] [] same deep literal h = tt
    zipped_fit [] (a ∷ args) same deep literal h = absurd (omega (arith, same))
    zipped_fit (w ∷ wanted) [] same deep literal h = absurd (omega (arith, same))
    zipped_fit (w ∷ wanted) (a ∷ args) same deep literal h =
        (argument_fits w a deep.0 literal.0 h.0, zipped_fit wanted args (omega (arith, same)) deep.1 literal.1 h.1)

    all_fit : (args : List ast.ArgumentTree) → AllByRecursion DeepArgument args → AllByRecursion LiteralArgument args →
        AllByRecursion (λ a. argument_faults (record { layer = names.place.layer; locals = locals }) a_number a ≡ [])
        args → AllByRecursion ArgumentFits args
    all_fit [] deep literal h = tt
    all_fit (a ∷ args) deep literal h =
        (argument_fits a_number a deep.0 literal.0 h.0, all_fit args deep.1 literal.1 h.1)

    numbers_of : (args : List ast.ArgumentTree) → AllByRecursion ArgumentFits args →
        AllByRecursion (Fits (layer_of names.place)) (map (argument_number names) args)
    numbers_of args h = each_map ArgumentFits (Fits (layer_of names.place)) (argument_number names) (λ a k. k.0) args h

    among_fit : (b : Bool) (args : List ast.ArgumentTree) → AllByRecursion ArgumentFits args →
        AllByRecursion ArgumentFits (numbers_among b args)
    among_fit true args h = each_take ArgumentFits _ args h
    among_fit false args h = h

    last_fits : (args : List ast.ArgumentTree) (o : Option ast.ArgumentTree) → Where ArgumentFits o →
        AllByRecursion ArgumentFits args →
        Where ArgumentFits (last_or o args)
    last_fits [] o here h = here
    last_fits (a ∷ args) o here h = last_fits args (Some a) h.0 h.1

    message_fits_among : (b : Bool) (args : List ast.ArgumentTree) → AllByRecursion ArgumentFits args →
        Where ArgumentFits (message_among b args)
    message_fits_among true args h = last_fits args None tt h
    message_fits_among false args h = tt

    option_fits : (o : Option ast.ArgumentTree) → Where ArgumentFits o →
        OptionFits (layer_of names.place) (option_map (argument_message names) o)
    option_fits None h = tt
    option_fits (Some a) h = h.1

    content_fits : (tag : ℕ) (fields : List ExpressionTree) → AllByRecursion (Fits (layer_of names.place)) fields →
        (o : Option ast.ArgumentTree) →
        Where ArgumentFits o → ContentsFit (layer_of names.place)
        (option_map (λ m. record { message = argument_message names m; tag = tag; fields = fields }) o)
    content_fits tag fields fit None h = tt
    content_fits tag fields fit (Some a) h = (h.1, fit)

    fields_fit : (at : At) (dir : Dir) (k : Kind) (pushed : Option ast.PushedTree) → DeepPushed pushed →
        LiteralPushed pushed →
        option_map_or (pushed_faults (record { layer = names.place.layer; locals = locals }) at dir k) pushed [] ≡ [] →
        AllByRecursion (Fits (layer_of names.place)) (pushed_fields names pushed)
    fields_fit at dir k None deep literal h = tt
    fields_fit at dir k (Some p) deep literal h =
        let args = arguments_in p.fields in
        let parts = nils (with_faults names.place.layer at p.name (length args) (pushes dir && carries k))
        (flat_map (argument_faults scope a_number) args) h in
        numbers_of args (all_fit args deep literal (each_nil (argument_faults scope a_number) args parts.1))

    taken_fits : (at : At) (q : ast.QueueTree) (new : List Name) →
        queue_faults (record { layer = names.place.layer; locals = locals }) at q ≡ [] →
        TakenFits (layer_of names.place) (queue_cell names q) (taken_row names q new).message
    taken_fits at q new h = go (queue_carries names q) refl where
      go : (o : Option Carried) → queue_carries names q ≡ o →
          TakenFits (layer_of names.place) (queue_cell names q)
          (option_map (λ carried. (names.taken.messages, carried)) o)
      go None is = tt
      go (Some carried) is = queue_carried q (queue_declared scope at q h) carried is

    -- a statement's own expressions
    emission_fits : (at : At) (dir : Dir) (k : Kind) (args : List ast.ArgumentTree) (pushed : Option ast.PushedTree) →
        AllByRecursion DeepArgument args →
        DeepPushed pushed → AllByRecursion LiteralArgument args → LiteralPushed pushed →
        emission_faults (record { layer = names.place.layer; locals = locals }) at dir k args pushed ≡ [] →
        AllByRecursion (Fits (layer_of names.place)) (emission_of names dir k args pushed).numbers ×
        ContentsFit (layer_of names.place) (emission_of names dir k args pushed).content ×
        (length (emission_of names dir k args pushed).numbers ≡ operation.numbers_of k)
    emission_fits at dir k args pushed deep deep_pushed literal literal_pushed h =
        let a = unless (length args == length (arguments_of k)) (arity at) in
        let b = arguments_faults scope (arguments_of k) args in
        let c = option_map_or (pushed_faults scope at dir k) pushed [] in
        let suited = option_map_or (suits dir (ends_with names.place.layer pushed)) (sent_sort scope k args) true in
        let one = nils (a ++ b ++ c) (unless suited (header at)) h in
        let two = nils (a ++ b) c one.0 in
        let three = nils a b two.0 in
        let count = eqb-true (length args) (length (arguments_of k))
        (unless_nil (length args == length (arguments_of k)) (arity at) three.0) in
        let fit = zipped_fit (arguments_of k) args (sym count) deep literal
        (each_nil (λ x. argument_faults scope x.0 x.1) (zip (arguments_of k) args) three.1) in (
          numbers_of (numbers_among (carries k) args) (among_fit (carries k) args fit),
          content_fits (pushed_tag names pushed) (pushed_fields names pushed)
              (fields_fit at dir k pushed deep_pushed literal_pushed two.1)
              (message_among (carries k) args) (message_fits_among (carries k) args fit),
          length-map (numbers_among (carries k) args) (argument_number names) ∙ counted k args count,
        )

    push_fits : (at : At) (q : ast.QueueTree) (args : List ast.ArgumentTree) → DeepQueue deepest q →
        AllByRecursion DeepArgument args → LiteralQueue q →
        AllByRecursion LiteralArgument args →
        row_type_faults (record { layer = names.place.layer; locals = locals }) at q (length args)
        ++ arguments_faults (record { layer = names.place.layer; locals = locals }) (row_sorts names.place.layer q)
        args ≡ [] →
        Fits (layer_of names.place) (queue_index names q) ×
        AllByRecursion (Fits (layer_of names.place)) (pushed_row names q args).numbers ×
        OptionFits (layer_of names.place) (pushed_row names q args).message
    push_fits at q args deep_queue deep literal_queue literal h =
        let faults = nils (row_type_faults scope at q (length args))
        (arguments_faults scope (row_sorts names.place.layer q) args) h in
        let test = length (queue_row names q) == length args in
        let two = nils (queue_faults scope at q) (unless test (arity at)) faults.0 in
        let count = eqb-true (length (queue_row names q)) (length args) (unless_nil test (arity at) two.1) in
        let same = length-map (queue_row names q) (λ (i : ast.ItemTree). i.sort ∷ []) ∙ count in
        let has = is_some (queue_carries names q) in
        let fit = zipped_fit (row_sorts names.place.layer q) args same deep literal
        (each_nil (λ x. argument_faults scope x.0 x.1) (zip (row_sorts names.place.layer q) args) faults.1) in (
          index_fits at q deep_queue literal_queue two.0,
          numbers_of (numbers_among has args) (among_fit has args fit),
          option_fits (message_among has args) (message_fits_among has args fit),
        )

abbrev scope_of : Names → List Local → Scope
scope_of names locals = record { layer = names.place.layer; locals = locals }

abbrev LiteralStanding : List Standing → Type 0
LiteralStanding standing = AllByRecursion (λ s. LiteralStatement s.statement) standing

-- the statements of a block
pub block_fits : (xs : ast.StatementTrees) (names : Names) (locals : List Local) → LiteralPlaced names.place →
    LastMessages names.place.layer →
    AllByRecursion (Clean names.place) (standing_in (record { layer = names.place.layer; locals = locals }) xs) →
    DeepStanding (standing_in (record { layer = names.place.layer; locals = locals }) xs) →
    LiteralStanding (standing_in (record { layer = names.place.layer; locals = locals }) xs) →
    FitsAll (layer_of names.place) (statements_of names xs)
block_fits ast.none names locals placed last clean deep literal = tt
block_fits (ast.more (ast.bind at name e) rest) names locals placed last clean deep literal = (
  number_fits names locals placed last e deepest deep.0 literal.0 clean.0.0,
  block_fits rest (with_numbers (name ∷ []) names) (locals ++ locals_as [] (name ∷ [])) placed last clean.1 deep.1
      literal.1,
)
block_fits (ast.more (ast.set at name None e) rest) names locals placed last clean deep literal =
    let scope = scope_of names locals in
    let parts = nils (unless (declared_as (is_numbers One) names.place.layer name.word) (kind at))
    (number_faults scope e ++ []) clean.0.0 in (
      (
        omega arith,
        number_fits names locals placed last e deepest deep.0.1 literal.0.1
            (nils (number_faults scope e) [] parts.1).0,
      ),
      block_fits rest names locals placed last clean.1 deep.1 literal.1,
    )
block_fits (ast.more (ast.set at name (Some index) e) rest) names locals placed last clean deep literal =
    let scope = scope_of names locals in
    let parts = nils (unless (declared_as (is_numbers Array) names.place.layer name.word) (kind at))
    (number_faults scope index ++ (number_faults scope e ++ [])) clean.0.0 in
    let more = nils (number_faults scope index) (number_faults scope e ++ []) parts.1 in (
      (
        number_fits names locals placed last index deepest deep.0.0 literal.0.0 more.0,
        number_fits names locals placed last e deepest deep.0.1 literal.0.1 (nils (number_faults scope e) [] more.1).0,
      ),
      block_fits rest names locals placed last clean.1 deep.1 literal.1,
    )
block_fits (ast.more (ast.set_square at name row column e) rest) names locals placed last clean deep literal =
    let scope = scope_of names locals in
    let parts = nils (unless (declared_as (is_numbers Square) names.place.layer name.word) (kind at))
    (number_faults scope row ++ (number_faults scope column ++ (number_faults scope e ++ []))) clean.0.0 in
    let more = nils (number_faults scope row) (number_faults scope column ++ (number_faults scope e ++ [])) parts.1 in
    let last_two = nils (number_faults scope column) (number_faults scope e ++ []) more.1 in (
      (
        number_fits names locals placed last row deepest deep.0.0 literal.0.0 more.0,
        number_fits names locals placed last column deepest deep.0.1 literal.0.1 last_two.0,
        number_fits names locals placed last e deepest deep.0.2 literal.0.2
            (nils (number_faults scope e) [] last_two.1).0,
      ),
      block_fits rest names locals placed last clean.1 deep.1 literal.1,
    )
block_fits (ast.more (ast.push at q items otherwise) rest) names locals placed last clean deep literal =
    let scope = scope_of names locals in
    let a = each_parts (Clean names.place) (standing_in scope otherwise) (standing_in scope rest) clean.1 in
    let b = each_parts (λ s. DeepStatement s.statement) (standing_in scope otherwise) (standing_in scope rest) deep.1 in
    let c = each_parts (λ s. LiteralStatement s.statement) (standing_in scope otherwise) (standing_in scope rest)
    literal.1 in
    let push = push_fits names locals placed last at q (arguments_in (Some items)) deep.0.0 deep.0.1 literal.0.0
    literal.0.1 clean.0.0 in (
      (push.0, push.1, push.2, block_fits otherwise names locals placed last a.0 b.0 c.0),
      block_fits rest (after_block names (after_all otherwise names)) locals placed last a.1 b.1 c.1,
    )
block_fits (ast.more (ast.take at q new block otherwise) rest) names locals placed last clean deep literal =
    let scope = scope_of names locals in
    let fresh = names_in (Some new) in
    let inner = with_taken q fresh names in
    let further = locals_as (map (λ (i : ast.ItemTree). i.sort) (queue_row names q)) fresh in
    let inside = scope_of names (locals ++ further) in
    let between = after_block names (after_all block inner) in
    let later = after_block names (after_all otherwise between) in
    let both = standing_in inside block ++ standing_in scope otherwise in
    let a = each_parts (Clean names.place) both (standing_in scope rest) clean.1 in
    let b = each_parts (λ s. DeepStatement s.statement) both (standing_in scope rest) deep.1 in
    let c = each_parts (λ s. LiteralStatement s.statement) both (standing_in scope rest) literal.1 in
    let d = each_parts (Clean names.place) (standing_in inside block) (standing_in scope otherwise) a.0 in
    let e = each_parts (λ s. DeepStatement s.statement) (standing_in inside block) (standing_in scope otherwise) b.0 in
    let f = each_parts (λ s. LiteralStatement s.statement) (standing_in inside block) (standing_in scope otherwise) c.0
    in
    let faults = nils (queue_faults scope at q) (unless (length (queue_row names q) == length fresh) (arity at))
    clean.0.0 in (
      (
        index_fits names locals placed last at q deep.0 literal.0 faults.0,
        taken_fits names locals placed last at q fresh faults.0,
        block_fits block inner (locals ++ further) placed last d.0 e.0 f.0,
        block_fits otherwise between locals placed last d.1 e.1 f.1,
      ),
      block_fits rest later locals placed last a.1 b.1 c.1,
    )
block_fits (ast.more (ast.when at likely condition block) rest) names locals placed last clean deep literal =
    let scope = scope_of names locals in
    let a = each_parts (Clean names.place) (standing_in scope block) (standing_in scope rest) clean.1 in
    let b = each_parts (λ s. DeepStatement s.statement) (standing_in scope block) (standing_in scope rest) deep.1 in
    let c = each_parts (λ s. LiteralStatement s.statement) (standing_in scope block) (standing_in scope rest) literal.1
    in (
      (
        number_fits names locals placed last condition deepest deep.0 literal.0 clean.0.0,
        block_fits block names locals placed last a.0 b.0 c.0,
        tt,
      ),
      block_fits rest (after_block names (after_all block names)) locals placed last a.1 b.1 c.1,
    )
block_fits (ast.more (ast.choose at likely condition block otherwise) rest) names locals placed last clean deep
    literal =
    let scope = scope_of names locals in
    let between = after_block names (after_all block names) in
    let later = after_block names (after_all otherwise between) in
    let both = standing_in scope block ++ standing_in scope otherwise in
    let a = each_parts (Clean names.place) both (standing_in scope rest) clean.1 in
    let b = each_parts (λ s. DeepStatement s.statement) both (standing_in scope rest) deep.1 in
    let c = each_parts (λ s. LiteralStatement s.statement) both (standing_in scope rest) literal.1 in
    let d = each_parts (Clean names.place) (standing_in scope block) (standing_in scope otherwise) a.0 in
    let e = each_parts (λ s. DeepStatement s.statement) (standing_in scope block) (standing_in scope otherwise) b.0 in
    let f = each_parts (λ s. LiteralStatement s.statement) (standing_in scope block) (standing_in scope otherwise) c.0
    in (
      (
        number_fits names locals placed last condition deepest deep.0 literal.0 clean.0.0,
        block_fits block names locals placed last d.0 e.0 f.0,
        block_fits otherwise between locals placed last d.1 e.1 f.1,
      ),
      block_fits rest later locals placed last a.1 b.1 c.1,
    )
block_fits (ast.more (ast.each at name below most block) rest) names locals placed last clean deep literal =
    let scope = scope_of names locals in
    let inside = scope_of names (locals ++ locals_as [] (name ∷ [])) in
    let a = each_parts (Clean names.place) (standing_in inside block) (standing_in scope rest) clean.1 in
    let b = each_parts (λ s. DeepStatement s.statement) (standing_in inside block) (standing_in scope rest) deep.1 in
    let c = each_parts (λ s. LiteralStatement s.statement) (standing_in inside block) (standing_in scope rest) literal.1
    in (
      tt,
      block_fits rest (after_block names (after_all block (with_numbers (name ∷ []) names))) locals placed last a.1
          b.1 c.1,
    )
block_fits (ast.more (ast.emit at dir k arguments pushed) rest) names locals placed last clean deep literal = (
  emission_fits names locals placed last at dir k (arguments_in (Some arguments)) pushed deep.0.0 deep.0.1 literal.0.0
      literal.0.1 clean.0.0,
  block_fits rest names locals placed last clean.1 deep.1 literal.1,
)
