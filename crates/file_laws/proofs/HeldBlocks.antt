-- Blocks without faults are within the bounds: what their handler declares counts their slots.
use Rattle.std.proofs.Common.{◌≡◌, ◌∙◌, ℕ, ◌+◌, ◌<◌, ◌≤◌, true, List, [], ◌∷◌, ◌++◌, length, map, Option, Some, None}
use Rattle.std.proofs.Common.{refl, ap, arith}
use Rattle.std.specs.Prelude.{◌==◌, ◌&&◌, flat_map, is_some, option_map}
use Rattle.std.specs.List.{AllByRecursion}
use Rattle.std.specs.Option.{option_map_or}
use Rattle.std.proofs.lemmas.Bool.{eqb-true}
use Rattle.std.proofs.lemmas.Grind.{flat_map-append}
use Rattle.std.proofs.lemmas.List.{length-append, length-map}
use Rattle.layer_words.specs.declared.places.At.{At}
use Rattle.layer_ast.specs.declared.names.Name.{Name}
use Rattle.layer_words.specs.declared.words.Word.{Word}
use Rattle.layer_words.specs.declared.events.Dir.{Dir}
use Rattle.layer_words.specs.declared.events.Kind.{Kind}
use Rattle.layer_words.specs.declared.events.Kind.TheVariants as kinds
use Rattle.layer_ast.specs.Tree as ast
use Rattle.layer_mean.specs.Event.{carries}
use Rattle.layer_mean.specs.Tree.{Carried}
use Rattle.fault_mean.specs.Declared.{declaration_of, declares, headers_of, names_in}
use Rattle.fault_mean.specs.Earliest.{unless}
use Rattle.fault_mean.specs.Faults.{kind, arity, direction, header}
use Rattle.fault_mean.specs.Forms.{declared_as, fields_of, queue_name, row_of}
use Rattle.fault_mean.specs.Declared.{is_header}
use Rattle.fault_mean.specs.Kinds.{a_number, arguments_of}
use Rattle.fault_mean.specs.ExpressionFaults.{argument_faults, arguments_faults, number_faults, queue_faults}
use Rattle.fault_mean.specs.Scope.{Local, Scope, Standing, declared_names, layer_scope, locals_as, scope_after}
use Rattle.fault_mean.specs.Scope.{standing_in}
use Rattle.fault_mean.specs.Scope.{standing_inside, taken_scope, with_locals}
use Rattle.fault_mean.specs.Sorts.{size_at}
use Rattle.fault_mean.specs.TypeFaults.{pushes, suits, ends_with, sent_sort, pushed_faults, emission_faults}
use Rattle.fault_mean.specs.TypeFaults.{row_type_faults, row_sorts, size_type_faults}
use Rattle.fault_mean.specs.Uses.{arguments_in}
use Rattle.file_mean.specs.Names.{Names, Placed, capacity_declared, message_among, numbers_among, tag_of, with_numbers}
use Rattle.file_mean.specs.Values.{argument_message, argument_number, queue_carries, queue_row}
use Rattle.file_mean.specs.Statements.{after_block, following, after_all, emission_of, pushed_fields, pushed_tag}
use Rattle.file_mean.specs.Statements.{statements_of, with_taken}
use Rattle.file_laws.proofs.Lists.{nils, each_parts, unless_nil}
use Rattle.file_laws.proofs.NamedBlocks.{range_below}
use Rattle.file_laws.proofs.NamedLayers.{Clean, size_is}
use Rattle.file_laws.specs.Bounds.{HoldsBlock, HoldsContent, HoldsSlot}
use Rattle.file_laws.proofs.HeldCounts.{Row, place_few, row_numbers, split}

-- the slots that are taken are as many as the names that are declared

abbrev pub total : Names → ℕ
total names = names.taken.numbers + names.taken.messages

abbrev pub declared_in : List Standing → ℕ
declared_in statements = length (flat_map (λ (s : Standing). declared_names s.statement) statements)

both : (xs ys : List Standing) → declared_in (xs ++ ys) ≡ declared_in xs + declared_in ys
both xs ys =
    ap length (flat_map-append (λ (s : Standing). declared_names s.statement) xs ys)
    ∙ length-append (flat_map (λ (s : Standing). declared_names s.statement) xs)
    (flat_map (λ (s : Standing). declared_names s.statement) ys)

mutual
  adds : (x : ast.StatementTree) (names : Names) (scope : Scope) →
      total (following x names) ≡ total names + length (declared_names x) + declared_in (standing_inside scope x)
  adds (ast.bind at name e) names scope = omega arith
  adds (ast.set at name index e) names scope = omega arith
  adds (ast.set_square at name row column e) names scope = omega arith
  adds (ast.push at q items otherwise) names scope = let one = adds_all otherwise names scope in omega (arith, one)
  adds (ast.take at q new block otherwise) names scope =
      let inner = with_taken q (names_in (Some new)) names in
      let inside = taken_scope scope q new in
      let parts = split (is_some (queue_carries names q)) (names_in (Some new)) in
      let one = adds_all block inner inside in
      let two = adds_all otherwise (after_block names (after_all block inner)) scope in
      let sum = both (standing_in inside block) (standing_in scope otherwise) in
      omega (arith, parts, one, two, sum)
  adds (ast.when at likely e block) names scope = let one = adds_all block names scope in omega (arith, one)
  adds (ast.choose at likely e block otherwise) names scope =
      let one = adds_all block names scope in
      let two = adds_all otherwise (after_block names (after_all block names)) scope in
      let sum = both (standing_in scope block) (standing_in scope otherwise) in
      omega (arith, one, two, sum)
  adds (ast.each at name below most block) names scope =
      let one = adds_all block (with_numbers (name ∷ []) names) (with_locals scope (locals_as [] (name ∷ []))) in
      omega (arith, one)
  adds (ast.emit at dir k arguments pushed) names scope = omega arith

  pub adds_all : (xs : ast.StatementTrees) (names : Names) (scope : Scope) → total (after_all xs names) ≡
      total names + declared_in (standing_in scope xs)
  adds_all ast.none names scope = omega arith
  adds_all (ast.more x rest) names scope =
      let one = adds x names scope in
      let two = adds_all rest (following x names) (scope_after scope x) in
      let own = length-append (declared_names x)
      (flat_map (λ (s : Standing). declared_names s.statement)
      (standing_inside scope x ++ standing_in (scope_after scope x) rest)) in
      let sum = both (standing_inside scope x) (standing_in (scope_after scope x) rest) in
      omega (arith, one, two, own, sum)

grows : (xs : ast.StatementTrees) (names : Names) → total names ≤ total (after_all xs names)
grows xs names = let sum = adds_all xs names (layer_scope names.place.layer) in omega (arith, sum)

-- what is known of all that a layer declares

pub record Bounded (p : Placed) : Type 0 where
  pub capacities : (word : Word) → option_map_or (capacity_declared p) (declaration_of p.layer word) 0 ≤ 64
  pub rows : (word : Word) → Row (row_of p.layer word)
  pub fields : (word : Word) → length (fields_of p.layer word) ≤ 4
  pub headers : length (headers_of p.layer) ≤ 7

pub tag_held : (p : Placed) (name : Name) → Bounded p → tag_of p name < 8
tag_held p name b = let place = place_few (declares name.word) (headers_of p.layer) in omega (arith, place, b.headers)

-- emissions

arguments_few : (k : Kind) → length (arguments_of k) ≤ 2
arguments_few kinds.Cast = omega arith
arguments_few kinds.Send = omega arith
arguments_few kinds.Stable = omega arith
arguments_few kinds.Ack = omega arith
arguments_few _ = omega arith

pushed_tag_held : (names : Names) (pushed : Option ast.PushedTree) → Bounded names.place → pushed_tag names pushed < 8
pushed_tag_held names None b = omega arith
pushed_tag_held names (Some x) b = tag_held names.place x.name b

pushed_fields_held : (names : Names) (locals : List Local) (at : At) (dir : Dir) (k : Kind)
    (pushed : Option ast.PushedTree) → Bounded names.place →
    option_map_or (pushed_faults (record { layer = names.place.layer; locals = locals }) at dir k) pushed [] ≡ [] →
    length (pushed_fields names pushed) ≤ 4
pushed_fields_held names locals at dir k None b h = omega arith
pushed_fields_held names locals at dir k (Some x) b h =
    let scope : Scope = record { layer = names.place.layer; locals = locals } in
    let args = arguments_in x.fields in
    let test = length (fields_of names.place.layer x.name.word) == length args in
    let own = unless (declared_as is_header names.place.layer x.name.word) (kind at) in
    let parts = nils (own ++ unless test (arity at) ++ unless (pushes dir && carries k) (direction at))
    (flat_map (argument_faults scope a_number) args) h in
    let first = nils (own ++ unless test (arity at)) (unless (pushes dir && carries k) (direction at)) parts.0 in
    let count = eqb-true (length (fields_of names.place.layer x.name.word)) (length args)
    (unless_nil test (arity at) (nils own (unless test (arity at)) first.0).1) in
    let few = b.fields x.name.word in
    let same = length-map args (argument_number names) in
    omega (arith, count, few, same)

content_held : (names : Names) (pushed : Option ast.PushedTree) (o : Option ast.ArgumentTree) →
    pushed_tag names pushed < 8 →
    length (pushed_fields names pushed) ≤ 4 → HoldsContent
    (option_map (λ m. record {
      message = argument_message names m;
      tag = pushed_tag names pushed;
      fields =
          pushed_fields names pushed;
    }) o)
content_held names pushed None tag fields = tt
content_held names pushed (Some m) tag fields = (tag, fields)

emission_held : (names : Names) (locals : List Local) (at : At) (dir : Dir) (k : Kind) (args : List ast.ArgumentTree)
    (pushed : Option ast.PushedTree) →
    Bounded names.place → emission_faults (record { layer = names.place.layer; locals = locals }) at dir k args pushed ≡
    [] →
    (length (emission_of names dir k args pushed).numbers ≤ 4) ×
    HoldsContent (emission_of names dir k args pushed).content
emission_held names locals at dir k args pushed b h =
    let scope : Scope = record { layer = names.place.layer; locals = locals } in
    let test = length args == length (arguments_of k) in
    let own = arguments_faults scope (arguments_of k) args in
    let pushed_own = option_map_or (pushed_faults scope at dir k) pushed [] in
    let suited = option_map_or (suits dir (ends_with names.place.layer pushed)) (sent_sort scope k args) true in
    let one = nils (unless test (arity at) ++ own ++ pushed_own) (unless suited (header at)) h in
    let two = nils (unless test (arity at) ++ own) pushed_own one.0 in
    let count = eqb-true (length args) (length (arguments_of k))
    (unless_nil test (arity at) (nils (unless test (arity at)) own two.0).0) in
    let few = arguments_few k in
    let same = length-map (numbers_among (carries k) args) (argument_number names) in
    let parts = split (carries k) args in (
      omega (arith, count, few, same, parts),
      content_held names pushed (message_among (carries k) args) (pushed_tag_held names pushed b)
          (pushed_fields_held names locals at dir k pushed b two.1),
    )

-- blocks

slot_held : (k : ℕ) (o : Option Carried) → k ≤ 64 → HoldsSlot (option_map (λ carried. (k, carried)) o)
slot_held k None few = tt
slot_held k (Some carried) few = omega (arith, few)

pub block_held : (xs : ast.StatementTrees) (names : Names) (locals : List Local) → Bounded names.place →
    total (after_all xs names) ≤ 64 →
    AllByRecursion (Clean names.place) (standing_in (record { layer = names.place.layer; locals = locals }) xs) →
    HoldsBlock (statements_of names xs)
block_held ast.none names locals b few h = tt
block_held (ast.more (ast.bind at name e) rest) names locals b few h =
    let end = grows rest (with_numbers (name ∷ []) names) in (
      omega (arith, end, few),
      block_held rest (with_numbers (name ∷ []) names) (locals ++ locals_as [] (name ∷ [])) b few h.1,
    )
block_held (ast.more (ast.set at name index e) rest) names locals b few h = (tt, block_held rest names locals b few h.1)
block_held (ast.more (ast.set_square at name row column e) rest) names locals b few h =
    (tt, block_held rest names locals b few h.1)
block_held (ast.more (ast.push at q items otherwise) rest) names locals b few h =
    let scope : Scope = record { layer = names.place.layer; locals = locals } in
    let args = arguments_in (Some items) in
    let inner = after_all otherwise names in
    let later = after_block names inner in
    let end = grows rest later in
    let faults = nils (row_type_faults scope at q (length args))
    (arguments_faults scope (row_sorts names.place.layer q) args) h.0.0 in
    let test = length (queue_row names q) == length args in
    let two = nils (queue_faults scope at q) (unless test (arity at)) faults.0 in
    let count = eqb-true (length (queue_row names q)) (length args) (unless_nil test (arity at) two.1) in
    let row = row_numbers names.place (queue_row names q) args (b.rows (queue_name q).word) count
    (is_some (queue_carries names q)) refl in
    let same = length-map (numbers_among (is_some (queue_carries names q)) args) (argument_number names) in
    let parts = each_parts (Clean names.place) (standing_in scope otherwise) (standing_in scope rest) h.1 in
    let capacity = b.capacities (queue_name q).word in (
      (
        omega (arith, capacity),
        omega (arith, same, row),
        block_held otherwise names locals b (omega (arith, end, few)) parts.0,
      ),
      block_held rest later locals b few parts.1,
    )
block_held (ast.more (ast.take at q new block otherwise) rest) names locals b few h =
    let scope : Scope = record { layer = names.place.layer; locals = locals } in
    let fresh = names_in (Some new) in
    let further = locals_as (map (λ (i : ast.ItemTree). i.sort) (queue_row names q)) fresh in
    let inside : Scope = record { layer = names.place.layer; locals = locals ++ further } in
    let inner = with_taken q fresh names in
    let between = after_block names (after_all block inner) in
    let later = after_block names (after_all otherwise between) in
    let one = grows block inner in
    let two = grows otherwise between in
    let end = grows rest later in
    let outer = each_parts (Clean names.place) (standing_in inside block ++ standing_in scope otherwise)
    (standing_in scope rest) h.1 in
    let parts = each_parts (Clean names.place) (standing_in inside block) (standing_in scope otherwise) outer.0 in (
      (
        range_below names.taken.numbers (length (numbers_among (is_some (queue_carries names q)) fresh)) 256
            (omega (arith, one, two, end, few)),
        slot_held names.taken.messages (queue_carries names q) (omega (arith, one, two, end, few)),
        block_held block inner (locals ++ further) b (omega (arith, two, end, few)) parts.0,
        block_held otherwise between locals b (omega (arith, end, few)) parts.1,
      ),
      block_held rest later locals b few outer.1,
    )
block_held (ast.more (ast.when at likely e block) rest) names locals b few h =
    let scope : Scope = record { layer = names.place.layer; locals = locals } in
    let later = after_block names (after_all block names) in
    let end = grows rest later in
    let parts = each_parts (Clean names.place) (standing_in scope block) (standing_in scope rest) h.1 in (
      (block_held block names locals b (omega (arith, end, few)) parts.0, tt),
      block_held rest later locals b few parts.1,
    )
block_held (ast.more (ast.choose at likely e block otherwise) rest) names locals b few h =
    let scope : Scope = record { layer = names.place.layer; locals = locals } in
    let between = after_block names (after_all block names) in
    let later = after_block names (after_all otherwise between) in
    let two = grows otherwise between in
    let end = grows rest later in
    let outer = each_parts (Clean names.place) (standing_in scope block ++ standing_in scope otherwise)
    (standing_in scope rest) h.1 in
    let parts = each_parts (Clean names.place) (standing_in scope block) (standing_in scope otherwise) outer.0 in (
      (
        block_held block names locals b (omega (arith, two, end, few)) parts.0,
        block_held otherwise between locals b (omega (arith, end, few)) parts.1,
      ),
      block_held rest later locals b few outer.1,
    )
block_held (ast.more (ast.each at name below most block) rest) names locals b few h =
    let scope : Scope = record { layer = names.place.layer; locals = locals } in
    let inside : Scope = record { layer = names.place.layer; locals = locals ++ locals_as [] (name ∷ []) } in
    let inner = with_numbers (name ∷ []) names in
    let later = after_block names (after_all block inner) in
    let one = grows block inner in
    let end = grows rest later in
    let faults = nils (number_faults scope below) (size_type_faults names.place.layer (size_at most) most) h.0.0 in
    let parts = each_parts (Clean names.place) (standing_in inside block) (standing_in scope rest) h.1 in
    let size = size_is names.place most 32 (size_at most) faults.1 h.0.1.0.0 h.0.1.0.1 in (
      (
        omega (arith, one, end, few),
        omega (arith, size.1),
        block_held block inner (locals ++ locals_as [] (name ∷ [])) b (omega (arith, end, few)) parts.0,
      ),
      block_held rest later locals b few parts.1,
    )
block_held (ast.more (ast.emit at dir k arguments pushed) rest) names locals b few h = (
  emission_held names locals at dir k (arguments_in (Some arguments)) pushed b h.0.0,
  block_held rest names locals b few h.1,
)
