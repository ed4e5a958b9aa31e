-- The predicted steps of typed and held handlers fit, where their expressions do.
use Rattle.std.proofs.Common.{◌≡◌, ℕ, zero, suc, ◌≤◌, Bool, true, false, List, [], ◌∷◌, length, slice_get, is_some}
use Rattle.std.proofs.Common.{Option, Some, None, option_map, option_and_then, unwrap_or, refl, sym, ap, ◌∙◌, subst}
use Rattle.std.proofs.Common.{arith}
use Rattle.std.specs.Prelude.{IsSomeAnd}
use Rattle.std.specs.List.{AllByRecursion}
use Rattle.std.specs.Option.{option_map_or}
use Rattle.msg_core.specs.declared.message.Header.{Header}
use Rattle.layer_words.specs.declared.sorts.Likely.TheVariants as likely
use Rattle.layer_words.specs.declared.sorts.Sort.{Sort}
use Rattle.layer_words.specs.declared.events.Dir.{Dir}
use Rattle.layer_words.specs.declared.events.Dir.TheVariants.{Up, Down}
use Rattle.layer_mean.specs.declared.run.Case.{Case}
use Rattle.layer_mean.specs.declared.run.Case.TheVariants.{First, Second}
use Rattle.layer_mean.specs.Event.{carries}
use Rattle.layer_mean.specs.Headers.{header_of_tag}
use Rattle.layer_mean.specs.Tree.{Carried, ExpressionTree, MessageTree, ContentTree, Form, numbers, queue, queues}
use Rattle.layer_mean.specs.Tree.{ItemsTree, RowTree, StatementTree, bind, assign, assign_square, push, take, branch}
use Rattle.layer_mean.specs.Tree.{each, emit, StatementTrees, none, more, Expected, always, common, rare, HandlerTree}
use Rattle.layer_mean.specs.Tree.{HeaderTree, CellTree, LayerTree}
use Rattle.layer_mean.specs.Way.{way, ways, expected_way}
use Rattle.chain_laws.specs.Typed.{Queue, queue_in, Ends, Sends, Pushes, Typed, TypedAll, TypedForm, with_taken_sort}
use Rattle.chain_laws.specs.Typed.{sorts_of, TypedHandler}
use Rattle.chain_laws.proofs.Lists.{each_append}
use Rattle.file_laws.specs.Bounds.{HoldsStatement, HoldsBlock}
use Rattle.pack_mean.specs.Named.{items_in, no_items}
use Rattle.pack_mean.specs.Operation.{numbers_of}
use Rattle.pack_round_laws.proofs.Fits.{largest_number}
use Rattle.pack_round_laws.proofs.Layers.{cell_items, MessageFits, most_nested, Fits, RowMessageFits, PutFits}
use Rattle.pack_round_laws.proofs.Layers.{TakenFits}
use Rattle.pack_round_laws.proofs.Layers.{SentContentFits, StepFits, WayFits, HandlerFits}

-- the expressions of a statement fit, and what a take fills is what its queue carries
abbrev pub OptionFits : LayerTree → Option MessageTree → Type 0
OptionFits layer None = Unit {0}
OptionFits layer (Some m) = MessageFits layer most_nested m

abbrev pub ContentsFit : LayerTree → Option ContentTree → Type 0
ContentsFit layer None = Unit {0}
ContentsFit layer (Some c) = MessageFits layer most_nested c.message × AllByRecursion (Fits layer) c.fields

abbrev mutual
  pub FitsStatement : LayerTree → StatementTree → Type 0
  FitsStatement layer (bind k e) = Fits layer e
  FitsStatement layer (assign c i e) = Fits layer i × Fits layer e
  FitsStatement layer (assign_square c row column e) = Fits layer row × Fits layer column × Fits layer e
  FitsStatement layer (push c i capacity row otherwise) =
      Fits layer i × AllByRecursion (Fits layer) row.numbers × OptionFits layer row.message × FitsAll layer otherwise
  FitsStatement layer (take c i taken block otherwise) = Fits layer i × TakenFits layer c taken.message ×
      FitsAll layer block × FitsAll layer otherwise
  FitsStatement layer (branch chosen e block otherwise) = Fits layer e × FitsAll layer block × FitsAll layer otherwise
  FitsStatement layer (each k below most block) = Unit {0}
  FitsStatement layer (emit e) = AllByRecursion (Fits layer) e.numbers × ContentsFit layer e.content ×
      (length e.numbers ≡ numbers_of e.kind)

  pub FitsAll : LayerTree → StatementTrees → Type 0
  FitsAll layer none = Unit {0}
  FitsAll layer (more x rest) = FitsStatement layer x × FitsAll layer rest

abbrev pub FitsExpected : LayerTree → Expected → Type 0
FitsExpected layer (common e) = Fits layer e
FitsExpected layer _ = Unit {0}

-- a queue's cell
pub queue_items : (o : Option CellTree) (rows : Queue) → option_and_then (λ cell. queue_in cell.form) o ≡ Some rows →
    unwrap_or (items_in (option_map (λ (cell : CellTree). cell.form) o)) no_items ≡ rows.items
queue_items None rows is = absurd (cc is)
queue_items (Some cell) rows is = go cell.form is where
  go : (form : Form) → queue_in form ≡ Some rows → unwrap_or (items_in (Some form)) no_items ≡ rows.items
  go (numbers shape initial) k = absurd (cc k)
  go (queue capacity items) k = ap (λ o. option_map_or (λ (q : Queue). q.items) o items) k
  go (queues capacity items) k = ap (λ o. option_map_or (λ (q : Queue). q.items) o items) k

capacity_small : (cells : List CellTree) (c : ℕ) (rows : Queue) → AllByRecursion (λ cell. TypedForm cell.form) cells →
    option_and_then (λ cell. queue_in cell.form) (slice_get cells c) ≡ Some rows → rows.capacity ≤ largest_number
capacity_small [] c rows typed is = absurd (cc is)
capacity_small (cell ∷ cells) (suc c) rows typed is = capacity_small cells c rows typed.1 is
capacity_small (cell ∷ cells) zero rows typed is = go cell.form typed.0 is where
  go : (form : Form) → TypedForm form → queue_in form ≡ Some rows → rows.capacity ≤ largest_number
  go (numbers shape initial) h k = absurd (cc k)
  go (queue capacity items) h k =
      let same : capacity ≡ rows.capacity = ap (λ o. option_map_or (λ (q : Queue). q.capacity) o capacity) k in
      omega (arith, h, same)
  go (queues capacity items) h k =
      let same : capacity ≡ rows.capacity = ap (λ o. option_map_or (λ (q : Queue). q.capacity) o capacity) k in
      omega (arith, h, same)

module _ (layer : LayerTree) (blank : List Header) (cells : AllByRecursion (λ cell. TypedForm cell.form) layer.cells)
  where
    row_message : (sorts : List Sort) (carried : Option (List ℕ × Carried)) (m : Option MessageTree) →
        Ends layer blank sorts carried m → OptionFits layer m →
        RowMessageFits layer carried m
    row_message sorts None None ends fits = tt
    row_message sorts (Some carried) (Some m) ends fits = fits
    row_message sorts None (Some m) ends fits = absurd ends
    row_message sorts (Some carried) None ends fits = absurd ends

    put_fits : (sorts : List Sort) (c : ℕ) (i : ExpressionTree) (capacity : ℕ) (row : RowTree) →
        Pushes layer blank sorts c capacity row → Fits layer i →
        AllByRecursion (Fits layer) row.numbers → OptionFits layer row.message → PutFits layer c i capacity row
    put_fits sorts c i capacity row pushes index nums message =
        let items = queue_items (slice_get layer.cells c) pushes.rows pushes.listed in
        let most = capacity_small layer.cells c pushes.rows cells pushes.listed in
        let room = pushes.room in
        record {
          index_fits = index;
          capacity_fits = omega (arith, room, most);
          numbers_fit = nums;
          numbers_are = pushes.count ∙ ap (λ (x : ItemsTree). length x.numbers) (sym items);
          message_fits = row_message sorts (cell_items layer c).message row.message
              (subst (λ (x : ItemsTree). Ends layer blank sorts x.message row.message) (sym items) pushes.message)
              message;
        }

    header_fits : (o : Option HeaderTree) (n : ℕ) (P : HeaderTree → Type 0) → IsSomeAnd o (λ d. (n ≡ d.fields) × P d) →
        (is_some o ≡ true) × (n ≡ option_map_or (λ h. h.fields) o 0)
    header_fits None n P h = absurd h
    header_fits (Some d) n P h = (refl, h.0)

    content_fits : (sorts : List Sort) (b : Bool) (dir : Dir) (c : Option ContentTree) →
        Sends layer blank sorts b dir c →
        ContentsFit layer c →
        SentContentFits layer dir c
    content_fits sorts b dir None sends fits = tt
    content_fits sorts false dir (Some c) sends fits = absurd sends
    content_fits sorts true Up (Some c) sends fits =
        record { message_fits = fits.0; fields_fit = fits.1; header_fits = tt }
    content_fits sorts true Down (Some c) sends fits =
        record {
          message_fits = fits.0;
          fields_fit = fits.1;
          header_fits =
              header_fits (header_of_tag layer c.tag) (length c.fields) _ sends.declares;
        }

    carried_as : (sorts : List Sort) (b : Bool) (dir : Dir) (c : Option ContentTree) →
        Sends layer blank sorts b dir c →
        is_some c ≡ b
    carried_as sorts true dir (Some c) sends = refl
    carried_as sorts false dir None sends = refl
    carried_as sorts true dir None sends = absurd sends
    carried_as sorts false dir (Some c) sends = absurd sends

    mutual
      way_fits : (case : Case) (x : StatementTree) (sorts : List Sort) → Typed layer blank sorts x → HoldsStatement x →
          FitsStatement layer x →
          AllByRecursion (StepFits layer) (way case x)
      way_fits case (bind k e) sorts typed holds fits = (fits, tt)
      way_fits case (assign c i e) sorts typed holds fits = (fits, tt)
      way_fits case (assign_square c row column e) sorts typed holds fits = (fits, tt)
      way_fits case (push c i capacity row otherwise) sorts typed holds fits =
          (put_fits sorts c i capacity row typed.0 fits.0 fits.1 fits.2, tt)
      way_fits case (take c i taken block otherwise) sorts typed holds fits =
          ((fits.0, fits.1), ways_fit case block (with_taken_sort sorts taken.message) typed.1 holds.2 fits.2)
      way_fits case (branch likely.First e block otherwise) sorts typed holds fits =
          (fits.0, ways_fit case block sorts typed.0 holds.0 fits.1)
      way_fits case (branch likely.Else e block otherwise) sorts typed holds fits =
          (fits.0, ways_fit case otherwise sorts typed.1 holds.1 fits.2)
      way_fits First (branch likely.Two e block otherwise) sorts typed holds fits =
          (fits.0, ways_fit First block sorts typed.0 holds.0 fits.1)
      way_fits Second (branch likely.Two e block otherwise) sorts typed holds fits =
          (fits.0, ways_fit Second otherwise sorts typed.1 holds.1 fits.2)
      way_fits case (each k below most block) sorts typed holds fits = (tt, tt)
      way_fits case (emit e) sorts typed holds fits = (
        record {
          count = fits.2;
          carried = carried_as sorts (carries e.kind) e.direction e.content typed.1;
          numbers_fit = fits.0;
          content_fits =
              content_fits sorts (carries e.kind) e.direction e.content typed.1 fits.1;
        },
        tt,
      )

      ways_fit : (case : Case) (xs : StatementTrees) (sorts : List Sort) → TypedAll layer blank sorts xs →
          HoldsBlock xs →
          FitsAll layer xs →
          AllByRecursion (StepFits layer) (ways case xs)
      ways_fit case none sorts typed holds fits = tt
      ways_fit case (more x xs) sorts typed holds fits =
          each_append (StepFits layer) (way case x) (ways case xs) (way_fits case x sorts typed.0 holds.0 fits.0)
          (ways_fit case xs sorts typed.1 holds.1 fits.1)

    pub handler_fits : (h : HandlerTree) → TypedHandler layer blank h → HoldsBlock h.block →
        FitsExpected layer h.expected → FitsAll layer h.block →
        HandlerFits layer h
    handler_fits h typed holds expected fits case = go h.expected expected where
      steps : AllByRecursion (StepFits layer) (ways case h.block)
      steps = ways_fit case h.block (sorts_of layer h) typed holds fits

      go : (x : Expected) → FitsExpected layer x → WayFits layer (expected_way x (ways case h.block))
      go always e = steps
      go (common c) e = (e, steps)
      go rare e = tt
