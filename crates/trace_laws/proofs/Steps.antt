-- What following the operations of a predicted step does is what walking the step does.
use Rattle.std.proofs.Common.{◌≡◌, ℕ, zero, suc, ◌+◌, ◌<◌, Bool, true, false, not, List, [], ◌∷◌, ◌++◌, map, length}
use Rattle.std.proofs.Common.{Option, Some, None, refl, sym, ap, ◌∙◌, subst, arith}
use Rattle.std.specs.Prelude.{if◌then◌else◌, ◌==◌, ◌&&◌, nat_lt, take, slice_get, slice_index, slice_index_or}
use Rattle.std.specs.Prelude.{slice_set, option_map, is_some, Result, Ok, Err}
use Rattle.std.specs.Option.{option_map_or}
use Rattle.std.proofs.lemmas.List.{append-nil, append_assoc, length-append, length-map, map-append, map-set, set-set}
use Rattle.std.proofs.lemmas.List.{get_or-set_same}
use Rattle.std.proofs.lemmas.Bool.{eqb-true, lt-ltb}
use Rattle.msg_core.specs.Chain.{Content, pushed}
use Rattle.layer_words.specs.declared.events.Dir.{Dir}
use Rattle.layer_words.specs.declared.events.Dir.TheVariants.{Up, Down}
use Rattle.layer_words.specs.declared.events.Kind.{Kind}
use Rattle.layer_words.specs.declared.operators.Operator.TheVariants.{Less}
use Rattle.layer_mean.specs.declared.run.Case.TheVariants.{First, Second}
use Rattle.layer_mean.specs.declared.run.Event.{Event}
use Rattle.layer_mean.specs.declared.run.Row.{Row}
use Rattle.layer_mean.specs.Event.{carries, event_of}
use Rattle.layer_mean.specs.Tree.{Carried, part, whole, ExpressionTree, MessageTree, ContentTree, EmissionTree, RowTree}
use Rattle.layer_mean.specs.Tree.{TakenTree, Form, queue, queues, LayerTree}
use Rattle.layer_mean.specs.Tree as tree
use Rattle.layer_mean.specs.State.{State, queues_in, cell_at, flat_index, rows_at, row_at, has_room, with_number}
use Rattle.layer_mean.specs.State.{with_row, without_front}
use Rattle.layer_mean.specs.Value.{Scope, is_true, of_bool, val, mval, message_in, number_in}
use Rattle.layer_mean.specs.Effect as effect
use Rattle.layer_mean.specs.Effect.{with_slot, with_slots, row_of, header_of, sent_as}
use Rattle.layer_mean.specs.Visit.{no_state}
use Rattle.layer_mean.specs.Way.{Step, test, fork, set_slot, set_number, set_square, put, get, send, loop}
use Rattle.stack_mean.specs.NoShape.{NoShape}
use Rattle.shape_laws.specs.Walk.{Here, walk_step, took}
use Rattle.shape_laws.specs.Bare.{BareRow, BareMessage, BareTaken, BareContent}
use Rattle.trace_mean.specs.Trace as trace
use Rattle.trace_mean.specs.Trace.{Atom, taken_number, TraceNumber, Chained}
use Rattle.trace_mean.specs.Trace.{Operation, bind, check}
use Rattle.trace_mean.specs.Follow.{Trail, Followed, on, stopped_at, with_state, follows}
use Rattle.trace_mean.specs.Scope.{Named, Names, Worded, is_part, traced_number, traced_message, bounds, fill_numbers}
use Rattle.trace_mean.specs.Scope.{taken_name, fill_message, taken_names}
use Rattle.trace_mean.specs.Fuse.{TracedEvent, Tracing, notes_of, notes_in, core_of, chained_of, is_zero, form_at}
use Rattle.trace_mean.specs.Fuse.{queues_of, items_of, is_nought, is_alone, room_check, room_in, row_in, pushing}
use Rattle.trace_mean.specs.Fuse.{binding, sent_chain, sending, sending_message, sending_known, traced_send, stepping}
use Rattle.trace_mean.specs.Fuse.{trace_step, event_at}
use Rattle.trace_laws.specs.Fit.{FitStep}
use Rattle.trace_laws.specs.Members.{IsOf}
use Rattle.trace_laws.specs.Safe.{IsSafe, SafeTrace}
use Rattle.trace_laws.specs.Fit.{IsPushed, HasItems, how_many}
use Rattle.trace_laws.proofs.Goes.{Start, Goes, goes_more, safe_append, safe_stopped, checked_safe, quiet_safe}
use Rattle.trace_laws.proofs.Goes.{quiet_append, quiet_binds, quiet_notes}
use Rattle.trace_laws.proofs.Walks.{Walked, went, missed, decides_it, one_more}
use Rattle.trace_laws.proofs.Worth.{Apart, together, told_apart, Split, scope_of, named_at, split_at, worded_at}
use Rattle.trace_laws.proofs.Worth.{apart_of, together_is, Plain, apart_plain, known_apart, number_worth, message_worth}
use Rattle.trace_laws.proofs.Later.{Begins, begins_self, Later, later_self, later_on, more_numbers, more_messages}
use Rattle.trace_laws.proofs.Later.{more_rows, later_numbers, later_messages, later_rows, nth, stays, following}
use Rattle.trace_laws.proofs.Later.{checked}
use Rattle.trace_laws.proofs.Later.{with_numbers, binds_follow, bounds_worth, with_notes, note_values, notes_follow}
use Rattle.trace_laws.proofs.Later.{notes_count, core_worth}
use Rattle.trace_mean.specs.Worth.{Input, Kept, atom_at, core_at, state_of, number_of, message_of, header_at}
use Rattle.trace_mean.specs.Worth.{content_at}

-- an event with its message apart
abbrev pub Shown : Type 0
Shown = Event × Option Apart

abbrev pub chained_at : Input → Kept → Chained → Apart
chained_at i k c = record { known = true; headers = map (header_at i k) c.chain; following = core_at i k c.core }

abbrev pub shown_at : Input → Kept → TracedEvent → Shown
shown_at i k e = (event_at i k e, option_map (chained_at i k) e.message)

abbrev pub shown : Event → Shown
shown e = (e, option_map told_apart e.message)

abbrev pub sent_at : Input → Kept → Dir × TracedEvent → Dir × Shown
sent_at i k x = (x.0, shown_at i k x.1)

abbrev pub sent_shown : Dir × Event → Dir × Shown
sent_shown x = (x.0, shown x.1)

-- an event whose numbers and message are worth that of another is that one
pub message_kept : (kind : Kind) (ns : List ℕ) (m : Option Content) → (event_of kind ns m).message ≡ m
message_kept kind ns m = go (carries kind) where
  go : (c : Bool) → let e : Event = if c then record { kind = kind; peer = slice_index ns 0; a = 0; b = 0; message = m }
      else record {
        kind = kind;
        peer = 0;
        a = slice_index ns 0;
        b = slice_index ns 1;
        message = m;
      } in e.message ≡ m
  go true = refl
  go false = refl

pub whole_again : (m : Content) → together (told_apart m) ≡ m
whole_again m = ap (λ hs. record { headers = hs; body = m.body }) (append-nil m.headers)

same_message : (i : Input) (k : Kept) (c : Option Chained) (m : Option Content) → option_map (chained_at i k) c ≡
    option_map told_apart m →
    option_map (content_at i k) c ≡ m
same_message i k None None is = refl
same_message i k (Some c) (Some m) is =
    let one : chained_at i k c ≡ told_apart m = cc in ap Some (ap together one ∙ whole_again m)
same_message i k None (Some m) is = absurd (cc is)
same_message i k (Some c) None is = absurd (cc is)

pub shown_is : (i : Input) (k : Kept) (e : TracedEvent) (ns : List ℕ) (m : Option Content) →
    map (atom_at i k) e.numbers ≡ ns →
    option_map (chained_at i k) e.message ≡ option_map told_apart m → shown_at i k e ≡ shown (event_of e.kind ns m)
shown_is i k e ns m numbers is = λ t. (
  event_of e.kind (numbers t) (same_message i k e.message m is t),
  (is ∙ ap (option_map told_apart) (sym (message_kept e.kind ns m))) t,
)

-- bits of truth
truth : (b : Bool) → is_true (of_bool b) ≡ b
truth true = refl
truth false = refl

-- lists that begin with more
begins_front : {E : Type 0} (g : E → ℕ) (xs : List ℕ) (es fs : List E) (ys : List ℕ) →
    Begins (xs ++ map g (es ++ fs)) ys → Begins (xs ++ map g es) ys
begins_front g xs es fs ys b = record {
  more = map g fs ++ b.more;
  is = b.is ∙ ap (λ l. (xs ++ l) ++ b.more) (map-append g es fs) ∙
      ap (λ l. l ++ b.more) (sym (append_assoc xs (map g es) (map g fs)))
      ∙ append_assoc (xs ++ map g es) (map g fs) b.more;
}

begins_back : {E : Type 0} (g : E → ℕ) (xs : List ℕ) (es fs : List E) (ys : List ℕ) →
    Begins (xs ++ map g (es ++ fs)) ys → Begins
    ((xs ++ map g es) ++ map g fs) ys
begins_back g xs es fs ys b = record {
  more = b.more;
  is = b.is ∙ ap (λ l. (xs ++ l) ++ b.more) (map-append g es fs) ∙
      ap (λ l. l ++ b.more) (sym (append_assoc xs (map g es) (map g fs)));
}

long_append : {E : Type 0} (g : E → ℕ) (xs : List ℕ) (es : List E) (n : ℕ) → length xs ≡ n →
    length (xs ++ map g es) ≡ n + length es
long_append g xs es n long = length-append xs (map g es) ∙ (λ r. long r + length-map es g r)

-- the numbers of a row from one on
abbrev Reads : List ℕ → ℕ → List ℕ → Type 0
Reads ns j [] = Unit {0}
Reads ns j (v ∷ vs) = (slice_index ns j ≡ v) × Reads ns (suc j) vs

reads_from : (pre vs : List ℕ) (j : ℕ) → length pre ≡ j → Reads (pre ++ vs) j vs
reads_from pre [] j long = tt
reads_from pre (v ∷ vs) j long = (
  nth pre v 0 (pre ++ v ∷ vs) j long (record { more = vs; is = sym (append_assoc pre (v ∷ []) vs) }),
  subst (λ l. Reads l (suc j) vs) (append_assoc pre (v ∷ []) vs)
      (reads_from (pre ++ v ∷ []) vs (suc j) (length-append pre (v ∷ []) ∙ omega (arith, long))),
)

-- slots of a scope that a taken row fills
fill_worth : (i : Input) (u : Kept) (r : ℕ) (row : Row) → slice_index_or u.rows r None ≡ Some row →
    (slots : List ℕ) (j n : ℕ) (vs : List ℕ)
    (atoms : List Atom) (l : Scope) →
    map (atom_at i u) atoms ≡ l.numbers → length vs ≡ n → Reads row.numbers j vs →
    map (atom_at i u) (fill_numbers r j (take n slots) atoms) ≡ (with_slots slots vs l).numbers
fill_worth i u r row found [] j zero vs atoms l same long reads = same
fill_worth i u r row found [] j (suc n) vs atoms l same long reads = same
fill_worth i u r row found (k ∷ slots) j zero [] atoms l same long reads = same
fill_worth i u r row found (k ∷ slots) j zero (v ∷ vs) atoms l same long reads = absurd (omega (arith, long))
fill_worth i u r row found (k ∷ slots) j (suc n) [] atoms l same long reads = absurd (omega (arith, long))
fill_worth i u r row found (k ∷ slots) j (suc n) (v ∷ vs) atoms l same long reads =
    fill_worth i u r row found slots (suc j) n vs (slice_set atoms k (taken_number r j)) (with_slot k v l)
    (map-set (atom_at i u) atoms k (taken_number r j) ∙
    (λ t. slice_set (same t) k ((ap (number_in j) found ∙ reads.0) t)))
    (omega (arith, long)) reads.1

slots_leave : (slots values : List ℕ) (l : Scope) → (with_slots slots values l).messages ≡ l.messages
slots_leave [] values l = refl
slots_leave (k ∷ slots) [] l = refl
slots_leave (k ∷ slots) (v ∷ values) l = slots_leave slots values _

-- a row's message, apart
abbrev row_apart : Carried → Row → Apart
row_apart carried row = record { known = is_part carried; headers = []; following = message_in carried (Some row) }

abbrev fill_apart : Option (ℕ × Carried) → Row → List Apart → List Apart
fill_apart None row xs = xs
fill_apart (Some slot) row xs = slice_set xs slot.0 (row_apart slot.1 row)

plain_set : (xs : List Apart) (k : ℕ) (x : Apart) → Plain xs → (x.known ≡ true → x.following.headers ≡ []) →
    Plain (slice_set xs k x)
plain_set [] k x h one = tt
plain_set (y ∷ xs) zero x h one = (one, h.1)
plain_set (y ∷ xs) (suc k) x h one = (h.0, plain_set xs k x h.1 one)

row_plain : (carried : Carried) (row : Row) → BareRow carried (Some row) → (row_apart carried row).known ≡ true →
    (row_apart carried row).following.headers ≡ []
row_plain part row bare known = bare
row_plain (whole blank) row bare known = absurd (cc known)

fill_plain : (item : Option (ℕ × Carried)) (row : Row) (xs : List Apart) → Plain xs → BareTaken item (Some row) →
    Plain (fill_apart item row xs)
fill_plain None row xs h bare = h
fill_plain (Some slot) row xs h bare = plain_set xs slot.0 (row_apart slot.1 row) h (row_plain slot.1 row bare)

fill_together : (taken : TakenTree) (row : Row) (xs : List Apart) (l : Scope) → map together xs ≡ l.messages →
    map together (fill_apart taken.message row xs) ≡ (effect.with_taken taken row l).messages
fill_together taken row xs l same = go taken.message where
  base : Scope
  base = with_slots taken.numbers row.numbers l

  all : map together xs ≡ base.messages
  all = same ∙ sym (slots_leave taken.numbers row.numbers l)

  go : (item : Option (ℕ × Carried)) →
      let m : Scope = option_map_or (λ slot. effect.with_message slot.0 (message_in slot.1 (Some row)) base) item base
      in
      map together (fill_apart item row xs) ≡ m.messages
  go None = all
  go (Some slot) = map-set together xs slot.0 (row_apart slot.1 row) ∙
      ap (λ ms. slice_set ms slot.0 (message_in slot.1 (Some row))) all

fill_numbers_leave : (taken : TakenTree) (row : Row) (l : Scope) → (effect.with_taken taken row l).numbers ≡
    (with_slots taken.numbers row.numbers l).numbers
fill_numbers_leave taken row l = go taken.message where
  base : Scope
  base = with_slots taken.numbers row.numbers l

  go : (item : Option (ℕ × Carried)) →
      let m : Scope = option_map_or (λ slot. effect.with_message slot.0 (message_in slot.1 (Some row)) base) item base
      in
      m.numbers ≡ base.numbers
  go None = refl
  go (Some slot) = refl

fill_named : (i : Input) (u : Kept) (r : ℕ) (row : Row) → slice_index_or u.rows r None ≡ Some row →
    (item : Option (ℕ × Carried)) (ns : List Named)
    (xs : List Apart) →
    map (named_at i u) ns ≡ xs → map (named_at i u) (fill_message r item ns) ≡ fill_apart item row xs
fill_named i u r row found None ns xs same = same
fill_named i u r row found (Some slot) ns xs same =
    map-set (named_at i u) ns slot.0 (taken_name r slot.1)
    ∙ (λ t. slice_set (same t) slot.0
    (record { known = is_part slot.1; headers = []; following = message_in slot.1 (found t) }))

-- whether there is a front row
abbrev has_front : Option Row → Bool
has_front None = false
has_front (Some row) = true

front_there : (rows : List Row) → nat_lt 0 (length rows) ≡ has_front (slice_get rows 0)
front_there [] = refl
front_there (row ∷ rows) = lt-ltb 0 (suc (length rows)) (omega arith)

-- the check of room
nought : (e : ExpressionTree) (s : State) (l : Scope) → is_nought e ≡ true → val e s l ≡ 0
nought (tree.number n) s l is = eqb-true n 0 is
nought tree.me s l is = absurd (cc is)
nought tree.count s l is = absurd (cc is)
nought tree.ltime s l is = absurd (cc is)
nought (tree.local k) s l is = absurd (cc is)
nought (tree.element c e) s l is = absurd (cc is)
nought (tree.square c row column) s l is = absurd (cc is)
nought (tree.rows c e) s l is = absurd (cc is)
nought (tree.item c e row k) s l is = absurd (cc is)
nought (tree.size m) s l is = absurd (cc is)
nought (tree.binary operator a b) s l is = absurd (cc is)
nought (tree.apply function a) s l is = absurd (cc is)
nought (tree.pick c a b) s l is = absurd (cc is)

alone : (form : Option Form) (e : ExpressionTree) (s : State) (l : Scope) (n : ℕ) → is_alone form e ≡ true →
    (how_many form n ≡ 1) × (val e s l ≡ 0)
alone (Some (queue capacity items)) e s l n is = (refl, nought e s l is)
alone (Some (queues capacity items)) e s l n is = absurd (cc is)
alone (Some (tree.numbers shape initial)) e s l n is = absurd (cc is)
alone None e s l n is = absurd (cc is)

queues_worth : (i : Input) (k : Kept) (ss : List State) (form : Option Form) → number_of i k ss (queues_of form) ≡
    how_many form i.count
queues_worth i k ss (Some (queue capacity items)) = refl
queues_worth i k ss (Some (queues capacity items)) = refl
queues_worth i k ss (Some (tree.numbers shape initial)) = refl
queues_worth i k ss None = refl

module _ (i : Input) (f : Start) (base : List State) (layer : LayerTree) (p : ℕ) (inside : p < length base) where
  -- a trail stands after what was made in a visit, where a walk stands
  pub record Stands (y : Tracing) (t : Trail) (h : Here) : Type 0 where
    pub is_on : Goes f.stack i y.made.operations f.followed (on t)
    pub states : t.states ≡ slice_set base p h.state
    pub of : IsOf i h.state
    pub binds : length t.kept.numbers ≡ y.made.binds
    pub notes : length t.kept.messages ≡ y.made.notes
    pub takes : length t.kept.rows ≡ y.made.takes
    pub apart : List Apart
    pub apart_is : map together apart ≡ h.scope.messages
    pub plain : Plain apart
    pub scope : (u : Kept) → Later t.kept u →
        split_at i u y.names ≡ record { numbers = h.scope.numbers; messages = apart }
    pub sent : (u : Kept) → Later t.kept u → map (sent_at i u) y.sent ≡ map sent_shown h.sent

  -- a trail came there from another
  pub record Came (t : Trail) (y : Tracing) (h : Here) (n : ℕ) : Type 0 where
    pub trail : Trail
    pub stands : Stands y trail h
    pub later : Later t.kept trail.kept
    pub checks : trail.checks ≡ n
    pub outs : trail.outs ≡ t.outs

  abbrev pub Claim : Trail → Result Tracing NoShape → Walked → Type 0
  Claim t (Err reason) w = Unit {0}
  Claim t (Ok y) (missed n) = Goes f.stack i y.made.operations f.followed (stopped_at n)
  Claim t (Ok y) (went n h) = Came t y h n

  abbrev pub StepClaim : Trail → Result Tracing NoShape → Bool → Option Here → Type 0
  StepClaim t (Err reason) k w = Unit {0}
  StepClaim t (Ok y) k None = Goes f.stack i y.made.operations f.followed (stopped_at t.checks)
  StepClaim t (Ok y) k (Some h) = Came t y h (one_more k t.checks)

  module _ (y : Tracing) (t : Trail) (h : Here) (st : Stands y t h) where
    abbrev pub split : Split
    split = record { numbers = h.scope.numbers; messages = st.apart }

    state_here : state_of t.states p ≡ h.state
    state_here = ap (λ ss. state_of ss p) st.states ∙ get_or-set_same base p h.state no_state inside

    of_here : IsOf i (state_of t.states p)
    of_here = subst (IsOf i) (sym state_here) st.of

    scope_here : scope_of split ≡ h.scope
    scope_here = ap (λ ms. record { numbers = h.scope.numbers; messages = ms }) st.apart_is

    pub number_here : (u : Kept) → Later t.kept u → (e : ExpressionTree) →
        number_of i u t.states (traced_number p y.names e) ≡ val e h.state h.scope
    number_here u later e =
        number_worth i u t.states p y.names of_here e
        ∙ (λ r. val e (state_here r) ((ap scope_of (st.scope u later) ∙ scope_here) r))

    pub message_here : (u : Kept) → Later t.kept u → (m : MessageTree) →
        worded_at i u t.states (traced_message p y.names m) ≡ apart_of m h.state split
    message_here u later m = message_worth i u t.states p y.names of_here m ∙
        (λ r. apart_of m (state_here r) (st.scope u later r))

    pub whole_here : (m : MessageTree) → together (apart_of m h.state split) ≡ mval m h.state h.scope
    whole_here m = together_is m h.state split ∙ ap (mval m h.state) scope_here

    -- more operations
    pub goes_after : (os : List Operation) (g : Followed) → Goes f.stack i os (on t) g →
        Goes f.stack i (y.made.operations ++ os) f.followed g
    goes_after os g h = goes_more f.stack i y.made.operations os f.followed (on t) g st.is_on h

    -- the state is another
    pub write_here : (s s' : State) → s ≡ s' → slice_set t.states p s ≡ slice_set base p s'
    write_here s s' same = (λ r. slice_set (st.states r) p (same r)) ∙ set-set base p h.state s'

    map_here : (u : Kept) → Later t.kept u → (es : List ExpressionTree) →
        map (number_of i u t.states) (map (traced_number p y.names) es) ≡ map (λ e. val e h.state h.scope) es
    map_here u later [] = refl
    map_here u later (e ∷ es) = λ r. number_here u later e r ∷ map_here u later es r

    -- where operations that send nothing lead
    record Moves (os : List Operation) (b n k : ℕ) (names : Names) (t' : Trail) (h' : Here) : Type 0 where
      goes : Goes f.stack i os (on t) (on t')
      later : Later t.kept t'.kept
      states : t'.states ≡ slice_set base p h'.state
      of : IsOf i h'.state
      binds : length t'.kept.numbers ≡ length t.kept.numbers + b
      notes : length t'.kept.messages ≡ length t.kept.messages + n
      takes : length t'.kept.rows ≡ length t.kept.rows + k
      apart : List Apart
      apart_is : map together apart ≡ h'.scope.messages
      plain : Plain apart
      scope : (u : Kept) → Later t'.kept u →
          split_at i u names ≡ record { numbers = h'.scope.numbers; messages = apart }
      sent : h'.sent ≡ h.sent
      outs : t'.outs ≡ t.outs

    came : (os : List Operation) (b n k : ℕ) (names : Names) (t' : Trail) (h' : Here) → Moves os b n k names t' h' →
        (c : ℕ) → t'.checks ≡ c →
        Came t (stepping y os b n k names) h' c
    came os b n k names t' h' m c checks = record {
      trail = t';
      later = m.later;
      checks = checks;
      outs = m.outs;
      stands = record {
        is_on = goes_after os (on t') m.goes;
        states = m.states;
        of = m.of;
        binds = m.binds ∙ ap (λ x. x + b) st.binds;
        notes = m.notes ∙ ap (λ x. x + n) st.notes;
        takes = m.takes ∙ ap (λ x. x + k) st.takes;
        apart = m.apart;
        apart_is = m.apart_is;
        plain = m.plain;
        scope = m.scope;
        sent = λ u later. st.sent u (later_on t.kept t'.kept u m.later later) ∙ ap (map sent_shown) (sym m.sent);
      };
    }

    same_length : {A : Type 0} (xs : List A) → length xs ≡ length xs + 0
    same_length xs = omega arith

    -- a check
    check_came : (e : TraceNumber) (b : Bool) → is_true (number_of i t.kept t.states e) ≡ b →
        StepClaim t (Ok (stepping y (check e ∷ []) 0 0 0 y.names)) true (if b then Some h else None)
    check_came e true is = came (check e ∷ []) 0 0 0 y.names (record t { checks = t.checks + 1 }) h (record {
      goes = record { leads = checked i e [] t true is; safe = (tt, tt) };
      later = later_self t.kept;
      states = st.states;
      of = st.of;
      binds = same_length t.kept.numbers;
      notes = same_length t.kept.messages;
      takes = same_length t.kept.rows;
      apart = st.apart;
      apart_is = st.apart_is;
      plain = st.plain;
      scope = st.scope;
      sent = refl;
      outs = refl;
    }) (t.checks + 1) refl
    check_came e false is =
        goes_after (check e ∷ []) (stopped_at t.checks) (record { leads = checked i e [] t false is; safe = (tt, tt) })

    true_came : (e : ExpressionTree) →
        StepClaim t (Ok (stepping y (check (traced_number p y.names e) ∷ []) 0 0 0 y.names)) true
        (if is_true (val e h.state h.scope) then Some h else None)
    true_came e = check_came (traced_number p y.names e) (is_true (val e h.state h.scope))
        (ap is_true (number_here t.kept (later_self t.kept) e))

    zero_came : (e : ExpressionTree) →
        StepClaim t (Ok (stepping y (check (is_zero (traced_number p y.names e)) ∷ []) 0 0 0 y.names)) true
        (if is_true (val e h.state h.scope) then None else Some h)
    zero_came e = go (val e h.state h.scope == 0)
        (check_came (is_zero (traced_number p y.names e)) (val e h.state h.scope == 0)
        (truth (number_of i t.kept t.states (traced_number p y.names e) == 0) ∙
        ap (λ n. n == 0) (number_here t.kept (later_self t.kept) e))) where
          go : (b : Bool) → StepClaim t
              (Ok (stepping y (check (is_zero (traced_number p y.names e)) ∷ []) 0 0 0 y.names)) true
              (if b then Some h else None) →
              StepClaim t (Ok (stepping y (check (is_zero (traced_number p y.names e)) ∷ []) 0 0 0 y.names)) true
              (if not b then None else Some h)
          go true claim = claim
          go false claim = claim

    -- a bound number gets a name
    slot_came : (k : ℕ) (e : ExpressionTree) →
        StepClaim t (trace_step layer p (set_slot k e) y) false (walk_step p (set_slot k e) h)
    slot_came k e = came (bind (traced_number p y.names e) ∷ []) 1 0 0 names (with_numbers t (v ∷ []))
        (record h { scope = with_slot k v h.scope }) (record {
          goes = record { leads = ap (λ n. on (with_numbers t (n ∷ []))) worth; safe = (tt, tt) };
          later = later_numbers t.kept (v ∷ []);
          states = st.states;
          of = st.of;
          binds = length-append t.kept.numbers (v ∷ []);
          notes = same_length t.kept.messages;
          takes = same_length t.kept.rows;
          apart = st.apart;
          apart_is = st.apart_is;
          plain = st.plain;
          scope = λ u later. λ r. record {
            numbers = (map-set (atom_at i u) y.names.numbers k (trace.bound y.made.binds)
                ∙ (λ q. slice_set ((ap (λ x. x.numbers) (st.scope u (earlier u later))) q) k
                (nth t.kept.numbers v 0 u.numbers y.made.binds st.binds later.numbers q))) r;
            messages = (ap (λ x. x.messages) (st.scope u (earlier u later))) r;
          };
          sent = refl;
          outs = refl;
        }) t.checks refl where
          v : ℕ
          v = val e h.state h.scope

          names : Names
          names = record y.names { numbers = slice_set y.names.numbers k (trace.bound y.made.binds) }

          worth : number_of i t.kept t.states (traced_number p y.names e) ≡ v
          worth = number_here t.kept (later_self t.kept) e

          earlier : (u : Kept) → Later (more_numbers t.kept (v ∷ [])) u → Later t.kept u
          earlier u later = later_on t.kept (more_numbers t.kept (v ∷ [])) u (later_numbers t.kept (v ∷ [])) later

    -- a number is written
    write_came : (o : Operation) (s s' : State) → Goes f.stack i (o ∷ []) (on t) (on (with_state t p s)) → s ≡ s' →
        IsOf i s' →
        Came t (stepping y (o ∷ []) 0 0 0 y.names) (record h { state = s' }) t.checks
    write_came o s s' goes same of = came (o ∷ []) 0 0 0 y.names (with_state t p s) (record h { state = s' }) (record {
      goes = goes;
      later = later_self t.kept;
      states = write_here s s' same;
      of = of;
      binds = same_length t.kept.numbers;
      notes = same_length t.kept.messages;
      takes = same_length t.kept.rows;
      apart = st.apart;
      apart_is = st.apart_is;
      plain = st.plain;
      scope = st.scope;
      sent = refl;
      outs = refl;
    }) t.checks refl

    number_came : (c : ℕ) (e x : ExpressionTree) →
        StepClaim t (trace_step layer p (set_number c e x) y) false (walk_step p (set_number c e x) h)
    number_came c e x = write_came (trace.set p c (traced_number p y.names e) (traced_number p y.names x)) _
        (with_number h.state c (val e h.state h.scope) (val x h.state h.scope))
        (record { leads = refl; safe = (tt, tt) })
        (λ r. with_number (state_here r) c (number_here t.kept (later_self t.kept) e r)
        (number_here t.kept (later_self t.kept) x r))
        (record { me = st.of.me; count = st.of.count; ltime = st.of.ltime })

    square_came : (c : ℕ) (row column x : ExpressionTree) →
        StepClaim t (trace_step layer p (set_square c row column x) y) false (walk_step p (set_square c row column x) h)
    square_came c row column x =
        write_came (trace.set_square p c (traced_number p y.names row) (traced_number p y.names column)
        (traced_number p y.names x)) _
        (with_number h.state c (flat_index h.state.count (val row h.state h.scope) (val column h.state h.scope))
        (val x h.state h.scope))
        (record { leads = refl; safe = (tt, tt) })
        (λ r. with_number (state_here r) c
        (flat_index (sym st.of.count r) (number_here t.kept (later_self t.kept) row r)
        (number_here t.kept (later_self t.kept) column r))
        (number_here t.kept (later_self t.kept) x r))
        (record { me = st.of.me; count = st.of.count; ltime = st.of.ltime })

    -- a row is pushed
    abbrev t1 : Trail
    t1 = record t { checks = t.checks + 1 }

    below_worth : (c : ℕ) (e : ExpressionTree) (capacity : ℕ) →
        is_true (number_of i t.kept t.states
        (trace.binary Less (trace.rows p c (traced_number p y.names e)) (trace.atom (trace.number capacity)))) ≡
        nat_lt (length (rows_at h.state c (val e h.state h.scope))) capacity
    below_worth c e capacity = truth _
        ∙ (λ r. nat_lt (length (rows_at (state_here r) c (number_here t.kept (later_self t.kept) e r))) capacity)

    room_worth : (c : ℕ) (e : ExpressionTree) (capacity : ℕ) → length (queues_in (cell_at h.state c)) ≡
        how_many (form_at layer c) h.state.count →
        is_true (number_of i t.kept t.states (room_in layer p y.names c e capacity)) ≡
        has_room h.state c (val e h.state h.scope) capacity
    room_worth c e capacity fit = go (is_alone (form_at layer c) e) refl where
      below : TraceNumber
      below = trace.binary Less (trace.rows p c (traced_number p y.names e)) (trace.atom (trace.number capacity))

      go : (b : Bool) → is_alone (form_at layer c) e ≡ b →
          is_true (number_of i t.kept t.states
          (room_check b (traced_number p y.names e) (queues_of (form_at layer c)) below)) ≡
          has_room h.state c (val e h.state h.scope) capacity
      go true is =
          let a = alone (form_at layer c) e h.state h.scope h.state.count is in
          below_worth c e capacity
          ∙ (λ r. nat_lt (sym a.1 r) (sym (fit ∙ a.0) r) && nat_lt (length (rows_at h.state c (val e h.state h.scope)))
          capacity)
      go false is = truth _ ∙ (λ r.
          (truth (nat_lt (number_of i t.kept t.states (traced_number p y.names e))
          (number_of i t.kept t.states (queues_of (form_at layer c))))
          ∙ (λ q. nat_lt (number_here t.kept (later_self t.kept) e q) ((queues_worth i t.kept t.states (form_at layer c)
          ∙ ap (how_many (form_at layer c)) (sym st.of.count) ∙ sym fit) q))) r
          && below_worth c e capacity r)

    -- what a push stores
    row_came : (u : Kept) → Later t.kept u → (c : ℕ) (e : ExpressionTree) (row : RowTree) (m : Option Chained) →
        option_map (content_at i u) m ≡ option_map (λ x. mval x h.state h.scope) row.message →
        with_row (state_of t.states p) c (number_of i u t.states (traced_number p y.names e))
        (record {
          numbers = map (number_of i u t.states) (map (traced_number p y.names) row.numbers);
          message =
              option_map (content_at i u) m;
        }) ≡
        with_row h.state c (val e h.state h.scope) (row_of row h.state h.scope)
    row_came u later c e row m same = λ r. with_row (state_here r) c (number_here u later e r)
        (record { numbers = map_here u later row.numbers r; message = same r })

    -- the message of a push or an emission, noted
    core_here : (u : Kept) (m : MessageTree) → Later t.kept u →
        Begins (t.kept.messages ++
        note_values (traced_message p y.names m).message (apart_of m h.state split).following)
        u.messages →
        core_at i u (core_of y.made.notes (traced_message p y.names m).message) ≡ (apart_of m h.state split).following
    core_here u m later b = core_worth i u t.states (traced_message p y.names m).message
        (apart_of m h.state split).following t.kept.messages
        y.made.notes st.notes b (ap (λ a. a.following) (message_here u later m))

    noted_here : (m : MessageTree) (t2 : Trail) → t2.states ≡ t.states → Later t.kept t2.kept →
        follows i (notes_of (traced_message p y.names m).message) (on t2) ≡
        on (with_notes t2 (note_values (traced_message p y.names m).message (apart_of m h.state split).following))
    noted_here m t2 same later = notes_follow i (traced_message p y.names m).message t2
        (apart_of m h.state split).following
        (ap (λ ss. message_of i t2.kept ss (traced_message p y.names m).message) same ∙
        ap (λ a. a.following) (message_here t2.kept later m))

    content_here : (u : Kept) (m : MessageTree) → Later t.kept u →
        Begins (t.kept.messages ++
        note_values (traced_message p y.names m).message (apart_of m h.state split).following)
        u.messages →
        content_at i u (chained_of y.made.notes (traced_message p y.names m)) ≡ mval m h.state h.scope
    content_here u m later b = (λ r. together (record {
      known = true;
      headers = ap (λ a. a.headers) (message_here u later m) r;
      following = core_here u m later b r;
    })) ∙ whole_here m

    pushed_came : (c : ℕ) (e : ExpressionTree) (row : RowTree) (ms : List Content) (n : ℕ) (os : List Operation)
        (m : Option Chained) →
        let u = more_messages t.kept ms in
        length (t.kept.messages ++ ms) ≡ length t.kept.messages + n →
        option_map (content_at i u) m ≡ option_map (λ x. mval x h.state h.scope) row.message →
        Goes f.stack i os (on t) (on (with_state (record t1 { kept = u }) p
        (with_row (state_of t.states p) c (number_of i u t.states (traced_number p y.names e))
        (record {
          numbers = map (number_of i u t.states) (map (traced_number p y.names) row.numbers);
          message =
              option_map (content_at i u) m;
        })))) →
        Came t (stepping y os 0 n 0 y.names)
        (record h { state = with_row h.state c (val e h.state h.scope) (row_of row h.state h.scope) })
        (t.checks + 1)
    pushed_came c e row ms n os m long same goes =
        let u = more_messages t.kept ms in
        let later = later_messages t.kept ms in
        came os 0 n 0 y.names _
        (record h { state = with_row h.state c (val e h.state h.scope) (row_of row h.state h.scope) }) (record {
          goes = goes;
          later = later;
          states = write_here _ (with_row h.state c (val e h.state h.scope) (row_of row h.state h.scope))
              (row_came u later c e row m same);
          of = record { me = st.of.me; count = st.of.count; ltime = st.of.ltime };
          binds = same_length t.kept.numbers;
          notes = long;
          takes = same_length t.kept.rows;
          apart = st.apart;
          apart_is = st.apart_is;
          plain = st.plain;
          scope = λ w further. st.scope w (later_on t.kept u w later further);
          sent = refl;
          outs = refl;
        }) (t.checks + 1) refl

    -- a check that is 0, and what follows it
    missing : (e : TraceNumber) (os : List Operation) → is_true (number_of i t.kept t.states e) ≡ false →
        Goes f.stack i (check e ∷ os) (on t)
        (stopped_at t.checks)
    missing e os is = record {
      leads = checked i e os t false is ∙ stays i os t.checks;
      safe = checked_safe f.stack i e os t false is (safe_stopped f.stack i os t.checks);
    }

    -- a push is safe where its check isn't 0
    push_safe : (c : ℕ) (e : ExpressionTree) (capacity : ℕ) (row : RowTree) (ms : List Content) (m : Option Chained) →
        let u = more_messages t.kept ms in
        IsPushed f.stack p c capacity (row_of row h.state h.scope) →
        has_room h.state c (val e h.state h.scope) capacity ≡ true →
        option_map (content_at i u) m ≡ option_map (λ x. mval x h.state h.scope) row.message →
        IsSafe f.stack i (trace.push p c (traced_number p y.names e) (map (traced_number p y.names) row.numbers) m)
        (record t1 { kept = u })
    push_safe c e capacity row ms m pushed room same =
        let u = more_messages t.kept ms in
        let later = later_messages t.kept ms in
        record {
          capacity = capacity;
          pushed = subst (IsPushed f.stack p c capacity)
              (λ r. record { numbers = sym (map_here u later row.numbers) r; message = sym same r }) pushed;
          room = (λ r. has_room (state_here r) c (number_here u later e r) capacity) ∙ room;
        }

    put_came : (c : ℕ) (e : ExpressionTree) (capacity : ℕ) (row : RowTree) →
        FitStep f.stack p layer (put c e capacity row) h →
        StepClaim t (trace_step layer p (put c e capacity row) y) true (walk_step p (put c e capacity row) h)
    put_came c e capacity row fit = go (has_room h.state c (val e h.state h.scope) capacity) refl
        (room_worth c e capacity fit.1) where
          room : TraceNumber
          room = room_in layer p y.names c e capacity

          stored : (b : Bool) → has_room h.state c (val e h.state h.scope) capacity ≡ b →
              is_true (number_of i t.kept t.states room) ≡ b →
              (m : Option MessageTree) →
              IsPushed f.stack p c capacity (row_of (record row { message = m }) h.state h.scope) →
              let w : Option Worded = option_map (traced_message p y.names) m in
              let r : RowTree = record row { message = m } in
              StepClaim t (Ok (stepping y (check room ∷ pushing p y.names c e row.numbers y.made.notes w)
              0 (option_map_or (λ x. notes_in x.message) w 0) 0 y.names)) true
              (if b then Some (record h
              { state = with_row h.state c (val e h.state h.scope) (row_of r h.state h.scope) })
              else None)
          stored true has is None pushed = pushed_came c e (record row { message = None }) [] 0
              (check room ∷ pushing p y.names c e row.numbers y.made.notes None) None
              (length-append t.kept.messages []) refl
              (record {
                leads = checked i room (pushing p y.names c e row.numbers y.made.notes None) t true is
                    ∙ ap (λ ms. on (with_state (record t1 { kept = record t.kept { messages = ms } }) p
                    (with_row (state_of t.states p) c
                    (number_of i (record t.kept { messages = ms }) t.states (traced_number p y.names e))
                    (record {
                      numbers = map (number_of i (record t.kept { messages = ms }) t.states)
                          (map (traced_number p y.names) row.numbers);
                      message = None;
                    }))))
                    (sym (append-nil t.kept.messages));
                safe = checked_safe f.stack i room (pushing p y.names c e row.numbers y.made.notes None) t true is (
                  subst (λ ms. IsSafe f.stack i
                      (trace.push p c (traced_number p y.names e) (map (traced_number p y.names) row.numbers) None)
                      (record t1 { kept = record t.kept { messages = ms } })) (append-nil t.kept.messages)
                      (push_safe c e capacity (record row { message = None }) [] None pushed has refl),
                  tt,
                );
              })
          stored true has is (Some m) pushed =
              let x = traced_message p y.names m in
              let ms : List Content = note_values x.message (apart_of m h.state split).following in
              pushed_came c e (record row { message = Some m }) ms (notes_in x.message)
              (check room ∷ pushing p y.names c e row.numbers y.made.notes (Some x)) (Some (chained_of y.made.notes x))
              (notes_count x.message (apart_of m h.state split).following t.kept.messages (length t.kept.messages) refl)
              (ap Some (content_here (more_messages t.kept ms) m (later_messages t.kept ms)
              (begins_self (t.kept.messages ++ ms))))
              (record {
                leads = checked i room (pushing p y.names c e row.numbers y.made.notes (Some x)) t true is
                    ∙ following i (notes_of x.message)
                    (trace.push p c (traced_number p y.names e) (map (traced_number p y.names) row.numbers)
                    (Some (chained_of y.made.notes x)) ∷ [])
                    (on t1) (on (with_notes t1 ms)) (noted_here m t1 refl (later_self t.kept));
                safe = checked_safe f.stack i room (pushing p y.names c e row.numbers y.made.notes (Some x)) t true is
                    (safe_append f.stack i (notes_of x.message)
                    (trace.push p c (traced_number p y.names e) (map (traced_number p y.names) row.numbers)
                    (Some (chained_of y.made.notes x)) ∷ [])
                    (on t1) (quiet_safe f.stack i (notes_of x.message) (on t1) (quiet_notes x.message))
                    (subst (SafeTrace f.stack i
                    (trace.push p c (traced_number p y.names e) (map (traced_number p y.names) row.numbers)
                    (Some (chained_of y.made.notes x)) ∷ []))
                    (sym (noted_here m t1 refl (later_self t.kept))) (
                      push_safe c e capacity (record row { message = Some m }) ms (Some (chained_of y.made.notes x))
                          pushed
                          has
                          (ap Some (content_here (more_messages t.kept ms) m (later_messages t.kept ms)
                          (begins_self (t.kept.messages ++ ms)))),
                      tt,
                    )));
              })
          stored false has is m pushed =
              goes_after (check room ∷
              pushing p y.names c e row.numbers y.made.notes (option_map (traced_message p y.names) m))
              (stopped_at t.checks)
              (missing room (pushing p y.names c e row.numbers y.made.notes (option_map (traced_message p y.names) m))
              is)

          go : (b : Bool) → has_room h.state c (val e h.state h.scope) capacity ≡ b →
              is_true (number_of i t.kept t.states room) ≡ b →
              StepClaim t (trace_step layer p (put c e capacity row) y) true
              (if b then Some (record h
              { state = with_row h.state c (val e h.state h.scope) (row_of row h.state h.scope) })
              else None)
          go b has is = stored b has is row.message fit.0

    -- a row is taken
    get_came : (c : ℕ) (e : ExpressionTree) (taken : TakenTree) → FitStep f.stack p layer (get c e taken) h →
        StepClaim t (trace_step layer p (get c e taken) y) true (walk_step p (get c e taken) h)
    get_came c e taken fit = go (row_at h.state c (val e h.state h.scope) 0) refl fit where
      check_row : TraceNumber
      check_row = row_in (trace.rows p c (traced_number p y.names e))

      os : List Operation
      os = trace.take p c (traced_number p y.names e) ∷ []

      worth : number_of i t.kept t.states (traced_number p y.names e) ≡ val e h.state h.scope
      worth = number_here t.kept (later_self t.kept) e

      is_there : (row : Option Row) → row_at h.state c (val e h.state h.scope) 0 ≡ row →
          is_true (number_of i t.kept t.states check_row) ≡ has_front row
      is_there row is = truth _ ∙ (λ r. nat_lt 0 (length (rows_at (state_here r) c (worth r)))) ∙
          front_there (rows_at h.state c (val e h.state h.scope))
          ∙ ap has_front is

      go : (row : Option Row) → row_at h.state c (val e h.state h.scope) 0 ≡ row → BareTaken taken.message row ×
          HasItems (items_of (form_at layer c)) row →
          StepClaim t (trace_step layer p (get c e taken) y) true (took c (val e h.state h.scope) taken h row)
      go None is fit = goes_after (check check_row ∷ os) (stopped_at t.checks)
          (missing check_row os (is_there None is))
      go (Some row) is fit =
          came (check check_row ∷ os) 0 0 1 (taken_names y.made.takes (items_of (form_at layer c)) taken y.names)
          (with_state (record t1 { kept = more_rows t.kept (Some row ∷ []) }) p s)
          (record h {
            state = without_front h.state c (val e h.state h.scope);
            scope =
                effect.with_taken taken row h.scope;
          }) (record {
            goes = record {
              leads = checked i check_row os t true (is_there (Some row) is)
                  ∙ ap (λ x. on (with_state (record t1 { kept = more_rows t.kept (x ∷ []) }) p s))
                  ((λ r. row_at (state_here r) c (worth r) 0) ∙ is);
              safe = checked_safe f.stack i check_row os t true (is_there (Some row) is)
                  (ap is_some ((λ r. row_at (state_here r) c (worth r) 0) ∙ is), tt);
            };
            later = later_rows t.kept (Some row ∷ []);
            states = write_here s (without_front h.state c (val e h.state h.scope))
                (λ r. without_front (state_here r) c (worth r));
            of = record { me = st.of.me; count = st.of.count; ltime = st.of.ltime };
            binds = same_length t.kept.numbers;
            notes = same_length t.kept.messages;
            takes = length-append t.kept.rows (Some row ∷ []);
            apart = fill_apart taken.message row st.apart;
            apart_is = fill_together taken row st.apart h.scope st.apart_is;
            plain = fill_plain taken.message row st.apart st.plain fit.0;
            scope = λ u later. λ r. record { numbers = numbers_are u later r; messages = messages_are u later r };
            sent = refl;
            outs = refl;
          }) (t.checks + 1) refl where
            s : State
            s = without_front (state_of t.states p) c (number_of i t.kept t.states (traced_number p y.names e))

            now : Kept
            now = more_rows t.kept (Some row ∷ [])

            earlier : (u : Kept) → Later now u → Later t.kept u
            earlier u later = later_on t.kept now u (later_rows t.kept (Some row ∷ [])) later

            found : (u : Kept) → Later now u → slice_index_or u.rows y.made.takes None ≡ Some row
            found u later = nth t.kept.rows (Some row) None u.rows y.made.takes st.takes later.rows

            numbers_are : (u : Kept) → Later now u →
                map (atom_at i u) (fill_numbers y.made.takes 0 (take (items_of (form_at layer c)) taken.numbers)
                y.names.numbers) ≡
                (effect.with_taken taken row h.scope).numbers
            numbers_are u later =
                fill_worth i u y.made.takes row (found u later) taken.numbers 0 (items_of (form_at layer c)) row.numbers
                y.names.numbers h.scope
                (ap (λ x. x.numbers) (st.scope u (earlier u later))) fit.1 (reads_from [] row.numbers 0 refl)
                ∙ sym (fill_numbers_leave taken row h.scope)

            messages_are : (u : Kept) → Later now u →
                map (named_at i u) (fill_message y.made.takes taken.message y.names.messages) ≡
                fill_apart taken.message row st.apart
            messages_are u later = fill_named i u y.made.takes row (found u later) taken.message y.names.messages
                st.apart
                (ap (λ x. x.messages) (st.scope u (earlier u later)))

    -- an event is sent
    sent_came : (e : EmissionTree) (os : List Operation) (b n : ℕ) (message : Option Chained) (t' : Trail)
        (m : Option Content) →
        Goes f.stack i os (on t) (on t') → Later t.kept t'.kept → t'.states ≡ t.states → t'.checks ≡ t.checks →
        t'.outs ≡ t.outs →
        length t'.kept.numbers ≡ length t.kept.numbers + b → length t'.kept.messages ≡ length t.kept.messages + n →
        t'.kept.rows ≡ t.kept.rows →
        ((u : Kept) → Later t'.kept u → map (atom_at i u) (bounds y.made.binds e.numbers) ≡
        map (λ x. val x h.state h.scope) e.numbers) →
        ((u : Kept) → Later t'.kept u → option_map (chained_at i u) message ≡ option_map told_apart m) →
        Came t (sending y e os b n message)
        (record h {
          sent = h.sent ++ (e.direction, event_of e.kind (map (λ x. val x h.state h.scope) e.numbers) m) ∷
              [];
        }) t.checks
    sent_came e os b n message t' m goes later states checks outs long_numbers long_messages rows numbers same =
        record {
          trail = t';
          later = later;
          checks = checks;
          outs = outs;
          stands = record {
            is_on = goes_after os (on t') goes;
            states = states ∙ st.states;
            of = st.of;
            binds = long_numbers ∙ ap (λ x. x + b) st.binds;
            notes = long_messages ∙ ap (λ x. x + n) st.notes;
            takes = ap length rows ∙ st.takes ∙ omega arith;
            apart = st.apart;
            apart_is = st.apart_is;
            plain = st.plain;
            scope = λ u further. st.scope u (later_on t.kept t'.kept u later further);
            sent = λ u further.
                map-append (sent_at i u) y.sent _
                ∙ (λ r. st.sent u (later_on t.kept t'.kept u later further) r
                ++ (
                  e.direction,
                  shown_is i u (record { kind = e.kind; numbers = bounds y.made.binds e.numbers; message = message })
                      (map (λ x. val x h.state h.scope) e.numbers) m (numbers u further) (same u further) r,
                ) ∷ [])
                ∙ sym (map-append sent_shown h.sent _);
          };
        }

    send_came : (e : EmissionTree) → FitStep f.stack p layer (send e) h →
        StepClaim t (trace_step layer p (send e) y) false (walk_step p (send e) h)
    send_came e fit = go e.content fit where
      worth : ExpressionTree → ℕ
      worth x = val x h.state h.scope

      content_of : ContentTree → Content
      content_of c = sent_as e.direction (header_of p c h.state h.scope) (mval c.message h.state h.scope)

      with_one : (c : ContentTree) → BareMessage c.message h.state h.scope →
          (traced_message p y.names c.message).known ≡ true →
          Came t (sending_message p y e c (traced_message p y.names c.message))
          (record h {
            sent = h.sent ++ (e.direction, event_of e.kind (map worth e.numbers) (Some (content_of c))) ∷
                [];
          }) t.checks
      with_one c bare known = sent_came e _ (length (e.numbers ++ c.fields)) (notes_in x.message) _ t'
          (Some (content_of c))
          (record {
            leads = following i (binding p y.names (e.numbers ++ c.fields)) (notes_of x.message) (on t) (on t2)
                (binds_follow i (traced_number p y.names) worth (e.numbers ++ c.fields) t
                (λ u later x. number_here u later x))
                ∙ noted_here c.message t2 refl first;
            safe = quiet_safe f.stack i (binding p y.names (e.numbers ++ c.fields) ++ notes_of x.message) (on t)
                (quiet_append (binding p y.names (e.numbers ++ c.fields)) (notes_of x.message)
                (quiet_binds (traced_number p y.names) (e.numbers ++ c.fields)) (quiet_notes x.message));
          })
          reached refl refl refl
          (long_append worth t.kept.numbers (e.numbers ++ c.fields) (length t.kept.numbers) refl)
          (notes_count x.message a.following t.kept.messages (length t.kept.messages) refl)
          refl
          (λ u later. bounds_worth i u worth e.numbers t.kept.numbers y.made.binds st.binds
          (begins_front worth t.kept.numbers e.numbers c.fields u.numbers later.numbers))
          (λ u later. ap Some (fronted u later e.direction)) where
            x : Worded
            x = traced_message p y.names c.message

            a : Apart
            a = apart_of c.message h.state split

            t2 : Trail
            t2 = with_numbers t (map worth (e.numbers ++ c.fields))

            t' : Trail
            t' = with_notes t2 (note_values x.message a.following)

            first : Later t.kept t2.kept
            first = later_numbers t.kept (map worth (e.numbers ++ c.fields))

            reached : Later t.kept t'.kept
            reached = later_on t.kept t2.kept t'.kept first (later_messages t2.kept (note_values x.message a.following))

            none_after : a.following.headers ≡ []
            none_after = apart_plain c.message h.state split st.plain
                (subst (BareMessage c.message h.state) (sym scope_here) bare)
                (ap (λ z. z.known) (sym (message_here t.kept (later_self t.kept) c.message)) ∙ known)

            told : (u : Kept) → Later t'.kept u →
                ◌≡◌ {A = Apart} (record {
                  known = true;
                  headers = map (header_at i u) x.chain;
                  following =
                      core_at i u (core_of y.made.notes x.message);
                })
                (told_apart (mval c.message h.state h.scope))
            told u later =
                let further = later_on t.kept t'.kept u reached later in
                (λ r. record {
                  known = true;
                  headers = ap (λ z. z.headers) (message_here u further c.message) r;
                  following = core_here u c.message further later.messages r;
                }) ∙ known_apart a.headers a.following none_after ∙ ap told_apart (whole_here c.message)

            fields : (u : Kept) → Later t'.kept u →
                map (atom_at i u) (bounds (y.made.binds + length e.numbers) c.fields) ≡ map worth c.fields
            fields u later = bounds_worth i u worth c.fields (t.kept.numbers ++ map worth e.numbers)
                (y.made.binds + length e.numbers)
                (long_append worth t.kept.numbers e.numbers y.made.binds st.binds)
                (begins_back worth t.kept.numbers e.numbers c.fields u.numbers later.numbers)

            fronted : (u : Kept) → Later t'.kept u → (dir : Dir) →
                chained_at i u (record {
                  chain = sent_chain p dir c.tag (bounds (y.made.binds + length e.numbers) c.fields) x.chain;
                  core = core_of y.made.notes x.message;
                }) ≡ told_apart (sent_as dir (header_of p c h.state h.scope) (mval c.message h.state h.scope))
            fronted u later Up = told u later
            fronted u later Down = λ r. record {
              known = true;
              headers = record { layer = p; tag = c.tag; fields = fields u later r } ∷ (told u later r).headers;
              following = (told u later r).following;
            }

      look : (c : ContentTree) → BareMessage c.message h.state h.scope → (b : Bool) →
          (traced_message p y.names c.message).known ≡ b →
          StepClaim t (sending_known b p y e c (traced_message p y.names c.message)) false
          (Some (record h {
            sent = h.sent ++ (e.direction, event_of e.kind (map worth e.numbers) (Some (content_of c)))
                ∷ [];
          }))
      look c bare true known = with_one c bare known
      look c bare false known = tt

      go : (content : Option ContentTree) → BareContent content h.state h.scope →
          StepClaim t (traced_send p y e content) false
          (Some (record h {
            sent = h.sent ++
                (e.direction, event_of e.kind (map worth e.numbers) (option_map content_of content)) ∷ [];
          }))
      go None bare = sent_came e (binding p y.names e.numbers) (length e.numbers) 0 None
          (with_numbers t (map worth e.numbers)) None
          (record {
            leads = binds_follow i (traced_number p y.names) worth e.numbers t (λ u later x. number_here u later x);
            safe = quiet_safe f.stack i (binding p y.names e.numbers) (on t)
                (quiet_binds (traced_number p y.names) e.numbers);
          })
          (later_numbers t.kept (map worth e.numbers)) refl refl refl
          (long_append worth t.kept.numbers e.numbers (length t.kept.numbers) refl)
          (same_length t.kept.messages) refl
          (λ u later. bounds_worth i u worth e.numbers t.kept.numbers y.made.binds st.binds later.numbers)
          (λ u later. refl)
      go (Some c) bare = look c bare (traced_message p y.names c.message).known refl

    pub step_came : (x : Step) → FitStep f.stack p layer x h →
        StepClaim t (trace_step layer p x y) (decides_it x) (walk_step p x h)
    step_came (test true e) fit = true_came e
    step_came (test false e) fit = zero_came e
    step_came (fork First e) fit = true_came e
    step_came (fork Second e) fit = zero_came e
    step_came (set_slot k e) fit = slot_came k e
    step_came (set_number c e x) fit = number_came c e x
    step_came (set_square c row column x) fit = square_came c row column x
    step_came (put c e capacity row) fit = put_came c e capacity row fit
    step_came (get c e taken) fit = get_came c e taken fit
    step_came (send e) fit = send_came e fit
    step_came loop fit = tt
