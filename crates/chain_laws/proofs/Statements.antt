-- What statements do keeps states and scopes, and what they send is chained.
use Rattle.std.proofs.Common.{◌≡◌, ◌∙◌, ℕ, zero, suc, ◌<◌, Bool, true, false, List, [], ◌∷◌, length, map, Option, Some}
use Rattle.std.proofs.Common.{None, refl, subst, arith}
use Rattle.std.specs.Prelude.{◌^◌, if◌then◌else◌, min, slice_index, option_map}
use Rattle.std.specs.List.{AllByRecursion, fold}
use Rattle.std.proofs.lemmas.List.{length-map}
use Rattle.msg_core.specs.Chain.{Content, pushed}
use Rattle.msg_core.specs.declared.message.Header.{Header}
use Rattle.layer_words.specs.declared.sorts.Likely.{Likely}
use Rattle.layer_words.specs.declared.sorts.Likely.TheVariants as likely
use Rattle.layer_words.specs.declared.sorts.Sort.{Sort}
use Rattle.layer_words.specs.declared.sorts.Sort.TheVariants.{Int, Msg}
use Rattle.layer_words.specs.declared.events.Dir.{Dir}
use Rattle.layer_words.specs.declared.events.Dir.TheVariants.{Up, Down}
use Rattle.layer_words.specs.declared.events.Kind.{Kind}
use Rattle.layer_mean.specs.declared.run.Event.{Event}
use Rattle.layer_mean.specs.declared.run.Row.{Row}
use Rattle.layer_mean.specs.Event.{carries, event_of}
use Rattle.layer_mean.specs.Headers.{header_of_tag}
use Rattle.layer_mean.specs.Tree.{Carried, HeaderTree, MessageTree, ContentTree, EmissionTree, RowTree, StatementTree}
use Rattle.layer_mean.specs.Tree.{bind, assign, assign_square, push, take, branch, each, emit, StatementTrees, none}
use Rattle.layer_mean.specs.Tree.{more, LayerTree}
use Rattle.layer_mean.specs.State.{State, flat_index, row_at, rows_at, has_room, with_number, with_row, without_front}
use Rattle.layer_mean.specs.Value.{Scope, is_true, val, mval, message_in}
use Rattle.layer_mean.specs.Effect.{Outcome, Act, done, after, in_order, with_slot, turns, row_of, with_slots}
use Rattle.layer_mean.specs.Effect.{with_taken, header_of, sent_as, emitted_event, chosen_outcome, taking, does, acts}
use Rattle.packet_mean.specs.ChainedState.{IsNumber, Numbers, IsMessage, EndsWith, IsRow, IsState, Brings, IsEvent}
use Rattle.chain_laws.specs.Typed.{Small, sort_of, sort_under, Pushed, Content as SendsContent, Sends, Ends, Pushes}
use Rattle.chain_laws.specs.Typed.{Takes, with_taken_sort, Typed, TypedAll}
use Rattle.chain_laws.proofs.Lists.{Where, there, each_where, each_or, each_set, each_append, zip_set, zip_back}
use Rattle.chain_laws.proofs.Small.{zero_small}
use Rattle.chain_laws.proofs.Sorts.{HeadersOf, Is, kept_of, IsScope, Kept, kept, KeptRow, row_at_kept, number_keeps}
use Rattle.chain_laws.proofs.Sorts.{front_keeps, row_keeps, rows_hold}
use Rattle.chain_laws.proofs.Values.{val_small, vals_small, message_in_is, mval_is}

-- the headers of an event that is sent in a direction
abbrev pub sent_headers : (P Q : List Header → Type 0) → Dir → List Header → Type 0
sent_headers P Q Up headers = P headers
sent_headers P Q Down headers = Q headers

abbrev pub IsSent : (P Q : List Header → Type 0) → Dir × Event → Type 0
IsSent P Q x = IsEvent (sent_headers P Q x.0) x.1

-- headers of which the first is one that a layer declares, with what stands after it
pub record Popped (P : List Header → Type 0) (layer : LayerTree) (hs : List Header) : Type 0 where
  pub first : Header
  pub rest : List Header
  pub declaration : HeaderTree
  pub are : hs ≡ first ∷ rest
  pub declares : header_of_tag layer first.tag ≡ Some declaration
  pub fields : Numbers first.fields
  pub following : HeadersOf P (sort_under declaration.ends) rest

-- how the headers of a layer at a place stand before those of the layers above: P is of the layers above, and Q from
-- this one on
pub record Stands (P Q : List Header → Type 0) (layer : LayerTree) (place : ℕ) (blank : List Header) : Type 0 where
  pub blank_is : P blank
  pub push_is : (h : Header) (d : HeaderTree) (hs : List Header) → h.layer ≡ place →
      header_of_tag layer h.tag ≡ Some d →
      length h.fields ≡ d.fields → Numbers h.fields → HeadersOf P (sort_under d.ends) hs → Q (h ∷ hs)
  pub pop_is : (hs : List Header) → Q hs → Popped P layer hs

-- what statements keep
pub record KeepsAt (P Q : List Header → Type 0) (layer : LayerTree) (sorts : List Sort) (s : State) (l : Scope)
    (sent : List (Dir × Event)) : Type 0 where
  pub state : IsState P layer s
  pub scope : IsScope P sorts l
  pub sent_is : AllByRecursion (IsSent P Q) sent

abbrev pub Keeps : (P Q : List Header → Type 0) (layer : LayerTree) (sorts : List Sort) → Outcome → Type 0
Keeps P Q layer sorts o = KeepsAt P Q layer sorts o.state o.scope o.sent

-- an event of numbers, with a message where its kind carries one
pub event_is : (C : List Header → Type 0) (kind : Kind) (ns : List ℕ) (m : Option Content) → Numbers ns →
    Brings C (carries kind) m →
    IsEvent C (event_of kind ns m)
event_is C kind ns m small brings = go (carries kind) where
  go : (b : Bool) → IsEvent C (if b
      then record { kind = kind; peer = slice_index ns 0; a = 0; b = 0; message = m }
      else record { kind = kind; peer = 0; a = slice_index ns 0; b = slice_index ns 1; message = m })
  go true = record { peer = each_or IsNumber ns 0 0 small zero_small; a = zero_small; b = zero_small; message = brings }
  go false = record {
    peer = zero_small;
    a = each_or IsNumber ns 0 0 small zero_small;
    b = each_or IsNumber ns 1 0 small zero_small;
    message = brings;
  }

module _ (P Q : List Header → Type 0) (layer : LayerTree) (place : ℕ) (blank : List Header)
    (stands : Stands P Q layer place blank) where
  -- emissions

  pushed_is : (sorts : List Sort) (c : ContentTree) (s : State) (l : Scope) → Pushed layer blank sorts c →
      IsState P layer s →
      IsScope P sorts l → IsMessage Q (pushed (header_of place c s l) (mval c.message s l))
  pushed_is sorts c s l h state scope = there (header_of_tag layer c.tag) _ h.declares (λ d declares is.
      let m = mval_is P layer blank stands.blank_is sorts s l state scope c.message (sort_under d.ends) is.1 in
      record {
        headers = stands.push_is (header_of place c s l) d (mval c.message s l).headers refl declares
            (length-map c.fields (λ e. val e s l) ∙ is.0)
            (vals_small s l (kept P layer sorts s l state scope) c.fields h.fields) m.headers;
        body = m.body;
      })

  content_is : (sorts : List Sort) (dir : Dir) (c : ContentTree) (s : State) (l : Scope) →
      SendsContent layer blank sorts dir c →
      IsState P layer s → IsScope P sorts l →
      IsMessage (sent_headers P Q dir) (sent_as dir (header_of place c s l) (mval c.message s l))
  content_is sorts Up c s l h state scope =
      let m = mval_is P layer blank stands.blank_is sorts s l state scope c.message Msg h in
      record { headers = m.headers; body = m.body }
  content_is sorts Down c s l h state scope =
      let m = pushed_is sorts c s l h state scope in record { headers = m.headers; body = m.body }

  brings_is : (sorts : List Sort) (b : Bool) (dir : Dir) (c : Option ContentTree) (s : State) (l : Scope) →
      Sends layer blank sorts b dir c →
      IsState P layer s → IsScope P sorts l →
      Brings (sent_headers P Q dir) b (option_map (λ c. sent_as dir (header_of place c s l) (mval c.message s l)) c)
  brings_is sorts true dir None s l h state scope = absurd h
  brings_is sorts true dir (Some c) s l h state scope = content_is sorts dir c s l h state scope
  brings_is sorts false dir None s l h state scope = tt
  brings_is sorts false dir (Some c) s l h state scope = absurd h

  emitted_is : (sorts : List Sort) (e : EmissionTree) (s : State) (l : Scope) → AllByRecursion Small e.numbers →
      Sends layer blank sorts (carries e.kind) e.direction e.content → IsState P layer s → IsScope P sorts l →
      IsSent P Q (e.direction, emitted_event place e s l)
  emitted_is sorts e s l small sends state scope =
      event_is (sent_headers P Q e.direction) e.kind (map (λ n. val n s l) e.numbers) _
      (vals_small s l (kept P layer sorts s l state scope) e.numbers small)
      (brings_is sorts (carries e.kind) e.direction e.content s l sends state scope)

  -- pushes

  ends_with : (sorts : List Sort) (it : Option (List ℕ × Carried)) (m : Option MessageTree) (s : State) (l : Scope) →
      Ends layer blank sorts it m → IsState P layer s → IsScope P sorts l →
      EndsWith P it (option_map (λ m. mval m s l) m)
  ends_with sorts None None s l h state scope = tt
  ends_with sorts None (Some m) s l h state scope = absurd h
  ends_with sorts (Some it) None s l h state scope = absurd h
  ends_with sorts (Some it) (Some m) s l h state scope =
      let is = mval_is P layer blank stands.blank_is sorts s l state scope m (sort_of it.1) h in
      record { headers = kept_of P it.1 (mval m s l).headers is.headers; body = is.body }

  pub row_is : (sorts : List Sort) (c capacity : ℕ) (row : RowTree) (s : State) (l : Scope)
      (h : Pushes layer blank sorts c capacity row) →
      IsState P layer s → IsScope P sorts l → IsRow P h.rows.items (row_of row s l)
  row_is sorts c capacity row s l h state scope = record {
    count = length-map row.numbers (λ e. val e s l) ∙ h.count;
    numbers = vals_small s l (kept P layer sorts s l state scope) row.numbers h.numbers_are;
    message = ends_with sorts h.rows.items.message row.message s l h.message state scope;
  }

  -- scopes

  pub slot_keeps : (sorts : List Sort) (k v : ℕ) (l : Scope) → IsNumber v → IsScope P sorts l →
      IsScope P sorts (with_slot k v l)
  slot_keeps sorts k v l small scope =
      record {
        numbers_are = each_set IsNumber l.numbers k v scope.numbers_are small;
        messages_are =
            scope.messages_are;
      }

  slots_keep : (sorts : List Sort) (slots values : List ℕ) (l : Scope) → Numbers values → IsScope P sorts l →
      IsScope P sorts (with_slots slots values l)
  slots_keep sorts [] values l small scope = scope
  slots_keep sorts (k ∷ slots) [] l small scope = scope
  slots_keep sorts (k ∷ slots) (v ∷ values) l small scope =
      slots_keep sorts slots values (with_slot k v l) small.1 (slot_keeps sorts k v l small.0 scope)

  pub taken_keeps : (sorts : List Sort) (c i : ℕ) (slots : List ℕ) (message : Option (ℕ × Carried)) (row : Row)
      (s : State) (l : Scope) →
      Takes layer blank sorts c message → IsState P layer s → row_at s c i 0 ≡ Some row → Numbers row.numbers →
      IsScope P sorts l →
      IsScope P (with_taken_sort sorts message) (with_taken (record { numbers = slots; message = message }) row l)
  taken_keeps sorts c i slots None row s l h state is small scope = slots_keep sorts slots row.numbers l small scope
  taken_keeps sorts c i slots (Some it) row s l h state is small scope =
      let m = with_slots slots row.numbers l in
      let keeps = slots_keep sorts slots row.numbers l small scope in
      let rows = h.0.rows in
      let it_is : Is P (sort_of it.1) (message_in it.1 (Some row)) =
      message_in_is P blank it.1 rows.items (Some row) stands.blank_is h.0.blanks h.0.sort
      (subst (Where (IsRow P rows.items)) is
      (each_where (IsRow P rows.items) (rows_at s c i) 0 (rows_hold P layer s c i rows state h.0.listed))) in
      record {
        numbers_are = keeps.numbers_are;
        messages_are = zip_set (Is P) sorts m.messages it.0 (sort_of it.1) (message_in it.1 (Some row))
            keeps.messages_are it_is;
      }

  pub taken_back : (sorts : List Sort) (message : Option (ℕ × Carried)) (c : ℕ) (l : Scope) →
      Takes layer blank sorts c message →
      IsScope P (with_taken_sort sorts message) l → IsScope P sorts l
  taken_back sorts None c l h scope = scope
  taken_back sorts (Some it) c l h scope = record {
    numbers_are = scope.numbers_are;
    messages_are = zip_back (Is P) sorts l.messages it.0 Int (sort_of it.1) h.1
        (λ m is. record { headers = tt; body = is.body })
        scope.messages_are;
  }

  -- statements

  done_keeps : (sorts : List Sort) (s : State) (l : Scope) → IsState P layer s → IsScope P sorts l →
      KeepsAt P Q layer sorts s l []
  done_keeps sorts s l state scope = record { state = state; scope = scope; sent_is = tt }

  if_keeps : (sorts : List Sort) (b : Bool) (o p : Outcome) → (b ≡ true → Keeps P Q layer sorts o) →
      Keeps P Q layer sorts p →
      Keeps P Q layer sorts (if b then o else p)
  if_keeps sorts true o p h i = h refl
  if_keeps sorts false o p h i = i

  chosen_keeps : (sorts : List Sort) (b : Bool) (usual : Likely) (o p : Outcome) → Keeps P Q layer sorts o →
      Keeps P Q layer sorts p →
      Keeps P Q layer sorts (chosen_outcome b usual o p)
  chosen_keeps sorts true likely.First o p h i = h
  chosen_keeps sorts true likely.Else o p h i = h
  chosen_keeps sorts true likely.Two o p h i = h
  chosen_keeps sorts false likely.First o p h i = i
  chosen_keeps sorts false likely.Else o p h i = i
  chosen_keeps sorts false likely.Two o p h i = i

  taking_keeps : (sorts : List Sort) (row : Option Row) (o : Row → Outcome) (p : Outcome) →
      ((r : Row) → row ≡ Some r → Keeps P Q layer sorts (o r)) → Keeps P Q layer sorts p →
      Keeps P Q layer sorts (taking row o p)
  taking_keeps sorts None o p h i = i
  taking_keeps sorts (Some r) o p h i = h r refl

  -- one more act after what was done before
  after_keeps : (sorts : List Sort) (o : Outcome) (act : Act) → Keeps P Q layer sorts o →
      (IsState P layer o.state → IsScope P sorts o.scope → Keeps P Q layer sorts (act o.state o.scope)) →
      Keeps P Q layer sorts (after o act)
  after_keeps sorts o act h does = let p = does h.state h.scope in record {
    state = p.state;
    scope = p.scope;
    sent_is = each_append (IsSent P Q) o.sent (act o.state o.scope).sent h.sent_is p.sent_is;
  }

  turns_keep : (n k : ℕ) (act : Act) (sorts : List Sort) (s : State) (l : Scope) → n < 2 ^ 32 →
      ((t : State) (m : Scope) → IsState P layer t → IsScope P sorts m → Keeps P Q layer sorts (act t m)) →
      IsState P layer s →
      IsScope P sorts l → Keeps P Q layer sorts (turns n k act s l)
  turns_keep zero k act sorts s l small does state scope = done_keeps sorts s l state scope
  turns_keep (suc n) k act sorts s l small does state scope =
      after_keeps sorts (turns n k act s l) (λ t m. act t (with_slot k n m))
      (turns_keep n k act sorts s l (omega (arith, small)) does state scope)
      (λ state scope. does (turns n k act s l).state (with_slot k n (turns n k act s l).scope) state
      (slot_keeps sorts k n (turns n k act s l).scope (omega (arith, small)) scope))

  -- the numbers of a row that is there
  pub row_numbers : (s : State) (c i : ℕ) (row : Row) → Kept s (record { numbers = []; messages = [] }) →
      row_at s c i 0 ≡ Some row → Numbers row.numbers
  row_numbers s c i row h is = (subst (Where KeptRow) is (row_at_kept s c i 0 h.cells)).numbers_are

  mutual
    does_keeps : (x : StatementTree) (sorts : List Sort) (s : State) (l : Scope) → Typed layer blank sorts x →
        IsState P layer s →
        IsScope P sorts l → Keeps P Q layer sorts (does place x s l)
    does_keeps (bind k e) sorts s l h state scope = done_keeps sorts s (with_slot k (val e s l) l) state
        (slot_keeps sorts k (val e s l) l (val_small s l (kept P layer sorts s l state scope) e h) scope)
    does_keeps (assign c i e) sorts s l h state scope = done_keeps sorts (with_number s c (val i s l) (val e s l)) l
        (number_keeps P layer s c (val i s l) (val e s l) state
        (val_small s l (kept P layer sorts s l state scope) e h)) scope
    does_keeps (assign_square c row column e) sorts s l h state scope =
        let i = flat_index s.count (val row s l) (val column s l) in
        done_keeps sorts (with_number s c i (val e s l)) l
        (number_keeps P layer s c i (val e s l) state (val_small s l (kept P layer sorts s l state scope) e h)) scope
    does_keeps (push c i capacity row otherwise) sorts s l h state scope =
        if_keeps sorts (has_room s c (val i s l) capacity) _ _
        (λ room. done_keeps sorts (with_row s c (val i s l) (row_of row s l)) l
        (row_keeps P layer s c (val i s l) capacity h.0.rows (row_of row s l) state h.0.listed h.0.room room
        (row_is sorts c capacity row s l h.0 state scope)) scope)
        (acts_keep otherwise sorts (done s l) h.1 (done_keeps sorts s l state scope))
    does_keeps (take c i taken block otherwise) sorts s l h state scope =
        taking_keeps sorts (row_at s c (val i s l) 0) _ _
        (λ row is. let t = without_front s c (val i s l) in
        let m = with_taken taken row l in
        let typed = with_taken_sort sorts taken.message in
        let inside = acts_keep block typed (done t m) h.1
        (done_keeps typed t m (front_keeps P layer s c (val i s l) state)
        (taken_keeps sorts c (val i s l) taken.numbers taken.message row s l h.0 state is
        (row_numbers s c (val i s l) row (kept P layer [] s _ state (record { numbers_are = tt; messages_are = tt }))
        is) scope)) in
        record {
          state = inside.state;
          scope = taken_back sorts taken.message c _ h.0 inside.scope;
          sent_is =
              inside.sent_is;
        })
        (acts_keep otherwise sorts (done s l) h.2 (done_keeps sorts s l state scope))
    does_keeps (branch usual e block otherwise) sorts s l h state scope =
        chosen_keeps sorts (is_true (val e s l)) usual _ _
        (acts_keep block sorts (done s l) h.0 (done_keeps sorts s l state scope))
        (acts_keep otherwise sorts (done s l) h.1 (done_keeps sorts s l state scope))
    does_keeps (each k below most block) sorts s l h state scope =
        let small = val_small s l (kept P layer sorts s l state scope) below h.0 in
        turns_keep (min (val below s l) most) k (in_order (acts place block)) sorts s l (omega (arith, small))
        (λ t m state scope. acts_keep block sorts (done t m) h.1 (done_keeps sorts t m state scope)) state scope
    does_keeps (emit e) sorts s l h state scope = record {
      state = state;
      scope = scope;
      sent_is = (emitted_is sorts e s l h.0 h.1 state scope, tt);
    }

    -- the statements of a block, after what was done before
    acts_keep : (xs : StatementTrees) (sorts : List Sort) (o : Outcome) → TypedAll layer blank sorts xs →
        Keeps P Q layer sorts o →
        Keeps P Q layer sorts (fold after o (acts place xs))
    acts_keep none sorts o h keeps = keeps
    acts_keep (more x rest) sorts o h keeps = acts_keep rest sorts (after o (does place x)) h.1
        (after_keeps sorts o (does place x) keeps (λ state scope. does_keeps x sorts o.state o.scope h.0 state scope))

  pub block_keeps : (xs : StatementTrees) (sorts : List Sort) (s : State) (l : Scope) → TypedAll layer blank sorts xs →
      IsState P layer s →
      IsScope P sorts l → Keeps P Q layer sorts (in_order (acts place xs) s l)
  block_keeps xs sorts s l h state scope = acts_keep xs sorts (done s l) h (done_keeps sorts s l state scope)
