-- A visit keeps chains: the handler that is chosen, or what a missing one does.
use Rattle.std.proofs.Common.{◌≡◌, ℕ, zero, suc, ◌<◌, ◌≤◌, Bool, true, false, List, [], ◌∷◌, ◌++◌, map, Option, Some}
use Rattle.std.proofs.Common.{None, refl, sym, ap, subst, arith}
use Rattle.std.specs.Prelude.{◌==◌, ◌&&◌, MatchBool, if◌then◌else◌, drop, slice_get, slice_index_or, option_to_list}
use Rattle.std.specs.List.{AllByRecursion, AllZip, find}
use Rattle.std.proofs.lemmas.Bool.{and_parts, eqb-true}
use Rattle.std.proofs.Math.ListN.{length-replicate}
use Rattle.std.proofs.lemmas.Option.{get_or_from_slice_get}
use denote.Enum.Bare.{sameb, same_true}
use Rattle.msg_core.specs.Chain.{Content, plain, pushed, popped, first_of}
use Rattle.msg_core.specs.declared.message.Header.{Header}
use Rattle.layer_words.specs.contracts.events.Dir as dir_row
use Rattle.layer_words.specs.contracts.events.Kind as kind_row
use Rattle.layer_words.specs.declared.sorts.Sort.{Sort}
use Rattle.layer_words.specs.declared.sorts.Sort.TheVariants.{Int}
use Rattle.layer_words.specs.declared.events.Dir.{Dir}
use Rattle.layer_words.specs.declared.events.Dir.TheVariants.{Up, Down}
use Rattle.layer_words.specs.declared.events.Kind.{Kind}
use Rattle.layer_words.specs.declared.events.Kind.TheVariants.{Cast, Send, Stable, Ack}
use Rattle.layer_mean.specs.declared.run.Event.{Event}
use Rattle.layer_mean.specs.Event.{carries, arguments, arguments_for}
use Rattle.layer_mean.specs.Headers.{header_of_tag, header_none}
use Rattle.layer_mean.specs.Tree.{HeaderTree, Expected, always, common, rare, HandlerTree, Form, numbers, queue, queues}
use Rattle.layer_mean.specs.Tree.{CellTree, LayerTree, no_layer}
use Rattle.layer_mean.specs.State.{State, size_of}
use Rattle.layer_mean.specs.Value.{Scope, is_true, val}
use Rattle.layer_mean.specs.Effect.{usual, unusual, Outcome, decides, in_order, acts}
use Rattle.layer_mean.specs.Visit.{no_scope, bare_state, fresh_cell, fresh, Met, following, met, is_for, handler_for}
use Rattle.layer_mean.specs.Visit.{entered_scope, none_header, Visited, sent_on, unhandled_visit, expecting}
use Rattle.layer_mean.specs.Visit.{handled_visit, step}
use Rattle.packet_mean.specs.Chained.{IsChain}
use Rattle.packet_mean.specs.ChainedState.{IsNumber, Numbers, IsBody, IsFrom, IsMessage, HoldsForm, IsState, Brings}
use Rattle.packet_mean.specs.ChainedState.{IsEvent, IsChainedEvent}
use Rattle.chain_laws.specs.Typed.{sort_under, met_sorts, sorts_of, TypedHandler, TypedForm, TypedLayer}
use Rattle.chain_laws.specs.Visits.{IsChainedSent, VisitsKeepChains, FreshIsChained}
use Rattle.chain_laws.proofs.Lists.{Where, there, some_and, each_append, each_so, each_same, each_room, zip_room}
use Rattle.chain_laws.proofs.Small.{zero_small, no_body}
use Rattle.chain_laws.proofs.Sorts.{HeadersOf, Is, IsScope}
use Rattle.chain_laws.proofs.Values.{val_small}
use Rattle.chain_laws.proofs.Statements.{sent_headers, IsSent, Popped, Stands, Keeps, block_keeps}

-- the headers with which an event comes in a direction
abbrev pub come_headers : (P Q : List Header → Type 0) → Dir → List Header → Type 0
come_headers P Q Up headers = Q headers
come_headers P Q Down headers = P headers

-- the arguments of an event are below 2^32
pub arguments_small : (C : List Header → Type 0) (kind : Kind) (e : Event) → IsEvent C e →
    Numbers (arguments_for kind e)
arguments_small C Cast e h = (h.peer, tt)
arguments_small C Send e h = (h.peer, tt)
arguments_small C Stable e h = (h.a, (h.b, tt))
arguments_small C Ack e h = (h.a, (h.b, tt))
arguments_small C _ e h = (h.a, tt)

-- the handler that is found is one of the layer, and is for the event
first_found : (P : HandlerTree → Type 0) (p : HandlerTree → Bool) (x : HandlerTree) (others : Option HandlerTree)
    (b : Bool) → p x ≡ b → P x →
    Where (λ h. P h × (p h ≡ true)) others → Where (λ h. P h × (p h ≡ true)) (if b then Some x else others)
first_found P p x others true is h rest = (h, is)
first_found P p x others false is h rest = rest

pub found : (P : HandlerTree → Type 0) (p : HandlerTree → Bool) (hs : List HandlerTree) → AllByRecursion P hs →
    Where (λ h. P h × (p h ≡ true)) (find p hs)
found P p [] h = tt
found P p (x ∷ hs) h = first_found P p x (find p hs) (p x) refl h.0 (found P p hs h.1)

-- what passes a layer that has no handler for it: going up it does after `none` alone
abbrev pub Passes : (List Header → Type 0) → Dir → Bool → ℕ → Option Content → Type 0
Passes P dir b tag None = b ≡ false
Passes P Down b tag (Some c) = (b ≡ true) × IsMessage P c
Passes P Up b tag (Some c) = (b ≡ true) × IsBody c.body × (tag ≡ 0 → P c.headers)

-- what an event is met with
pub record IsMet (P : List Header → Type 0) (layer : LayerTree) (dir : Dir) (b : Bool) (m : Met) : Type 0 where
  pub fields_are : Numbers m.fields
  pub messages_are : AllZip (Is P) (met_sorts layer dir b m.tag) (option_to_list m.message)
  pub passes : Passes P dir b m.tag m.message

-- what a visit leaves
pub record Leaves (P Q : List Header → Type 0) (layer : LayerTree) (v : Visited) : Type 0 where
  pub state : IsState P layer v.state
  pub sent : AllByRecursion (IsSent P Q) v.sent

brings_none : (C : List Header → Type 0) (b : Bool) → b ≡ false → Brings C b None
brings_none C true is = absurd (cc is)
brings_none C false is = tt

brings_some : (C : List Header → Type 0) (b : Bool) (m : Content) → b ≡ true → IsMessage C m → Brings C b (Some m)
brings_some C true m is h = h
brings_some C false m is h = absurd (cc is)

-- an event with another message
with_other : (C D : List Header → Type 0) (e : Event) (m : Option Content) → IsEvent C e → Brings D (carries e.kind) m →
    IsEvent D (record e { message = m })
with_other C D e m h brings = record { peer = h.peer; a = h.a; b = h.b; message = brings }

module _ (P Q : List Header → Type 0) (layer : LayerTree) (place : ℕ) (blank : List Header)
    (stands : Stands P Q layer place blank) where
  -- what is met

  up_met : (hs : List Header) (body : List ℕ) → IsBody body → Popped P layer hs →
      IsMet P layer Up true (following (first_of hs) (popped (record { headers = hs; body = body })))
  up_met hs body is p = subst
      (λ hs. IsMet P layer Up true (following (first_of hs) (popped (record { headers = hs; body = body }))))
      (sym p.are)
      record {
        fields_are = p.fields;
        messages_are = rw p.declares (record { headers = p.following; body = is }, tt);
        passes = (
          refl,
          is,
          λ none.
              let e : p.declaration ≡ header_none = cc (ap (λ tag. header_of_tag layer tag) none, p.declares) in
              subst (λ (d : HeaderTree). HeadersOf P (sort_under d.ends) p.rest) e p.following,
        );
      }

  pub met_is : (dir : Dir) (b : Bool) (m : Option Content) → Brings (come_headers P Q dir) b m →
      IsMet P layer dir b (met dir m)
  met_is dir true None h = absurd h
  met_is Up true (Some m) h = up_met m.headers m.body h.body (stands.pop_is m.headers h.headers)
  met_is Down true (Some m) h =
      record { fields_are = tt; messages_are = (record { headers = h.headers; body = h.body }, tt); passes = (refl, h) }
  met_is dir false None h = record { fields_are = tt; messages_are = tt; passes = refl }
  met_is dir false (Some m) h = absurd h

  -- without a handler

  unhandled_leaves : (s : State) (dir : Dir) (e : Event) (m : Met) (c : Option Content) → IsState P layer s →
      IsEvent (come_headers P Q dir) e →
      Passes P dir (carries e.kind) m.tag c → Leaves P Q layer (unhandled_visit place s dir e m c)
  unhandled_leaves s dir e m None state event passes = record {
    state = state;
    sent = (
      with_other (come_headers P Q dir) (sent_headers P Q dir) e None event
          (brings_none _ (carries e.kind) passes),
      tt,
    );
  }
  unhandled_leaves s Down e m (Some c) state event passes = record {
    state = state;
    sent = (
      with_other P Q e (Some (pushed (none_header place) c)) event (brings_some Q (carries e.kind) _ passes.0 (record {
        headers = stands.push_is (none_header place) header_none c.headers refl refl refl tt passes.1.headers;
        body = passes.1.body;
      })),
      tt,
    );
  }
  unhandled_leaves s Up e m (Some c) state event passes = go (m.tag == 0) refl where
    go : (b : Bool) → (m.tag == 0) ≡ b →
        Leaves P Q layer (if b then sent_on s Up e (Some c) else record
        { state = s; sent = []; decided = unusual ∷ [] })
    go true is = record {
      state = state;
      sent = (
        with_other Q P e (Some c) event (brings_some P (carries e.kind) c passes.0 (record {
          headers = passes.2 (eqb-true m.tag 0 is);
          body = passes.1;
        })),
        tt,
      );
    }
    go false is = record { state = state; sent = tt }

  -- with a handler

  decided_keeps : (sorts : List Sort) (b : Bool) (o : Outcome) → Keeps P Q layer sorts o →
      Keeps P Q layer sorts (if b then decides usual o else decides unusual o)
  decided_keeps sorts true o h = h
  decided_keeps sorts false o h = h

  expecting_keeps : (sorts : List Sort) (x : Expected) (s : State) (l : Scope) (o : Outcome) → Keeps P Q layer sorts o →
      Keeps P Q layer sorts (expecting x s l o)
  expecting_keeps sorts always s l o h = h
  expecting_keeps sorts (common e) s l o h = decided_keeps sorts (is_true (val e s l)) o h
  expecting_keeps sorts rare s l o h = h

  pub entered_is : (h : HandlerTree) (e : Event) (m : Met) (dir : Dir) (b : Bool) → h.direction ≡ dir →
      carries h.kind ≡ b → h.tag ≡ m.tag →
      Numbers (arguments e) → IsMet P layer dir b m → IsScope P (sorts_of layer h) (entered_scope h e m)
  entered_is h e m dir b same_dir same_kind same_tag small is = record {
    numbers_are = each_room IsNumber h.numbers 0 (arguments e ++ m.fields) zero_small
        (each_append IsNumber (arguments e) m.fields small is.fields_are);
    messages_are = zip_room (Is P) h.messages Int (plain []) (met_sorts layer h.direction (carries h.kind) h.tag)
        (option_to_list m.message)
        (record { headers = tt; body = no_body })
        (rw (same_dir, same_kind, same_tag) is.messages_are);
  }

  handled_leaves : (o : Option HandlerTree) (s : State) (dir : Dir) (e : Event) (m : Met) →
      Where (λ h. TypedHandler layer blank h × (is_for dir e.kind m.tag h ≡ true)) o → IsState P layer s →
      IsEvent (come_headers P Q dir) e →
      IsMet P layer dir (carries e.kind) m → Leaves P Q layer (handled_visit place o s dir e m)
  handled_leaves None s dir e m h state event is = unhandled_leaves s dir e m m.message state event is.passes
  handled_leaves (Some h) s dir e m typed state event is =
      let all = and_parts (sameb dir_row.the_type h.direction dir && sameb kind_row.the_type h.kind e.kind)
      (h.tag == m.tag) typed.1 in
      let both = and_parts (sameb dir_row.the_type h.direction dir) (sameb kind_row.the_type h.kind e.kind) all.0 in
      let l = entered_scope h e m in
      let scope = entered_is h e m dir (carries e.kind) (same_true dir_row.the_type tt h.direction dir both.0)
      (ap carries (same_true kind_row.the_type tt h.kind e.kind both.1)) (eqb-true h.tag m.tag all.1)
      (arguments_small (come_headers P Q dir) e.kind e event) is in
      let keeps = expecting_keeps (sorts_of layer h) h.expected s l (in_order (acts place h.block) s l)
      (block_keeps P Q layer place blank stands h.block (sorts_of layer h) s l typed.0 state scope) in
      record { state = keeps.state; sent = keeps.sent_is }

  pub step_leaves : (s : State) (dir : Dir) (e : Event) → TypedLayer blank layer → IsState P layer s →
      IsEvent (come_headers P Q dir) e →
      Leaves P Q layer (step place layer s dir e)
  unfolding step
  step_leaves s dir e typed state event =
      let m = met dir e.message in
      handled_leaves (handler_for layer dir e.kind m.tag) s dir e m
      (found (TypedHandler layer blank) (is_for dir e.kind m.tag) layer.handlers typed.handlers) state event
      (met_is dir (carries e.kind) e.message event.message)

-- the layers of a stack stand so

from_layer : (stack : List LayerTree) (place : ℕ) (layer : LayerTree) → slice_get stack place ≡ Some layer →
    drop place stack ≡ layer ∷ drop (suc place) stack
from_layer [] place layer is = absurd (cc is)
from_layer (first ∷ above) zero layer is = let e : first ≡ layer = cc is in ap (λ l. l ∷ above) e
from_layer (first ∷ above) (suc place) layer is = from_layer above place layer is

-- what stands after a header of a chain
chain_after : (ends : Bool) (stack : List LayerTree) (place : ℕ) (hs : List Header) →
    HeadersOf (IsFrom stack place) (sort_under ends) hs →
    MatchBool ends (hs ≡ []) (IsChain (drop place stack) place hs) × AllByRecursion (λ h. Numbers h.fields) hs
chain_after true stack place hs h = (h, subst (λ hs. AllByRecursion (λ (h : Header). Numbers h.fields) hs) (sym h) tt)
chain_after false stack place hs h = (h.chain, h.fields)

after_chain : (ends : Bool) (stack : List LayerTree) (place : ℕ) (hs : List Header) →
    MatchBool ends (hs ≡ []) (IsChain (drop place stack) place hs) → AllByRecursion (λ h. Numbers h.fields) hs →
    HeadersOf (IsFrom stack place) (sort_under ends) hs
after_chain true stack place hs h fields = h
after_chain false stack place hs h fields = record { chain = h; fields = fields }

popped_from : (stack : List LayerTree) (place : ℕ) (layer : LayerTree) (hs : List Header) →
    IsChain (layer ∷ drop (suc place) stack) place hs → AllByRecursion (λ h. Numbers h.fields) hs →
    Popped (IsFrom stack (suc place)) layer hs
popped_from stack place layer [] is fields = absurd is
popped_from stack place layer (h ∷ hs) is fields = there (header_of_tag layer h.tag) _ is (λ d declares is_d. record {
  first = h;
  rest = hs;
  declaration = d;
  are = refl;
  declares = declares;
  fields = fields.0;
  following = after_chain d.ends stack (suc place) hs is_d.2 fields.1;
})

pub stands : (stack : List LayerTree) (place : ℕ) (blank : List Header) (layer : LayerTree) →
    slice_get stack place ≡ Some layer →
    IsFrom stack (suc place) blank → Stands (IsFrom stack (suc place)) (IsFrom stack place) layer place blank
stands stack place blank layer listed is = record {
  blank_is = is;
  push_is = λ h d hs at declares count small h_after.
      let on = chain_after d.ends stack (suc place) hs h_after in
      record {
        chain = rw (from_layer stack place layer listed)
            (some_and (header_of_tag layer h.tag) _ d declares (at, count, on.0));
        fields = (small, on.1);
      };
  pop_is = λ hs from. popped_from stack place layer hs (rw (from_layer stack place layer listed) at (from.chain))
      from.fields;
}

-- over the layers of a stack

pub layer_listed : (stack : List LayerTree) (place : ℕ) (layer : LayerTree) → slice_get stack place ≡ Some layer →
    slice_index_or stack place no_layer ≡ layer
layer_listed stack place layer is = get_or_from_slice_get stack place layer no_layer is

pub come_is : (stack : List LayerTree) (place : ℕ) (dir : Dir) (e : Event) → IsChainedEvent stack place dir e →
    IsEvent (come_headers (IsFrom stack (suc place)) (IsFrom stack place) dir) e
come_is stack place Up e h = h
come_is stack place Down e h = h

sent_is : (stack : List LayerTree) (place : ℕ) (dir : Dir) (e : Event) →
    IsEvent (sent_headers (IsFrom stack (suc place)) (IsFrom stack place) dir) e → IsChainedSent stack place (dir, e)
sent_is stack place Up e h = h
sent_is stack place Down e h = h

pub visits_keep_chains : VisitsKeepChains
visits_keep_chains stack place blank layer s dir e h state event =
    let P = IsFrom stack (suc place) in
    let Q = IsFrom stack place in
    let here = layer_listed stack place layer h.listed in
    let leaves = step_leaves P Q layer place blank (stands stack place blank layer h.listed h.blank_is) s dir e h.typed
    (subst (λ (l : LayerTree). IsState P l s) here state) (come_is stack place dir e event) in
    record {
      state = subst (λ (l : LayerTree). IsState P l (step place layer s dir e).state) (sym here) leaves.state;
      sent = each_so (IsSent P Q) (IsChainedSent stack place) (λ x is. sent_is stack place x.0 x.1 is)
          (step place layer s dir e).sent leaves.sent;
    }

-- fresh states

form_fresh : (P : List Header → Type 0) (me n ltime : ℕ) (form : Form) → me < n → n ≤ 32 → IsNumber ltime →
    TypedForm form →
    HoldsForm P n form (fresh_cell (bare_state me n ltime) form)
form_fresh P me n ltime (numbers shape initial) below most small h = (
  length-replicate (size_of n shape) (val initial (bare_state me n ltime) no_scope),
  each_same IsNumber (size_of n shape) (val initial (bare_state me n ltime) no_scope)
      (val_small (bare_state me n ltime) no_scope (record {
        me = omega (arith, below, most);
        count = omega (arith, most);
        ltime = small;
        cells = tt;
        numbers_are = tt;
        bodies = tt;
      }) initial h),
)
form_fresh P me n ltime (queue capacity items) below most small h =
    (refl, (record { bounded = h; within = omega arith; rows_are = tt }, tt))
form_fresh P me n ltime (queues capacity items) below most small h =
    (length-replicate n [], each_same _ n [] (record { bounded = h; within = omega arith; rows_are = tt }))

cells_fresh : (P : List Header → Type 0) (me n ltime : ℕ) (cells : List CellTree) → me < n → n ≤ 32 → IsNumber ltime →
    AllByRecursion (λ (cell : CellTree). TypedForm cell.form) cells →
    AllZip (λ (cell : CellTree) held. HoldsForm P n cell.form held) cells
    (map (λ (c : CellTree). fresh_cell (bare_state me n ltime) c.form) cells)
cells_fresh P me n ltime [] below most small h = tt
cells_fresh P me n ltime (c ∷ cells) below most small h =
    (form_fresh P me n ltime c.form below most small h.0, cells_fresh P me n ltime cells below most small h.1)

pub fresh_is : (P : List Header → Type 0) (blank : List Header) (layer : LayerTree) (me n ltime : ℕ) →
    TypedLayer blank layer → me < n →
    n ≤ 32 → IsNumber ltime → IsState P layer (fresh layer me n ltime)
fresh_is P blank layer me n ltime h below most small = record {
  some_member = omega (arith, below);
  most_members = most;
  me = below;
  ltime = small;
  cells = cells_fresh P me n ltime layer.cells below most small h.cells;
}

pub fresh_is_chained : FreshIsChained
fresh_is_chained stack place blank layer me n ltime h below most small =
    subst (λ (l : LayerTree). IsState (IsFrom stack (suc place)) l (fresh layer me n ltime))
    (sym (layer_listed stack place layer h.listed))
    (fresh_is (IsFrom stack (suc place)) blank layer me n ltime h.typed below most small)
