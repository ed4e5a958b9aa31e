-- What a predicted step adds to a trace: joins and sends are no more than are counted of it, and known headers are of
-- their places.
use Rattle.std.proofs.Common.{◌≡◌, ℕ, zero, suc, ◌+◌, ◌-◌, ◌≤◌, Bool, true, false, ◌&&◌, List, [], ◌∷◌, ◌++◌, map}
use Rattle.std.proofs.Common.{length, drop, Option, Some, None, is_some, option_map, slice_set, refl, sym, ap, ◌∙◌}
use Rattle.std.proofs.Common.{subst, inl, arith}
use Rattle.std.specs.Prelude.{if◌then◌else◌, slice_index_or}
use Rattle.std.specs.List.{sum_by, AllByRecursion}
use Rattle.std.specs.Option.{option_map_or}
use Rattle.std.proofs.lemmas.Bool.{and_parts}
use Rattle.std.proofs.lemmas.List.Sums.{sum_by-cons, sum_by-append}
use Rattle.layer_words.specs.declared.events.Dir.{Dir}
use Rattle.layer_words.specs.declared.events.Dir.TheVariants.{Up, Down}
use Rattle.layer_words.specs.declared.events.Kind.{Kind}
use Rattle.layer_mean.specs.declared.run.Case.TheVariants.{First, Second}
use Rattle.layer_mean.specs.Event.{carries}
use Rattle.layer_mean.specs.Headers.{header_of_tag}
use Rattle.layer_mean.specs.Tree as tree
use Rattle.layer_mean.specs.Tree.{Carried, ExpressionTree, MessageTree, ContentTree, EmissionTree, TakenTree}
use Rattle.layer_mean.specs.Tree.{LayerTree, no_layer}
use Rattle.layer_mean.specs.Way.{Step, test, fork, set_slot, set_number, set_square, put, get, send, loop}
use Rattle.layer_mean.specs.Queue.{beyond, layer_at}
use Rattle.stack_mean.specs.Emissions.{joins_in_message, joins_in_emission, joins_in_row}
use Rattle.stack_mean.specs.Graph.{Node, tags_of, keeps_headers, goes_down, content_tags, emission_tags, arrow_to}
use Rattle.stack_mean.specs.Acceptance.{largest}
use Rattle.weight_laws.specs.Orderly.{KeepsMessage, IsOrderlyContent}
use Rattle.chain_laws.proofs.Lists.{each_append, each_or, each_set}
use Rattle.weight_laws.proofs.Members.{In, in_map}
use Rattle.weight_laws.proofs.Nodes.{tag_in, is_zero}
use Rattle.weight_laws.proofs.Visits.{at_most_largest}
use Rattle.trace_mean.specs.Trace.{Atom, Core, TraceMessage, Link, Chained, Operation, bind, note, check, push}
use Rattle.trace_mean.specs.Scope.{Named, Names, no_message, Worded, traced_number, traced_message, fill_message}
use Rattle.trace_mean.specs.Scope.{taken_name, bounds, taken_names}
use Rattle.trace_mean.specs.Fuse.{TracedEvent, Tracing, core_if_settled, notes_of, notes_in, core_of, pushing}
use Rattle.trace_mean.specs.Fuse.{chained_of}
use Rattle.trace_mean.specs.Fuse.{room_in, form_at, items_of, row_word, binding, sent_chain, sending, sending_known}
use Rattle.trace_mean.specs.Fuse.{traced_send, stepping, trace_step, trace_steps}
use Rattle.trace_mean.specs.Counts.{message_joins, note_joins, trace_joins}
use Rattle.trace_form_laws.proofs.Turns.{IfMade, from_made, more_made}
use Rattle.trace_form_laws.proofs.Links.{LinksFit, link_tag, front_fits, more_fits}
use Rattle.trace_form_laws.proofs.Prices.{priced, step_joins, step_sends, OrderlyStep}

-- joins of what is noted
pub message_joins_in : (p : ℕ) (l : Names) (m : MessageTree) →
    message_joins (traced_message p l m).message ≤ joins_in_message m
message_joins_in p l (tree.message k) = omega arith
message_joins_in p l tree.nothing = omega arith
message_joins_in p l (tree.held c e row carried) = omega arith
message_joins_in p l (tree.cut m from n) = omega (arith, message_joins_in p l m)
message_joins_in p l (tree.tail m from) = omega (arith, message_joins_in p l m)
message_joins_in p l (tree.join q m) = omega (arith, message_joins_in p l q, message_joins_in p l m)

notes_join : (m : TraceMessage) → trace_joins (notes_of m) ≤ message_joins m
notes_join m = go (core_if_settled m) where
  go : (s : Option Core) → trace_joins (option_map_or (λ c. []) s (note m ∷ [])) ≤ message_joins m
  go None = omega arith
  go (Some c) = omega arith

binds_join : (p : ℕ) (l : Names) (es : List ExpressionTree) → trace_joins (binding p l es) ≡ 0
binds_join p l [] = omega arith
binds_join p l (e ∷ es) =
    omega (arith, sum_by-cons note_joins (bind (traced_number p l e)) (binding p l es), binds_join p l es)

-- the tag of an event's message
abbrev pub traced_tag : Option Chained → ℕ
traced_tag None = 0
traced_tag (Some m) = link_tag m.chain

-- an event that is sent from a gap on: its known headers are of the layers from there on
abbrev pub MessageFits : List LayerTree → ℕ → Kind → Option Chained → Type 0
MessageFits stack place kind None = Unit {0}
MessageFits stack place kind (Some m) = (carries kind ≡ true) × LinksFit (drop place stack) m.chain

abbrev pub sent_gap : Dir → ℕ → ℕ
sent_gap Up at = at
sent_gap Down at = at - 1

abbrev pub SentFits : List LayerTree → ℕ → Dir × TracedEvent → Type 0
SentFits stack at x = MessageFits stack (sent_gap x.0 at) x.1.kind x.1.message

abbrev pub NamedFits : List LayerTree → ℕ → Named → Type 0
NamedFits stack at x = LinksFit (drop at stack) x.message.chain

pub record NamesFit (stack : List LayerTree) (n : Node) (l : Names) : Type 0 where
  pub each : AllByRecursion (NamedFits stack n.at) l.messages
  pub first : goes_down n.dir n.kind ≡ true → link_tag (slice_index_or l.messages 0 no_message).message.chain ≡ n.tag

-- another slot than the first is filled
pub set_other : (xs : List Named) (k : ℕ) (x : Named) → 1 ≤ k → slice_index_or (slice_set xs k x) 0 no_message ≡
    slice_index_or xs 0 no_message
set_other [] k x h = refl
set_other (y ∷ ys) zero x h = absurd (omega arith)
set_other (y ∷ ys) (suc k) x h = refl

-- the headers of a message expression
worded_fits : (stack : List LayerTree) (n : Node) (p : ℕ) (l : Names) (m : MessageTree) →
    AllByRecursion (NamedFits stack n.at) l.messages →
    LinksFit (drop n.at stack) (traced_message p l m).chain
worded_fits stack n p l (tree.message k) h = each_or (NamedFits stack n.at) l.messages k no_message h tt
worded_fits stack n p l tree.nothing h = tt
worded_fits stack n p l (tree.held c e row carried) h = tt
worded_fits stack n p l (tree.cut m from k) h = tt
worded_fits stack n p l (tree.tail m from) h = worded_fits stack n p l m h
worded_fits stack n p l (tree.join q m) h = worded_fits stack n p l m h

worded_first : (p : ℕ) (l : Names) (m : MessageTree) → keeps_headers m ≡ true →
    link_tag (traced_message p l m).chain ≡ link_tag (slice_index_or l.messages 0 no_message).message.chain
worded_first p l (tree.message k) h = ap (λ j. link_tag (slice_index_or l.messages j no_message).message.chain)
    (is_zero k h)
worded_first p l tree.nothing h = absurd (cc h)
worded_first p l (tree.held c e row carried) h = absurd (cc h)
worded_first p l (tree.cut m from n) h = absurd (cc h)
worded_first p l (tree.tail m from) h = worded_first p l m h
worded_first p l (tree.join q m) h = worded_first p l m h

abbrev pub bound_of : List LayerTree → (Node → ℕ) → Node → EmissionTree → ℕ
bound_of stack f n e = largest (map f (arrow_to 1 n e.direction e.kind (emission_tags stack n e e.content)).targets)

pub one_more : (at : ℕ) → at + 1 - 1 ≡ at
one_more at = omega arith

module _ (stack : List LayerTree) (f : Node → ℕ) (n : Node) where
  abbrev pub worth : Dir × TracedEvent → ℕ
  worth x = f (record { at = beyond x.0 n.at; dir = x.0; kind = x.1.kind; tag = traced_tag x.1.message })

  pub leads : (dir : Dir) (kind : Kind) (tags : List ℕ) (tag : ℕ) → In tag tags →
      f (record { at = beyond dir n.at; dir = dir; kind = kind; tag = tag }) ≤ largest
      (map f (arrow_to 1 n dir kind tags).targets)
  leads dir kind tags tag m = at_most_largest (f _) (map f (arrow_to 1 n dir kind tags).targets)
      (in_map f _ (arrow_to 1 n dir kind tags).targets
      (in_map (λ t. record { at = beyond dir n.at; dir = dir; kind = kind; tag = t }) tag tags m))

  -- the tag with which a message goes
  tag_leads : (p : ℕ) (l : Names) (dir : Dir) (c : ContentTree) (fields : List Atom) → NamesFit stack n l →
      In (link_tag (sent_chain p dir c.tag fields (traced_message p l c.message).chain)) (content_tags stack n dir c)
  tag_leads p l Down c fields h = inl refl
  tag_leads p l Up c fields h = go (goes_down n.dir n.kind && keeps_headers c.message) refl where
    go : (b : Bool) → (goes_down n.dir n.kind && keeps_headers c.message) ≡ b →
        In (link_tag (traced_message p l c.message).chain)
        (if b then n.tag ∷ [] else tags_of (layer_at stack (n.at + 1)))
    go true both = let halves = and_parts (goes_down n.dir n.kind) (keeps_headers c.message) both in
        inl (worded_first p l c.message halves.1 ∙ h.first halves.0)
    go false both = tag_in (layer_at stack (n.at + 1)) (link_tag (traced_message p l c.message).chain)
        (subst (λ j. is_some (header_of_tag (slice_index_or stack j no_layer)
        (link_tag (traced_message p l c.message).chain)) ≡ true) (sym (one_more n.at))
        (front_fits stack n.at (traced_message p l c.message).chain (worded_fits stack n p l c.message h.each)))

  chain_fits : (dir : Dir) (kind : Kind) (c : ContentTree) (fields : List Atom) (chain : List Link) →
      (1 ≤ n.at) × (n.at ≤ length stack) →
      IsOrderlyContent (layer_at stack n.at) dir kind (Some c) → LinksFit (drop n.at stack) chain →
      (carries kind ≡ true) × LinksFit (drop (sent_gap dir n.at) stack) (sent_chain (n.at - 1) dir c.tag fields chain)
  chain_fits Up kind c fields chain here o h = (o, h)
  chain_fits Down kind c fields chain here o h =
      let above : n.at ≡ suc (n.at - 1) = omega (arith, here.0) in (
        o.0,
        more_fits stack (n.at - 1) (record { place = n.at - 1; tag = c.tag; fields = fields }) chain
            (omega (arith, here.0, here.1)) o.1
            (subst (λ j. LinksFit (drop j stack) chain) above h),
      )

  -- how far a visit has come: what it sent is worth at most `sends`, and its notes join at most `joins` times
  pub record Comes (sends joins : ℕ) (z : Tracing) : Type 0 where
    pub names : NamesFit stack n z.names
    pub each : AllByRecursion (SentFits stack n.at) z.sent
    pub sent : sum_by worth z.sent ≤ sends
    pub joined : trace_joins z.made.operations ≤ joins

  quiet : (y : Tracing) (operations : List Operation) (binds notes takes : ℕ) (names : Names) (s j d : ℕ) →
      Comes s j y →
      NamesFit stack n names → trace_joins operations ≤ d →
      Comes (s + 0) (j + d) (stepping y operations binds notes takes names)
  quiet y operations binds notes takes names s j d h fit le = record {
    names = fit;
    each = h.each;
    sent = omega (arith, h.sent);
    joined = omega (arith, sum_by-append note_joins y.made.operations operations, h.joined, le);
  }

  loud : (y : Tracing) (e : EmissionTree) (operations : List Operation) (binds notes : ℕ) (message : Option Chained)
      (s j d b : ℕ) → Comes s j y →
      MessageFits stack (sent_gap e.direction n.at) e.kind message → trace_joins operations ≤ d →
      f (record { at = beyond e.direction n.at; dir = e.direction; kind = e.kind; tag = traced_tag message }) ≤ b →
      Comes (s + b) (j + d) (sending y e operations binds notes message)
  loud y e operations binds notes message s j d b h fits le worth_le = record {
    names = h.names;
    each = each_append (SentFits stack n.at) y.sent _ h.each (fits, tt);
    sent = omega (
      arith,
      sum_by-append worth y.sent
          ((e.direction, record { kind = e.kind; numbers = bounds y.made.binds e.numbers; message = message }) ∷ []),
      h.sent,
      worth_le,
    );
    joined = omega (arith, sum_by-append note_joins y.made.operations operations, h.joined, le);
  }

  renumbered : (l : Names) (numbers : List Atom) → NamesFit stack n l →
      NamesFit stack n (record l { numbers = numbers })
  renumbered l numbers h = record { each = h.each; first = h.first }

  refilled : (row items : ℕ) (t : TakenTree) (l : Names) → KeepsMessage (goes_down n.dir n.kind) t.message →
      NamesFit stack n l →
      NamesFit stack n (taken_names row items t l)
  refilled row items t l keeps h = go t.message keeps where
    go : (m : Option (ℕ × Carried)) → KeepsMessage (goes_down n.dir n.kind) m →
        NamesFit stack n (record
        { numbers = (taken_names row items t l).numbers; messages = fill_message row m l.messages })
    go None k = record { each = h.each; first = h.first }
    go (Some slot) k = record {
      each = each_set (NamedFits stack n.at) l.messages slot.0 (taken_name row slot.1) h.each tt;
      first = λ down. ap (λ x. link_tag x.message.chain)
          (set_other l.messages slot.0 (taken_name row slot.1) (late down)) ∙ h.first down;
    } where
      late : goes_down n.dir n.kind ≡ true → 1 ≤ slot.0
      late down = subst (λ b. KeepsMessage b (Some slot)) down k

  pushing_joins : (p : ℕ) (l : Names) (c : ℕ) (e : ExpressionTree) (numbers : List ExpressionTree) (next : ℕ)
      (row : Option MessageTree) →
      trace_joins (pushing p l c e numbers next (option_map (traced_message p l) row)) ≤ option_map_or joins_in_message
      row 0
  pushing_joins p l c e numbers next None = omega arith
  pushing_joins p l c e numbers next (Some m) =
      let x : Worded = traced_message p l m in
      let o : Operation = push p c (traced_number p l e) (map (traced_number p l) numbers) (Some (chained_of next x)) in
      omega (
        arith,
        sum_by-append note_joins (notes_of x.message) (o ∷ []),
        notes_join x.message,
        message_joins_in p l m,
      )

  send_comes : (dir : Dir) (kind : Kind) (numbers : List ExpressionTree) (content : Option ContentTree) (y : Tracing)
      (s j : ℕ) →
      (1 ≤ n.at) × (n.at ≤ length stack) → IsOrderlyContent (layer_at stack n.at) dir kind content → Comes s j y →
      let e : EmissionTree = record { direction = dir; kind = kind; numbers = numbers; content = content } in
      IfMade (Comes (s + bound_of stack f n e) (j + joins_in_emission e)) (traced_send (n.at - 1) y e content)
  send_comes dir kind numbers None y s j here o h =
      let e : EmissionTree = record { direction = dir; kind = kind; numbers = numbers; content = None } in
      loud y e _ _ _ None s j (joins_in_emission e) (bound_of stack f n e) h tt
      (omega (arith, binds_join (n.at - 1) y.names numbers)) (leads dir kind (0 ∷ []) 0 (inl refl))
  send_comes dir kind numbers (Some c) y s j here o h = go (traced_message (n.at - 1) y.names c.message).known where
    e : EmissionTree
    e = record { direction = dir; kind = kind; numbers = numbers; content = Some c }

    x : Worded
    x = traced_message (n.at - 1) y.names c.message

    go : (b : Bool) → IfMade
        (Comes (s + bound_of stack f n (record { direction = dir; kind = kind; numbers = numbers; content = Some c }))
        (j + joins_in_emission (record { direction = dir; kind = kind; numbers = numbers; content = Some c })))
        (sending_known b (n.at - 1) y (record { direction = dir; kind = kind; numbers = numbers; content = Some c }) c
        (traced_message (n.at - 1) y.names c.message))
    go false = tt
    go true = loud y e (binding (n.at - 1) y.names (numbers ++ c.fields) ++ notes_of x.message)
        (length (numbers ++ c.fields)) (notes_in x.message)
        (Some (record {
          chain = sent_chain (n.at - 1) dir c.tag (bounds (y.made.binds + length numbers) c.fields) x.chain;
          core = core_of y.made.notes x.message;
        })) s j (joins_in_emission e) (bound_of stack f n e) h
        (chain_fits dir kind c (bounds (y.made.binds + length numbers) c.fields) x.chain here o
        (worded_fits stack n (n.at - 1) y.names c.message h.names.each))
        (omega (
          arith,
          sum_by-append note_joins (binding (n.at - 1) y.names (numbers ++ c.fields)) (notes_of x.message),
          binds_join (n.at - 1) y.names (numbers ++ c.fields),
          notes_join x.message,
          message_joins_in (n.at - 1) y.names c.message,
        ))
        (leads dir kind (content_tags stack n dir c) _
        (tag_leads (n.at - 1) y.names dir c (bounds (y.made.binds + length numbers) c.fields) h.names))

  pub step_comes : (layer : LayerTree) (x : Step) (y : Tracing) (s j : ℕ) → (1 ≤ n.at) × (n.at ≤ length stack) →
      OrderlyStep (layer_at stack n.at) (goes_down n.dir n.kind) x → Comes s j y →
      IfMade (Comes (s + step_sends (bound_of stack f n) x) (j + step_joins x)) (trace_step layer (n.at - 1) x y)
  step_comes layer (test true e) y s j here o h = quiet y _ 0 0 0 y.names s j 0 h h.names (omega arith)
  step_comes layer (test false e) y s j here o h = quiet y _ 0 0 0 y.names s j 0 h h.names (omega arith)
  step_comes layer (fork First e) y s j here o h = quiet y _ 0 0 0 y.names s j 0 h h.names (omega arith)
  step_comes layer (fork Second e) y s j here o h = quiet y _ 0 0 0 y.names s j 0 h h.names (omega arith)
  step_comes layer (set_slot k e) y s j here o h = quiet y _ 1 0 0 _ s j 0 h (renumbered y.names _ h.names)
      (omega arith)
  step_comes layer (set_number c i e) y s j here o h = quiet y _ 0 0 0 y.names s j 0 h h.names (omega arith)
  step_comes layer (set_square c row column e) y s j here o h = quiet y _ 0 0 0 y.names s j 0 h h.names (omega arith)
  step_comes layer (put c i capacity row) y s j here o h = quiet y _ 0 _ 0 y.names s j (joins_in_row row) h h.names
      (omega (
        arith,
        sum_by-cons note_joins (check (room_in layer (n.at - 1) y.names c i capacity))
            (pushing (n.at - 1) y.names c i row.numbers y.made.notes (row_word (n.at - 1) y.names row)),
        pushing_joins (n.at - 1) y.names c i row.numbers y.made.notes row.message,
      ))
  step_comes layer (get c i taken) y s j here o h =
      quiet y _ 0 0 1 _ s j 0 h (refilled y.made.takes (items_of (form_at layer c)) taken y.names o h.names)
      (omega arith)
  step_comes layer (send e) y s j here o h = send_comes e.direction e.kind e.numbers e.content y s j here o h
  step_comes layer loop y s j here o h = tt

  pub steps_come : (layer : LayerTree) (xs : List Step) (y : Tracing) (s j : ℕ) → (1 ≤ n.at) × (n.at ≤ length stack) →
      AllByRecursion (OrderlyStep (layer_at stack n.at) (goes_down n.dir n.kind)) xs → Comes s j y →
      IfMade (Comes (s + priced (step_sends (bound_of stack f n)) xs) (j + priced step_joins xs))
      (trace_steps layer (n.at - 1) xs y)
  steps_come layer [] y s j here o h =
      record { names = h.names; each = h.each; sent = omega (arith, h.sent); joined = omega (arith, h.joined) }
  steps_come layer (x ∷ xs) y s j here o h =
      from_made (Comes (s + step_sends (bound_of stack f n) x) (j + step_joins x))
      (Comes (s + priced (step_sends (bound_of stack f n)) (x ∷ xs)) (j + priced step_joins (x ∷ xs)))
      (trace_steps layer (n.at - 1) xs) (trace_step layer (n.at - 1) x y) (step_comes layer x y s j here o.0 h)
      (λ z k. more_made
      (Comes (s + step_sends (bound_of stack f n) x + priced (step_sends (bound_of stack f n)) xs)
      (j + step_joins x + priced step_joins xs))
      (Comes (s + priced (step_sends (bound_of stack f n)) (x ∷ xs)) (j + priced step_joins (x ∷ xs)))
      (trace_steps layer (n.at - 1) xs z)
      (steps_come layer xs z (s + step_sends (bound_of stack f n) x) (j + step_joins x) here o.1 k)
      (λ w c. record {
        names = c.names;
        each = c.each;
        sent = omega (arith, c.sent);
        joined =
            omega (arith, c.joined);
      }))
