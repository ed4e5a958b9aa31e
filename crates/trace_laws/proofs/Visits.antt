-- What following the operations of a predicted visit does is what the visit does.
use Rattle.std.proofs.Common.{◌≡◌, ℕ, zero, suc, ◌<◌, Bool, true, false, List, [], ◌∷◌, ◌++◌, map, length, Option, Some}
use Rattle.std.proofs.Common.{None, refl, sym, ap, ◌∙◌, subst}
use Rattle.std.specs.Prelude.{if◌then◌else◌, ◌==◌, slice_index, slice_index_or, slice_set, option_map, option_to_list}
use Rattle.std.specs.Prelude.{Result, Ok, Err}
use Rattle.std.proofs.Math.ListN.{get_or-map}
use Rattle.std.proofs.lemmas.List.{map-append, set-get_or}
use Rattle.msg_core.specs.Chain.{Content, plain, pushed, popped, first_of}
use Rattle.layer_words.specs.declared.events.Dir.{Dir}
use Rattle.layer_words.specs.declared.events.Dir.TheVariants.{Up, Down}
use Rattle.layer_words.specs.declared.events.Kind.{Kind}
use Rattle.layer_words.specs.declared.events.Kind.TheVariants as kind
use Rattle.layer_mean.specs.declared.run.Case.{Case}
use Rattle.layer_mean.specs.declared.run.Event.{Event}
use Rattle.layer_mean.specs.Event.{carries, event_of, arguments}
use Rattle.layer_mean.specs.Tree.{HandlerTree, LayerTree}
use Rattle.layer_mean.specs.State.{State}
use Rattle.layer_mean.specs.Effect.{unusual, Outcome, in_order, acts}
use Rattle.layer_mean.specs.Visit.{Met, following, met, handler_for, with_room, entered_scope, none_header, Visited}
use Rattle.layer_mean.specs.Visit.{sent_on}
use Rattle.layer_mean.specs.Visit.{unhandled_visit, expecting, handled_visit, step, no_state}
use Rattle.layer_mean.specs.Way.{Step, handler_way}
use Rattle.stack_mean.specs.NoShape.{NoShape, drawn_from}
use Rattle.stack_mean.specs.NoShape as no_shape
use Rattle.shape_laws.proofs.Predicted.{here, start}
use Rattle.trace_mean.specs.Trace.{Atom, Core, Link, Chained}
use Rattle.trace_mean.specs.Follow.{Trail, on, stopped_at}
use Rattle.trace_mean.specs.Scope.{no_number, no_message}
use Rattle.trace_mean.specs.Fuse.{TracedEvent, Made, Tracing, TracedVisit, TracedMet, popped_chain, traced_met}
use Rattle.trace_mean.specs.Fuse.{traced_on, traced_unhandled, traced_arguments, named_chain, traced_entered}
use Rattle.trace_mean.specs.Fuse.{traced_way}
use Rattle.trace_mean.specs.Fuse.{traced_handled, traced_visit, trace_steps}
use Rattle.trace_laws.specs.Along.{AlongWay, AlongHandled, AlongVisit}
use Rattle.trace_laws.specs.Fit.{FitStep}
use Rattle.trace_laws.specs.Members.{IsOf}
use Rattle.trace_laws.proofs.Walks.{Tally, all_of, missed_at, tally, told, Went, handler_goes}
use Rattle.trace_laws.proofs.Worth.{Apart, together, told_apart, no_apart, named_at, Plain}
use Rattle.trace_laws.proofs.Later.{Later, later_self}
use Rattle.trace_laws.proofs.Steps.{chained_at, shown_at, shown, sent_at, sent_shown, whole_again, shown_is, Stands}
use Rattle.trace_laws.proofs.Steps.{Claim}
use Rattle.trace_laws.proofs.Goes.{Start, Goes}
use Rattle.trace_laws.proofs.Ways.{way_came}
use Rattle.trace_mean.specs.Worth.{Input, Kept, atom_at, core_at, state_of, header_at, content_at}

-- a list with room
pub map_room : {A B : Type 0} (f : A → B) (n : ℕ) (x : A) (xs : List A) →
    map f (with_room n x xs) ≡ with_room n (f x) (map f xs)
map_room f zero x xs = refl
map_room f (suc n) x xs = map_room f n x (xs ++ x ∷ []) ∙ ap (with_room n (f x)) (map-append f xs (x ∷ []))

plain_more : (xs : List Apart) → Plain xs → Plain (xs ++ no_apart ∷ [])
plain_more [] h = (λ known. refl, tt)
plain_more (x ∷ xs) h = (h.0, plain_more xs h.1)

plain_room : (n : ℕ) (xs : List Apart) → Plain xs → Plain (with_room n no_apart xs)
plain_room zero xs h = h
plain_room (suc n) xs h = plain_room n (xs ++ no_apart ∷ []) (plain_more xs h)

own_plain : (m : Option Content) → Plain (option_to_list (option_map told_apart m))
own_plain None = tt
own_plain (Some m) = (λ known. refl, tt)

own_whole : (m : Option Content) → map together (option_to_list (option_map told_apart m)) ≡ option_to_list m
own_whole None = refl
own_whole (Some m) = λ r. whole_again m r ∷ []

own_named : (i : Input) (u : Kept) (m : Option Chained) →
    map (named_at i u) (option_to_list (option_map named_chain m)) ≡ option_to_list (option_map (chained_at i u) m)
own_named i u None = refl
own_named i u (Some m) = refl

-- the kind and the arguments of an event
kind_kept : (k : Kind) (ns : List ℕ) (m : Option Content) → (event_of k ns m).kind ≡ k
kind_kept k ns m = go (carries k) where
  go : (c : Bool) → let e : Event = if c then record { kind = k; peer = slice_index ns 0; a = 0; b = 0; message = m }
      else record {
        kind = k;
        peer = 0;
        a = slice_index ns 0;
        b = slice_index ns 1;
        message = m;
      } in e.kind ≡ k
  go true = refl
  go false = refl

abbrev of_kind : Bool → Kind → List ℕ → Option Content → Event
of_kind c k ns x = if c then record { kind = k; peer = slice_index ns 0; a = 0; b = 0; message = x } else record {
  kind = k;
  peer = 0;
  a = slice_index ns 0;
  b = slice_index ns 1;
  message = x;
}

with_message : (k : Kind) (ns : List ℕ) (m n : Option Content) →
    event_of k ns n ≡ record (event_of k ns m) { message = n }
with_message k ns m n = go (carries k) where
  go : (c : Bool) → of_kind c k ns n ≡ record (of_kind c k ns m) { message = n }
  go true = refl
  go false = refl

first_worth : (i : Input) (u : Kept) (k : ℕ) (ns : List Atom) → atom_at i u (slice_index_or ns k no_number) ≡
    slice_index (map (atom_at i u) ns) k
first_worth i u k ns = sym (get_or-map (atom_at i u) ns k no_number)

arguments_worth : (i : Input) (u : Kept) (k : Kind) (ns : List Atom) (m : Option Content) →
    map (atom_at i u) (traced_arguments k ns) ≡ arguments (event_of k (map (atom_at i u) ns) m)
arguments_worth i u kind.Cast ns m = λ r. first_worth i u 0 ns r ∷ []
arguments_worth i u kind.Send ns m = λ r. first_worth i u 0 ns r ∷ []
arguments_worth i u kind.Stable ns m = λ r. first_worth i u 0 ns r ∷ first_worth i u 1 ns r ∷ []
arguments_worth i u kind.Ack ns m = λ r. first_worth i u 0 ns r ∷ first_worth i u 1 ns r ∷ []
arguments_worth i u _ ns m = λ r. first_worth i u 0 ns r ∷ []

-- what is met
record MetSame (i : Input) (u : Kept) (d : TracedMet) (m : Met) : Type 0 where
  tag : d.tag ≡ m.tag
  fields : map (atom_at i u) d.fields ≡ m.fields
  message : option_map (chained_at i u) d.message ≡ option_map told_apart m.message

popped_same : (i : Input) (u : Kept) (c : Core) (chain : List Link) (bytes : List ℕ) → core_at i u c ≡ plain bytes →
    let m : Content = record { headers = map (header_at i u) chain; body = bytes } in
    MetSame i u (popped_chain c chain) (following (first_of m.headers) (popped m))
popped_same i u c [] bytes same = record {
  tag = refl;
  fields = refl;
  message = λ r. Some (record { known = true; headers = []; following = same r });
}
popped_same i u c (l ∷ ls) bytes same = record {
  tag = refl;
  fields = refl;
  message = λ r. Some (record { known = true; headers = map (header_at i u) ls; following = same r });
}

met_one : (i : Input) (u : Kept) (dir : Dir) (c : Chained) (m : Content) → chained_at i u c ≡ told_apart m →
    MetSame i u (traced_met dir (Some c)) (met dir (Some m))
met_one i u Up c m same =
    subst (λ (n : Content). MetSame i u (popped_chain c.core c.chain) (following (first_of n.headers) (popped n)))
    (λ r. record { headers = (same r).headers; body = m.body })
    (popped_same i u c.core c.chain m.body (ap (λ a. a.following) same))
met_one i u Down c m same = record { tag = refl; fields = refl; message = ap Some same }

met_same : (i : Input) (u : Kept) (dir : Dir) (c : Option Chained) (m : Option Content) →
    option_map (chained_at i u) c ≡ option_map told_apart m → MetSame i u (traced_met dir c) (met dir m)
met_same i u dir None None same = record { tag = refl; fields = refl; message = refl }
met_same i u dir (Some c) (Some m) same = met_one i u dir c m cc
met_same i u dir None (Some m) same = absurd (cc same)
met_same i u dir (Some c) None same = absurd (cc same)

-- an event that is worth another, whatever is kept later
abbrev pub Worth : Input → Kept → TracedEvent → Event → Type 0
Worth i k d e = (u : Kept) → Later k u → shown_at i u d ≡ shown e

-- a visit ended
pub record Ended (i : Input) (f : Start) (base : List State) (p : ℕ) (t : Trail) (d : TracedVisit) (s : State)
    (sent : List (Dir × Event))
    (n : ℕ) : Type 0 where
  pub trail : Trail
  pub is_on : Goes f.stack i d.made.operations f.followed (on trail)
  pub states : trail.states ≡ slice_set base p s
  pub of : IsOf i s
  pub binds : length trail.kept.numbers ≡ d.made.binds
  pub notes : length trail.kept.messages ≡ d.made.notes
  pub takes : length trail.kept.rows ≡ d.made.takes
  pub sent_are : (u : Kept) → Later trail.kept u → map (sent_at i u) d.sent ≡ map sent_shown sent
  pub later : Later t.kept trail.kept
  pub checks : trail.checks ≡ n
  pub outs : trail.outs ≡ t.outs

abbrev pub VisitClaim : (i : Input) (f : Start) (base : List State) (p : ℕ) (t : Trail) → Result TracedVisit NoShape →
    Tally → State → List (Dir × Event) →
    Type 0
VisitClaim i f base p t (Err reason) n s sent = Unit {0}
VisitClaim i f base p t (Ok d) (missed_at n) s sent = Goes f.stack i d.made.operations f.followed (stopped_at n)
VisitClaim i f base p t (Ok d) (all_of n) s sent = Ended i f base p t d s sent n

-- where a visit begins
pub record Begun (i : Input) (f : Start) (base : List State) (p : ℕ) (m : Made) (t : Trail) : Type 0 where
  pub is_on : Goes f.stack i m.operations f.followed (on t)
  pub states : t.states ≡ base
  pub of : IsOf i (state_of base p)
  pub binds : length t.kept.numbers ≡ m.binds
  pub notes : length t.kept.messages ≡ m.notes
  pub takes : length t.kept.rows ≡ m.takes

-- a missing handler
unhandled_came : (i : Input) (f : Start) (base : List State) (case : Case) (p : ℕ) (t : Trail) (m : Made)
    (d : TracedEvent) (e : Event) (dir : Dir) →
    ((c : Option Chained) (n : Option Content) →
    ((u : Kept) → Later t.kept u → option_map (chained_at i u) c ≡ option_map told_apart n) →
    Ended i f base p t (traced_on m dir d c) (state_of base p) ((dir, record e { message = n }) ∷ []) t.checks) →
    (tag : ℕ) (x : Met) (c : Option Chained) (n : Option Content) → tag ≡ x.tag →
    ((u : Kept) → Later t.kept u → option_map (chained_at i u) c ≡ option_map told_apart n) →
    let v = unhandled_visit p (state_of base p) dir e x n in
    VisitClaim i f base p t (traced_unhandled p m dir d tag c) (tally case v.decided t.checks) v.state v.sent
unhandled_came i f base case p t m d e dir passed tag x None None popped_tag same = passed None None same
unhandled_came i f base case p t m d e Down passed tag x (Some c) (Some n) popped_tag same =
    passed (Some (record c { chain = record { place = p; tag = 0; fields = [] } ∷ c.chain }))
    (Some (pushed (none_header p) n))
    (λ u later. fronted u (same u later)) where
      fronted : (u : Kept) → option_map (chained_at i u) (Some c) ≡ option_map told_apart (Some n) →
          Some (chained_at i u (record c { chain = record { place = p; tag = 0; fields = [] } ∷ c.chain })) ≡
          Some (told_apart (pushed (none_header p) n))
      fronted u is =
          let one : chained_at i u c ≡ told_apart n = cc in
          λ r. Some (record (one r) { headers = none_header p ∷ (one r).headers })
unhandled_came i f base case p t m d e Up passed tag x (Some c) (Some n) popped_tag same =
    subst (λ k. VisitClaim i f base p t (if k == 0 then Ok (traced_on m Up d (Some c)) else Err (no_shape.rare p))
    (tally case (unhandled_visit p (state_of base p) Up e x (Some n)).decided t.checks)
    (unhandled_visit p (state_of base p) Up e x (Some n)).state
    (unhandled_visit p (state_of base p) Up e x (Some n)).sent)
    (sym popped_tag) (go (x.tag == 0)) where
      go : (b : Bool) → let v : Visited = if b then sent_on (state_of base p) Up e
          (Some n) else record { state = state_of base p; sent = []; decided = unusual ∷ [] } in
          VisitClaim i f base p t (if b then Ok (traced_on m Up d (Some c)) else Err (no_shape.rare p))
          (tally case v.decided t.checks) v.state v.sent
      go true = passed (Some c) (Some n) same
      go false = tt
unhandled_came i f base case p t m d e dir passed tag x None (Some n) popped_tag same =
    absurd (cc (same t.kept (later_self t.kept)))
unhandled_came i f base case p t m d e dir passed tag x (Some c) None popped_tag same =
    absurd (cc (same t.kept (later_self t.kept)))

module _ (i : Input) (f : Start) (base : List State) (case : Case) (layer : LayerTree) (p : ℕ)
    (inside : p < length base) (m : Made) (t : Trail)
    (begun : Begun i f base p m t) (dir : Dir) (d : TracedEvent) (e : Event) (worth : Worth i t.kept d e) where
  s : State
  s = state_of base p

  same_states : t.states ≡ slice_set base p (state_of base p)
  same_states = begun.states ∙ sym (set-get_or base p no_state)

  now : shown_at i t.kept d ≡ shown e
  now = worth t.kept (later_self t.kept)

  same_kind : d.kind ≡ e.kind
  same_kind = sym (kind_kept d.kind (map (atom_at i t.kept) d.numbers) (option_map (content_at i t.kept) d.message)) ∙
      ap (λ x. x.0.kind) now

  -- an event that is sent on with another message
  passed : (c : Option Chained) (n : Option Content) →
      ((u : Kept) → Later t.kept u → option_map (chained_at i u) c ≡ option_map told_apart n) →
      Ended i f base p t (traced_on m dir d c) (state_of base p) ((dir, record e { message = n }) ∷ []) t.checks
  passed c n same = record {
    trail = t;
    is_on = begun.is_on;
    states = same_states;
    of = begun.of;
    binds = begun.binds;
    notes = begun.notes;
    takes = begun.takes;
    sent_are = λ u later. λ r. (
      dir,
      (shown_is i u (record d { message = c }) (map (atom_at i u) d.numbers) n refl (same u later)
          ∙ ap shown (with_message d.kind (map (atom_at i u) d.numbers) _ n ∙
          ap (λ x. record x.0 { message = n }) (worth u later))) r,
    ) ∷ [];
    later = later_self t.kept;
    checks = refl;
    outs = refl;
  }

  -- the way of a handler
  handler_came : (x : HandlerTree) (dm : TracedMet) (rm : Met) → ((u : Kept) → Later t.kept u → MetSame i u dm rm) →
      AlongWay (FitStep f.stack p layer) p (handler_way case x) (state_of base p) (entered_scope x e rm) →
      let v = handled_visit p (Some x) (state_of base p) dir e rm in
      VisitClaim i f base p t (traced_way layer p m (handler_way case x) (traced_entered x d dm))
      (tally case v.decided t.checks) v.state v.sent
  handler_came x dm rm same fit =
      go (handler_way case x) fit (handler_goes case p x (state_of base p) (entered_scope x e rm) t.checks) where
        o : Outcome
        o = expecting x.expected (state_of base p) (entered_scope x e rm)
            (in_order (acts p x.block) (state_of base p) (entered_scope x e rm))

        y : Tracing
        y = record { made = m; names = traced_entered x d dm; sent = [] }

        apart : List Apart
        apart = with_room x.messages no_apart (option_to_list (option_map told_apart rm.message))

        begins : Stands i f base layer p inside y t (start [] (state_of base p) (entered_scope x e rm))
        begins = record {
          is_on = begun.is_on;
          states = same_states;
          of = begun.of;
          binds = begun.binds;
          notes = begun.notes;
          takes = begun.takes;
          apart = apart;
          apart_is = map_room together x.messages no_apart (option_to_list (option_map told_apart rm.message))
              ∙ ap (with_room x.messages (plain [])) (own_whole rm.message);
          plain = plain_room x.messages _ (own_plain rm.message);
          scope = λ u later. λ r. record {
            numbers = (map_room (atom_at i u) x.numbers no_number _
                ∙ ap (with_room x.numbers 0) (map-append (atom_at i u) (traced_arguments d.kind d.numbers) dm.fields
                ∙ (λ q. (arguments_worth i u d.kind d.numbers _ ∙ ap (λ z. arguments z.0) (worth u later)) q ++
                (same u later).fields q))) r;
            messages = (map_room (named_at i u) x.messages no_message _
                ∙ ap (with_room x.messages no_apart)
                (own_named i u dm.message ∙ ap option_to_list (same u later).message)) r;
          };
          sent = λ u later. refl;
        }

        ended : (r : Result Tracing NoShape) (n : Tally) → Claim i f base layer p inside t r (told n (here [] o)) →
            VisitClaim i f base p t (drawn_from (λ z. Ok (record { made = z.made; sent = z.sent })) r) n o.state o.sent
        ended (Err reason) n claim = tt
        ended (Ok z) (missed_at n) claim = claim
        ended (Ok z) (all_of n) claim = record {
          trail = claim.trail;
          is_on = claim.stands.is_on;
          states = claim.stands.states;
          of = claim.stands.of;
          binds = claim.stands.binds;
          notes = claim.stands.notes;
          takes = claim.stands.takes;
          sent_are = claim.stands.sent;
          later = claim.later;
          checks = claim.checks;
          outs = claim.outs;
        }

        go : (w : Option (List Step)) →
            AlongWay (FitStep f.stack p layer) p w (state_of base p) (entered_scope x e rm) →
            Went case p w (state_of base p) (entered_scope x e rm) o t.checks →
            VisitClaim i f base p t (traced_way layer p m w (traced_entered x d dm)) (tally case o.decided t.checks)
            o.state o.sent
        go None fit went = tt
        go (Some steps) fit went = ended (trace_steps layer p steps y) (tally case o.decided t.checks)
            (subst (Claim i f base layer p inside t (trace_steps layer p steps y)) (sym went)
            (way_came i f base layer p inside steps y t (start [] (state_of base p) (entered_scope x e rm)) begins fit))

  handled_came : (x : Option HandlerTree) (dm : TracedMet) (rm : Met) →
      ((u : Kept) → Later t.kept u → MetSame i u dm rm) →
      AlongHandled (FitStep f.stack p layer) case p x (state_of base p) e rm →
      let v = handled_visit p x (state_of base p) dir e rm in
      VisitClaim i f base p t (traced_handled case layer p m x dir d dm) (tally case v.decided t.checks) v.state v.sent
  handled_came None dm rm same fit = unhandled_came i f base case p t m d e dir passed dm.tag rm dm.message rm.message
      (same t.kept (later_self t.kept)).tag (λ u later. (same u later).message)
  handled_came (Some x) dm rm same fit = handler_came x dm rm same fit

  pub visit_came : AlongVisit (FitStep f.stack p layer) case p layer (state_of base p) dir e →
      let v = step p layer (state_of base p) dir e in
      VisitClaim i f base p t (traced_visit case layer p m dir d) (tally case v.decided t.checks) v.state v.sent
  unfolding step
  visit_came fit =
      let same = λ (u : Kept) (later : Later t.kept u).
      met_same i u dir d.message e.message (ap (λ x. x.1) (worth u later)) in
      let chosen : handler_for layer dir e.kind (met dir e.message).tag ≡
      handler_for layer dir d.kind (traced_met dir d.message).tag =
      λ r. handler_for layer dir (sym same_kind r) (sym (same t.kept (later_self t.kept)).tag r) in
      let v = handled_visit p (handler_for layer dir e.kind (met dir e.message).tag) (state_of base p) dir e
      (met dir e.message) in
      subst (λ x. VisitClaim i f base p t (traced_handled case layer p m x dir d (traced_met dir d.message))
      (tally case v.decided t.checks) v.state v.sent)
      chosen (handled_came (handler_for layer dir e.kind (met dir e.message).tag) (traced_met dir d.message)
      (met dir e.message) same fit)
