-- What enters a member begins with the task of its entry; and so a step gives what following the entry's trace
-- gives.
use Rattle.std.proofs.Common.{◌≡◌, ℕ, zero, suc, Bool, true, false, ◌&&◌, List, [], ◌∷◌, ◌++◌, map, length, take, drop}
use Rattle.std.proofs.Common.{Option, Some, None, MatchBool, refl, sym, ap, ◌∙◌, subst, arith}
use Rattle.std.specs.Prelude.{◌==◌, slice_get, get_or, option_map, bytes_eq}
use Rattle.std.specs.List.{flat_map}
use Rattle.std.specs.Option.{option_map_or, option_and_then}
use Rattle.std.proofs.lemmas.Bool.{and_parts, eqb-true}
use Rattle.std.proofs.lemmas.List.{append-nil, append_assoc, length-append}
use Rattle.std.proofs.lemmas.List.Quantifiers.{position-Some}
use Rattle.std.proofs.lemmas.Option.{slice_get-get_or}
use Rattle.std.proofs.lemmas.Slice.Eq.{bytes_eq-Decides}
use denote.Enum.Bare.{sameb, same_true}
use Rattle.msg_core.specs.declared.message.Header.{Header}
use Rattle.msg_core.specs.declared.packet.Packet.{Packet}
use Rattle.layer_words.specs.contracts.events.Kind as kind_row
use Rattle.layer_words.specs.declared.events.Dir.TheVariants.{Up}
use Rattle.layer_mean.specs.declared.run.Event.{Event}
use Rattle.layer_mean.specs.Event.{event_of}
use Rattle.layer_mean.specs.Headers.{header_of_tag}
use Rattle.layer_mean.specs.Tree.{HeaderTree, LayerTree}
use Rattle.layer_mean.specs.Queue.{Task, run}
use Rattle.packet_mean.specs.Chained.{IsChain}
use Rattle.packet_mean.specs.Plan.{kind_of, tags_of, fields_of, agree, variable, fits, least_fit}
use Rattle.packet_mean.specs.Spelling.{IsSpellable}
use Rattle.packet_mean.specs.declared.here.Here.{Here}
use Rattle.stack_mean.specs.Plan.{Plan}
use Rattle.stack_mean.specs.Shape as entry
use Rattle.run_mean.specs.Common.{plan_entry}
use Rattle.run_mean.specs.Member.{app_cast, app_send, app_leave, clock_tick, from_peer, first_task}
use Rattle.chain_laws.proofs.Lists.{there}
use Rattle.member_laws.proofs.Members.{first_tasks_are_chained}
use Rattle.stack_mean.specs.Acceptance.{weight_limit}
use Rattle.chain_laws.specs.Runs.{IsChainedTask}
use Rattle.trace_laws.specs.Right.{answer_for}
use Rattle.trace_mean.specs.Trace.{Atom}
use Rattle.trace_mean.specs.Fuse as fuse
use Rattle.trace_mean.specs.Fuse.{field_atoms, entry_chain, entry_task}
use Rattle.trace_laws.proofs.Later.{nth}
use Rattle.trace_laws.proofs.Law.{traces_are_right}
use Rattle.handler_laws.specs.Steps.{entry_fields, entry_input, input_of, EntriesBegin, StepsFollowTraces}
use Rattle.trace_mean.specs.Worth.{Input, Kept, nothing_kept, atom_at, header_at}

-- the numbers of a plan's packet
fields_worth : (i : Input) (u : Kept) (planned : List (Option ℕ)) (vs : List ℕ) (n : ℕ) (pre : List ℕ) →
    length pre ≡ n →
    i.fields ≡ pre ++ variable planned vs → agree planned vs ≡ true → map (atom_at i u) (field_atoms n planned) ≡ vs
fields_worth i u [] [] n pre long is agrees = refl
fields_worth i u [] (v ∷ vs) n pre long is agrees = absurd (cc agrees)
fields_worth i u (Some c ∷ planned) [] n pre long is agrees = absurd (cc agrees)
fields_worth i u (None ∷ planned) [] n pre long is agrees = absurd (cc agrees)
fields_worth i u (Some c ∷ planned) (v ∷ vs) n pre long is agrees =
    let parts = and_parts (v == c) (agree planned vs) agrees in
    λ t. sym (eqb-true v c parts.0) t ∷ fields_worth i u planned vs n pre long is parts.1 t
fields_worth i u (None ∷ planned) (v ∷ vs) n pre long is agrees =
    λ t. nth pre v 0 i.fields n long
    (record { more = variable planned vs; is = is ∙ sym (append_assoc pre (v ∷ []) (variable planned vs)) }) t
    ∷ fields_worth i u planned vs (suc n) (pre ++ v ∷ []) (length-append pre (v ∷ []) ∙ omega (arith, long))
    (is ∙ sym (append_assoc pre (v ∷ []) (variable planned vs))) agrees t

-- the first of two lists, and the second
take_first : {A : Type 0} (xs ys : List A) (n : ℕ) → length xs ≡ n → take n (xs ++ ys) ≡ xs
take_first [] ys zero long = refl
take_first [] ys (suc n) long = absurd (omega (arith, long))
take_first (x ∷ xs) ys zero long = absurd (omega (arith, long))
take_first (x ∷ xs) ys (suc n) long = ap (λ zs. x ∷ zs) (take_first xs ys n (omega (arith, long)))

drop_first : {A : Type 0} (xs ys : List A) (n : ℕ) → length xs ≡ n → drop n (xs ++ ys) ≡ ys
drop_first [] ys zero long = refl
drop_first [] ys (suc n) long = absurd (omega (arith, long))
drop_first (x ∷ xs) ys zero long = absurd (omega (arith, long))
drop_first (x ∷ xs) ys (suc n) long = drop_first xs ys n (omega (arith, long))

map_take : (f : Atom → ℕ) (n : ℕ) (xs : List Atom) → map f (take n xs) ≡ take n (map f xs)
map_take f zero xs = refl
map_take f (suc n) [] = refl
map_take f (suc n) (x ∷ xs) = ap (λ ys. f x ∷ ys) (map_take f n xs)

map_drop : (f : Atom → ℕ) (n : ℕ) (xs : List Atom) → map f (drop n xs) ≡ drop n (map f xs)
map_drop f zero xs = refl
map_drop f (suc n) [] = refl
map_drop f (suc n) (x ∷ xs) = map_drop f n xs

-- a chained message's headers are those of its entry
chain_worth : (i : Input) (u : Kept) (place : ℕ) (layers : List LayerTree) (headers : List Header) (atoms : List Atom) →
    IsChain layers place headers →
    map (atom_at i u) atoms ≡ flat_map (λ h. h.fields) headers →
    map (header_at i u) (entry_chain place layers (map (λ h. h.tag) headers) atoms) ≡ headers
chain_worth i u place [] [] atoms chain same = refl
chain_worth i u place [] (h ∷ hs) atoms chain same = absurd (cc chain)
chain_worth i u place (layer ∷ above) [] atoms chain same = absurd chain
chain_worth i u place (layer ∷ above) (h ∷ hs) atoms chain same =
    there (header_of_tag layer h.tag) _ chain (λ d listed is. one d listed is
    (λ inner. chain_worth i u (suc place) above hs (drop (fuse.fields_of layer h.tag) atoms) inner
    (following d listed is.1))) where
      many : (d : HeaderTree) → header_of_tag layer h.tag ≡ Some d → length h.fields ≡ d.fields →
          length h.fields ≡ fuse.fields_of layer h.tag
      many d listed long = long ∙ ap (λ o. option_map_or (λ (x : HeaderTree). x.fields) o 0) (sym listed)

      following : (d : HeaderTree) → header_of_tag layer h.tag ≡ Some d → length h.fields ≡ d.fields →
          map (atom_at i u) (drop (fuse.fields_of layer h.tag) atoms) ≡ flat_map (λ h. h.fields) hs
      following d listed long = map_drop (atom_at i u) (fuse.fields_of layer h.tag) atoms ∙
          ap (drop (fuse.fields_of layer h.tag)) same
          ∙ drop_first h.fields (flat_map (λ h. h.fields) hs) (fuse.fields_of layer h.tag) (many d listed long)

      rest_is : (b : Bool) → MatchBool b (hs ≡ []) (IsChain above (suc place) hs) →
          (IsChain above (suc place) hs → map (header_at i u) (entry_chain (suc place) above (map (λ h. h.tag) hs)
          (drop (fuse.fields_of layer h.tag) atoms)) ≡ hs) →
          map (header_at i u) (entry_chain
          (suc place) above (map (λ h. h.tag) hs) (drop (fuse.fields_of layer h.tag) atoms)) ≡ hs
      rest_is true none inner = subst (λ zs. map (header_at i u) (entry_chain (suc place) above (map (λ h. h.tag) zs)
          (drop (fuse.fields_of layer h.tag) atoms)) ≡ zs)
          (sym none) refl
      rest_is false chain inner = inner chain

      one : (d : HeaderTree) → header_of_tag layer h.tag ≡ Some d → (h.layer ≡ place) × (length h.fields ≡ d.fields) ×
          MatchBool d.ends (hs ≡ [])
          (IsChain above (suc place) hs) →
          (IsChain above (suc place) hs → map (header_at i u) (entry_chain (suc place) above (map (λ h. h.tag) hs)
          (drop (fuse.fields_of layer h.tag) atoms)) ≡ hs) →
          map (header_at i u) (entry_chain place (layer ∷ above) (h.tag ∷ map (λ h. h.tag) hs) atoms) ≡ h ∷ hs
      one d listed is inner = λ t. record {
        layer = sym is.0 t;
        tag = h.tag;
        fields = (map_take (atom_at i u) (fuse.fields_of layer h.tag) atoms ∙
            ap (take (fuse.fields_of layer h.tag)) same
            ∙ take_first h.fields (flat_map (λ h. h.fields) hs) (fuse.fields_of layer h.tag) (many d listed is.1)) t;
      } ∷ rest_is d.ends is.2 inner t

-- a packet's entry
packet_begins : (stack : List LayerTree) (here : Here) (plan : Plan) (p : Packet) → fits plan p ≡ true →
    IsSpellable stack p →
    entry_task stack (plan_entry plan) plan.fields (input_of here plan.fields (from_peer p)) ≡
    first_task stack here.rank (from_peer p)
packet_begins stack here plan p fit spelled =
    let i = entry_input here p.sender (variable plan.fields (fields_of p.message)) p.message.body in
    let all = and_parts (sameb kind_row.the_type plan.kind (kind_of p.dest) && bytes_eq plan.tags (tags_of p.message))
    (agree plan.fields (fields_of p.message)) fit in
    let both = and_parts (sameb kind_row.the_type plan.kind (kind_of p.dest)) (bytes_eq plan.tags (tags_of p.message))
    all.0 in
    let kinds : plan.kind ≡ kind_of p.dest = same_true kind_row.the_type tt plan.kind (kind_of p.dest) both.0 in
    let tags : plan.tags ≡ tags_of p.message = (bytes_eq-Decides plan.tags (tags_of p.message)).0 both.1 in
    let headers : map (header_at i nothing_kept) (entry_chain 0 stack plan.tags (field_atoms 0 plan.fields)) ++ [] ≡
    p.message.headers =
    append-nil (map (header_at i nothing_kept) (entry_chain 0 stack plan.tags (field_atoms 0 plan.fields)))
    ∙ ap (λ ts. map (header_at i nothing_kept) (entry_chain 0 stack ts (field_atoms 0 plan.fields))) tags
    ∙ chain_worth i nothing_kept 0 stack p.message.headers (field_atoms 0 plan.fields) spelled.chained.chain
    (fields_worth i nothing_kept plan.fields (fields_of p.message) 0 [] refl refl all.1) in
    λ t. record {
      at = 1;
      dir = Up;
      event = event_of (kinds t) (p.sender ∷ []) (Some (record { headers = headers t; body = p.message.body }));
    }

some_once : {A : Type 0} (x y : A) → Some x ≡ Some y → x ≡ y
some_once x y is = cc

pub entries_begin : EntriesBegin
entries_begin stack plans here (app_cast body) k is inside =
    let same : entry.app_cast ≡ k = cc in
    subst (λ x. entry_task stack x [] (entry_input here here.rank [] body) ≡ first_task stack here.rank (app_cast body))
    same
    refl
entries_begin stack plans here (app_send to body) k is inside =
    let same : entry.app_send ≡ k = cc in
    subst (λ x. entry_task stack x [] (entry_input here to [] body) ≡ first_task stack here.rank (app_send to body))
    same refl
entries_begin stack plans here app_leave k is inside = absurd (cc is)
entries_begin stack plans here (clock_tick moment) k is inside = absurd (cc is)
entries_begin stack plans here (from_peer p) k is inside = found (least_fit plans p) refl is where
  planned : (n : ℕ) (plan : Plan) → least_fit plans p ≡ Some n → slice_get plans n ≡ Some plan → fits plan p ≡ true
  planned n plan fit at =
      let first = position-Some (λ x. fits x p) plans n plan fit in
      let same : get_or plans n plan ≡ plan =
      some_once (get_or plans n plan) plan (sym (slice_get-get_or plans n plan first.0) ∙ at) in
      subst (λ x. fits x p ≡ true) same first.1

  listed : (n : ℕ) → least_fit plans p ≡ Some n → (o : Option Plan) → slice_get plans n ≡ o →
      option_map plan_entry o ≡ Some k →
      let fields = option_map_or (λ (plan : Plan). plan.fields) o [] in
      entry_task stack k fields (input_of here fields (from_peer p)) ≡ first_task stack here.rank (from_peer p)
  listed n fit None at is = absurd (cc is)
  listed n fit (Some plan) at is =
      subst (λ x. entry_task stack x plan.fields (input_of here plan.fields (from_peer p)) ≡
      first_task stack here.rank (from_peer p))
      (some_once (plan_entry plan) k is) (packet_begins stack here plan p (planned n plan fit at) inside)

  found : (o : Option ℕ) → least_fit plans p ≡ o → option_and_then (λ n. option_map plan_entry (slice_get plans n)) o ≡
      Some k →
      let fields = option_map_or (λ (plan : Plan). plan.fields) (option_and_then (λ n. slice_get plans n) o) [] in
      entry_task stack k fields (input_of here fields (from_peer p)) ≡ first_task stack here.rank (from_peer p)
  found None fit is = absurd (cc is)
  found (Some n) fit is = listed n fit (slice_get plans n) refl is

pub steps_follow_traces : StepsFollowTraces
steps_follow_traces case stack plans here id states what k operations step are enters made =
    let fields = entry_fields plans what in
    let i = input_of here fields what in
    let first : Task Event = first_task stack here.rank what in
    let begins : entry_task stack k fields i ≡ first = entries_begin stack plans here what k enters step.input in
    let chained : IsChainedTask stack first = first_tasks_are_chained stack here.rank what (omega (arith, step.at.rank))
    step.input in
    let right = traces_are_right case stack k fields operations i states made (record {
      typed = step.typed;
      of = are;
      states_are = step.states_are;
      task = subst (IsChainedTask stack) (sym begins) chained;
    }) in record {
      answer = right.answer ∙ ap (λ t. answer_for case (run weight_limit stack states t).world) begins;
      safe = right.safe;
    }
