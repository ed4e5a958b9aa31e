-- A packet that is spelled is read again, and what was read was spelled.
use Rattle.std.proofs.Common.{◌≡◌, ℕ, zero, suc, ◌<◌, ◌≤◌, Bool, true, false, ◌⊎◌, inl, inr, List, [], ◌∷◌, ◌++◌}
use Rattle.std.proofs.Common.{Option, Some, None, refl, sym, ap, ◌∙◌, subst}
use Rattle.std.specs.Prelude.{length, flat_map, slice_get, ◌==◌, ◌&&◌, ◌||◌, bytes_eq, if◌then◌else◌}
use Rattle.std.proofs.lemmas.Bool.{eqb-true}
use Rattle.std.proofs.lemmas.List.{append-nil}
use Rattle.std.proofs.lemmas.Slice.Eq.{bytes_eq-Decides}
use denote.Enum.Bare.{sameb}
use Rattle.msg_core.specs.Parts.{longest_body}
use Rattle.msg_core.specs.declared.message.Header.{Header}
use Rattle.msg_core.specs.declared.packet.Packet.{Packet}
use Rattle.layer_words.specs.contracts.events.Kind as kind_row
use Rattle.layer_mean.specs.Tree.{LayerTree}
use Rattle.packet_mean.specs.Chained.{IsChain}
use Rattle.packet_mean.specs.Plan.{kind_of, agree, variable, variable_fields, fits}
use Rattle.stack_mean.specs.Plan.{Plan}
use Rattle.packet_mean.specs.Reading as reading
use Rattle.packet_mean.specs.Reading.{Preamble, preamble_of, byte, value_reader, option_reader, plan_for, named_plan}
use Rattle.packet_mean.specs.Reading.{planned_fields, dealt}
use Rattle.packet_mean.specs.Reading.{whole, headers}
use Rattle.packet_mean.specs.Received.{packet_of}
use Rattle.packet_mean.specs.Spelling.{full_form, short_form, number_bytes, preamble_bytes, full_bytes, short_bytes}
use Rattle.packet_mean.specs.Spelling.{IsSpellable, SpellsShort, SpellsPacket}
use Rattle.packet_laws.proofs.Chains.{written, chain_back, chain_read}
use Rattle.packet_laws.proofs.Each.{Each, Bytes, each_of_all, all_of_each, each_piece, each_pieces, each_so, Numbers}
use Rattle.packet_laws.proofs.Front.{front_back, FrontRead, front_read}
use Rattle.packet_laws.proofs.Numbers.{through, through_known, same_read}
use Rattle.packet_laws.proofs.Planned.{both, tags, fields, Constants, planned_back, planned_read, dealt_back}
use Rattle.packet_laws.proofs.Planned.{dealt_read, passed}

-- how bytes are read as a packet, step by step
pub record IsRead (stack : List LayerTree) (plans : List Plan) (bytes : List ℕ) (p : Packet) : Type 0 where
  pub form : ℕ
  pub is_form : ((form == full_form) || (form == short_form)) ≡ true
  pub following : List ℕ
  pub front : reading.preamble bytes ≡ Some (preamble_of form p, following)
  pub plan : Option Plan
  pub rest : List ℕ
  pub named : named_plan plans (preamble_of form p) following ≡ Some (plan, rest)
  pub contents : headers stack plan rest ≡ Some (p.message.headers, p.message.body)

number_fields : (hs : List Header) → Each (λ h. Numbers h.fields) hs → Numbers (fields hs)
number_fields hs h = each_pieces (λ n. n < 4294967296) (λ h. h.fields) hs h

fields_of_spellable : (stack : List LayerTree) (p : Packet) → IsSpellable stack p →
    Each (λ h. Numbers h.fields) p.message.headers
fields_of_spellable stack p is =
    each_so _ _ (λ h numbers. each_of_all _ h.fields numbers) p.message.headers
    (each_of_all _ p.message.headers is.fields)

full_read : (stack : List LayerTree) (plans : List Plan) (p : Packet) → IsSpellable stack p →
    IsRead stack plans (full_bytes p) p
full_read stack plans p is = record {
  form = full_form;
  is_form = refl;
  following = written p.message.headers ++ p.message.body;
  front = front_back stack full_form p (written p.message.headers ++ p.message.body) is;
  plan = None;
  rest = written p.message.headers ++ p.message.body;
  named = refl;
  contents = chain_back stack 0 p.message.headers p.message.body is.chained.chain (fields_of_spellable stack p is);
}

dealt_whole : (layers : List LayerTree) (hs : List Header) → IsChain layers 0 hs →
    whole (dealt layers 0 (tags hs) (fields hs)) ≡ Some hs
dealt_whole layers hs is =
    ap whole (ap (dealt layers 0 (tags hs)) (sym (append-nil (fields hs))) ∙ dealt_back layers 0 hs [] is)

short_read : (stack : List LayerTree) (plans : List Plan) (p : Packet) (k : ℕ) (plan : Plan) → IsSpellable stack p →
    slice_get plans k ≡ Some plan → fits plan p ≡ true → IsRead stack plans (short_bytes k plan p) p
short_read stack plans p k plan is listed fitting =
    let split = both (sameb kind_row.the_type plan.kind (kind_of p.dest) && bytes_eq plan.tags (tags p.message.headers))
    (agree plan.fields (fields p.message.headers)) fitting in
    let names = both (sameb kind_row.the_type plan.kind (kind_of p.dest)) (bytes_eq plan.tags (tags p.message.headers))
    split.0 in
    let tagged = (bytes_eq-Decides plan.tags (tags p.message.headers)).0 names.1 in
    let numbers = number_fields p.message.headers (fields_of_spellable stack p is) in
    let rest = flat_map number_bytes (variable_fields plan p) ++ p.message.body in
    record {
      form = short_form;
      is_form = refl;
      following = k ∷ rest;
      front = front_back stack short_form p (k ∷ rest) is;
      plan = Some plan;
      rest = rest;
      named = rw (listed, names.0) refl;
      contents = rw (
        planned_back plan.fields (fields p.message.headers) p.message.body split.1 numbers,
        tagged,
        dealt_whole stack p.message.headers is.chained.chain,
      ) refl;
    }

either_read : (stack : List LayerTree) (plans : List Plan) (bytes : List ℕ) (p : Packet) → IsSpellable stack p →
    (bytes ≡ full_bytes p) ⊎ SpellsShort plans bytes p → IsRead stack plans bytes p
either_read stack plans bytes p is (inl full) =
    subst (λ bs. IsRead stack plans bs p) (sym full) (full_read stack plans p is)
either_read stack plans bytes p is (inr short) =
    subst (λ bs. IsRead stack plans bs p) (sym short.spelled)
    (short_read stack plans p short.number short.plan is short.listed short.fitting)

pub spelled_read : (stack : List LayerTree) (plans : List Plan) (bytes : List ℕ) (p : Packet) →
    SpellsPacket stack plans bytes p →
    IsRead stack plans bytes p
spelled_read stack plans bytes p is = either_read stack plans bytes p is.spellable is.spelled

-- the two ways in which a plan is named, or none is
named_read : (C : Option Plan → List ℕ → Type 0) (plans : List Plan) (f : Preamble) (following : List ℕ)
    (plan : Option Plan) (rest : List ℕ)
    (full : Bool) → (f.form == full_form) ≡ full → (full || (f.form == short_form)) ≡ true →
    (if full then value_reader None else reading.◌>>=◌ byte
    (λ k. reading.◌>>=◌ (option_reader (plan_for plans f.dest k)) (λ p. value_reader (Some p)))) following
    ≡ Some (plan, rest) →
    (f.form ≡ full_form → C None following) →
    ((k : ℕ) (p : Plan) (more : List ℕ) → f.form ≡ short_form → following ≡ k ∷ more → slice_get plans k ≡ Some p →
    sameb kind_row.the_type p.kind (kind_of f.dest) ≡ true → C (Some p) more) →
    C plan rest
named_read C plans f following plan rest true is either read in_full in_short =
    subst (λ q. C q.0 q.1) (same_read read) (in_full (eqb-true f.form full_form is))
named_read C plans f [] plan rest false is either read in_full in_short = absurd (cc read)
named_read C plans f (k ∷ more) plan rest false is either read in_full in_short =
    through_known _ (plan_for plans f.dest k) more _ read (λ p planned_p gives.
    through _ (slice_get plans k) _ planned_p (λ q listed passes.
    let test = passed (sameb kind_row.the_type q.kind (kind_of f.dest)) q p passes in
    subst (λ q. C q.0 q.1) (same_read gives)
    (subst (λ q. C (Some q) more) test.1 (in_short k q more (eqb-true f.form short_form either) refl listed test.0))))

known_read : {A : Type 0} (o : Option A) (bytes : List ℕ) (x : A) (rest : List ℕ) →
    option_reader o bytes ≡ Some (x, rest) →
    (o ≡ Some x) × (bytes ≡ rest)
known_read None bytes x rest is = absurd (cc is)
known_read (Some y) bytes x rest is = let same = same_read is in (ap (λ q. Some q.0) same, ap (λ q. q.1) same)

whole_read : {A : Type 0} (o : Option (A × List ℕ)) (x : A) → whole o ≡ Some x → o ≡ Some (x, [])
whole_read (Some (y, [])) x is = ap (λ z. Some (z, [])) (same_read is)
whole_read (Some (y, n ∷ ns)) x is = absurd (cc is)
whole_read None x is = absurd (cc is)

pub each_at : {A : Type 0} (P : A → Type 0) (xs : List A) (k : ℕ) (x : A) → Each P xs → slice_get xs k ≡ Some x → P x
each_at P [] k x h is = absurd (cc is)
each_at P (y ∷ ys) zero x h is = subst P (same_read is) h.0
each_at P (y ∷ ys) (suc k) x h is = each_at P ys k x h.1 is

pub passes : (a b : Bool) → a ≡ true → b ≡ true → (a && b) ≡ true
passes a b h i = rw (h, i) refl

-- what is in range where a preamble, headers and a body were read
spellable : (stack : List LayerTree) (bytes : List ℕ) (f : Preamble) (following : List ℕ) (hs : List Header)
    (body : List ℕ) →
    FrontRead bytes f following → IsChain stack 0 hs → Each (λ h. Numbers h.fields) hs → Bytes body →
    length body ≤ longest_body →
    IsSpellable stack (packet_of f hs body)
spellable stack bytes f following hs body front chained numbers small short = record {
  group = front.group;
  stamp = front.stamp;
  ltime = front.ltime;
  mask = front.mask;
  sender = front.sender;
  destination = front.destination;
  chained = record { chain = chained; body = short };
  fields = all_of_each _ hs (each_so _ _ (λ h ns. all_of_each _ h.fields ns) hs numbers);
  body = all_of_each _ body small;
}

full_spelled : (stack : List LayerTree) (plans : List Plan) (bytes : List ℕ) (f : Preamble) (following : List ℕ)
    (hs : List Header)
    (body : List ℕ) → FrontRead bytes f following → length body ≤ longest_body → f.form ≡ full_form →
    headers stack None following ≡ Some (hs, body) → SpellsPacket stack plans bytes (packet_of f hs body)
full_spelled stack plans bytes f following hs body front short form read =
    let chained = chain_read stack 0 following hs body front.following read in
    record {
      spellable = spellable stack bytes f following hs body front chained.chained chained.fields chained.following
          short;
      spelled = inl (front.spelled ∙ ap (λ n. preamble_bytes n (packet_of f [] []) ++ following) form
          ∙ ap (λ xs. preamble_bytes full_form (packet_of f [] []) ++ xs) chained.spelled);
    }

short_spelled : (stack : List LayerTree) (plans : List Plan) (bytes : List ℕ) (f : Preamble) (following : List ℕ)
    (hs : List Header)
    (body : List ℕ) → Each (λ p. Constants p.fields) plans → FrontRead bytes f following → length body ≤ longest_body →
    (k : ℕ) (p : Plan) (more : List ℕ) → f.form ≡ short_form → following ≡ k ∷ more → slice_get plans k ≡ Some p →
    sameb kind_row.the_type p.kind (kind_of f.dest) ≡ true → headers stack (Some p) more ≡ Some (hs, body) →
    SpellsPacket stack plans bytes (packet_of f hs body)
short_spelled stack plans bytes f following hs body constants front short k p more form at listed same read =
    through _ (planned_fields p.fields more) _ read (λ (ns, r) reads deals.
    let bs : Bytes (k ∷ more) = subst Bytes at front.following in
    let numbers = planned_read p.fields more ns r (each_at _ plans k p constants listed) bs.1 reads in
    let known_is = known_read (whole (dealt stack 0 p.tags ns)) r hs body deals in
    let dealt_is = dealt_read stack 0 p.tags ns hs [] (whole_read (dealt stack 0 p.tags ns) hs known_is.0) in
    let all : ns ≡ fields hs = dealt_is.collected ∙ append-nil (fields hs) in
    record {
      spellable = spellable stack bytes f following hs body front dealt_is.chained
          (each_piece _ (λ h. h.fields) hs (subst Numbers all numbers.small)) (subst Bytes known_is.1 numbers.following)
          short;
      spelled = inr record {
        number = k;
        plan = p;
        is_byte = bs.0;
        listed = listed;
        fitting = passes _ _ (passes _ _ same ((bytes_eq-Decides p.tags (tags hs)).1 (sym dealt_is.tagged)))
            (subst (λ xs. agree p.fields xs ≡ true) all numbers.agrees);
        spelled = front.spelled ∙ ap (λ n. preamble_bytes n (packet_of f [] []) ++ following) form
            ∙ ap (λ xs. preamble_bytes short_form (packet_of f [] []) ++ xs) (at ∙ ap (λ xs. k ∷ xs) (numbers.spelled
            ∙ (λ x. flat_map number_bytes (variable p.fields (all x)) ++ known_is.1 x)));
      };
    })

pub read_spelled : (stack : List LayerTree) (plans : List Plan) (bytes : List ℕ) (f : Preamble) (following : List ℕ)
    (plan : Option Plan)
    (rest : List ℕ) (hs : List Header) (body : List ℕ) → Each (λ p. Constants p.fields) plans → Bytes bytes →
    reading.preamble bytes ≡ Some (f, following) → ((f.form == full_form) || (f.form == short_form)) ≡ true →
    named_plan plans f following ≡ Some (plan, rest) → headers stack plan rest ≡ Some (hs, body) →
    length body ≤ longest_body →
    SpellsPacket stack plans bytes (packet_of f hs body)
read_spelled stack plans bytes f following plan rest hs body constants small front form named contents short =
    let front_is = front_read bytes f following small front in
    named_read (λ plan rest. headers stack plan rest ≡ Some (hs, body) →
    SpellsPacket stack plans bytes (packet_of f hs body))
    plans f following plan rest (f.form == full_form) refl form named
    (λ form_is. full_spelled stack plans bytes f following hs body front_is short form_is)
    (λ k p more form_is at listed same. short_spelled stack plans bytes f following hs body constants front_is short k p
    more form_is at
    listed same)
    contents
