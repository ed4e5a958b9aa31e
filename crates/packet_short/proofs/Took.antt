-- How much is taken off the front of a short datagram, and where its body begins.
use Rattle.std.proofs.Common.{◌≡◌, ℕ, zero, suc, ◌+◌, ◌*◌, ◌≤◌, Bool, true, false, List, [], ◌∷◌, ◌++◌, Option, Some}
use Rattle.std.proofs.Common.{None, refl, sym, ap, ◌∙◌, subst, arith, length, append_assoc, length-append}
use Rattle.std.specs.Prelude.{Result, Ok, ok_or, option_and_then, option_map, ◌==◌, if◌then◌else◌}
use Rattle.msg_core.specs.Parts.{longest_body}
use Rattle.msg_core.specs.declared.message.Header.{Header}
use Rattle.msg_core.specs.declared.packet.Stray.{Stray}
use Rattle.msg_core.specs.declared.packet.Stray.TheVariants as cause
use Rattle.layer_mean.specs.Headers.{header_none, header_of_tag}
use Rattle.layer_mean.specs.Tree.{HeaderTree, LayerTree}
use Rattle.stack_mean.specs.Plan.{Plan}
use Rattle.packet_mean.specs.Reading.{Preamble, preamble, value_reader, option_reader, headers, number, plan_for}
use Rattle.packet_mean.specs.Received.{◌>>=◌, packet_of}
use Rattle.packet_mean.specs.Spelling.{full_form, preamble_bytes, AreBytes}
use Rattle.packet_mean.specs.declared.here.Here.{Here}
use Rattle.packet_laws.specs.Lengths.{IsWithinLimits}
use Rattle.packet_laws.proofs.Each.{Each, each_of_all, each_so}
use Rattle.packet_laws.proofs.Front.{front_read}
use Rattle.packet_laws.proofs.Numbers.{through, same_read}
use Rattle.packet_laws.proofs.Whole.{each_at}
use Rattle.packet_full.specs.Form.{form_of}
use Rattle.packet_full.specs.Steps.{contents, opened}
use Rattle.packet_full.proofs.Steps.{EndsIn, ends_in}
use Rattle.packet_full.proofs.Taken.{Ends, full_ends}
use Rattle.packet_short.specs.Dealing.{field, fields, header, done, dealing}
use Rattle.packet_short.proofs.Dealt.{dealt_at_once}
use Rattle.packet_short.proofs.Short.{named_is}

-- at most n bytes are before others
record After (n : ℕ) (bytes rest : List ℕ) : Type 0 where
  front : List ℕ
  is : bytes ≡ front ++ rest
  few : length front ≤ n

nothing : (n : ℕ) (bytes rest : List ℕ) → bytes ≡ rest → After n bytes rest
nothing n bytes rest is = record { front = []; is = is; few = omega arith }

further : (m n k : ℕ) (a b c : List ℕ) → m + n ≤ k → After m a b → After n b c → After k a c
further m n k a b c room first second = record {
  front = first.front ++ second.front;
  is = first.is ∙ ap (λ xs. first.front ++ xs) second.is ∙ sym (append_assoc first.front second.front c);
  few = let both = length-append first.front second.front in omega (arith, both, first.few, second.few);
}

number_took : (bytes : List ℕ) (n : ℕ) (rest : List ℕ) → number bytes ≡ Some (n, rest) → After 4 bytes rest
number_took (a ∷ b ∷ c ∷ d ∷ more) n rest is =
    record {
      front = a ∷ b ∷ c ∷ d ∷ [];
      is = ap (λ (q : ℕ × List ℕ). a ∷ b ∷ c ∷ d ∷ q.1) (same_read is);
      few =
          omega arith;
    }
number_took [] n rest is = absurd (cc is)
number_took (a ∷ []) n rest is = absurd (cc is)
number_took (a ∷ b ∷ []) n rest is = absurd (cc is)
number_took (a ∷ b ∷ c ∷ []) n rest is = absurd (cc is)

field_took : (p : Option ℕ) (bytes : List ℕ) (n : ℕ) (rest : List ℕ) → field p bytes ≡ Some (n, rest) →
    After 4 bytes rest
field_took (Some c) bytes n rest is = nothing 4 bytes rest (ap (λ (q : ℕ × List ℕ). q.1) (same_read is))
field_took None bytes n rest is = number_took bytes n rest is

fields_took : (k : ℕ) (ps : List (Option ℕ)) (bytes : List ℕ) (own : List ℕ × List (Option ℕ)) (rest : List ℕ) →
    fields k ps bytes ≡ Some (own, rest) → After (4 * k) bytes rest
fields_took zero ps bytes own rest is =
    nothing 0 bytes rest (ap (λ (q : (List ℕ × List (Option ℕ)) × List ℕ). q.1) (same_read is))
fields_took (suc k) [] bytes own rest is = absurd (cc is)
fields_took (suc k) (p ∷ ps) bytes own rest is =
    through _ (field p bytes) _ is (λ (n, r) one is_n. through _ (fields k ps r) _ is_n (λ (more, s) others is_s.
    let first = field_took p bytes n r one in
    let second = fields_took k ps r more s others in
    subst (λ (q : (List ℕ × List (Option ℕ)) × List ℕ). After (4 * suc k) bytes q.1) (same_read is_s)
    (further 4 (4 * k) (4 * suc k) bytes r s (omega arith) first second)))

-- the declared headers have few fields
abbrev Few : List LayerTree → Type 0
Few layers = Each (λ layer. Each (λ d. d.fields ≤ 4) layer.headers) layers

header_took : (layer : LayerTree) (place : ℕ) (tags : List ℕ) (ps : List (Option ℕ)) (bytes : List ℕ)
    (q : (Header × Bool) × (List ℕ × List (Option ℕ))) (rest : List ℕ) → Each (λ d. d.fields ≤ 4) layer.headers →
    header layer place tags ps bytes ≡ Some (q, rest) → After 16 bytes rest
header_took layer place [] ps bytes q rest few is = absurd (cc is)
header_took layer place (t ∷ ts) ps bytes q rest few is = go (header_of_tag layer t) refl is
  where
    go : (o : Option HeaderTree) → header_of_tag layer t ≡ o →
        option_and_then (λ read.
        option_and_then (λ r.
        value_reader ((record { layer = place; tag = t; fields = r.0.0 }, read.0.ends), (ts, r.0.1))
        r.1)
        (fields read.0.fields ps read.1)) (option_reader (option_map form_of o) bytes) ≡ Some (q, rest) →
        After 16 bytes rest
    go None at h = absurd (cc h)
    go (Some d) at h =
        through _ (fields d.fields ps bytes) _ h (λ (own, r) reads is_r.
        let small : d.fields ≤ 4 = each_at (λ d. d.fields ≤ 4) (header_none ∷ layer.headers) t d (omega arith, few) at
        in
        let took = fields_took d.fields ps bytes own r reads in
        subst (λ (z : ((Header × Bool) × (List ℕ × List (Option ℕ))) × List ℕ). After 16 bytes z.1) (same_read is_r)
        record { front = took.front; is = took.is; few = omega (arith, took.few, small) })

done_took : (n : ℕ) (tags : List ℕ) (ps : List (Option ℕ)) (bytes : List ℕ) (hs : List Header) (rest : List ℕ) →
    done tags ps bytes ≡ Some (hs, rest) → After n bytes rest
done_took n [] [] bytes hs rest is = nothing n bytes rest (ap (λ (q : List Header × List ℕ). q.1) (same_read is))
done_took n [] (p ∷ ps) bytes hs rest is = absurd (cc is)
done_took n (t ∷ ts) ps bytes hs rest is = absurd (cc is)

others_took : (ends : Bool) (above : List LayerTree) (place : ℕ) (tags : List ℕ) (ps : List (Option ℕ)) (bytes : List ℕ)
    (hs : List Header)
    (rest : List ℕ) → (if ends then done tags ps else dealing above place tags ps) bytes ≡ Some (hs, rest) →
    (dealing above place tags ps bytes ≡ Some (hs, rest) → After (16 * length above) bytes rest) →
    After (16 * length above) bytes rest
others_took true above place tags ps bytes hs rest is more = done_took (16 * length above) tags ps bytes hs rest is
others_took false above place tags ps bytes hs rest is more = more is

dealing_took : (layers : List LayerTree) (place : ℕ) (tags : List ℕ) (ps : List (Option ℕ)) (bytes : List ℕ)
    (hs : List Header)
    (rest : List ℕ) → Few layers → dealing layers place tags ps bytes ≡ Some (hs, rest) →
    After (16 * length layers) bytes rest
dealing_took [] place tags ps bytes hs rest few is = done_took 0 tags ps bytes hs rest is
dealing_took (layer ∷ above) place tags ps bytes hs rest few is =
    through _ (header layer place tags ps bytes) _ is (λ (((h, ends), (more, left)), r) first is_r.
    through _ ((if ends then done more left else dealing above (suc place) more left) r) _ is_r
    (λ (others, s) follow is_s.
    let one = header_took layer place tags ps bytes ((h, ends), (more, left)) r few.0 first in
    let two = others_took ends above (suc place) more left r others s follow
    (dealing_took above (suc place) more left r others s few.1) in
    subst (λ (q : List Header × List ℕ). After (16 * length (layer ∷ above)) bytes q.1) (same_read is_s)
    (further 16 (16 * length above) (16 * length (layer ∷ above)) bytes r s (omega arith) one two)))

-- what was read, where there was no cause
some_read : {A : Type 0} (o : Option A) (e : Stray) (x : A) → ok_or o e ≡ Ok x → o ≡ Some x
some_read (Some y) e x is = ap Some (cc is)
some_read None e x is = absurd (cc is)

-- the headers of a short datagram and the byte before them
abbrev reading_on : List LayerTree → Option (Option Plan × List ℕ) → Result (List Header × List ℕ) Stray
reading_on stack o = ok_or o cause.Plan >>= λ q. ok_or (headers stack q.0 q.1) cause.Chain

after_plan : (stack : List LayerTree) (k : ℕ) (more : List ℕ) (hs : List Header) (body : List ℕ) (o : Option Plan) →
    Few stack →
    reading_on stack (option_and_then (λ r. value_reader (Some r.0) r.1) (option_reader o more)) ≡ Ok (hs, body) →
    After (1 + 16 * length stack) (k ∷ more) body
after_plan stack k more hs body None few is = absurd (cc is)
after_plan stack k more hs body (Some plan) few is =
    let took = dealing_took stack 0 plan.tags plan.fields more hs body few
    (sym (dealt_at_once stack plan more) ∙ some_read (headers stack (Some plan) more) cause.Chain (hs, body) is) in
    record { front = k ∷ took.front; is = ap (λ xs. k ∷ xs) took.is; few = omega (arith, took.few) }

contents_took : (stack : List LayerTree) (plans : List Plan) (p : Preamble) (bytes : List ℕ) (hs : List Header)
    (body : List ℕ) →
    (p.form == full_form) ≡ false → Few stack → contents stack plans p bytes ≡ Ok (hs, body) →
    After (1 + 16 * length stack) bytes body
unfolding contents
contents_took stack plans p [] hs body short few is =
    let clash = subst (λ o. reading_on stack o ≡ Ok (hs, body)) (named_is plans p [] short) is in absurd (cc clash)
contents_took stack plans p (k ∷ more) hs body short few is =
    after_plan stack k more hs body (plan_for plans p.dest k) few
    (subst (λ o. reading_on stack o ≡ Ok (hs, body)) (named_is plans p (k ∷ more) short) is)

full_the_same : (stack : List LayerTree) (plans : List Plan) (p : Preamble) (bytes : List ℕ) →
    (p.form == full_form) ≡ true →
    contents stack plans p bytes ≡ contents stack [] p bytes
unfolding contents
full_the_same stack plans p bytes full = rw full refl

short_ends : (stack : List LayerTree) (bytes : List ℕ) (p : Preamble) (following body : List ℕ) → length stack ≤ 24 →
    AreBytes bytes →
    preamble bytes ≡ Some (p, following) → After (1 + 16 * length stack) following body → length body ≤ longest_body →
    Ends bytes body
short_ends stack bytes p following body limits small front took short =
    let read = front_read bytes p following (each_of_all _ bytes small) front in
    let start : List ℕ = preamble_bytes p.form (packet_of p [] []) ++ took.front in
    let whole : bytes ≡ start ++ body = read.spelled ∙ ap (λ xs. preamble_bytes p.form (packet_of p [] []) ++ xs)
    took.is
    ∙ sym (append_assoc (preamble_bytes p.form (packet_of p [] [])) took.front body) in
    let parts = length-append start body in
    let more = length-append (preamble_bytes p.form (packet_of p [] [])) took.front in
    let size : length bytes ≡ length (start ++ body) = ap length whole in
    record {
      ends = subst (λ bs. EndsIn bs body) (sym whole) (ends_in start body);
      following = record { less = omega (arith, size, parts); few = omega (arith, size, parts, more, took.few) };
    }

-- how a datagram of either form ends that isn't too long
pub any_ends : (stack : List LayerTree) (plans : List Plan) (here : Here) (bytes : List ℕ) (p : Preamble)
    (following : List ℕ)
    (hs : List Header) (body : List ℕ) → IsWithinLimits stack → AreBytes bytes → opened here bytes ≡ Ok (p, following) →
    preamble bytes ≡ Some (p, following) → contents stack plans p following ≡ Ok (hs, body) →
    length body ≤ longest_body →
    Ends bytes body
any_ends stack plans here bytes p following hs body limits small is front read short =
    by_form (p.form == full_form) refl
  where
    few : Few stack
    few = each_so _ _ (λ layer h. each_of_all _ layer.headers h) stack (each_of_all _ stack limits.fields)

    by_form : (full : Bool) → (p.form == full_form) ≡ full → Ends bytes body
    by_form true full = full_ends stack here bytes p following hs body limits small is
        (sym (full_the_same stack plans p following full) ∙ read) short
    by_form false full = short_ends stack bytes p following body limits.places small front
        (contents_took stack plans p following hs body full few read) short
