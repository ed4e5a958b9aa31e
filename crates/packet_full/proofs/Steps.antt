-- A datagram is what its three steps read.
use Rattle.std.proofs.Common.{◌≡◌, ℕ, ◌-◌, ◌<◌, ◌≤◌, Bool, true, false, List, ◌++◌, Option, Some, None, refl, sym, ap}
use Rattle.std.proofs.Common.{◌∙◌, subst, arith, length, drop, length-append}
use Rattle.std.specs.Prelude.{Result, Ok, Err, ok_or, nat_le, ◌==◌, ◌||◌}
use Rattle.std.proofs.lemmas.Bool.{le-leb, leb-true}
use Rattle.std.proofs.lemmas.List.{drop_at}
use Rattle.msg_core.specs.Parts.{longest_body}
use Rattle.msg_core.specs.declared.message.Header.{Header}
use Rattle.msg_core.specs.declared.packet.Packet.{Packet}
use Rattle.msg_core.specs.declared.packet.Stray.{Stray}
use Rattle.msg_core.specs.declared.packet.Stray.TheVariants as cause
use Rattle.layer_mean.specs.Tree.{LayerTree}
use Rattle.stack_mean.specs.Plan.{Plan}
use Rattle.packet_mean.specs.Reading as reading
use Rattle.packet_mean.specs.Reading.{preamble, named_plan, headers}
use Rattle.packet_mean.specs.Received.{◌>>=◌, unless, meant_for, packet_of, received}
use Rattle.packet_mean.specs.Spelling.{full_form, short_form}
use Rattle.packet_mean.specs.declared.here.Here.{Here}
use Rattle.packet_full.specs.declared.front.Preamble.{Preamble}
use Rattle.packet_full.specs.declared.scan.Scan.{Scan}
use Rattle.packet_full.specs.Steps.{Closes, opened, contents, closed}
use Rattle.packet_full.specs.Scanned.{Scans, packet_scanned}
use Rattle.packet_full.specs.Taking.{IsOwn, preamble_tree}

-- the headers and the body after a preamble
abbrev inside : List LayerTree → List Plan → reading.Preamble × List ℕ → Result Packet Stray
inside stack plans q = contents stack plans q.0 q.1 >>= closed q.0

-- steps are joined in either way
joined : {A B C : Type 0} (r : Result A Stray) (f : A → Result B Stray) (g : B → Result C Stray) →
    (r >>= λ x. f x >>= g) ≡ ((r >>= f) >>= g)
joined (Ok x) f g = refl
joined (Err e) f g = refl

after_plan : (o : Option (List Header × List ℕ)) (p : reading.Preamble) →
    (ok_or o cause.Chain >>= λ (headers, body). unless (nat_le (length body) longest_body) cause.Body >>= λ _.
    Ok (packet_of p headers body))
    ≡ (ok_or o cause.Chain >>= closed p)
unfolding closed
after_plan (Some (hs, body)) p = refl
after_plan None p = refl

after_front : (stack : List LayerTree) (p : reading.Preamble) (o : Option (Option Plan × List ℕ)) →
    (ok_or o cause.Plan >>= λ (plan, following). ok_or (headers stack plan following) cause.Chain >>= λ (headers, body).
    unless (nat_le (length body) longest_body) cause.Body >>= λ _. Ok (packet_of p headers body))
    ≡ ((ok_or o cause.Plan >>= λ (plan, following). ok_or (headers stack plan following) cause.Chain) >>= closed p)
after_front stack p (Some (plan, following)) = after_plan (headers stack plan following) p
after_front stack p None = refl

after_all : (stack : List LayerTree) (plans : List Plan) (here : Here) (o : Option (reading.Preamble × List ℕ)) →
    (ok_or o cause.Short >>= λ (p, following). unless ((p.form == full_form) || (p.form == short_form)) cause.Form >>=
    λ _.
    meant_for here p >>= λ _.
    ok_or (named_plan plans p following) cause.Plan >>= λ (plan, following).
    ok_or (headers stack plan following) cause.Chain >>=
    λ (headers, body).
    unless (nat_le (length body) longest_body) cause.Body >>= λ _. Ok (packet_of p headers body))
    ≡ ((ok_or o cause.Short >>= λ (p, following). unless ((p.form == full_form) || (p.form == short_form)) cause.Form
    >>=
    λ _. meant_for here p >>= λ _.
    Ok (p, following)) >>= inside stack plans)
unfolding contents
after_all stack plans here None = refl
after_all stack plans here (Some (p, following)) = by_form ((p.form == full_form) || (p.form == short_form))
    (meant_for here p)
  where
    by_form : (form : Bool) (meant : Result (Unit {0}) Stray) →
        (unless form cause.Form >>= λ _. meant >>= λ _.
        ok_or (named_plan plans p following) cause.Plan >>= λ (plan, following).
        ok_or (headers stack plan following) cause.Chain
        >>= λ (headers, body).
        unless (nat_le (length body) longest_body) cause.Body >>= λ _. Ok (packet_of p headers body))
        ≡ ((unless form cause.Form >>= λ _. meant >>= λ _. Ok (p, following)) >>= inside stack plans)
    by_form false meant = refl
    by_form true (Err e) = refl
    by_form true (Ok x) = after_front stack p (named_plan plans p following)

pub in_steps : (stack : List LayerTree) (plans : List Plan) (here : Here) (bytes : List ℕ) →
    received stack plans here bytes ≡ (opened here bytes >>= inside stack plans)
unfolding received opened
in_steps stack plans here bytes = after_all stack plans here (preamble bytes)

-- a datagram that isn't opened is refused
pub not_opened : (stack : List LayerTree) (plans : List Plan) (here : Here) (bytes : List ℕ) (e : Stray) →
    opened here bytes ≡ Err e →
    received stack plans here bytes ≡ Err e
not_opened stack plans here bytes e is = in_steps stack plans here bytes ∙ ap (λ r. r >>= inside stack plans) is

-- one that is opened is received as its headers and body are read
pub after_opened : (stack : List LayerTree) (plans : List Plan) (here : Here) (bytes : List ℕ) (p : reading.Preamble)
    (following : List ℕ) →
    opened here bytes ≡ Ok (p, following) → received stack plans here bytes ≡
    (contents stack plans p following >>= closed p)
after_opened stack plans here bytes p following is = in_steps stack plans here bytes ∙
    ap (λ r. r >>= inside stack plans) is

-- one whose headers aren't read is refused
pub not_contents : (stack : List LayerTree) (plans : List Plan) (here : Here) (bytes : List ℕ) (p : reading.Preamble)
    (following : List ℕ)
    (e : Stray) → opened here bytes ≡ Ok (p, following) → contents stack plans p following ≡ Err e →
    received stack plans here bytes ≡ Err e
not_contents stack plans here bytes p following e is none =
    after_opened stack plans here bytes p following is ∙ ap (λ r. r >>= closed p) none

-- bytes end in a body, which is after a place
pub record EndsIn (bytes body : List ℕ) : Type 0 where
  pub at : drop (length bytes - length body) bytes ≡ body
  pub less : length body ≤ length bytes

pub ends_in : (front body : List ℕ) → EndsIn (front ++ body) body
ends_in front body =
    let both = length-append front body in
    record { at = drop_at front body (length (front ++ body) - length body) (omega arith); less = omega arith }

not_leb : (a b : ℕ) (le : Bool) → nat_le a b ≡ le → b < a → le ≡ false
not_leb a b true is more = let less = leb-true a b is in absurd (omega arith)
not_leb a b false is more = refl

-- one whose headers are read is taken or refused by the length of its body
pub closed_scan : (stack : List LayerTree) (plans : List Plan) (here : Here) (bytes : List ℕ) (front : Preamble)
    (following : List ℕ)
    (hs : List Header) (body : List ℕ) (result : Result (Unit {0}) Stray) (scan : Scan) →
    opened here bytes ≡ Ok (preamble_tree front, following) →
    IsOwn here front → contents stack plans (preamble_tree front) following ≡ Ok (hs, body) →
    (length body ≤ longest_body → EndsIn bytes body) → Closes bytes front hs body result scan →
    Scans here bytes (received stack plans here bytes) result scan
unfolding closed
closed_scan stack plans here bytes front following hs body (Ok x) scan is own read ends (short, tells) =
    subst (λ s. received stack plans here bytes ≡ Ok (packet_scanned here bytes s)) (sym tells)
    (after_opened stack plans here bytes (preamble_tree front) following is
    ∙ ap (λ r. r >>= closed (preamble_tree front)) read
    ∙ ap (λ b. unless b cause.Body >>= λ _. Ok (packet_of (preamble_tree front) hs body))
    (le-leb (length body) longest_body short)
    ∙ (λ k. Ok (record {
      group = own.group k;
      stamp = own.stamp k;
      view = own.view k;
      sender = front.sender;
      dest = front.dest;
      message = record { headers = hs; body = sym (ends short).at k };
    })))
closed_scan stack plans here bytes front following hs body (Err e) scan is own read ends (long, tells) =
    after_opened stack plans here bytes (preamble_tree front) following is
    ∙ ap (λ r. r >>= closed (preamble_tree front)) read
    ∙ ap (λ b. unless b cause.Body >>= λ _. Ok (packet_of (preamble_tree front) hs body))
    (not_leb (length body) longest_body (nat_le (length body) longest_body) refl long)
    ∙ ap Err (sym tells)

-- where its body begins
pub place_within : (bytes : List ℕ) (front : Preamble) (hs : List Header) (body : List ℕ) (x : Unit {0}) (scan : Scan) →
    Closes bytes front hs body (Ok x) scan →
    scan.body ≤ length bytes
place_within bytes front hs body x scan (short, tells) = subst (λ (s : Scan). s.body ≤ length bytes) (sym tells)
    (omega arith)
