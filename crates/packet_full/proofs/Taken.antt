-- What a full datagram is made of.
use Rattle.std.proofs.Common.{◌≡◌, ℕ, zero, suc, Fits, w8, get_or, ◌≤◌, true, ◌⊎◌, inl, inr, List, []}
use Rattle.std.proofs.Common.{◌∷◌, ◌++◌, Some, None, refl, sym, ap, ◌∙◌, subst, arith, length}
use Rattle.std.specs.Prelude.{Ok, Err, flat_map, ◌==◌}
use Rattle.std.proofs.lemmas.Bool.{le-leb}
use Rattle.msg_core.specs.Parts.{longest_body}
use Rattle.std.proofs.Math.Facts.{Fits-lt-pow}
use Rattle.msg_core.specs.declared.message.Header.{Header}
use Rattle.msg_core.specs.declared.packet.Packet.{Packet}
use Rattle.msg_core.specs.declared.packet.Stray.TheVariants as cause
use Rattle.layer_mean.specs.Tree.{LayerTree}
use Rattle.stack_mean.specs.Plan.{Plan}
use Rattle.packet_mean.specs.Reading.{Preamble, chain}
use Rattle.packet_mean.specs.Received.{◌>>=◌, unless, packet_of}
use Rattle.packet_mean.specs.Spelling.{full_form, full_bytes, preamble_bytes, header_bytes, AreBytes}
use Rattle.packet_mean.specs.Spelling.{SpellsShort}
use Rattle.packet_mean.specs.declared.here.Here.{Here}
use Rattle.packet_laws.specs.Lengths.{IsWithinLimits}
use Rattle.packet_laws.proofs.Lengths.{datagrams_fit}
use Rattle.packet_laws.proofs.Strays.{taken_as_spelled}
use Rattle.packet_full.specs.Steps.{closed, contents, opened}
use Rattle.packet_full.specs.Scanned.{IsAfter}
use Rattle.packet_full.proofs.Steps.{EndsIn, after_opened, ends_in}

in_full : (bytes : List ℕ) (q : Packet) → (bytes ≡ full_bytes q) ⊎ SpellsShort [] bytes q → EndsIn bytes q.message.body
in_full bytes q (inl full) =
    subst (λ bs. EndsIn bs q.message.body) (sym full)
    (ends_in (preamble_bytes full_form q ++ flat_map header_bytes q.message.headers) q.message.body)
in_full bytes q (inr short) = absurd (cc short.listed)

-- bytes by their type
pub are_bytes : (bytes : List ℕ) → ((i : ℕ) → Fits w8 (get_or bytes i 0)) → AreBytes bytes
are_bytes [] fits k d below = absurd (omega arith)
are_bytes (b ∷ bs) fits zero d below = Fits-lt-pow (fits 0)
are_bytes (b ∷ bs) fits (suc k) d below = are_bytes bs (λ i. fits (suc i)) k d (omega arith)

-- the headers of a full datagram
pub full_contents : (stack : List LayerTree) (plans : List Plan) (p : Preamble) (following : List ℕ) (hs : List Header)
    (body : List ℕ) →
    (p.form == full_form) ≡ true → chain stack 0 following ≡ Some (hs, body) → contents stack plans p following ≡
    Ok (hs, body)
unfolding contents
full_contents stack plans p following hs body full read = rw (full, read) refl

pub no_full_contents : (stack : List LayerTree) (plans : List Plan) (p : Preamble) (following : List ℕ) →
    (p.form == full_form) ≡ true →
    chain stack 0 following ≡ None → contents stack plans p following ≡ Err cause.Chain
unfolding contents
no_full_contents stack plans p following full none = rw (full, none) refl

-- how a full datagram ends that isn't too long
pub record Ends (bytes body : List ℕ) : Type 0 where
  pub ends : EndsIn bytes body
  pub following : IsAfter body bytes

pub full_ends : (stack : List LayerTree) (here : Here) (bytes : List ℕ) (p : Preamble) (following : List ℕ)
    (hs : List Header) (body : List ℕ) →
    IsWithinLimits stack → AreBytes bytes → opened here bytes ≡ Ok (p, following) → contents stack [] p following ≡
    Ok (hs, body) →
    length body ≤ longest_body → Ends bytes body
unfolding closed
full_ends stack here bytes p following hs body limits small is read short =
    let got = after_opened stack [] here bytes p following is
    ∙ ap (λ r. r >>= closed p) read
    ∙ ap (λ b. unless b cause.Body >>= λ _. Ok (packet_of p hs body)) (le-leb (length body) longest_body short) in
    let both = (taken_as_spelled stack [] here bytes (packet_of p hs body) (λ k d below. absurd (omega arith)) small).0
    got in
    let ends = in_full bytes (packet_of p hs body) both.0.spelled in
    record {
      ends = ends;
      following =
          record { less = ends.less; few = datagrams_fit stack [] bytes (packet_of p hs body) limits both.0 };
    }
