-- The preamble is read as it was written, and what was read was so written.
use Rattle.std.proofs.Common.{◌≡◌, ℕ, ◌<◌, Bool, true, false, List, [], ◌∷◌, ◌++◌, Some, refl, sym, ap, ◌∙◌, subst}
use Rattle.std.proofs.Common.{arith}
use Rattle.std.specs.Prelude.{◌==◌, if◌then◌else◌}
use Rattle.std.proofs.lemmas.Bool.{eqb-true, eqb-false}
use Rattle.std.proofs.lemmas.Nat.{from_be_bytes-to_be_bytes_4}
use Rattle.msg_core.specs.declared.packet.Dest.{Dest}
use Rattle.msg_core.specs.declared.packet.Dest.TheVariants.{All, Rank}
use Rattle.msg_core.specs.declared.packet.Packet.{Packet}
use Rattle.layer_mean.specs.Tree.{LayerTree}
use Rattle.packet_mean.specs.Spelling.{everyone, dest_byte, number_bytes, preamble_bytes, IsDestination, IsSpellable}
use Rattle.packet_mean.specs.Reading.{byte, number, Preamble, preamble_of, dest_of, preamble}
use Rattle.packet_mean.specs.Received.{packet_of}
use Rattle.packet_laws.proofs.Each.{Bytes}
use Rattle.packet_laws.proofs.Numbers.{through, same_read, number_read}

-- a rank isn't the byte for all
no_all : (r : ℕ) (all : Bool) → r < everyone → (r == everyone) ≡ all → all ≡ false
no_all r true small is = let same = eqb-true r everyone is in absurd (omega arith)
no_all r false small is = refl

dest_back : (d : Dest) → IsDestination d → dest_of (dest_byte d) ≡ d
dest_back All h = refl
dest_back (Rank r) h = rw (no_all r (r == everyone) h refl) refl

pub front_back : (stack : List LayerTree) (form : ℕ) (p : Packet) (rest : List ℕ) → IsSpellable stack p →
    preamble (preamble_bytes form p ++ rest) ≡ Some (preamble_of form p, rest)
front_back stack form p rest is =
    let group = from_be_bytes-to_be_bytes_4 p.group is.group in
    let stamp = from_be_bytes-to_be_bytes_4 p.stamp is.stamp in
    let ltime = from_be_bytes-to_be_bytes_4 p.view.ltime is.ltime in
    let mask = from_be_bytes-to_be_bytes_4 p.view.mask is.mask in
    let dest = dest_back p.dest is.destination in
    λ x. Some (
      record {
        form = form;
        group = group x;
        stamp = stamp x;
        view = record { ltime = ltime x; mask = mask x };
        sender = p.sender;
        dest = dest x;
      },
      rest,
    )

dest_read : (b : ℕ) (all : Bool) → b < 256 → (b == everyone) ≡ all →
    (dest_byte (if all then All else Rank b) ≡ b) × IsDestination (if all then All else Rank b)
dest_read b true small is = (sym (eqb-true b everyone is), tt)
dest_read b false small is = let other = eqb-false b everyone is in (refl, omega arith)

-- what reading a byte says
record ByteRead (bytes : List ℕ) (b : ℕ) (rest : List ℕ) : Type 0 where
  small : b < 256
  spelled : bytes ≡ b ∷ rest
  following : Bytes rest

byte_read : (bytes : List ℕ) (b : ℕ) (rest : List ℕ) → Bytes bytes → byte bytes ≡ Some (b, rest) → ByteRead bytes b rest
byte_read [] b rest h is = absurd (cc is)
byte_read (c ∷ cs) b rest h is =
    subst (λ q. ByteRead (c ∷ cs) q.0 q.1) (same_read is) record { small = h.0; spelled = refl; following = h.1 }

-- what reading a preamble says
pub record FrontRead (bytes : List ℕ) (f : Preamble) (rest : List ℕ) : Type 0 where
  pub group : f.group < 4294967296
  pub stamp : f.stamp < 4294967296
  pub ltime : f.view.ltime < 4294967296
  pub mask : f.view.mask < 4294967296
  pub sender : f.sender < 256
  pub destination : IsDestination f.dest
  pub spelled : bytes ≡ preamble_bytes f.form (packet_of f [] []) ++ rest
  pub following : Bytes rest

pub front_read : (bytes : List ℕ) (f : Preamble) (rest : List ℕ) → Bytes bytes → preamble bytes ≡ Some (f, rest) →
    FrontRead bytes f rest
front_read bytes f rest h is =
    through _ (byte bytes) _ is (λ (form, r1) e1 is1. let form_is = byte_read bytes form r1 h e1 in
    through _ (number r1) _ is1 (λ (group, r2) e2 is2. let group_is = number_read r1 group r2 form_is.following e2 in
    through _ (number r2) _ is2 (λ (stamp, r3) e3 is3. let stamp_is = number_read r2 stamp r3 group_is.following e3 in
    through _ (number r3) _ is3 (λ (ltime, r4) e4 is4. let ltime_is = number_read r3 ltime r4 stamp_is.following e4 in
    through _ (number r4) _ is4 (λ (mask, r5) e5 is5. let mask_is = number_read r4 mask r5 ltime_is.following e5 in
    through _ (byte r5) _ is5 (λ (sender, r6) e6 is6. let sender_is = byte_read r5 sender r6 mask_is.following e6 in
    through _ (byte r6) _ is6 (λ (dest, r7) e7 is7. let dest_is = byte_read r6 dest r7 sender_is.following e7 in
    let to = dest_read dest (dest == everyone) dest_is.small refl in
    subst (λ q. FrontRead bytes q.0 q.1) (same_read is7)
    record {
      group = group_is.small;
      stamp = stamp_is.small;
      ltime = ltime_is.small;
      mask = mask_is.small;
      sender = sender_is.small;
      destination = to.1;
      spelled = form_is.spelled ∙ ap (λ xs. form ∷ xs) (group_is.written ∙ ap (λ xs. number_bytes group ++ xs)
          (stamp_is.written ∙ ap (λ xs. number_bytes stamp ++ xs)
          (ltime_is.written ∙ ap (λ xs. number_bytes ltime ++ xs)
          (mask_is.written ∙ ap (λ xs. number_bytes mask ++ xs) (sender_is.spelled ∙ ap (λ xs. sender ∷ xs)
          (dest_is.spelled ∙ ap (λ b. b ∷ r7) (sym to.0)))))));
      following = dest_is.following;
    })))))))
