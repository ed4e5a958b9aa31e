-- What ranks have cast, when more is sent; and how much members have delivered, when more is delivered.
use Rattle.std.proofs.Common.{◌≡◌, ◌≢◌, ℕ, ◌+◌, ◌==◌, ◌≤◌, Bool, true, false, List, [], ◌∷◌, ◌++◌, length, refl}
use Rattle.std.proofs.Common.{sym}
use Rattle.std.proofs.Common.{ap, subst, ◌∙◌, arith, Option, Some, None, count_by}
use Rattle.std.specs.Prelude.{slice_get}
use Rattle.std.specs.List.{AllByRecursion}
use Rattle.std.proofs.lemmas.Bool.{eq-eqb}
use Rattle.std.proofs.lemmas.List.{length-append}
use Rattle.std.proofs.lemmas.List.Elements.{filter_map-append}
use Rattle.msg_core.specs.declared.packet.Dest.{Dest}
use Rattle.msg_core.specs.declared.packet.Dest.TheVariants.{All, Rank}
use Rattle.msg_core.specs.declared.packet.Packet.{Packet}
use Rattle.script_mean.specs.Words.{Word}
use Rattle.audit_mean.specs.Segment.{Entry}
use Rattle.audit_mean.specs.Clash.{of_each_peer, same_list}
use Rattle.fifo_laws.specs.Protocol.{cast_in, casts_of, IsSentTo, delivery, got}
use Rattle.protocol_laws.proofs.Lists.{get_more, count_both, count_none, found_none, all_so, not_same}

pub casts_both : (packets more : List Packet) (peer : ℕ) →
    casts_of (packets ++ more) peer ≡ casts_of packets peer ++ casts_of more peer
casts_both packets more peer = filter_map-append (cast_in peer) packets more

-- what was cast stays the cast of its number
pub cast_stays : (packets more : List Packet) (peer q : ℕ) (x : ℕ × Word) → slice_get (casts_of packets peer) q ≡
    Some x →
    slice_get (casts_of (packets ++ more) peer) q ≡ Some x
cast_stays packets more peer q x h =
    subst (λ xs. slice_get xs q ≡ Some x) (sym (casts_both packets more peer))
    (get_more (casts_of packets peer) (casts_of more peer) q x h)

sent_to_stays : (packets more : List Packet) (p : Packet) (d : Dest) → IsSentTo packets p d →
    IsSentTo (packets ++ more) p d
sent_to_stays packets more p All h = record {
  number = h.number;
  message = h.message;
  cast = cast_stays packets more p.sender h.number (p.sender, _) h.cast;
}
sent_to_stays packets more p (Rank r) h = tt

pub sent_stays : (packets more : List Packet) (p : Packet) → IsSentTo packets p p.dest →
    IsSentTo (packets ++ more) p p.dest
sent_stays packets more p h = sent_to_stays packets more p p.dest h

-- no cast of a rank is among the packets of another, nor among sends
not_cast : (p : Packet) (peer : ℕ) → (p.sender ≢ peer) → cast_in peer p ≡ None
not_cast p peer ne = rw (not_same p.sender peer ne) refl

pub no_casts : (more : List Packet) (peer other : ℕ) → (other ≢ peer) → AllByRecursion (λ q. q.sender ≡ other) more →
    casts_of more peer ≡ []
no_casts more peer other ne from = found_none (cast_in peer) more
    (all_so (λ q. q.sender ≡ other) (λ q. cast_in peer q ≡ None) (λ q is. not_cast q peer (λ e. ne (sym is ∙ e))) more
    from)

pub send_no_cast : (p : Packet) (r peer : ℕ) → casts_of (record p { dest = Rank r } ∷ []) peer ≡ []
send_no_cast p r peer = by (p.sender == peer) refl where
  by : (b : Bool) → (p.sender == peer) ≡ b → casts_of (record p { dest = Rank r } ∷ []) peer ≡ []
  by true is = rw is
  by false is = rw is

-- a rank's casts are at most all packets
one_few : (p : Packet) (peer : ℕ) (o : Option (ℕ × Word)) → cast_in peer p ≡ o → length (casts_of (p ∷ []) peer) ≤ 1
one_few p peer None is = rw is (omega arith)
one_few p peer (Some x) is = rw is (omega arith)

pub casts_few : (packets : List Packet) (peer : ℕ) → length (casts_of packets peer) ≤ length packets
casts_few [] peer = omega arith
casts_few (p ∷ packets) peer =
    let e : length (casts_of (p ∷ packets) peer) ≡ length (casts_of (p ∷ []) peer) + length (casts_of packets peer) =
    ap length (casts_both (p ∷ []) packets peer) ∙ length-append (casts_of (p ∷ []) peer) (casts_of packets peer) in
    omega (arith, e, one_few p peer (cast_in peer p) refl, casts_few packets peer)

-- deliveries of another member, and of another peer, aren't counted

pub got_others : (entries more : List Entry) (id peer other : ℕ) → (other ≢ id) →
    AllByRecursion (λ e. e.member ≡ other) more → got (entries ++ more) id peer ≡ got entries id peer
got_others entries more id peer other ne of =
    let test : Entry → Bool = λ b. same_list of_each_peer b (delivery 0 id peer []) in
    let none : count_by test more ≡ 0 = count_none test more
    (all_so (λ e. e.member ≡ other) (λ e. test e ≡ false)
    (λ e is. rw (not_same e.member id (λ x. ne (sym is ∙ x))) refl)
    more of) in
    count_both test entries more ∙ ap (λ n. got entries id peer + n) none ∙ omega arith

pub got_own : (entries : List Entry) (line id peer : ℕ) (body : Word) →
    got (entries ++ delivery line id peer body ∷ []) id peer ≡ got entries id peer + 1
got_own entries line id peer body =
    count_both (λ b. same_list of_each_peer b (delivery 0 id peer [])) entries (delivery line id peer body ∷ [])
    ∙ (rw (eq-eqb id id refl, eq-eqb peer peer refl) refl)

pub got_peer : (entries : List Entry) (line id peer : ℕ) (body : Word) (other : ℕ) → (peer ≢ other) →
    got (entries ++ delivery line id peer body ∷ []) id other ≡ got entries id other
got_peer entries line id peer body other ne =
    count_both (λ b. same_list of_each_peer b (delivery 0 id other [])) entries (delivery line id peer body ∷ [])
    ∙ (rw (eq-eqb id id refl, not_same peer other ne) (omega arith))
