-- The one order, when more is sent; and how much members have delivered, when more is delivered.
use Rattle.std.proofs.Common.{◌≡◌, ◌≢◌, ℕ, ◌+◌, ◌==◌, ◌≤◌, Bool, true, false, List, [], ◌∷◌, ◌++◌, length, refl, sym}
use Rattle.std.proofs.Common.{ap}
use Rattle.std.proofs.Common.{subst, ◌∙◌, arith, Option, Some, None, count_by}
use Rattle.std.specs.Prelude.{slice_get}
use Rattle.std.specs.List.{AllByRecursion}
use Rattle.std.proofs.lemmas.Bool.{eq-eqb}
use Rattle.std.proofs.lemmas.List.{length-append}
use Rattle.std.proofs.lemmas.List.Elements.{filter_map-append}
use Rattle.msg_core.specs.declared.packet.Dest.{Dest}
use Rattle.msg_core.specs.declared.packet.Dest.TheVariants.{All, Rank}
use Rattle.msg_core.specs.declared.packet.Packet.{Packet}
use Rattle.script_mean.specs.Words.{Word}
use Rattle.audit_mean.specs.Segment.{Entry}
use Rattle.audit_mean.specs.Clash.{whole, same_list}
use Rattle.protocol_laws.proofs.Lists.{get_more, count_both, count_none, found_none, all_so, not_same}
use Rattle.total_laws.specs.Protocol.{order_in, order_of, IsSentTo, delivery, got}

pub orders_both : (packets more : List Packet) → order_of (packets ++ more) ≡ order_of packets ++ order_of more
orders_both packets more = filter_map-append order_in packets more

-- a place that was given stays
pub order_stays : (packets more : List Packet) (place : ℕ) (x : ℕ × Word) → slice_get (order_of packets) place ≡
    Some x →
    slice_get (order_of (packets ++ more)) place ≡ Some x
order_stays packets more place x h =
    subst (λ xs. slice_get xs place ≡ Some x) (sym (orders_both packets more))
    (get_more (order_of packets) (order_of more) place x h)

sent_to_stays : (packets more : List Packet) (p : Packet) (d : Dest) → IsSentTo packets p d →
    IsSentTo (packets ++ more) p d
sent_to_stays packets more p All h = record {
  origin = h.origin;
  place = h.place;
  from_first = h.from_first;
  message = h.message;
  there = order_stays packets more h.place (h.origin, _) h.there;
}
sent_to_stays packets more p (Rank r) h = h

pub sent_stays : (packets more : List Packet) (p : Packet) → IsSentTo packets p p.dest →
    IsSentTo (packets ++ more) p p.dest
sent_stays packets more p h = sent_to_stays packets more p p.dest h

-- no rank but the first orders, and no packet to one rank
pub others_order_none : (more : List Packet) (other : ℕ) → (other ≢ 0) → AllByRecursion (λ q. q.sender ≡ other) more →
    order_of more ≡ []
others_order_none more other ne from = found_none order_in more
    (all_so (λ q. q.sender ≡ other) (λ q. order_in q ≡ None)
    (λ q is. rw (not_same q.sender 0 (λ e. ne (sym is ∙ e))) refl) more from)

pub send_orders_none : (p : Packet) (r : ℕ) → order_of (record p { dest = Rank r } ∷ []) ≡ []
send_orders_none p r = by (p.sender == 0) refl where
  by : (b : Bool) → (p.sender == 0) ≡ b → order_of (record p { dest = Rank r } ∷ []) ≡ []
  by true is = rw is refl
  by false is = rw is refl

one_few : (p : Packet) (o : Option (ℕ × Word)) → order_in p ≡ o → length (order_of (p ∷ [])) ≤ 1
one_few p None is = rw is (omega arith)
one_few p (Some x) is = rw is (omega arith)

pub orders_few : (packets : List Packet) → length (order_of packets) ≤ length packets
orders_few [] = omega arith
orders_few (p ∷ packets) =
    let e : length (order_of (p ∷ packets)) ≡ length (order_of (p ∷ [])) + length (order_of packets) =
    ap length (orders_both (p ∷ []) packets) ∙ length-append (order_of (p ∷ [])) (order_of packets) in
    omega (arith, e, one_few p (order_in p) refl, orders_few packets)

-- deliveries of another member aren't counted

pub got_others : (entries more : List Entry) (id other : ℕ) → (other ≢ id) →
    AllByRecursion (λ e. e.member ≡ other) more → got (entries ++ more) id ≡ got entries id
got_others entries more id other ne of =
    let test : Entry → Bool = λ b. same_list whole b (delivery 0 id 0 []) in
    let none : count_by test more ≡ 0 = count_none test more
    (all_so (λ e. e.member ≡ other) (λ e. test e ≡ false)
    (λ e is. rw (not_same e.member id (λ x. ne (sym is ∙ x))) refl)
    more of) in
    count_both test entries more ∙ ap (λ n. got entries id + n) none ∙ omega arith

pub got_own : (entries : List Entry) (line id peer : ℕ) (body : Word) →
    got (entries ++ delivery line id peer body ∷ []) id ≡ got entries id + 1
got_own entries line id peer body =
    count_both (λ b. same_list whole b (delivery 0 id 0 [])) entries (delivery line id peer body ∷ [])
    ∙ (rw (eq-eqb id id refl) refl)
