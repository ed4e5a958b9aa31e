-- Plans that are laid out, and what is read by them.
use Rattle.std.proofs.Common.{◌≡◌, ℕ, zero, suc, ◌≤◌, Bool, true, false, List, [], ◌∷◌, ◌++◌, Option, Some, None, refl}
use Rattle.std.proofs.Common.{sym, ap, ◌∙◌, subst, arith, length, get_or, map}
use Rattle.std.specs.Prelude.{IfSome, slice_get, flat_map, bytes_eq, if◌then◌else◌, position}
use Rattle.std.specs.List.{AllByRecursion}
use Rattle.std.proofs.lemmas.Slice.Eq.{bytes_eq-Decides}
use denote.Enum.Bare.{true_same}
use Rattle.msg_core.specs.declared.message.Header.{Header}
use Rattle.msg_core.specs.declared.packet.Dest.{Dest}
use Rattle.layer_words.specs.contracts.events.Kind as kind_row
use Rattle.layer_words.specs.declared.events.Kind.{Kind}
use Rattle.layer_mean.specs.Tree.{LayerTree}
use Rattle.packet_laws.proofs.Numbers.{same_read}
use Rattle.packet_mean.specs.Plan.{agree, kind_of, variable}
use Rattle.stack_mean.specs.Plan.{Plan}
use Rattle.stack_shapes.specs.Prints.{IsNext, plan_print, print_of}
use Rattle.packet_short.specs.Contents.{plan_named}
use Rattle.packet_short.specs.Dealing.{dealing}
use Rattle.packet_short.specs.Fits.{fits_headers}
use Rattle.packet_short.specs.Keeping.{HasAtMost}
use Rattle.packet_short.specs.Laid.{all_own, filled, loose_from, with_variable, HasRoom, IsWithin}
use Rattle.packet_short.specs.Layouts.{looses, IsFirst, IsLaidOut, IsNamed, IsReadAs}
use Rattle.packet_short.specs.declared.layout.Layout.{Layout}
use Rattle.packet_short.proofs.Laid.{dealing_agrees, few_own, laid_out}
use Rattle.packet_short.proofs.Least.{begun, found_least, printed}

-- the headers of a plan, as they were read once, are its layout
pub a_layout : (stack : List LayerTree) (plans : List Plan) (k : ℕ) (plan : Plan) (layout : Layout) (hs : List Header)
    (zs r : List ℕ) → Some plan ≡ slice_get plans k → dealing stack 0 plan.tags plan.fields zs ≡ Some (hs, r) →
    layout.headers ≡ hs → looses layout ≡ loose_from 0 plan.fields hs →
    AllByRecursion (IsWithin (length hs)) (looses layout) →
    (layout.is_least ≡ true → IsFirst plans plan.kind hs k) → IsLaidOut stack plans k layout
a_layout stack plans k plan layout hs zs r listed read headers_are are within first = record {
  plan = plan;
  listed = sym listed;
  reads = λ bytes. ap (λ ls. filled ls layout.headers [] bytes) are
      ∙ ap (λ xs. filled (loose_from 0 plan.fields hs) xs [] bytes) headers_are
      ∙ laid_out stack plan.tags plan.fields zs hs r read bytes;
  room = record {
    all = subst (λ xs. AllByRecursion (IsWithin (length xs)) (looses layout)) (sym headers_are) within;
    room = subst (λ ls. all_own ls ≤ length plan.fields) (sym are)
        (few_own 0 plan.fields hs);
  };
  least = λ is. subst (λ tags. IsNext plans (print_of plan.kind tags) 0 (Some k))
      (dealing_agrees stack 0 plan.tags plan.fields zs hs r read).tagged (first is);
}

-- what holds of each item at its place, and of one more, holds of each item of the longer list
pub one_more_so : {X : Type 0} (P : ℕ → X → Type 0) (xs : List (Option X)) (x : Option X) →
    ((k : ℕ) (y : X) → slice_get xs k ≡ Some (Some y) → P k y) → IfSome x (λ y. P (length xs) y) →
    (k : ℕ) (y : X) → slice_get (xs ++ x ∷ []) k ≡ Some (Some y) → P k y
one_more_so P [] x old new zero y is = subst (λ o. IfSome o (λ y. P 0 y)) (same_read is) new
one_more_so P [] x old new (suc k) y is = absurd (cc is)
one_more_so P (z ∷ zs) x old new zero y is = old zero y is
one_more_so P (z ∷ zs) x old new (suc k) y is =
    one_more_so (λ k. P (suc k)) zs x (λ k y. old (suc k) y) new k y is

none_read : (ps : List (Option ℕ)) (o : Option (List Header × List ℕ)) → with_variable ps o ≡ None → o ≡ None
none_read ps None is = refl
none_read ps (Some q) is = absurd (cc is)

-- headers were read, and these are the variable ones of their fields
abbrev Gives : List (Option ℕ) → Option (List Header × List ℕ) → (List Header × List ℕ) × List ℕ → Type 0
Gives ps o ((hs, kept), r) = (o ≡ Some (hs, r)) × (kept ≡ variable ps (flat_map (λ h. h.fields) hs))

some_read : (ps : List (Option ℕ)) (o : Option (List Header × List ℕ)) (hs : List Header) (kept r : List ℕ) →
    with_variable ps o ≡ Some ((hs, kept), r) → Gives ps o ((hs, kept), r)
some_read ps None hs kept r is = absurd (cc is)
some_read ps (Some (xs, s)) hs kept r is = subst (Gives ps (Some (xs, s))) (same_read is) (refl, refl)

-- nothing is read where filling in fails
pub not_filled : (stack : List LayerTree) (plans : List Plan) (k : ℕ) (layout : Layout) (bytes : List ℕ)
    (laid : IsLaidOut stack plans k layout) → filled (looses layout) layout.headers [] bytes ≡ None →
    dealing stack 0 laid.plan.tags laid.plan.fields bytes ≡ None
not_filled stack plans k layout bytes laid is =
    none_read laid.plan.fields (dealing stack 0 laid.plan.tags laid.plan.fields bytes) (sym (laid.reads bytes) ∙ is)

-- what was filled in is read
pub filled_read : (stack : List LayerTree) (plans : List Plan) (k : ℕ) (layout : Layout) (bytes : List ℕ)
    (hs : List Header) (kept r : List ℕ)
    (laid : IsLaidOut stack plans k layout) → filled (looses layout) layout.headers [] bytes ≡ Some ((hs, kept), r) →
    (dealing stack 0 laid.plan.tags laid.plan.fields bytes ≡ Some (hs, r)) ×
    (kept ≡ variable laid.plan.fields (flat_map (λ h. h.fields) hs))
filled_read stack plans k layout bytes hs kept r laid is =
    some_read laid.plan.fields (dealing stack 0 laid.plan.tags laid.plan.fields bytes) hs kept r
    (sym (laid.reads bytes) ∙ is)

same_bytes : (xs : List ℕ) → bytes_eq xs xs ≡ true
same_bytes xs = (bytes_eq-Decides xs xs).1 refl

-- headers that were read by a plan fit it
fitting : (kind : Kind) (hs : List Header) (plan : Plan) → plan.kind ≡ kind → map (λ h. h.tag) hs ≡ plan.tags →
    agree plan.fields (flat_map (λ h. h.fields) hs) ≡ true → fits_headers kind hs plan ≡ true
fitting kind hs plan same tagged agrees =
    rw (true_same kind_row.the_type plan.kind kind same, tagged, same_bytes plan.tags, agrees) refl

at_place : {X : Type 0} (xs : List X) (k : ℕ) (x : X) → slice_get xs k ≡ Some x → x ≡ get_or xs k x
at_place [] k x is = absurd (cc is)
at_place (y ∷ ys) zero x is = sym (same_read is)
at_place (y ∷ ys) (suc k) x is = at_place ys k x is

-- the plan by which headers were read is the least that they fit, if no plan before it has its print
least_read : (plans : List Plan) (k : ℕ) (plan : Plan) (kind : Kind) (hs : List Header) →
    slice_get plans k ≡ Some plan → IsNext plans (plan_print plan) 0 (Some k) → plan.kind ≡ kind →
    map (λ h. h.tag) hs ≡ plan.tags → fits_headers kind hs plan ≡ true →
    Some k ≡ position (fits_headers kind hs) plans
least_read plans k plan kind hs listed first same tagged fits =
    let print : ℕ = print_of kind (map (λ h. h.tag) hs) in
    let same_print : plan_print plan ≡ print = printed kind hs plan fits in
    found_least plans (fits_headers kind hs) print k plan
    (begun plans (fits_headers kind hs) print (Some k) (printed kind hs)
    (subst (λ p. IsNext plans p 0 (Some k)) same_print first))
    (at_place plans k plan listed) fits

-- what is known of headers that were filled in
pub read_as : (stack : List LayerTree) (plans : List Plan) (k : ℕ) (layout : Layout) (kind : Kind) (bytes : List ℕ)
    (hs : List Header) (kept r : List ℕ) (laid : IsLaidOut stack plans k layout) → laid.plan.kind ≡ kind →
    filled (looses layout) layout.headers [] bytes ≡ Some ((hs, kept), r) →
    IsReadAs plans (if layout.is_least then Some k else None) kind hs kept
read_as stack plans k layout kind bytes hs kept r laid same is = by_test layout.is_least laid.least
  where
    by_test : (least : Bool) → (least ≡ true → IsNext plans (plan_print laid.plan) 0 (Some k)) →
        IsReadAs plans (if least then Some k else None) kind hs kept
    by_test false first = tt
    by_test true first =
        let read = filled_read stack plans k layout bytes hs kept r laid is in
        let agrees = dealing_agrees stack 0 laid.plan.tags laid.plan.fields bytes hs r read.0 in (
          least_read plans k laid.plan kind hs laid.listed (first refl) same agrees.tagged
              (fitting kind hs laid.plan same agrees.tagged agrees.fields),
          rw (laid.listed) read.1,
        )

-- there is room for the fields of a plan of the list
pub room_for : (most : ℕ) (plans : List Plan) (k : ℕ) (plan : Plan) → AllByRecursion (HasAtMost most) plans →
    slice_get plans k ≡ Some plan → length plan.fields ≤ most
room_for most [] k plan all is = absurd (cc is)
room_for most (p ∷ ps) zero plan all is = subst (λ (q : Plan). length q.fields ≤ most) (same_read is) all.0
room_for most (p ∷ ps) (suc k) plan all is = room_for most ps k plan all.1 is

pub has_room_for : (stack : List LayerTree) (plans : List Plan) (k : ℕ) (layout : Layout) (most : ℕ)
    (laid : IsLaidOut stack plans k layout) → AllByRecursion (HasAtMost most) plans →
    HasRoom most (length layout.headers) (looses layout)
has_room_for stack plans k layout most laid all =
    let few = room_for most plans k laid.plan all laid.listed in
    record { all = laid.room.all; room = omega (arith, laid.room.room, few) }

-- the plan that is named is laid out
pub named_laid : (stack : List LayerTree) (plans : List Plan) (dest : Dest) (k : ℕ) (layout : Layout) (plan : Plan)
    (bytes following : List ℕ) → plan_named plans dest bytes ≡ Some (plan, following) → slice_get plans k ≡ Some plan →
    plan.kind ≡ kind_of dest → IsLaidOut stack plans k layout → IsNamed stack plans dest k layout bytes following
named_laid stack plans dest k layout plan bytes following named listed kind laid =
    let same : plan ≡ laid.plan = same_read (sym listed ∙ laid.listed) in
    record {
      laid = laid;
      named = subst (λ p. plan_named plans dest bytes ≡ Some (p, following)) same named;
      kind = subst (λ (p : Plan). p.kind ≡ kind_of dest) same kind;
    }
