-- Deliveries of which a table tells don't clash.
use Rattle.std.proofs.Common.{◌≡◌, ℕ, ◌==◌, ◌&&◌, not, Bool, true, false, List, [], ◌∷◌, ◌++◌, map, filter, refl, sym}
use Rattle.std.proofs.Common.{ap}
use Rattle.std.proofs.Common.{subst, ◌∙◌, Option, Some, append_assoc}
use Rattle.std.proofs.lemmas.Bool.{and_parts, eqb-true, eq-eqb}
use Rattle.std.proofs.lemmas.List.{append-nil}
use Rattle.std.proofs.lemmas.Slice.Eq.{bytes_eq-Decides}
use Rattle.script_mean.specs.Words.{Word}
use Rattle.audit_mean.specs.Segment.{Name, start, in_view, Entry, same_name, same_content}
use Rattle.audit_mean.specs.Clash.{Lists, of_each_peer, whole, Placed, same_source, clashes, lines_at, placed_after}
use Rattle.audit_mean.specs.Clash.{clashes_after}
use Rattle.order_laws.specs.Deliveries.{told, list_number, place_after, Table, AreTold, ToldKeep}

-- what is equal to the tests of a clash

name_is : (x y : Name) → same_name x y ≡ true → x ≡ y
name_is start start h = refl
name_is start (in_view l m) h = absurd (cc h)
name_is (in_view l m) start h = absurd (cc h)
name_is (in_view l m) (in_view k n) h =
    let parts = and_parts (l == k) (m == n) h in
    ap (λ t. in_view t m) (eqb-true l k parts.0) ∙ ap (λ t. in_view k t) (eqb-true m n parts.1)

list_is : (lists : Lists) (a b : Entry) → same_source lists a b ≡ true →
    list_number lists a.peer ≡ list_number lists b.peer
list_is of_each_peer a b h = eqb-true a.peer b.peer h
list_is whole a b h = refl

content_is : (a b : Entry) → told a ≡ told b → same_content a b ≡ true
content_is a b h =
    rw (eq-eqb a.peer b.peer (ap (λ t. t.0) h)) ((bytes_eq-Decides a.body b.body).1 (ap (λ t. t.1) h))

no_test : (n s p m c : Bool) → (n ≡ true → s ≡ true → p ≡ true → c ≡ true) →
    ((n && (s && p)) && (m && not c)) ≡ false
no_test false s p m c f = refl
no_test true false p m c f = refl
no_test true true false m c f = refl
no_test true true true false c f = refl
no_test true true true true true f = refl
no_test true true true true false f = sym (f refl refl refl)

same_some : {A : Type 0} (x y : A) (o : Option A) → o ≡ Some x → o ≡ Some y → x ≡ y
same_some x y o hx hy = cc (hx, hy)

module _ (lists : Lists) (table : Table) where
  -- what stands at a place is what the table tells of it
  IsTold : Placed → Type 0
  IsTold p = table p.entry.segment.name (list_number lists p.entry.peer) p.place ≡ Some (told p.entry)

  AllTold : List Placed → Type 0
  AllTold [] = Unit {0}
  AllTold (p ∷ ps) = IsTold p × AllTold ps

  no_clash : (b a : Placed) → IsTold b → IsTold a → clashes lists b a ≡ false
  unfolding IsTold
  no_clash b a hb ha = no_test (same_name a.entry.segment.name b.entry.segment.name)
      (same_source lists a.entry b.entry) (a.place == b.place) (not (a.entry.member == b.entry.member))
      (same_content a.entry b.entry)
      (λ names sources places.
      let name = name_is a.entry.segment.name b.entry.segment.name names in
      let list = list_is lists a.entry b.entry sources in
      let place = eqb-true a.place b.place places in
      content_is a.entry b.entry (same_some (told a.entry) (told b.entry) _ ha
      (ap (λ n. table n (list_number lists a.entry.peer) a.place) name
      ∙ ap (λ l. table b.entry.segment.name l a.place) list
      ∙ ap (λ q. table b.entry.segment.name (list_number lists b.entry.peer) q) place ∙ hb)))

  none_before : (b : Placed) (before : List Placed) → IsTold b → AllTold before →
      map (lines_at b) (filter (clashes lists b) before) ≡ []
  unfolding AllTold
  none_before b [] hb all = refl
  none_before b (a ∷ before) hb all = rw (no_clash b a hb all.0) (none_before b before hb all.1)

  one_more : (ps : List Placed) (p : Placed) → AllTold ps → IsTold p → AllTold (ps ++ p ∷ [])
  unfolding AllTold
  one_more [] p all h = (h, tt)
  one_more (x ∷ ps) p all h = (all.0, one_more ps p all.1 h)

  none_after : (before rest : List Placed) → AllTold before → AllTold rest → clashes_after lists before rest ≡ []
  unfolding AllTold
  none_after before [] all more = refl
  none_after before (b ∷ rest) all more =
      rw (none_before b before more.0 all) (none_after (before ++ b ∷ []) rest (one_more before b all more.0) more.1)

  placed_told : (before es : List Entry) → AreTold lists table before es → AllTold (placed_after lists before es)
  unfolding AllTold IsTold
  placed_told before [] h = tt
  placed_told before (e ∷ es) h = (h.0, placed_told (before ++ e ∷ []) es h.1)

pub told_keep : ToldKeep
unfolding AllTold IsTold
told_keep lists table entries h =
    none_after lists table [] (placed_after lists [] entries) tt (placed_told lists table [] entries h)

-- deliveries and more deliveries, and a table that tells more

pub told_both : (lists : Lists) (table : Table) (before es more : List Entry) → AreTold lists table before es →
    AreTold lists table (before ++ es) more → AreTold lists table before (es ++ more)
told_both lists table before [] more h then = subst (λ b. AreTold lists table b more) (append-nil before) then
told_both lists table before (e ∷ es) more h then = (
  h.0,
  told_both lists table (before ++ e ∷ []) es more h.1
      (subst (λ b. AreTold lists table b more) (sym (append_assoc before (e ∷ []) es)) then),
)

pub told_more : (lists : Lists) (table richer : Table) →
    ((name : Name) (list place : ℕ) (x : ℕ × Word) → table name list place ≡ Some x →
    richer name list place ≡ Some x) →
    (before es : List Entry) → AreTold lists table before es → AreTold lists richer before es
told_more lists table richer more before [] h = tt
told_more lists table richer more before (e ∷ es) h = (
  more e.segment.name (list_number lists e.peer) (place_after lists before e) (told e) h.0,
  told_more lists table richer more (before ++ e ∷ []) es h.1,
)
