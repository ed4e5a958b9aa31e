-- The listens of a node's members, one by one.
use Rattle.std.proofs.Common.{◌≡◌, ◌≢◌, ℕ, zero, suc, ◌+◌, ◌<◌, Bool, true, false, List, [], ◌∷◌, ◌++◌, length, map}
use Rattle.std.proofs.Common.{take, drop, get_or, append_assoc, append-nil, refl, sym, ap, ap₂, subst, ◌∙◌, arith}
use Rattle.std.proofs.Common.{Option, Some, None}
use Rattle.std.proofs.lemmas.Bool.{eqb-true, eqb-false}
use Rattle.std.proofs.lemmas.List.{length-take-le, map-append, take_more}
use Rattle.std.specs.List.{AllByRecursion}
use Rattle.std.specs.Option.{option_map}
use Rattle.std.specs.Prelude.{◌==◌, replicate, Err, IfSome}
use Rattle.outside.specs.Count.{next_count}
use Rattle.outside.specs.Links.{Listen, Listens, Network, after_listen, faults_after_call, listen_of}
use Rattle.outside.specs.declared.links.Peer.{Peer}
use Rattle.outside.specs.declared.links.LinkError.{LinkError}
use Rattle.outside.specs.declared.links.LinkError.TheVariants.{Failed, Memory}
use Rattle.outside.specs.Shelf.{is_next_to_fail}
use Rattle.node_laws.specs.Network.{Tells}
use Rattle.node_laws.proofs.Sendings.{tells_as, tells_same, tells_then}
use Rattle.node_loop.specs.Causes.{unlinked}
use Rattle.node_loop.specs.Listening.{Listened, ListenedNot, ListenedSome, ListensAll}
use Rattle.node_loop.specs.Serve.{after_listens, flags_of, listens_of}

drop_next : (k : ℕ) (flags : List Bool) → drop 1 (drop k flags) ≡ drop (suc k) flags
drop_next zero flags = refl
drop_next (suc k) [] = refl
drop_next (suc k) (flag ∷ flags) = drop_next k flags

-- one more flag
flags_more : (k : ℕ) (flags : List Bool) → flags_of (suc k) flags ≡ flags_of k flags ++ is_next_to_fail (drop k flags) ∷
    []
flags_more zero flags = refl
flags_more (suc k) [] =
    ap (λ fs. false ∷ fs) (flags_more k [] ∙ ap (λ fs. flags_of k [] ++ is_next_to_fail fs ∷ []) (drop_none k)) where
      drop_none : (k : ℕ) → drop {A = Bool} k [] ≡ []
      drop_none zero = refl
      drop_none (suc k) = refl
flags_more (suc k) (flag ∷ flags) = ap (λ fs. flag ∷ fs) (flags_more k flags)

replicate_more : (k : ℕ) → replicate k false ++ false ∷ [] ≡ replicate (suc k) false
replicate_more zero = refl
replicate_more (suc k) = ap (λ fs. false ∷ fs) (replicate_more k)

one_more : (k : ℕ) → suc k ≡ k + 1
one_more k = omega arith

-- No member listened yet.
pub listened_none : (peers : List Peer) (a : Option Network) → Tells (Listened peers []) a a
listened_none peers a = tells_same (Listened peers []) a
    (λ n. record { flags = refl; is = ap (λ listened. record n { listened = listened }) (sym (append-nil n.listened)) })

-- what a listen did to a network that tells
record ListenedOnce (listen : Listen) (flag : Bool) (n n' : Network) : Type 0 where
  pub met : is_next_to_fail n.listens ≡ flag
  pub is : n' ≡ after_listen listen n

listened_once : (listen : Listen) (flag : Bool) (old new : Option Network) →
    IfSome old (λ n. is_next_to_fail n.listens ≡ flag) →
    new ≡ option_map (after_listen listen) old → Tells (ListenedOnce listen flag) old new
listened_once listen flag None new holds is = subst (Tells (ListenedOnce listen flag) None) (sym is) tt
listened_once listen flag (Some n) new holds is = subst (Tells (ListenedOnce listen flag) (Some n)) (sym is) record
    { met = holds; is = refl }

module _ (peers : List Peer) (ids : List ℕ) (k : ℕ) (lt : k < length ids) where
  abbrev listen : Listen
  listen = listen_of peers (get_or ids k 0)

  count_is : length (take k ids) ≡ k
  count_is = length-take-le k ids (omega (arith, lt))

  flags_after : (flag : Bool) (n n' n'' : Network) → Listened peers (take k ids) n n' →
      ListenedOnce listen flag n' n'' →
      flags_of (k + 1) n.listens ≡ replicate k false ++ flag ∷ []
  flags_after flag n n' n'' l one =
      let flags : flags_of k n.listens ≡ replicate k false = subst (λ i. flags_of i n.listens ≡ replicate i false)
      count_is l.flags in
      let next : is_next_to_fail (drop k n.listens) ≡ flag =
      ap (λ i. is_next_to_fail (drop i n.listens)) (sym count_is) ∙
      sym (ap (λ (m : Network). is_next_to_fail m.listens) l.is) ∙ one.met in
      ap (λ i. flags_of i n.listens) (sym (one_more k)) ∙ flags_more k n.listens
      ∙ ap (λ f. flags_of k n.listens ++ f ∷ []) next ∙ ap (λ fs. fs ++ flag ∷ []) flags

  listens_after : listens_of peers (take k ids) ++ listen ∷ [] ≡ listens_of peers (take (k + 1) ids)
  listens_after = sym (map-append (listen_of peers) (take k ids) (get_or ids k 0 ∷ [])) ∙
      ap (map (listen_of peers)) (sym (take_more ids k 0 lt))

  count_more : suc (length (take k ids)) ≡ length (take (k + 1) ids)
  count_more = ap suc count_is ∙ one_more k ∙ sym (length-take-le (k + 1) ids (omega (arith, lt)))

  network_after : (flag : Bool) (n n' n'' : Network) → Listened peers (take k ids) n n' →
      ListenedOnce listen flag n' n'' →
      n'' ≡ after_listens peers (take (k + 1) ids) n
  network_after flag n n' n'' l one = one.is ∙ ap (after_listen listen) l.is
      ∙ ap₂ (λ listened flags. record n { listened = listened; listens = flags })
      (append_assoc n.listened (listens_of peers (take k ids)) (listen ∷ []) ∙
      ap (λ ls. n.listened ++ ls) listens_after)
      (drop_next (length (take k ids)) n.listens ∙ ap (λ i. drop i n.listens) count_more)

  -- One more did.
  pub listened_more : (a b c : Option Network) → Tells (Listened peers (take k ids)) a b →
      IfSome b (λ n. is_next_to_fail n.listens ≡ false) →
      c ≡ option_map (after_listen listen) b → Tells (Listened peers (take (k + 1) ids)) a c
  listened_more a b c so holds is = tells_then a b c so (listened_once listen false b c holds is)
      (λ n n' n'' l one. record {
        flags = subst (λ i. flags_of i n.listens ≡ replicate i false)
            (one_more k ∙ sym (length-take-le (k + 1) ids (omega (arith, lt))))
            (ap (λ i. flags_of i n.listens) (one_more k) ∙ flags_after false n n' n'' l one ∙ replicate_more k);
        is = network_after false n n' n'' l one;
      })

  -- The next failed.
  pub listened_not : (a b c : Option Network) → Tells (Listened peers (take k ids)) a b →
      IfSome b (λ n. is_next_to_fail n.listens ≡ true) →
      c ≡ option_map (after_listen listen) b → Tells (ListenedNot peers ids) a c
  listened_not a b c so holds is = tells_then a b c so (listened_once listen true b c holds is)
      (λ n n' n'' l one. record {
        some = k;
        within = lt;
        flags = flags_after true n n' n'' l one;
        is = network_after true n n' n'' l one;
      })

-- Memory ran out.
pub listened_some : (peers : List Peer) (ids : List ℕ) (k : ℕ) (a b c : Option Network) →
    Tells (Listened peers (take k ids)) a b → c ≡ b →
    Tells (ListenedSome peers ids) a c
listened_some peers ids k a b c so is =
    subst (Tells (ListenedSome peers ids) a) (sym is) (tells_as a b so (λ n n' l. record { some = k; is = l.is }))

-- These members listen, each with `peers` peers.
abbrev pub AllListen : (ℕ → Option ℕ) → (peers : ℕ) → List ℕ → Type 0
AllListen listening peers ids = AllByRecursion (λ id. listening id ≡ Some peers) ids

-- k members listened, and no other call was made.
pub record ListensSo (listening : ℕ → Option ℕ) (peers : List Peer) (faults faults_after sends sends_after : ℕ)
    (told told_after : Option Network) (k : ℕ)
    (ids : List ℕ) : Type 0 where
  pub faults_are : faults_after ≡ faults
  pub sends_are : sends_after ≡ sends
  pub so : Tells (Listened peers (take k ids)) told told_after
  pub listen : AllListen listening (length peers) (take k ids)

-- One more member listens, and those that did still do.
pub listen_more : (old new : ℕ → Option ℕ) (peers id : ℕ) (ids : List ℕ) → ((m : ℕ) → m ≢ id → new m ≡ old m) →
    new id ≡ Some peers →
    AllListen old peers ids → AllListen new peers (ids ++ id ∷ [])
listen_more old new peers id [] others is h = (is, tt)
listen_more old new peers id (m ∷ ids) others is h =
    (one (m == id) refl, listen_more old new peers id ids others is h.1) where
      one : (b : Bool) → (m == id) ≡ b → new m ≡ Some peers
      one true same = ap new (eqb-true m id same) ∙ is
      one false other = others m (eqb-false m id other) ∙ h.0

pub listens_more : (old new : ℕ → Option ℕ) (peers : List Peer) (faults f f' sends s s' : ℕ) (a b c : Option Network)
    (k : ℕ) (ids : List ℕ) →
    k < length ids → ListensSo old peers faults f sends s a b k ids → f' ≡ f → s' ≡ s →
    ((m : ℕ) → m ≢ get_or ids k 0 → new m ≡ old m) → new (get_or ids k 0) ≡ Some (length peers) →
    IfSome b (λ n. is_next_to_fail n.listens ≡ false) →
    c ≡ option_map (after_listen (listen_of peers (get_or ids k 0))) b →
    ListensSo new peers faults f' sends s' a c (k + 1) ids
listens_more old new peers faults f f' sends s s' a b c k ids lt so f_is s_is others listen holds is = record {
  faults_are = f_is ∙ so.faults_are;
  sends_are = s_is ∙ so.sends_are;
  so = listened_more peers ids k lt a b c so.so holds is;
  listen = subst (AllListen new (length peers)) (sym (take_more ids k 0 lt))
      (listen_more old new (length peers) (get_or ids k 0) (take k ids) others listen so.listen);
}

-- The next didn't go well.
pub listens_end : (old : ℕ → Option ℕ) (peers : List Peer) (faults f f' sends s : ℕ) (a b c : Option Network) (k : ℕ)
    (ids : List ℕ) (e : LinkError) →
    k < length ids → ListensSo old peers faults f sends s a b k ids →
    f' ≡ faults_after_call {T = Unit {0}} f (Err e) →
    Listens {T = Unit {0}} (listen_of peers (get_or ids k 0)) b c (Err e) →
    ListensAll peers ids faults f' a c (Err (unlinked e))
listens_end old peers faults f f' sends s a b c k ids Failed lt so f_is listens =
    (f_is ∙ ap next_count so.faults_are, listened_not peers ids k lt a b c so.so listens.0 listens.1)
listens_end old peers faults f f' sends s a b c k ids Memory lt so f_is listens =
    (f_is ∙ so.faults_are, listened_some peers ids k a b c so.so listens)
