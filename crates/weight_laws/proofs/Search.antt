-- A search over a table sees what the definition reaches.
use Rattle.std.proofs.Common.{◌≡◌, ℕ, zero, suc, ◌<◌, ◌≤◌, Bool, true, false, ◌||◌, List, [], ◌∷◌, ◌++◌, map, fold}
use Rattle.std.proofs.Common.{flat_map, length, replicate, slice_index_or, slice_set, refl, sym, ap, ◌∙◌, subst, ◌⊎◌}
use Rattle.std.proofs.Common.{inl, inr, ⊎_elim, append_assoc, append-nil, arith}
use Rattle.std.specs.Prelude.{if◌then◌else◌}
use Rattle.std.specs.List.{list_any}
use Rattle.std.proofs.lemmas.List.{map-append, length-replicate, get_or-replicate, length-set, get_or-set_same}
use Rattle.std.proofs.lemmas.List.{get_or-set_other}
use Rattle.std.proofs.lemmas.List.Sums.{fold-append}
use Rattle.std.proofs.lemmas.List.Folds.{list_any-append}
use Rattle.stack_mean.specs.Graph.{same_node, Arrow, arrows, following, nodes}
use Rattle.weight_laws.specs.Nodes.{IsNode}
use Rattle.weight_laws.specs.Tables.{node_number, Vertex, edge_of}
use Rattle.weight_laws.specs.Search.{Search, is_seen, see, see_targets, see_vertex, see_after, search_round}
use Rattle.weight_laws.specs.Search.{search_after}
use Rattle.weight_laws.specs.Search.{search_from, SearchTellsCycles, SearchSettles}
use Rattle.weight_laws.proofs.Members.{In, from_flat_map}
use Rattle.weight_laws.proofs.Reach.{unknown_by, reached_by, unknown_sub}
use Rattle.weight_laws.proofs.Nodes.{next_node}
use Rattle.weight_laws.proofs.Tables.{numbers_differ}
use Rattle.weight_laws.proofs.Costs.{sound, itself, cycle_is}

-- rounds can be counted from either end, and a search that saw nothing last is at its end
first_round : (vertices : List Vertex) (k : ℕ) (s : Search) → search_after vertices k (search_round vertices s) ≡
    search_after vertices (suc k) s
first_round vertices zero s = refl
first_round vertices (suc k) s = ap (search_round vertices) (first_round vertices k s)

idle : (vertices : List Vertex) (s : Search) → s.last ≡ [] → search_round vertices s ≡ s
idle vertices s none =
    ap (see_after vertices (record { seen = s.seen; last = [] })) none ∙
    (λ i. record { seen = s.seen; last = sym none i })

stays : (vertices : List Vertex) (k : ℕ) (s : Search) → s.last ≡ [] → search_after vertices k s ≡ s
stays vertices zero s none = refl
stays vertices (suc k) s none = ap (search_round vertices) (stays vertices k s none) ∙ idle vertices s none

at_or_before : (k m : ℕ) → k ≤ suc m → (k ≤ m) ⊎ (k ≡ suc m)
at_or_before k m h = grind arith

pub search_settles : SearchSettles
search_settles vertices k zero s le none = let same : 0 ≡ k = omega arith in ap (λ n. search_after vertices n s) same
search_settles vertices k (suc m) s le none =
    ⊎_elim (λ before. ap (search_round vertices) (search_settles vertices k m s before none) ∙
    idle vertices (search_after vertices k s) none)
    (λ now. ap (λ n. search_after vertices n s) (sym now)) (at_or_before k m le)

swapped : (a b c : Bool) → (a || (b || c)) ≡ (b || (a || c))
swapped true true c = refl
swapped true false c = refl
swapped false b c = refl

turned : (a b : Bool) → (a || b) ≡ (b || a)
turned true true = refl
turned true false = refl
turned false true = refl
turned false false = refl

module _ {A : Type 0} (same : A → A → Bool) (sound : (a b : A) → same a b ≡ true → a ≡ b)
    (itself : (a : A) → same a a ≡ true)
    (follow : A → List A) (Is : A → Type 0) (next : (x y : A) → Is x → In y (follow x) → Is y)
    (number : A → ℕ) (vertices : List Vertex) (covers : (x : A) → Is x → number x < length vertices)
    (differ : (x y : A) → Is x → Is y → number x ≡ number y → x ≡ y)
    (sees : (s : Search) (x : A) → Is x → see_vertex vertices s (number x) ≡ fold see s (map number (follow x))) where
  -- the flags of a search tell who is among these nodes
  record Tells (s : Search) (known : List A) : Type 0 where
    room : length s.seen ≡ length vertices
    flags : (x : A) → Is x → is_seen s (number x) ≡ list_any (same x) known

  see_nodes : (s : Search) (xs : List A) → ((x : A) → In x xs → Is x) →
      see_after vertices s (map number xs) ≡ fold see s (map number (flat_map follow xs))
  see_nodes s [] are = refl
  see_nodes s (x ∷ xs) are =
      ap (λ q. see_after vertices q (map number xs)) (sees s x (are x (inl refl)))
      ∙ see_nodes (fold see s (map number (follow x))) xs (λ y m. are y (inr m))
      ∙ sym (fold-append see s (map number (follow x)) (map number (flat_map follow xs)))
      ∙ ap (fold see s) (sym (map-append number (follow x) (flat_map follow xs)))

  -- the search after a node that is met for the first time
  abbrev marks : Search → A → Search
  marks s x = record { seen = slice_set s.seen (number x) true; last = s.last ++ number x ∷ [] }

  marked : (s : Search) (known : List A) (x : A) → Tells s known → Is x → Tells (marks s x) (x ∷ known)
  marked s known x t is = record {
    room = length-set s.seen (number x) true ∙ t.room;
    flags = λ y is_y. go y is_y (same y x) refl;
  } where
    go : (y : A) → Is y → (b : Bool) → same y x ≡ b →
        slice_index_or (slice_set s.seen (number x) true) (number y) true ≡ (same y x || list_any (same y) known)
    go y is_y true e =
        ap (λ z. slice_index_or (slice_set s.seen (number x) true) (number z) true) (sound y x e)
        ∙ get_or-set_same s.seen (number x) true true (omega (arith, t.room, covers x is))
        ∙ sym (ap (λ b. b || list_any (same y) known) e)
    go y is_y false e =
        get_or-set_other s.seen (number x) (number y) true true
        (λ equal. absurd (cc (ap (same y) (differ y x is_y is equal), itself y, e)))
        ∙ t.flags y is_y
        ∙ sym (ap (λ b. b || list_any (same y) known) e)

  -- the nodes of a list, met in turn
  record Met (q : Search) (known acc new : List A) : Type 0 where
    tells : Tells q (new ++ known)
    last : q.last ≡ map number (acc ++ new)

  meet : (xs known acc : List A) (s : Search) → ((x : A) → In x xs → Is x) → Tells s known → s.last ≡ map number acc →
      Met (fold see s (map number xs)) known acc (unknown_by same known xs)
  meet [] known acc s are t last = record { tells = t; last = last ∙ ap (map number) (sym (append-nil acc)) }
  meet (x ∷ xs) known acc s are t last =
      subst (λ b. Met (fold see (if b then s else marks s x) (map number xs)) known acc
      (unknown_by same known (x ∷ xs)))
      (sym (t.flags x (are x (inl refl))))
      (go (list_any (same x) known)
      (meet xs known acc s (λ y m. are y (inr m)) t last)
      (meet xs (x ∷ known) (acc ++ x ∷ []) (marks s x) (λ y m. are y (inr m)) (marked s known x t (are x (inl refl)))
      (ap (λ ns. ns ++ number x ∷ []) last ∙ sym (map-append number acc (x ∷ []))))) where
        go : (b : Bool) → Met (fold see s (map number xs)) known acc (unknown_by same known xs) →
            Met (fold see (marks s x) (map number xs)) (x ∷ known) (acc ++ x ∷ []) (unknown_by same (x ∷ known) xs) →
            Met (fold see (if b then s else marks s x) (map number xs)) known acc
            (if b then unknown_by same known xs else x ∷ unknown_by same (x ∷ known) xs)
        go true seen unseen = seen
        go false seen unseen = record {
          tells = record {
            room = unseen.tells.room;
            flags = λ y is_y.
                unseen.tells.flags y is_y
                ∙ list_any-append (same y) (unknown_by same (x ∷ known) xs) (x ∷ known)
                ∙ swapped (list_any (same y) (unknown_by same (x ∷ known) xs)) (same y x) (list_any (same y) known)
                ∙ ap (λ b. same y x || b) (sym (list_any-append (same y) (unknown_by same (x ∷ known) xs) known));
          };
          last = unseen.last ∙ ap (map number) (append_assoc acc (x ∷ []) (unknown_by same (x ∷ known) xs));
        }

  turned_tells : (s : Search) (xs ys : List A) → Tells s (xs ++ ys) → Tells s (ys ++ xs)
  turned_tells s xs ys t = record {
    room = t.room;
    flags = λ y is_y.
        t.flags y is_y ∙ list_any-append (same y) xs ys ∙ turned (list_any (same y) xs) (list_any (same y) ys)
        ∙ sym (list_any-append (same y) ys xs);
  }

  -- a round
  round_meets : (known new : List A) (s : Search) → ((x : A) → In x new → Is x) → Tells s (known ++ new) →
      s.last ≡ map number new →
      Met (search_round vertices s) (known ++ new) [] (unknown_by same (known ++ new) (flat_map follow new))
  round_meets known new s are t last =
      subst (λ q. Met q (known ++ new) [] (unknown_by same (known ++ new) (flat_map follow new)))
      (sym (ap (see_after vertices (record { seen = s.seen; last = [] })) last ∙
      see_nodes (record { seen = s.seen; last = [] }) new are))
      (meet (flat_map follow new) (known ++ new) [] (record { seen = s.seen; last = [] })
      (λ x m. from_flat_map follow x new (λ w k n. next w x (are w k) n) m)
      (record { room = t.room; flags = t.flags }) refl)

  reach_tells : (steps : ℕ) (known new : List A) (s : Search) → ((x : A) → In x new → Is x) → Tells s (known ++ new) →
      s.last ≡ map number new → Tells (search_after vertices steps s) (reached_by same follow steps known new)
  reach_tells steps known [] s are t last =
      subst (λ q. Tells q known) (sym (stays vertices steps s last)) (subst (Tells s) (append-nil known) t)
  reach_tells zero known (x ∷ xs) s are t last = t
  reach_tells (suc steps) known (x ∷ xs) s are t last =
      let all = known ++ x ∷ xs in
      let found = flat_map follow (x ∷ xs) in
      let met = round_meets known (x ∷ xs) s are t last in
      subst (λ q. Tells q (reached_by same follow steps all (unknown_by same all found))) (first_round vertices steps s)
      (reach_tells steps all (unknown_by same all found) (search_round vertices s)
      (λ y m. from_flat_map follow y (x ∷ xs) (λ w k n. next w y (are w k) n)
      (unknown_sub same sound itself follow y all found m))
      (turned_tells (search_round vertices s) (unknown_by same all found) all met.tells) met.last)

  unseen_tells : Tells (record { seen = replicate (length vertices) false; last = [] }) []
  unseen_tells = record {
    room = length-replicate (length vertices) false;
    flags = λ x is. get_or-replicate (length vertices) (number x) false true (covers x is);
  }

  pub search_tells : (steps : ℕ) (n : A) → Is n →
      is_seen (search_after vertices steps (search_from vertices (number n))) (number n) ≡
      list_any (same n) (reached_by same follow steps [] (unknown_by same [] (follow n)))
  search_tells steps n is =
      let start : Search = record { seen = replicate (length vertices) false; last = [] } in
      let met = meet (follow n) [] [] start (λ x m. next n x is m) unseen_tells refl in
      let first = subst (λ q. Met q [] [] (unknown_by same [] (follow n))) (sym (sees start n is)) met in
      (reach_tells steps [] (unknown_by same [] (follow n)) (search_from vertices (number n))
      (λ x m. next n x is (unknown_sub same sound itself follow x [] (follow n) m))
      (subst (Tells (search_from vertices (number n))) (append-nil (unknown_by same [] (follow n))) first.tells)
      first.last).flags n is

-- one list of targets in place of a list of edges
see_edges : (s : Search) (arrs : List Arrow) →
    fold see_targets s (map edge_of arrs) ≡ fold see s (map node_number (flat_map (λ arrow. arrow.targets) arrs))
see_edges s [] = refl
see_edges s (a ∷ arrs) =
    see_edges (fold see s (map node_number a.targets)) arrs
    ∙ sym (fold-append see s (map node_number a.targets) (map node_number (flat_map (λ arrow. arrow.targets) arrs)))
    ∙ ap (fold see s) (sym (map-append node_number a.targets (flat_map (λ arrow. arrow.targets) arrs)))

pub search_tells_cycles : SearchTellsCycles
search_tells_cycles stack vertices n orderly few table is =
    search_tells same_node sound itself (following stack) (IsNode stack) (next_node stack orderly) node_number vertices
    table.covers
    (λ x y is_x is_y equal. numbers_differ stack x y few is_x is_y equal)
    (λ s x is_x. ap (λ (v : Vertex). fold see_targets s v.edges) (table.tells x is_x) ∙ see_edges s (arrows stack x))
    (length (nodes stack)) n is
    ∙ sym (cycle_is stack n)
