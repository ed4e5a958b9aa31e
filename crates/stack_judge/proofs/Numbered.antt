-- Nodes with neighbouring tags have neighbouring numbers.
use Rattle.std.proofs.Common.{◌≡◌, ℕ, zero, suc, ◌+◌, ◌≤◌, List, ◌∷◌, map, refl, ap, ◌∙◌, arith}
use Rattle.std.specs.List.{range_with_len}
use Rattle.layer_words.specs.declared.events.Dir.{Dir}
use Rattle.layer_words.specs.declared.events.Kind.{Kind}
use Rattle.stack_mean.specs.Graph.{Node, arrow_to}
use Rattle.stack_mean.specs.Acceptance.{held_at_most}
use Rattle.layer_mean.specs.Queue.{beyond}
use Rattle.weight_laws.specs.Tables.{node_number, edge_of}

pub numbered : (at : ℕ) (dir : Dir) (kind : Kind) (first count : ℕ) →
    range_with_len (node_number (record { at = at; dir = dir; kind = kind; tag = first })) count ≡
    map node_number (map (λ tag. record { at = at; dir = dir; kind = kind; tag = tag }) (range_with_len first count))
numbered at dir kind first zero = refl
numbered at dir kind first (suc count) =
    let one : Node = record { at = at; dir = dir; kind = kind; tag = first } in
    let other : Node = record { at = at; dir = dir; kind = kind; tag = first + 1 } in
    let next : node_number one + 1 ≡ node_number other = omega arith in
    ap (λ (xs : List ℕ). node_number one ∷ xs)
    (ap (λ n. range_with_len n count) next ∙ numbered at dir kind (first + 1) count)

pub edge_is : (times number count : ℕ) (node : Node) (dir : Dir) (kind : Kind) (first : ℕ) → times ≤ 4294967295 →
    number ≡ node_number (record { at = beyond dir node.at; dir = dir; kind = kind; tag = first }) →
    record { times = times; targets = range_with_len number count } ≡
    edge_of (arrow_to times node dir kind (range_with_len first count))
edge_is times number count node dir kind first low is =
    let held : times ≡ held_at_most times = omega arith in
    let targets = ap (λ n. range_with_len n count) is ∙ numbered (beyond dir node.at) dir kind first count in
    λ i. record { times = held i; targets = targets i }
