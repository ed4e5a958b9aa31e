-- Nodes have numbers of their own.
use Rattle.std.proofs.Common.{◌≡◌, ℕ, zero, suc, ◌+◌, ◌*◌, ◌<◌, ◌≤◌, Bool, true, false, List, [], ◌∷◌, length, is_some}
use Rattle.std.proofs.Common.{slice_index_or, rules, arith}
use Rattle.std.specs.Prelude.{if◌then◌else◌, ◌==◌}
use denote.Enum.Bare.{tag_one}
use denote.Enum.Declared.{tag_of}
use Rattle.layer_words.specs.declared.events.Dir.{Dir}
use Rattle.layer_words.specs.declared.events.Dir.TheVariants.{Up, Down}
use Rattle.layer_words.specs.contracts.events.Dir as dir_row
use Rattle.layer_words.specs.declared.events.Kind.{Kind}
use Rattle.layer_words.specs.declared.events.Kind.TheVariants as kind
use Rattle.layer_words.specs.contracts.events.Kind as kind_row
use Rattle.layer_mean.specs.Event.{carries}
use Rattle.layer_mean.specs.Headers.{header_none, header_of_tag}
use Rattle.layer_mean.specs.Tree.{LayerTree, no_layer}
use Rattle.stack_mean.specs.Graph.{Node, header_layer}
use Rattle.weight_laws.specs.Nodes.{can_have, IsNode}
use Rattle.weight_laws.specs.Tables.{HasFewHeaders, NumbersFit, NumbersDiffer}
use Rattle.weight_laws.proofs.Nodes.{there_below, is_zero}
use Rattle.weight_laws.proofs.Costs.{node_is}

dir_below : (d : Dir) → tag_of dir_row.the_type d < 2
dir_below Up = omega arith
dir_below Down = omega arith

kind_below : (k : Kind) → tag_of kind_row.the_type k < 12
kind_below kind.Cast = omega arith
kind_below kind.Send = omega arith
kind_below kind.Timer = omega arith
kind_below kind.Suspect = omega arith
kind_below kind.Stable = omega arith
kind_below kind.Ack = omega arith
kind_below kind.Elect = omega arith
kind_below kind.Block = omega arith
kind_below kind.BlockOk = omega arith
kind_below kind.Flushed = omega arith
kind_below kind.View = omega arith
kind_below kind.Leave = omega arith

few_at : (stack : List LayerTree) (k : ℕ) → HasFewHeaders stack → length (slice_index_or stack k no_layer).headers ≤ 7
few_at [] k h = omega arith
few_at (layer ∷ above) zero h = h.0
few_at (layer ∷ above) (suc k) h = few_at above k h.1

few_in : (stack : List LayerTree) (dir : Dir) (at : ℕ) → HasFewHeaders stack →
    length (header_layer stack dir at).headers ≤ 7
few_in stack Up at h = few_at stack _ h
few_in stack Down at h = few_at stack _ h

tag_below : (k : Kind) (layer : LayerTree) (tag : ℕ) → length layer.headers ≤ 7 → can_have k layer tag ≡ true → tag < 8
tag_below k layer tag few h = go (carries k) h where
  go : (b : Bool) → (if b then is_some (header_of_tag layer tag) else tag == 0) ≡ true → tag < 8
  go true e = omega (arith, there_below (header_none ∷ layer.headers) tag e)
  go false e = omega (arith, is_zero tag e)

pub small_tag : (stack : List LayerTree) (n : Node) → HasFewHeaders stack → IsNode stack n → n.tag < 8
small_tag stack n few is = tag_below n.kind (header_layer stack n.dir n.at) n.tag (few_in stack n.dir n.at few) is.tag

pub numbers_fit : NumbersFit
numbers_fit stack n few is = omega (arith, small_tag stack n few is, is.at, dir_below n.dir, kind_below n.kind)

apart : (at d k t at' d' k' t' : ℕ) → d < 2 → d' < 2 → k < 12 → k' < 12 → t < 8 → t' < 8 →
    ((at * 2 + d) * 12 + k) * 8 + t ≡ ((at' * 2 + d') * 12 + k') * 8 + t' → (at ≡ at') × (d ≡ d') × (k ≡ k') × (t ≡ t')
apart at d k t at' d' k' t' hd hd' hk hk' ht ht' e =
    let tags : t ≡ t' = omega arith in
    let kinds : k ≡ k' = omega arith in
    let dirs : d ≡ d' = omega arith in
    (omega arith, dirs, kinds, tags)

pub numbers_differ : NumbersDiffer
numbers_differ stack m n few is_m is_n e =
    let parts = apart m.at (tag_of dir_row.the_type m.dir) (tag_of kind_row.the_type m.kind) m.tag
    n.at (tag_of dir_row.the_type n.dir) (tag_of kind_row.the_type n.kind) n.tag
    (dir_below m.dir) (dir_below n.dir) (kind_below m.kind) (kind_below n.kind) (small_tag stack m few is_m)
    (small_tag stack n few is_n) (omega (arith, e)) in
    node_is m n parts.0 parts.3 (tag_one dir_row.the_type (search rules) m.dir n.dir parts.1)
    (tag_one kind_row.the_type (search rules) m.kind n.kind parts.2)
