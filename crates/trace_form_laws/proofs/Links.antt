-- Known headers are of their places.
use Rattle.std.proofs.Common.{◌≡◌, ℕ, zero, suc, ◌<◌, true, List, [], ◌∷◌, length, drop, is_some, refl, arith}
use Rattle.std.specs.Prelude.{slice_index_or}
use Rattle.layer_mean.specs.Headers.{header_of_tag}
use Rattle.layer_mean.specs.Tree.{LayerTree, no_layer}
use Rattle.trace_mean.specs.Trace.{Atom, Link}
use Rattle.trace_mean.specs.Fuse.{entry_chain}
use Rattle.trace_form_laws.specs.Entries.{AreDeclared, first_of}

abbrev pub LinksFit : List LayerTree → List Link → Type 0
LinksFit layers [] = Unit {0}
LinksFit [] (l ∷ ls) = ⊥
LinksFit (layer ∷ above) (l ∷ ls) = (is_some (header_of_tag layer l.tag) ≡ true) × LinksFit above ls

abbrev pub link_tag : List Link → ℕ
link_tag [] = 0
link_tag (l ∷ ls) = l.tag

pub front_fits : (stack : List LayerTree) (p : ℕ) (ls : List Link) → LinksFit (drop p stack) ls →
    is_some (header_of_tag (slice_index_or stack p no_layer) (link_tag ls)) ≡ true
front_fits stack p [] h = refl
front_fits [] zero (l ∷ ls) h = absurd h
front_fits [] (suc p) (l ∷ ls) h = absurd h
front_fits (layer ∷ above) zero (l ∷ ls) h = h.0
front_fits (layer ∷ above) (suc p) (l ∷ ls) h = front_fits above p (l ∷ ls) h

pub rest_fits : (stack : List LayerTree) (p : ℕ) (l : Link) (ls : List Link) → LinksFit (drop p stack) (l ∷ ls) →
    LinksFit (drop (suc p) stack) ls
rest_fits [] zero l ls h = absurd h
rest_fits [] (suc p) l ls h = absurd h
rest_fits (layer ∷ above) zero l ls h = h.1
rest_fits (layer ∷ above) (suc p) l ls h = rest_fits above p l ls h

pub more_fits : (stack : List LayerTree) (p : ℕ) (l : Link) (ls : List Link) → p < length stack →
    is_some (header_of_tag (slice_index_or stack p no_layer) l.tag) ≡ true → LinksFit (drop (suc p) stack) ls →
    LinksFit (drop p stack) (l ∷ ls)
more_fits [] p l ls less h k = absurd (omega arith)
more_fits (layer ∷ above) zero l ls less h k = (h, k)
more_fits (layer ∷ above) (suc p) l ls less h k = more_fits above p l ls (omega arith) h k

pub entry_fits : (p : ℕ) (layers : List LayerTree) (tags : List ℕ) (fields : List Atom) → AreDeclared layers tags →
    LinksFit layers (entry_chain p layers tags fields)
entry_fits p layers [] fields h = tt
entry_fits p [] (tag ∷ tags) fields h = absurd h
entry_fits p (layer ∷ above) (tag ∷ tags) fields h = (h.0, entry_fits (suc p) above tags _ h.1)

pub entry_tag : (p : ℕ) (layers : List LayerTree) (tags : List ℕ) (fields : List Atom) →
    link_tag (entry_chain p layers tags fields) ≡ first_of tags
entry_tag p layers [] fields = refl
entry_tag p [] (tag ∷ tags) fields = refl
entry_tag p (layer ∷ above) (tag ∷ tags) fields = refl
