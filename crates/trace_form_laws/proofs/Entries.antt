-- An entry whose input is chained is one whose tags are declared.
use Rattle.std.proofs.Common.{◌≡◌, ℕ, suc, Bool, true, false, List, [], ◌∷◌, ◌++◌, map, length, take, drop, Option}
use Rattle.std.proofs.Common.{Some, None, is_some, refl, sym, subst}
use Rattle.std.specs.Prelude.{if◌then◌else◌, MatchBool, IsSomeAnd, slice_index}
use Rattle.msg_core.specs.Chain.{Content}
use Rattle.msg_core.specs.declared.message.Header.{Header}
use Rattle.layer_words.specs.declared.events.Dir.{Dir}
use Rattle.layer_words.specs.declared.events.Dir.TheVariants.{Up, Down}
use Rattle.layer_words.specs.declared.events.Kind.{Kind}
use Rattle.layer_mean.specs.declared.run.Event.{Event}
use Rattle.layer_mean.specs.Event.{carries, event_of}
use Rattle.layer_mean.specs.Headers.{header_of_tag}
use Rattle.layer_mean.specs.Tree.{HeaderTree, LayerTree}
use Rattle.stack_mean.specs.Shape.{entry_place}
use Rattle.packet_mean.specs.Chained.{IsChain}
use Rattle.packet_mean.specs.ChainedState.{IsMessage, Brings, IsEvent, IsFrom}
use Rattle.chain_laws.specs.Runs.{task_place}
use Rattle.trace_mean.specs.Trace.{Atom, body}
use Rattle.trace_mean.specs.Worth.{Input, nothing_kept, atom_at, header_at, content_at}
use Rattle.trace_mean.specs.Fuse.{entry_chain, field_atoms, fields_of}
use Rattle.trace_form_laws.specs.Entries.{AreDeclared, entry_layers, ChainedIsEntry}

abbrev made : Bool → Kind → List ℕ → Option Content → Event
made b kind ns m = if b
    then record { kind = kind; peer = slice_index ns 0; a = 0; b = 0; message = m }
    else record { kind = kind; peer = 0; a = slice_index ns 0; b = slice_index ns 1; message = m }

parts : (b : Bool) (kind : Kind) (ns : List ℕ) (m : Option Content) → ((made b kind ns m).kind ≡ kind) ×
    ((made b kind ns m).message ≡ m)
parts true kind ns m = (refl, refl)
parts false kind ns m = (refl, refl)

brought : (C : List Header → Type 0) (kind : Kind) (ns : List ℕ) (m : Content) → IsEvent C (event_of kind ns (Some m)) →
    (carries kind ≡ true) × IsMessage C m
brought C kind ns m h =
    go (carries kind) refl
    (subst {A = Kind × Option Content} (λ x. Brings C (carries x.0) x.1) (λ t. (p.0 t, p.1 t)) h.message) where
      p : ((made (carries kind) kind ns (Some m)).kind ≡ kind) ×
          ((made (carries kind) kind ns (Some m)).message ≡ Some m)
      p = parts (carries kind) kind ns (Some m)

      go : (b : Bool) → carries kind ≡ b → Brings C b (Some m) → (carries kind ≡ true) × IsMessage C m
      go true is h = (is, h)
      go false is h = absurd h

no_tags : (i : Input) (p : ℕ) (layers : List LayerTree) (tags : List ℕ) (atoms : List Atom) →
    map (header_at i nothing_kept) (entry_chain p layers tags atoms) ++ [] ≡ [] → tags ≡ []
no_tags i p layers [] atoms h = refl
no_tags i p [] (tag ∷ tags) atoms h = absurd (cc h)
no_tags i p (layer ∷ above) (tag ∷ tags) atoms h = absurd (cc h)

none_declared : (layers : List LayerTree) (tags : List ℕ) → tags ≡ [] → AreDeclared layers tags
none_declared layers tags is = subst (AreDeclared layers) (sym is) tt

tags_declared : (i : Input) (p : ℕ) (layers : List LayerTree) (tags : List ℕ) (atoms : List Atom) →
    IsChain layers p (map (header_at i nothing_kept) (entry_chain p layers tags atoms) ++ []) → AreDeclared layers tags
tags_declared i p layers [] atoms h = tt
tags_declared i p [] (tag ∷ tags) atoms h = absurd (cc h)
tags_declared i p (layer ∷ above) (tag ∷ tags) atoms h =
    go (header_of_tag layer tag) h (tags_declared i (suc p) above tags (drop (fields_of layer tag) atoms)) where
      hs : List Header
      hs = map (header_at i nothing_kept) (entry_chain (suc p) above tags (drop (fields_of layer tag) atoms)) ++ []

      over : (b : Bool) → MatchBool b (hs ≡ []) (IsChain above (suc p) hs) →
          (IsChain above (suc p) hs → AreDeclared above tags) → AreDeclared above tags
      over true k later = none_declared above tags (no_tags i (suc p) above tags (drop (fields_of layer tag) atoms) k)
      over false k later = later k

      go : (o : Option HeaderTree) →
          IsSomeAnd o (λ d. (p ≡ p) ×
          (length (map (atom_at i nothing_kept) (take (fields_of layer tag) atoms)) ≡ d.fields)
          × MatchBool d.ends (hs ≡ []) (IsChain above (suc p) hs)) →
          (IsChain above (suc p) hs → AreDeclared above tags) → (is_some o ≡ true) × AreDeclared above tags
      go None k later = absurd k
      go (Some d) k later = (refl, over d.ends k.2 later)

nothing_left : (stack : List LayerTree) → drop (length stack) stack ≡ []
nothing_left [] = refl
nothing_left (layer ∷ above) = nothing_left above

pub chained_is_entry : ChainedIsEntry
chained_is_entry stack k fields i task =
    let b = brought (IsFrom stack (task_place k.dir (entry_place stack k.dir))) k.kind (i.peer ∷ [])
    (content_at i nothing_kept (record { chain = entry_chain 0 stack k.tags (field_atoms 0 fields); core = body }))
    task.event in
    record { carried = b.0; tags = go k.dir b.1.headers.chain } where
      headers : List Header
      headers = map (header_at i nothing_kept) (entry_chain 0 stack k.tags (field_atoms 0 fields)) ++ []

      go : (dir : Dir) → IsChain (drop (task_place dir (entry_place stack dir)) stack)
          (task_place dir (entry_place stack dir)) headers →
          AreDeclared (entry_layers stack dir) k.tags
      go Up h = tags_declared i 0 stack k.tags (field_atoms 0 fields) h
      go Down h = none_declared [] k.tags (no_tags i 0 stack k.tags (field_atoms 0 fields)
          (subst (λ layers. IsChain layers (length stack) headers) (nothing_left stack) h))
