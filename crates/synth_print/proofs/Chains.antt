-- Known headers, one after the other.
use Rattle.std.proofs.Common.{◌≡◌, ℕ, suc, zero, ◌-◌, ◌<◌, List, [], ◌∷◌, ◌++◌, codes, sym, ap, subst, ◌∙◌, arith}
use Rattle.std.proofs.lemmas.List.{append-nil, append_assoc}
use Rattle.std.specs.Option.{option_map_or}
use Rattle.std.specs.Prelude.{OnOk, Result, Ok, Err, slice_get}
use Rattle.bypass_mean.specs.Text.{Written, atom_text, following, link_text}
use Rattle.layer_mean.specs.Headers.{header_of_tag}
use Rattle.layer_mean.specs.Tree.{LayerTree}
use Rattle.synth_print.specs.Headers.{header_called, more_links}
use Rattle.trace_core.specs.Links.{IsFrontLink, chain_in, link_tree}
use Rattle.trace_core.specs.declared.links.Link.{Link}
use Rattle.trace_mean.specs.Fuse.{fields_of}
use Rattle.trace_mean.specs.Trace as trace

-- a declared header stands after `none`
later_get : {X : Type 0} (x : X) (xs : List X) (k : ℕ) → 0 < k → slice_get (x ∷ xs) k ≡ slice_get xs (k - 1)
later_get x xs zero lt = absurd (omega (arith, lt))
later_get x xs (suc k) lt = let same : k ≡ suc k - 1 = omega arith in ap (slice_get xs) same

pub declared_after : {E : Type 0} (r : Result (Unit {0}) E) (layer : LayerTree) (tag number : ℕ) (old new : List ℕ) →
    0 < tag → number ≡ tag - 1 →
    OnOk r (new ≡ old ++ header_called (slice_get layer.headers number)) →
    OnOk r (new ≡ old ++ header_called (header_of_tag layer tag))
declared_after r layer tag number old new lt is put =
    subst (λ h. OnOk r (new ≡ old ++ header_called h))
    (ap (slice_get layer.headers) is ∙ sym (later_get _ layer.headers tag lt)) put

module _ (stack : List LayerTree) (w : Written) (cs : List (List trace.Link)) (k : ℕ) where
  pub rest_read : {E : Type 0} (r : Result (Unit {0}) E) (l : Link) (a b c d : List ℕ) → IsFrontLink cs k l →
      b ≡ a ++ codes "/" →
      c ≡ b ++ link_text stack (atom_text w) (link_tree l) → OnOk r (d ≡ c ++ more_links stack w (chain_in cs l.rest)) →
      OnOk r (d ≡ a ++ more_links stack w (chain_in cs k))
  rest_read (Ok done) l a b c d is eb ec ed =
      let first = link_text stack (atom_text w) (link_tree l) in
      let rest = more_links stack w (chain_in cs l.rest) in
      ed ∙ ap (λ z. z ++ rest) (ec ∙ ap (λ z. z ++ first) eb ∙ append_assoc a (codes "/") first)
      ∙ append_assoc a (codes "/" ++ first) rest
      ∙ ap (λ ls. a ++ more_links stack w ls) (sym is.parts)
  rest_read (Err e) l a b c d is eb ec ed = ed

  pub rest_empty : (a : List ℕ) → chain_in cs k ≡ [] → a ≡ a ++ more_links stack w (chain_in cs k)
  rest_empty a is = sym (append-nil a) ∙ ap (λ ls. a ++ more_links stack w ls) (sym is)

  pub after_read : {E : Type 0} (r : Result (Unit {0}) E) (l : Link) (a b c d : List ℕ) → IsFrontLink cs k l →
      b ≡ a ++ codes " " →
      c ≡ b ++ link_text stack (atom_text w) (link_tree l) → OnOk r (d ≡ c ++ more_links stack w (chain_in cs l.rest)) →
      OnOk r (d ≡ a ++ following stack w (chain_in cs k))
  after_read (Ok done) l a b c d is eb ec ed =
      let first = link_text stack (atom_text w) (link_tree l) in
      let rest = more_links stack w (chain_in cs l.rest) in
      ed ∙ ap (λ z. z ++ rest) (ec ∙ ap (λ z. z ++ first) eb)
      ∙ append_assoc (a ++ codes " ") first rest
      ∙ append_assoc a (codes " ") (first ++ rest)
      ∙ ap (λ ls. a ++ following stack w ls) (sym is.parts)
  after_read (Err e) l a b c d is eb ec ed = ed

  pub after_empty : (a : List ℕ) → chain_in cs k ≡ [] → a ≡ a ++ following stack w (chain_in cs k)
  after_empty a is = sym (append-nil a) ∙ ap (λ ls. a ++ following stack w ls) (sym is)

pub count_after : (layer : LayerTree) (tag number count : ℕ) → 0 < tag → number ≡ tag - 1 →
    count ≡ option_map_or (λ h. h.fields) (slice_get layer.headers number) 0 → count ≡ fields_of layer tag
count_after layer tag number count lt is found =
    found ∙ ap (λ h. option_map_or (λ h. h.fields) h 0)
    (ap (slice_get layer.headers) is ∙ sym (later_get _ layer.headers tag lt))
