-- The first view that outputs announce.
use Rattle.std.proofs.Common.{◌≡◌, ℕ, suc, ◌+◌, ◌<◌, ◌≤◌, List, [], ◌∷◌, ◌++◌, Option, Some, None, map, length, take}
use Rattle.std.proofs.Common.{drop, get_or, slice_get, refl, sym, ap, ◌∙◌, add-one}
use Rattle.std.specs.List.{cons_option, filter_map}
use Rattle.std.proofs.Math.Seq.{drop-cons, take-suc}
use Rattle.std.proofs.lemmas.List.{take-append-drop, take_all}
use Rattle.std.proofs.lemmas.List.Elements.{filter_map-append}
use Rattle.msg_core.specs.declared.message.Header.{Header}
use Rattle.packet_mean.specs.declared.here.Here.{Here}
use Rattle.run_mean.specs.Member.{announced_ranks, Output}
use Rattle.step_outputs.specs.Kept.{announced_by, bytes_in, output_in, output_with}
use Rattle.step_outputs.specs.declared.kept.Kept.{Kept}
use Rattle.step_outputs.specs.declared.kept.What.{What}
use Rattle.step_outputs.specs.declared.kept.What.TheVariants.{Cast, Send, Block, Announce, Timer, Packet, Nowhere}
use Rattle.step_outputs.specs.declared.kept.What.TheVariants.{Quiet}

-- what is announced doesn't depend on where, on headers or on bytes
one_announced : (here : Here) (what : What) (headers : List Header) (body : List ℕ) →
    announced_ranks (output_with here what headers body).0 ≡ announced_by what
one_announced here (Cast peer) headers body = refl
one_announced here (Send peer) headers body = refl
one_announced here (Block a) headers body = refl
one_announced here (Announce ranks) headers body = refl
one_announced here (Timer moment) headers body = refl
one_announced here (Packet dest plan) headers body = refl
one_announced here (Nowhere plan) headers body = refl
one_announced here (Quiet dir signal) headers body = refl

-- what outputs announce
abbrev pub all_announced : List Kept → List ℕ
all_announced list = filter_map (λ k. announced_by k.what) list

pub announced_in : (here : Here) (bytes : List ℕ) (list : List Kept) →
    filter_map announced_ranks (map (λ o. o.0) (map (output_in here bytes) list)) ≡ all_announced list
announced_in here bytes [] = refl
announced_in here bytes (k ∷ list) = λ i. cons_option (one_announced here k.what k.headers (bytes_in bytes k.body) i)
    (announced_in here bytes list i)

-- the first one is found where none stands before it
pub first_found : (list : List Kept) (n : ℕ) (k : Kept) (ranks : ℕ) → n < length list → all_announced (take n list) ≡
    [] →
    announced_by (get_or list n k).what ≡ Some ranks → slice_get (all_announced list) 0 ≡ Some ranks
first_found list n k ranks within none is =
    let parts : all_announced list ≡ all_announced (take n list) ++ all_announced (drop n list) =
    ap all_announced (sym (take-append-drop n list)) ∙ filter_map-append (λ k. announced_by k.what) (take n list)
    (drop n list) in
    let following : all_announced (drop n list) ≡ cons_option (Some ranks) (all_announced (drop (suc n) list)) =
    ap all_announced (drop-cons list n k within) ∙ ap (λ o. cons_option o (all_announced (drop (suc n) list))) is in
    ap (λ xs. slice_get xs 0) (parts ∙ (λ i. none i ++ following i))

-- one more that announces nothing
pub none_more : (list : List Kept) (n : ℕ) (k : Kept) → n < length list → all_announced (take n list) ≡ [] →
    announced_by (get_or list n k).what ≡ None → all_announced (take (n + 1) list) ≡ []
none_more list n k within none is =
    ap (λ m. all_announced (take m list)) (add-one n) ∙ ap all_announced (take-suc list n k within)
    ∙ filter_map-append (λ k. announced_by k.what) (take n list) (get_or list n k ∷ [])
    ∙ (λ i. none i ++ cons_option (is i) [])

-- what is answered of the outputs that are shown
pub first_told : (outputs : List (Output × Option ℕ)) (here : Here) (bytes : List ℕ) (list items : List Kept) (n : ℕ)
    (k : Kept) (ranks : ℕ) →
    map (output_in here bytes) list ≡ outputs → items ≡ list → n < length items → all_announced (take n items) ≡ [] →
    k ≡ get_or items n k →
    announced_by k.what ≡ Some ranks → Some ranks ≡ slice_get (filter_map announced_ranks (map (λ o. o.0) outputs)) 0
first_told outputs here bytes list items n k ranks shown same within none this is =
    sym (ap (λ (xs : List (Output × Option ℕ)). slice_get (filter_map announced_ranks (map (λ o. o.0) xs)) 0)
    (sym shown)
    ∙ ap (λ xs. slice_get xs 0) (announced_in here bytes list)
    ∙ ap (λ (xs : List Kept). slice_get (all_announced xs) 0) (sym same)
    ∙ first_found items n k ranks within none (ap (λ (x : Kept). announced_by x.what) (sym this) ∙ is))

pub none_told : (outputs : List (Output × Option ℕ)) (here : Here) (bytes : List ℕ) (list items : List Kept) (n : ℕ) →
    map (output_in here bytes) list ≡ outputs → items ≡ list → length items ≤ n → all_announced (take n items) ≡ [] →
    None ≡ slice_get (filter_map announced_ranks (map (λ o. o.0) outputs)) 0
none_told outputs here bytes list items n shown same past none =
    sym (ap (λ (xs : List (Output × Option ℕ)). slice_get (filter_map announced_ranks (map (λ o. o.0) xs)) 0)
    (sym shown)
    ∙ ap (λ xs. slice_get xs 0) (announced_in here bytes list)
    ∙ ap (λ (xs : List Kept). slice_get (all_announced xs) 0) (sym same ∙ sym (take_all n items past))
    ∙ ap (λ xs. slice_get xs 0) none)
