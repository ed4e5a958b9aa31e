-- The variable fields are put one header after the other.
use Rattle.std.proofs.Common.{◌≡◌, ℕ, ◌≤◌, List, [], ◌∷◌, ◌++◌, Option, Some, None, refl, sym, ap, ◌∙◌, append-nil}
use Rattle.std.proofs.Common.{length, drop}
use Rattle.std.specs.Prelude.{flat_map}
use Rattle.msg_core.specs.declared.message.Header.{Header}
use Rattle.packet_mean.specs.Plan.{variable}
use Rattle.packet_mean.specs.Spelling.{number_bytes}
use Rattle.packet_short.proofs.Alike.{none_left}

-- what is to be put after some bytes is what is still to be put after others, whatever comes after
abbrev pub GoesOn : (planned : List (Option ℕ)) (numbers : List ℕ) (planned' : List (Option ℕ)) (numbers' : List ℕ)
    (old new : List ℕ) → Type 0
GoesOn planned numbers planned' numbers' old new = (more : List ℕ) →
    old ++ flat_map number_bytes (variable planned (numbers ++ more)) ≡ new ++
    flat_map number_bytes (variable planned' (numbers' ++ more))

none_variable : (planned : List (Option ℕ)) → variable planned [] ≡ []
none_variable [] = refl
none_variable (Some c ∷ planned) = refl
none_variable (None ∷ planned) = refl

-- the fields that are to be put after some numbers are those that are still to be put after others, whatever comes
-- after
abbrev pub KeepsOn : (planned : List (Option ℕ)) (numbers : List ℕ) (planned' : List (Option ℕ)) (numbers' : List ℕ)
    (old new : List ℕ) → Type 0
KeepsOn planned numbers planned' numbers' old new = (more : List ℕ) → old ++ variable planned (numbers ++ more) ≡ new ++
    variable planned' (numbers' ++ more)

-- all headers are put
pub headers_put : (whole : List ℕ) (left : List (Option ℕ)) (hs : List Header) (k : ℕ) (new : List ℕ) →
    whole ≡ new ++ flat_map number_bytes (variable left (flat_map (λ h. h.fields) (drop k hs))) → length hs ≤ k →
    new ≡ whole
headers_put whole left hs k new so_far past =
    sym (so_far
    ∙ ap (λ xs. new ++ flat_map number_bytes (variable left (flat_map (λ h. h.fields) xs))) (none_left hs k past)
    ∙ ap (λ xs. new ++ flat_map number_bytes xs) (none_variable left)
    ∙ append-nil new)

pub headers_kept : (whole : List ℕ) (left : List (Option ℕ)) (hs : List Header) (k : ℕ) (new : List ℕ) →
    whole ≡ new ++ variable left (flat_map (λ h. h.fields) (drop k hs)) → length hs ≤ k → new ≡ whole
headers_kept whole left hs k new so_far past =
    sym (so_far
    ∙ ap (λ xs. new ++ variable left (flat_map (λ h. h.fields) xs)) (none_left hs k past)
    ∙ ap (λ xs. new ++ xs) (none_variable left)
    ∙ append-nil new)
