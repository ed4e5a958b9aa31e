-- Which plans headers fit.
use Rattle.std.specs.Prelude.{ℕ, ◌==◌, ◌&&◌, Bool, false, bytes_eq, if◌then◌else◌, List, [], ◌∷◌, map, flat_map, Option}
use Rattle.std.specs.Prelude.{Some, None}
use denote.Enum.Bare.{sameb}
use Rattle.msg_core.specs.declared.message.Header.{Header}
use Rattle.layer_words.specs.contracts.events.Kind as kind_row
use Rattle.layer_words.specs.declared.events.Kind.{Kind}
use Rattle.packet_mean.specs.Plan.{agree}
use Rattle.stack_mean.specs.Plan.{Plan}

-- Headers have these tags, and fields as planned.
abbrev pub alike : (tags : List ℕ) (planned : List (Option ℕ)) → List Header → Bool
alike tags planned headers = bytes_eq tags (map (λ h. h.tag) headers) &&
    agree planned (flat_map (λ h. h.fields) headers)

-- Headers of a packet of a kind are as a plan says.
abbrev pub fits_headers : Kind → List Header → Plan → Bool
fits_headers kind headers plan =
    sameb kind_row.the_type plan.kind kind && bytes_eq plan.tags (map (λ h. h.tag) headers) &&
    agree plan.fields (flat_map (λ h. h.fields) headers)

-- Whether there is a first plan, and it fits.
abbrev pub first_fits : (Plan → Bool) → List Plan → Bool
first_fits fit [] = false
first_fits fit (plan ∷ plans) = fit plan

-- The planned fields after those of some numbers, if the numbers agree with theirs.
abbrev pub following : (planned : List (Option ℕ)) (numbers : List ℕ) → Option (List (Option ℕ))
following planned [] = Some planned
following (Some constant ∷ planned) (v ∷ numbers) = if v == constant then following planned numbers else None
following (None ∷ planned) (v ∷ numbers) = following planned numbers
following [] (v ∷ numbers) = None
