-- Which packets fit a plan: those whose headers are as it says, except for a few numbers. (Leaving constant fields out
-- of a packet, with a number in their place, comes from the SOSP 1999 paper.)
use Rattle.std.specs.Prelude.{ℕ, Bool, true, false, ◌==◌, ◌&&◌, bytes_eq, List, [], ◌∷◌, map, flat_map, position}
use Rattle.std.specs.Prelude.{Option, Some, None}
use denote.Enum.Bare.{sameb}
use Rattle.msg_core.specs.Chain.{Content}
use Rattle.msg_core.specs.declared.packet.Dest.{Dest}
use Rattle.msg_core.specs.declared.packet.Dest.TheVariants as dest
use Rattle.msg_core.specs.declared.packet.Packet.{Packet}
use Rattle.layer_words.specs.contracts.events.Kind as kind_row
use Rattle.layer_words.specs.declared.events.Kind.{Kind}
use Rattle.layer_words.specs.declared.events.Kind.TheVariants.{Cast, Send}
use Rattle.stack_mean.specs.Plan.{Plan}

-- The kind of a packet, by its destination: to all it is a Cast, to a rank a Send.
abbrev pub kind_of : Dest → Kind
kind_of dest.All = Cast
kind_of (dest.Rank rank) = Send

-- The tags of a message's headers, from the lowest layer up.
abbrev pub tags_of : Content → List ℕ
tags_of message = map (λ h. h.tag) message.headers

-- The fields of a message's headers, all in a row, from the lowest layer up.
abbrev pub fields_of : Content → List ℕ
fields_of message = flat_map (λ h. h.fields) message.headers

-- There are as many numbers as planned, and those planned as constants are the planned constants.
abbrev pub agree : (planned : List (Option ℕ)) (numbers : List ℕ) → Bool
agree [] [] = true
agree (Some constant ∷ planned) (v ∷ numbers) = (v == constant) && agree planned numbers
agree (None ∷ planned) (v ∷ numbers) = agree planned numbers
agree _ _ = false

-- The numbers that are planned as variable.
abbrev pub variable : (planned : List (Option ℕ)) (numbers : List ℕ) → List ℕ
variable (Some constant ∷ planned) (v ∷ numbers) = variable planned numbers
variable (None ∷ planned) (v ∷ numbers) = v ∷ variable planned numbers
variable _ _ = []

-- A packet fits a plan where its kind, its tags and its constant fields are the plan's.
abbrev pub fits : Plan → Packet → Bool
fits plan packet = sameb kind_row.the_type plan.kind (kind_of packet.dest) &&
    bytes_eq plan.tags (tags_of packet.message)
    && agree plan.fields (fields_of packet.message)

-- The number of the least plan that a packet fits, if there is one.
abbrev pub least_fit : List Plan → Packet → Option ℕ
least_fit plans packet = position (λ plan. fits plan packet) plans

-- The fields of a packet that a plan leaves variable, from the lowest layer up.
abbrev pub variable_fields : Plan → Packet → List ℕ
variable_fields plan packet = variable plan.fields (fields_of packet.message)
