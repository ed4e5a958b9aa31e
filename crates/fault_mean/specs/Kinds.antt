-- What the arguments of each kind of event are.
use Rattle.std.specs.Prelude.{Bool, List, [], ◌∷◌}
use Rattle.std.specs.List.{list_any}
use denote.Enum.Bare.{sameb}
use Rattle.layer_words.specs.contracts.sorts.Sort as sort_row
use Rattle.layer_words.specs.declared.sorts.Sort.{Sort}
use Rattle.layer_words.specs.declared.sorts.Sort.TheVariants.{Int, Msg, Part}
use Rattle.layer_words.specs.declared.events.Kind.{Kind}
use Rattle.layer_words.specs.declared.events.Kind.TheVariants.{Cast, Send, Stable, Ack}

-- Whether a sort is one of these.
abbrev pub allows : List Sort → Sort → Bool
allows sorts sort = list_any (sameb sort_row.the_type sort) sorts

-- What may stand where a number is wanted.
abbrev pub a_number : List Sort
a_number = Int ∷ []

-- What may stand where a message of the layers above is wanted.
abbrev pub a_msg : List Sort
a_msg = Msg ∷ []

-- What may stand where a part is wanted.
abbrev pub a_part : List Sort
a_part = Part ∷ []

-- What may stand where a message of either sort is wanted: one of the layers above, or a part.
abbrev pub a_message : List Sort
a_message = Msg ∷ Part ∷ []

-- What is wanted for each argument of a kind: a peer and a message for casts and sends, two numbers for Stable and Ack,
-- and one number for every other kind.
abbrev pub arguments_of : Kind → List (List Sort)
arguments_of Cast = a_number ∷ a_message ∷ []
arguments_of Send = a_number ∷ a_message ∷ []
arguments_of Stable = a_number ∷ a_number ∷ []
arguments_of Ack = a_number ∷ a_number ∷ []
arguments_of _ = a_number ∷ []
