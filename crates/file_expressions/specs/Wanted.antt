-- What may stand where something is wanted.
use Rattle.std.specs.Prelude.{List, [], ◌∷◌}
use Rattle.layer_words.specs.declared.sorts.Sort.{Sort}
use Rattle.fault_mean.specs.Kinds.{a_message}
use Rattle.file_expressions.specs.declared.wanted.Wanted.{Wanted}
use Rattle.file_expressions.specs.declared.wanted.Wanted.TheVariants.{One, Message}

-- The sorts that are allowed.
abbrev pub sorts_of : Wanted → List Sort
sorts_of (One sort) = sort ∷ []
sorts_of Message = a_message
