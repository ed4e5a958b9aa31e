-- The sorts of one argument or two.
use Rattle.std.specs.Prelude.{List, take}
use Rattle.layer_words.specs.declared.sorts.Sort.{Sort}
use Rattle.file_scope.specs.declared.sorts.Sorts.{Sorts}

abbrev pub sorts_of : Sorts → List Sort
sorts_of s = take s.count s.both
