-- The names of a statement that a value of the program shows.
use Rattle.file_mean.specs.Names as spec
use Rattle.file_slots.specs.Place.{placed_of}
use Rattle.file_slots.specs.declared.scope.VisibleNames.{VisibleNames}

abbrev pub names_of : VisibleNames → spec.Names
names_of n = record {
  place = placed_of n.place.now;
  numbers = n.numbers.names;
  messages = n.messages.names;
  taken = record { numbers = n.numbers.taken; messages = n.messages.taken };
}
