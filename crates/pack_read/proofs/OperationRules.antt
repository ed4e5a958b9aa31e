-- Lemmas that go together, for the functions whose goals want them.
use Rattle.pack_read.proofs.Fields.{no_fields, field_more, no_comma as no_comma_in_fields, no_field}
use Rattle.pack_read.proofs.Numbering.{
  numbers_next,
  no_comma as no_comma_in_numbering,
  no_number,
  none_read,
  first_there,
  no_first,
}

-- For `more_fields`.
pub ruleset of_more_fields = (no_fields, field_more, no_comma_in_fields, no_field)

-- For `more_numbers`.
pub ruleset of_more_numbers = (numbers_next, no_comma_in_numbering, no_number)

-- For `some_numbers`.
pub ruleset of_some_numbers = (none_read, first_there, no_first)
