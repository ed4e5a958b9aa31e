use Rattle.pack_laws.proofs.Reading.{what_is_read_is_in_form}
use Rattle.pack_laws.proofs.what_is_read_is_in_form.Goals as goal

pub returns : goal.returns
returns c = what_is_read_is_in_form
