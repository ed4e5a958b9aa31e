use Rattle.file_parse.proofs.Ending.{file_read}
use Rattle.file_parse.proofs.files.file.Goals as goal

pub returns : goal.returns
returns c = file_read _ _ _ c.in_ok-layers.ensures _ _ c.in_ok-places.ensures
