use Rattle.file_laws.proofs.HeldHeaders.{typed_have_few_headers}
use Rattle.file_laws.proofs.typed_have_few_headers.Goals as goal

pub returns : goal.returns
returns c = typed_have_few_headers
