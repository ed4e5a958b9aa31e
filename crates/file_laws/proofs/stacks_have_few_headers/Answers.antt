use Rattle.file_laws.proofs.HeldHeaders.{stacks_have_few_headers}
use Rattle.file_laws.proofs.stacks_have_few_headers.Goals as goal

pub returns : goal.returns
returns c = stacks_have_few_headers
