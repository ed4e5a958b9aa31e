use Rattle.job_text.proofs.Words.{only_listed}
use Rattle.job_text.proofs.given.Given.has_only.Goals as goal

pub returns : goal.returns
returns c = rw (c.are_listed.ensures, c.as_slice.ensures)
    (only_listed c.args.self.now c.extras.result c.args.listed.now c.extras.ensures)
