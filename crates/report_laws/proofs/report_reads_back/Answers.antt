use Rattle.report_laws.proofs.ReadsBack.{report_reads_back}
use Rattle.report_laws.proofs.report_reads_back.Goals as goal

pub returns : goal.returns
returns c = report_reads_back
