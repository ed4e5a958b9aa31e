use Rattle.program_laws.proofs.Files.{one_file}
use Rattle.file_jobs.proofs.stack.judged_file.Goals as goal

pub returns-in-Ok-read_file : goal.returns-in-Ok-read_file
returns-in-Ok-read_file c = record {
  means = c.in-Ok.ensures;
  tree = one_file c.args.text.now _ _ c.in-Ok.ensures.is_file c.in-Ok-read_file.ensures.1;
}
