use Rattle.file_judge.proofs.Orderly.{stack_is_orderly}
use Rattle.file_judge.proofs.judgement.judge_stack.Goals as goal

pub accept-requires : goal.accept-requires
accept-requires c = stack_is_orderly c.args.text.now _ c.requires
