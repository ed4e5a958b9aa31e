use Rattle.code_tests.proofs.Needed.{both_keep}
use Rattle.code_tests.proofs.needs.Needs.of.Goals as goal

pub returns : goal.returns
returns c = both_keep c.args.code.now _ _ _ _ c.as_slice.ensures.value c.as_slice-2.ensures.value
    c.prepared_by-prepared.ensures.prepared
    (c.needs_of_steps-needs.ensures.needed c.args.code.now.headings)
