use Rattle.std.proofs.Common.{◌∙◌, ap}
use Rattle.std.proofs.lemmas.Result.{IfOk-weaker}
use Rattle.miss_laws.specs.Asked.{all_asked}
use Rattle.group_open.proofs.codes.examining_codes.Goals as goal

pub returns : goal.returns
returns c = IfOk-weaker c.code_and_checks.result _ _ (λ made are. record {
  codes_are = record {
    bypasses = _;
    of = c.in_ok-bypasses.ensures.of_stack c.requires.sound;
    is = are.0;
  };
  checks_are = are.1 ∙ ap all_asked c.in_ok-bypasses.ensures.made;
}) c.code_and_checks.ensures
