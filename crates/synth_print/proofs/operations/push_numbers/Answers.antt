use Rattle.std.proofs.Common.{ap, arith, length, ◌∙◌, ◌++◌, ◌<◌}
use Rattle.synth_print.specs.Operations.{number_texts}
use Rattle.synth_print.specs.Texts.{layers_in, terms_in, written_in}
use Rattle.synth_print.proofs.Joins.{line_lead, many_numbers, number_text_at}
use Rattle.synth_print.proofs.operations.push_numbers.Goals as goal

pub loop-k-preserved : goal.loop-k-preserved
loop-k-preserved c =
    let s = c.args.scope.now in
    let few : c.loop-k.k < length c.args.numbers.now = omega (arith, c.loop-k-test.true, c.len-k-end.ensures.count) in
    line_lead (number_texts (layers_in s) (written_in s) (terms_in s) c.args.numbers.now) c.loop-k.k _ _ _ _
    c.loop-k.invariant c.in_ok-push_lead.ensures
    (c.in_ok-push_number.ensures ∙ ap (λ text. c.push_lead.new.line ++ text)
    (number_text_at (layers_in s) (written_in s) (terms_in s) c.args.numbers.now c.loop-k.k c.at.result few
    c.at.ensures))
    (omega (
      arith,
      c.loop-k-test.true,
      c.len-k-end.ensures.count,
      many_numbers (layers_in s) (written_in s) (terms_in s) c.args.numbers.now,
    ))
