use Rattle.std.proofs.Common.{rules, refl, sym, arith}
use Rattle.std.specs.Prelude.{◌==◌}
use Rattle.std.proofs.lemmas.List.{take_all, take_rest}
use Rattle.script_text.proofs.Cuts.{split_at_some, split_at_none}
use Rattle.script_text.proofs.splits.cut_at.Goals as goal

pub returns-then-place-text : goal.returns-then-place-text
returns-then-place-text c = (
  sym (take_all c.args.place c.args.text.now (omega arith)),
  split_at_none (λ byte. byte == c.args.at) c.args.text.now
      (λ k low below. c.requires.1 k low (omega (arith, below, c.if-place-text.true))),
)

pub returns-then-text-place : goal.returns-then-text-place
returns-then-text-place c = (
  refl,
  rw take_rest (split_at_some (λ byte. byte == c.args.at) c.args.text.now c.args.place
      (record { low = omega arith; high = omega arith; before = c.requires.1 }, search rules)),
)
