use Rattle.std.proofs.Common.{◌∙◌}
use Rattle.chart_draw.proofs.stubs.was_given.Goals as goal

pub returns : goal.returns
returns c = c.contains_key.ensures ∙ c.requires (record { number = c.args.number; member = c.args.member })
