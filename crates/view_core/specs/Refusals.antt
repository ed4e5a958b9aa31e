-- The refusals of a run, as members tell them.
use Rattle.run_mean.specs.Member as member
use Rattle.view_core.specs.declared.refusal.Refusal.{Refusal}
use Rattle.view_core.specs.declared.refusal.Refusal.TheVariants.{Out, TooBig, Stray}

abbrev pub refusal_meant : Refusal → member.Refusal
refusal_meant Out = member.is_out
refusal_meant TooBig = member.too_big
refusal_meant (Stray cause) = member.is_stray cause
