-- A family for worked cases.
use Rattle.std.specs.Prelude.{[]}
use Rattle.audit_mean.specs.declared.law.Law.TheVariants.{Total}
use Rattle.family_mean.specs.Family.{Family}

-- Three members without acts, and scripts of at most four events.
abbrev pub sample : Family
sample = record {
  stack = [];
  law = Total;
  acts = record { group = 1; stamp = 1; members = 3; events = [] };
  events = 4;
  repeats = 0;
}
