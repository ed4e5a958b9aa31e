-- What is told of steps that weren't common, as the definitions have it.
use Rattle.std.specs.Prelude.{option_map}
use Rattle.lack_mean.specs.Lacks as mean
use Rattle.shape_core.specs.Cases.{reason_tree}
use Rattle.stack_shapes.specs.declared.entry.EntryOf.{EntryOf}
use Rattle.stack_shapes.specs.declared.entry.EntryOf.TheVariants as entry
use Rattle.step_misses.specs.declared.miss.Lack.{Lack}
use Rattle.step_misses.specs.declared.miss.Lack.TheVariants.{NoPlan, Absent, Check}
use Rattle.step_misses.specs.declared.miss.Miss.{Miss}

abbrev pub entry_meant : EntryOf → mean.Entry
entry_meant entry.Cast = mean.cast
entry_meant entry.Send = mean.send
entry_meant (entry.Plan k) = mean.plan k
entry_meant entry.None = mean.none

abbrev pub lack_meant : Lack → mean.Lack
lack_meant NoPlan = mean.no_plan
lack_meant (Absent reason) = mean.absent (reason_tree reason)
lack_meant (Check k) = mean.missed k

abbrev pub miss_meant : Miss → mean.Miss
miss_meant m = record {
  entry = entry_meant m.entry;
  first = lack_meant m.first;
  second =
      option_map lack_meant m.second;
}
