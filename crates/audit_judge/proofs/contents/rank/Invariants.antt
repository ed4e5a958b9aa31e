use Rattle.std.proofs.Common.{take}
use Rattle.std.specs.Prelude.{map}
use Rattle.std.specs.HashMap as hash
use Rattle.audit_judge.specs.Entries.{entry_shown}
use Rattle.audit_judge.specs.Lacks.{same_content_key}
use Rattle.audit_judge.proofs.Ranks.{IsRanked}
use Rattle.audit_judge.proofs.contents.rank.Given as goal

abbrev pub invariant-loop-entry : goal.invariant-loop-entry
invariant-loop-entry l = IsRanked (hash.get same_content_key l.counts) l.ranked.items
    (map entry_shown (take l.entry-index l.entries))
