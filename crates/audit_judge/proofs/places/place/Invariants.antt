use Rattle.std.proofs.Common.{take}
use Rattle.std.specs.Prelude.{map}
use Rattle.std.specs.HashMap as hash
use Rattle.audit_judge.specs.Entries.{entry_shown}
use Rattle.audit_judge.specs.Places.{lists_shown, same_key}
use Rattle.audit_judge.proofs.Counts.{IsPlaced}
use Rattle.audit_judge.proofs.places.place.Given as goal

abbrev pub invariant-loop-entry : goal.invariant-loop-entry
invariant-loop-entry l = IsPlaced (lists_shown l.lists) (hash.get same_key l.counts) l.placed.items
    (map entry_shown (take l.entry-index l.entries))
