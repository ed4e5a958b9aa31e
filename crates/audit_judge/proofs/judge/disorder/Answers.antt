use Rattle.std.proofs.Common.{[], ap, length, ◌≤◌, arith}
use Rattle.std.specs.Prelude.{map}
use Rattle.std.proofs.lemmas.List.{length-map}
use Rattle.std.proofs.lemmas.List.FromFn.{length-enumerate_from}
use Rattle.audit_mean.specs.Segment.{entries_of}
use Rattle.audit_judge.specs.Reading.{shown_line}
use Rattle.audit_judge.specs.Entries.{numbered_lines, entry_shown}
use Rattle.audit_judge.specs.Places.{lists_shown}
use Rattle.audit_judge.proofs.Rising.{few_entries, in_order}
use Rattle.audit_judge.proofs.judge.disorder.Goals as goal

pub place-requires : goal.place-requires
place-requires c =
    let few : length (entries_of (numbered_lines c.args.lines.now)) ≤ length (numbered_lines c.args.lines.now) =
    few_entries [] (numbered_lines c.args.lines.now) in
    let counted = ap length c.in_ok-entries.ensures in
    let mapped = length-map c.in_ok-entries.entries.items entry_shown in
    let all = length-enumerate_from 1 (map shown_line c.args.lines.now) in
    let lines = length-map c.args.lines.now shown_line in
    rw c.as_slice.ensures.value (omega (arith, c.requires))

pub least_clash-requires : goal.least_clash-requires
least_clash-requires c =
    rw (c.as_slice-2.ensures.value, c.in_ok-placed.ensures, c.as_slice.ensures.value, c.in_ok-entries.ensures)
    (in_order (lists_shown c.args.lists) (map shown_line c.args.lines.now))
