-- Lemmas that go together, for the functions whose goals want them.
use Rattle.format_layout.proofs.Lines.{no_lines, all_left, one_line, none_left}

-- For `end_line`.
pub ruleset of_end_line = (no_lines, all_left, one_line, none_left)
