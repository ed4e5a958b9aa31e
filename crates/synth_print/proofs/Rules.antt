-- Lemmas that go together, for the functions whose goals want them.
use Rattle.synth_print.proofs.Notes.{note_read, note_called, no_note}

-- For `push_note`.
pub ruleset of_push_note = (note_read, note_called, no_note)
