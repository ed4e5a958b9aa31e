-- The output without the packets' bytes and the number of visits is one term in both modes.
use Rattle.group_mean.specs.Told.{replay_lines}
use Rattle.program_mean.proofs.bypasses_report_as_layers.Goals as goal

pub returns : goal.returns
unfolding replay_lines
returns c file script_text out events h = record {
  stack = h.stack;
  means = h.means;
  script = h.script;
  spelled = h.spelled;
  room = h.room;
  written = h.written;
}
