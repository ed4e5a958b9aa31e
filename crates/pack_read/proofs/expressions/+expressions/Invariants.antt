use Rattle.std.proofs.Common.{◌+◌, ◌*◌}
use Rattle.pack_read.proofs.expressions.+expressions.Given as goal

abbrev pub decreases-index : goal.decreases-index
decreases-index l = 8 * l.room + 1

abbrev pub decreases-target_at : goal.decreases-target_at
decreases-target_at l = 8 * l.room + 2

abbrev pub decreases-target_named : goal.decreases-target_named
decreases-target_named l = 8 * l.room + 3

abbrev pub decreases-cell_number : goal.decreases-cell_number
decreases-cell_number l = 8 * l.room + 4

abbrev pub decreases-queue_at : goal.decreases-queue_at
decreases-queue_at l = 8 * l.room + 2

abbrev pub decreases-queue : goal.decreases-queue
decreases-queue l = 8 * l.room

abbrev pub decreases-length : goal.decreases-length
decreases-length l = 8 * l.room + 1

abbrev pub decreases-item : goal.decreases-item
decreases-item l = 8 * l.room + 1

abbrev pub decreases-size : goal.decreases-size
decreases-size l = 8 * l.room + 1

abbrev pub decreases-choice : goal.decreases-choice
decreases-choice l = 8 * l.room + 1

abbrev pub decreases-application : goal.decreases-application
decreases-application l = 8 * l.room + 1

abbrev pub decreases-operation : goal.decreases-operation
decreases-operation l = 8 * l.room + 1

abbrev pub decreases-begun_by : goal.decreases-begun_by
decreases-begun_by l = 8 * l.room + 2

abbrev pub decreases-number_named : goal.decreases-number_named
decreases-number_named l = 8 * l.room + 5

abbrev pub decreases-number : goal.decreases-number
decreases-number l = 8 * l.room

abbrev pub decreases-held : goal.decreases-held
decreases-held l = 8 * l.room + 1

abbrev pub decreases-cut : goal.decreases-cut
decreases-cut l = 8 * l.room + 1

abbrev pub decreases-tail : goal.decreases-tail
decreases-tail l = 8 * l.room + 1

abbrev pub decreases-join : goal.decreases-join
decreases-join l = 8 * l.room + 1

abbrev pub decreases-built_by : goal.decreases-built_by
decreases-built_by l = 8 * l.room + 2

abbrev pub decreases-message : goal.decreases-message
decreases-message l = 8 * l.room

abbrev pub decreases-message_named : goal.decreases-message_named
decreases-message_named l = 8 * l.room + 5
