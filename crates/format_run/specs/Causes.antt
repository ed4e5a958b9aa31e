-- How a run ends for the error of a shelf or a sink.
use Rattle.outside.specs.declared.shelf.ShelfError.{ShelfError}
use Rattle.outside.specs.declared.shelf.ShelfError.TheVariants as shelf
use Rattle.outside.specs.declared.sink.SinkError.{SinkError}
use Rattle.outside.specs.declared.sink.SinkError.TheVariants as sink
use Rattle.format_run.specs.declared.ending.LayoutEnding.{LayoutEnding}
use Rattle.format_run.specs.declared.ending.LayoutEnding.TheVariants as ending

-- The file couldn't be read.
abbrev pub unread : ShelfError → LayoutEnding
unread shelf.Failed = ending.Read
unread shelf.Memory = ending.Memory

-- The output couldn't be written.
abbrev pub unwritten : SinkError → LayoutEnding
unwritten sink.Failed = ending.Write
unwritten sink.Memory = ending.Memory
