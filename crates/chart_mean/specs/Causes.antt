-- How the program ends for the error of a shelf or a sink.
use Rattle.outside.specs.declared.shelf.ShelfError.{ShelfError}
use Rattle.outside.specs.declared.shelf.ShelfError.TheVariants as shelf
use Rattle.outside.specs.declared.sink.SinkError.{SinkError}
use Rattle.outside.specs.declared.sink.SinkError.TheVariants as sink
use Rattle.chart_mean.specs.declared.types.ChartEnding.{ChartEnding}
use Rattle.chart_mean.specs.declared.types.ChartEnding.TheVariants as ending

-- The file couldn't be read.
abbrev pub unread : ShelfError → ChartEnding
unread shelf.Failed = ending.Read
unread shelf.Memory = ending.Memory

-- The picture couldn't be written.
abbrev pub unwritten : SinkError → ChartEnding
unwritten sink.Failed = ending.Write
unwritten sink.Memory = ending.Memory
