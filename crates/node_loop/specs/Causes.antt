-- How a node ends for the error of a sink or of links.
use Rattle.outside.specs.declared.links.LinkError.{LinkError}
use Rattle.outside.specs.declared.links.LinkError.TheVariants as links
use Rattle.outside.specs.declared.sink.SinkError.{SinkError}
use Rattle.outside.specs.declared.sink.SinkError.TheVariants as sink
use Rattle.node_loop.specs.declared.error.NodeError.{NodeError}
use Rattle.node_loop.specs.declared.error.NodeError.TheVariants.{Link, Write, Memory}

-- A line couldn't be written.
abbrev pub unwritten : SinkError → NodeError
unwritten sink.Failed = Write
unwritten sink.Memory = Memory

-- A member couldn't listen.
abbrev pub unlinked : LinkError → NodeError
unlinked links.Failed = Link
unlinked links.Memory = Memory
