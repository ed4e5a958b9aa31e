-- What a file that can't be read is refused for.
use Rattle.pack_read.specs.declared.error.ReadError.{ReadError}
use Rattle.pack_read.specs.declared.error.ReadError.TheVariants as read
use Rattle.pack_judge.specs.declared.error.BypassError.{BypassError}
use Rattle.pack_judge.specs.declared.error.BypassError.TheVariants.{Line, Memory}

abbrev pub unread : ReadError → BypassError
unread (read.Line n) = Line n
unread read.Memory = Memory
