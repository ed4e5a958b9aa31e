-- How jobs end for the cause of another stage.
use Rattle.outside.specs.declared.shelf.ShelfError.{ShelfError}
use Rattle.outside.specs.declared.shelf.ShelfError.TheVariants as shelf
use Rattle.job_ends.specs.declared.ending.Ending.{Ending}
use Rattle.job_ends.specs.declared.ending.Ending.TheVariants as ending

-- A file couldn't be read.
abbrev pub unread : ShelfError → Ending
unread shelf.Failed = ending.Read
unread shelf.Memory = ending.Memory
