-- Why a search ends whose group wasn't opened.
use Rattle.group_member.specs.declared.error.OpenError.{OpenError}
use Rattle.group_member.specs.declared.error.OpenError.TheVariants as opening
use Rattle.hunt_search.specs.declared.error.SearchError.{SearchError}
use Rattle.hunt_search.specs.declared.error.SearchError.TheVariants as search_error

abbrev pub not_opened : OpenError → SearchError
not_opened opening.TooLarge = search_error.TooManyRows
not_opened opening.Memory = search_error.Memory
