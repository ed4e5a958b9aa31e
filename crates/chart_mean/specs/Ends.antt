-- How the program ends: its status, and what it says.
use Rattle.std.specs.Prelude.{ℕ, List, [], ◌++◌, codes}
use Rattle.std.specs.Fmt.{decimal}
use Rattle.outside.specs.Said.{Errors, SaysLine, Silent}
use Rattle.chart_mean.specs.declared.types.ChartEnding.{ChartEnding}
use Rattle.chart_mean.specs.declared.types.ChartEnding.TheVariants.{Done, TooLarge, Line, Words, Read, Write, Memory}

-- the status with which the program ends
abbrev pub status_number : ChartEnding → ℕ
status_number Done = 0
status_number TooLarge = 1
status_number (Line number) = 1
status_number Words = 2
status_number Read = 4
status_number Write = 5
status_number Memory = 7

-- its line on the standard error
abbrev pub error_line : ChartEnding → List ℕ
error_line Done = []
error_line TooLarge = codes "file: too large\n"
error_line (Line number) = codes "file: line " ++ decimal number ++ codes "\n"
error_line Words = codes "words: refused\n"
error_line Read = codes "read fault\n"
error_line Write = codes "write fault\n"
error_line Memory = codes "no memory\n"

-- what is said of an end: nothing where all went well, and else its line
abbrev pub Said : ChartEnding → Errors → Type 0
Said Done e = Silent e
Said end e = SaysLine (error_line end) (status_number end) e
