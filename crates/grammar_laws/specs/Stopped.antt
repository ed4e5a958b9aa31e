-- Two texts that spell no file, and where they stop being the beginning of one.
use Rattle.std.specs.Prelude.{[], codes}
use Rattle.layer_ast.specs.Stops.{StopsBad, StopsAtEnd}

-- The empty text stops at its end, which is the place 1:1.
abbrev pub EmptyStops : Type 0
EmptyStops = StopsAtEnd [] (record { line = 1; col = 1 })

-- A text whose first byte is bad stops there.
abbrev pub BadByteStops : Type 0
BadByteStops = StopsBad (codes "$") (record { line = 1; col = 1 })
