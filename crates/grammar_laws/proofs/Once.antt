-- The syntax has one reading.
use Rattle.std.proofs.Common.{subst}
use Rattle.layer_ast.specs.Print.{file}
use Rattle.grammar_laws.specs.Once.{SpelledOnce, PrintedOnce}
use Rattle.grammar_laws.proofs.Files.{file_once}
use Rattle.grammar_laws.proofs.Together.{Together, fits_together, goes_with_itself}

pub spelled_once : SpelledOnce
spelled_once text s t library a b = file_once s t library (fits_together (file s) (file t) _ a.fits b.fits)

pub printed_once : PrintedOnce
printed_once s t library same = file_once s t library (subst (Together (file s)) same (goes_with_itself (file s)))
