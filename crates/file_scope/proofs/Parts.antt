-- What is found in three or four lists of faults, one after the other.
use Rattle.std.proofs.Common.{List, ◌++◌}
use Rattle.file_scope.specs.Found.{FindsBy}
use Rattle.file_scope.specs.declared.found.Fault.{Fault}
use Rattle.file_scope.specs.declared.found.Found.{Found}
use Rattle.file_scope.proofs.Finds.{finds_both}

pub three_parts : {F : Type 0} (shown : F → Fault) (a b c d : Found) (xs ys zs : List F) →
    FindsBy shown a xs b → FindsBy shown b ys c → FindsBy shown c zs d → FindsBy shown a (xs ++ ys ++ zs) d
three_parts shown a b c d xs ys zs one two three =
    finds_both shown a c d (xs ++ ys) zs (finds_both shown a b c xs ys one two) three

pub four_parts : {F : Type 0} (shown : F → Fault) (a b c d e : Found) (xs ys zs ws : List F) →
    FindsBy shown a xs b → FindsBy shown b ys c → FindsBy shown c zs d → FindsBy shown d ws e →
    FindsBy shown a (xs ++ ys ++ zs ++ ws) e
four_parts shown a b c d e xs ys zs ws one two three four =
    finds_both shown a d e (xs ++ ys ++ zs) ws (three_parts shown a b c d xs ys zs one two three) four
