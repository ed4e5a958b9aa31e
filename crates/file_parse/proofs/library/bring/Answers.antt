use Rattle.std.proofs.Common.{rules}
use Rattle.file_parse.proofs.Bringing.{unknown, repeated, had, brought}
use Rattle.file_parse.proofs.LibraryTexts.{is_library_text}
use Rattle.file_parse.proofs.library.bring.Goals as goal

pub returns-in_default : goal.returns-in_default
returns-in_default c = unknown _ _ _ _ (rw (c.in_default.is, c.bytes.ensures) at c.text_of.ensures)

pub returns-then-is_among : goal.returns-then-is_among
returns-then-is_among c = repeated _ _ c.in-Some.text.now _ _ (search rules) (search rules)

pub returns-then-has_layer : goal.returns-then-has_layer
returns-then-has_layer c = had _ _ c.in-Some.text.now _ _ _ (search rules) (search rules) (search rules)

pub spelled-requires : goal.spelled-requires
spelled-requires c = is_library_text c.args.word.now c.in-Some.text.now (search rules)

pub returns : goal.returns
returns c =
    brought _ _ c.in-Some.text.now _ _ _ _ c.in_ok-layer.layer (search rules) (search rules) (search rules)
    (search rules)
    (search rules) (search rules)
