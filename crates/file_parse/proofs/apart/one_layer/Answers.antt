use Rattle.std.proofs.Common.{sym, ◌∙◌}
use Rattle.file_parse.proofs.LayerAfterLayer.{layer_stands}
use Rattle.file_parse.proofs.apart.one_layer.Goals as goal

pub returns-then-is_empty : goal.returns-then-is_empty
returns-then-is_empty c =
    layer_stands _ _ _ c.in-Ok.ensures.read c.in-Ok.ensures.shorter (sym c.is_empty.ensures ∙ c.if-is_empty.true)
