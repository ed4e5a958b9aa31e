use Rattle.std.proofs.Common.{All, subst, sym}
use Rattle.std.proofs.lemmas.List.Elements.{All-push}
use Rattle.layer_ast.specs.View as written
use Rattle.file_mean.specs.Layers as spec
use Rattle.typed_layer.specs.Table.{IsTagged}
use Rattle.typed_layer.specs.View.{handler_tree}
use Rattle.file_laws.specs.Bounds.{HoldsHandler}
use Rattle.file_slots.specs.Place.{placed_of}
use Rattle.file_slots.proofs.Lists.{holds_at, made_more}
use Rattle.file_lower.proofs.handler.handlers.Goals as goal

pub handler-requires : goal.handler-requires
handler-requires c = holds_at (HoldsHandler (placed_of c.args.place.now)) written.handler_tree c.args.all.now
    c.loop-h.h-index
    c.h-item.result c.loop-h-test.true c.h-item.is c.requires

pub loop-h-preserved : goal.loop-h-preserved
loop-h-preserved c = (
  made_more written.handler_tree (spec.handler_of (placed_of c.args.place.now)) handler_tree c.args.all.now
      c.loop-h.h-index
      c.h-item.result c.loop-h.made.items _ c.in_ok-handler.field-0 c.loop-h-test.true c.h-item.is
      c.in_ok-handler.ensures.is
      c.loop-h.invariant.0 c.in_ok-push.ensures.items,
  subst (All IsTagged) (sym c.in_ok-push.ensures.items)
      (All-push IsTagged c.loop-h.made.items c.in_ok-handler.field-0 c.loop-h.invariant.1
      c.in_ok-handler.ensures.tagged),
)
