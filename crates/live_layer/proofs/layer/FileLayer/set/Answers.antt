use Rattle.std.proofs.Common.{sym, ap, subst, ◌∙◌}
use Rattle.std.specs.Rc.{rc_value}
use Rattle.typed_layer.specs.View.{layer_tree}
use Rattle.cell_store.specs.Kept.{state_of}
use Rattle.cell_store.proofs.Seen.{set_seen}
use Rattle.pool_message.specs.Seen.{row_seen}
use Rattle.live_layer.specs.Layer.{refs_of, state_in, IsInOrder}
use Rattle.live_layer.specs.Rest.{IsAtRest}
use Rattle.live_layer.proofs.OwnCells.{number_rest, number_before, number_refs}
use Rattle.live_layer.proofs.layer.FileLayer.set.Goals as goal

pub returns-clause-state : goal.returns-clause-state
unfolding state_in
returns-clause-state c p =
    ap (state_of (row_seen p)) c.set.ensures ∙ set_seen (row_seen p) c.args.self.now.desk.cells c.args.cell c.args.index
    c.args.value

pub returns-clause-refs : goal.returns-clause-refs
unfolding refs_of
returns-clause-refs c = number_refs c.args.self.now.desk.cells c.set.new.self c.args.cell c.args.index c.args.value
    c.set.ensures

pub returns-clause-order : goal.returns-clause-order
unfolding IsInOrder
returns-clause-order c p is =
    subst (λ k. IsAtRest (layer_tree (rc_value c.args.self.now.layer)) p (record c.args.self.now.desk { cells = k }))
    (sym c.set.ensures)
    (number_rest (layer_tree (rc_value c.args.self.now.layer)) p c.args.self.now.desk is c.args.cell c.args.index
    c.args.value)

pub returns-clause-others : goal.returns-clause-others
returns-clause-others c = number_before c.args.self.now c.args.cell c.args.index c.args.value c.set.new.self
    c.set.ensures
