use Rattle.std.proofs.Common.{Some, option_map, option_copied, sym, ap, subst, ◌∙◌, arith}
use Rattle.std.specs.Rc.{rc_value}
use Rattle.slot_pool.specs.Times.{times}
use Rattle.typed_layer.specs.View.{layer_tree}
use Rattle.cell_store.proofs.Seen as kept_seen
use Rattle.pool_message.specs.Seen.{content_seen, refs_if, row_seen}
use Rattle.live_layer.specs.Layer.{refs_of, state_in, IsInOrder}
use Rattle.live_layer.specs.OwnCells.{message_if, CanBeOwn}
use Rattle.live_layer.proofs.OwnCells.{row_among, row_own}
use Rattle.live_layer.proofs.layer.FileLayer.held.Goals as goal

pub keep_if_any-requires-clause-there : goal.keep_if_any-requires-clause-there
unfolding refs_of
keep_if_any-requires-clause-there c = record {
  covers = λ j.
      let among = row_among c.args.self.now.desk.cells c.args.cell c.args.index c.args.row c.in-Some.row.now
      (sym c.row.ensures ∙ ap option_copied c.in-Some.is) j in
      let all = c.requires.there.covers j in omega arith;
}

pub keep_if_any-requires-clause-room : goal.keep_if_any-requires-clause-room
unfolding refs_of
keep_if_any-requires-clause-room c = record {
  below = λ j some.
      let among = row_among c.args.self.now.desk.cells c.args.cell c.args.index c.args.row c.in-Some.row.now
      (sym c.row.ensures ∙ ap option_copied c.in-Some.is) j in
      c.requires.room.below j (omega arith);
}

pub returns-in-Some-clause-same : goal.returns-in-Some-clause-same
unfolding state_in
returns-in-Some-clause-same c p =
    ap (option_map (content_seen p)) c.keep_if_any.ensures.same ∙
    sym (ap message_if (kept_seen.row_seen (row_seen p) c.args.self.now.desk.cells c.args.cell c.args.index c.args.row ∙
    ap (option_map (row_seen p)) (sym c.row.ensures ∙ ap option_copied c.in-Some.is)))

pub returns-in-Some-clause-own : goal.returns-in-Some-clause-own
unfolding IsInOrder
returns-in-Some-clause-own c p is =
    subst (CanBeOwn p) (sym c.keep_if_any.ensures.same)
    (row_own (layer_tree (rc_value c.args.self.now.layer)) p c.args.self.now.desk is c.args.cell c.args.index c.args.row
    (Some c.in-Some.row.now)
    (sym (sym c.row.ensures ∙ ap option_copied c.in-Some.is)))

pub returns-in-Some-clause-among : goal.returns-in-Some-clause-among
unfolding refs_of
returns-in-Some-clause-among c j =
    let among = row_among c.args.self.now.desk.cells c.args.cell c.args.index c.args.row c.in-Some.row.now
    (sym c.row.ensures ∙ ap option_copied c.in-Some.is) j in
    let same = ap (λ m. times j (refs_if m)) c.keep_if_any.ensures.same in omega arith

pub returns-in-None-clause-same : goal.returns-in-None-clause-same
unfolding state_in
returns-in-None-clause-same c p =
    sym (ap message_if (kept_seen.row_seen (row_seen p) c.args.self.now.desk.cells c.args.cell c.args.index c.args.row ∙
    ap (option_map (row_seen p)) (sym c.row.ensures ∙ ap option_copied c.in-None.is)))
