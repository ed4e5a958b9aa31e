use Rattle.std.proofs.Common.{arith}
use Rattle.std.proofs.lemmas.Grind.{common_steps}
use Rattle.outside.proofs.Appended.{appends_piece, appends_keeps}
use Rattle.outside.proofs.Gathered.{take_rest}
use Rattle.outside.proofs.std_sink.write_through.Goals as goal
use Rattle.outside.proofs.std_sink.write_through.Goals.{in-Ok, in-Err}

pub loop-preserved : goal.loop-preserved
loop-preserved g c =
    elim c.match-write.branch [
      | in-Ok w ↦
          record {
            in_range = grind (arith, common_steps);
            written =
                rw w.written-is
                (appends_piece (g.W.Write.contents c.args.stream.now) (g.W.Write.contents c.loop.stream)
                (g.W.Write.contents c.write.new.self) c.args.bytes.now c.loop.written w.in-Ok.count
                c.loop.invariant.written (rw take_rest at w.in-Ok.ensures.bytes));
          }
      | in-Err w ↦
          record {
            in_range = grind (arith, common_steps);
            written = rw w.written-is (appends_keeps _ _ _ _ c.loop.invariant.written w.in-Err.ensures.bytes);
          }
    ]
