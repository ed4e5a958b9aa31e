use Rattle.std.proofs.Common.{ap, arith, length, take}
use Rattle.std.proofs.lemmas.List.{length-drop, length-take-le}
use Rattle.msg_core.proofs.headers.Headers.cut.Goals as goal

pub push_front-requires : goal.push_front-requires
push_front-requires c =
    let all = c.slice-all.result.now in
    let kept = ap (λ hs. length hs) c.loop-k.invariant in
    let left = length-drop c.loop-k.k (take c.args.count all) in
    let front = length-take-le c.args.count all (omega (arith, ap (λ hs. length hs) c.slice-all.ensures, c.requires)) in
    let whole = ap (λ hs. length hs) c.slice-all.ensures in
    omega (
      arith,
      kept,
      left,
      front,
      whole,
      c.len.ensures.few,
      c.len.ensures.count,
      c.requires,
      c.loop-k-test.true,
      c.if-from-len.false,
    )
