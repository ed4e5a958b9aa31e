-- Code that passes puts out as often as it has output steps.
use Rattle.std.proofs.Common.{◌≡◌, ◌+◌, List, [], ◌∷◌, length, fold, arith}
use Rattle.std.proofs.lemmas.List.{length-append}
use Rattle.std.proofs.lemmas.List.Sums.{sum_by-cons}
use Rattle.std.specs.List.{sum_by}
use Rattle.trace_mean.specs.Worth.{Input}
use Rattle.trace_mean.specs.Follow.{Trail}
use Rattle.guard_mean.specs.Code.{Step, make, keep, set, set_square, push, take, output}
use Rattle.guard_mean.specs.Machine.{steps}
use Rattle.guard_laws.specs.Counts.{a_put}

module _ (i : Input) where
  one_step : (t : Trail) (s : Step) → length (steps i t s).outs ≡ length t.outs + a_put s
  one_step t (make r) = omega arith
  one_step t (keep m) = omega arith
  one_step t (set p c e v) = omega arith
  one_step t (set_square p c row column v) = omega arith
  one_step t (push p c e numbers sent) = omega arith
  one_step t (take p c e) = omega arith
  one_step t (output dir kind numbers sent) = length-append t.outs _

  pub all_steps : (ss : List Step) (t : Trail) → length (fold (steps i) t ss).outs ≡ length t.outs + sum_by a_put ss
  all_steps [] t = omega arith
  all_steps (s ∷ ss) t =
      let one = one_step t s in let rest = all_steps ss (steps i t s) in let sums = sum_by-cons a_put s ss in
      omega (arith, one, rest, sums)
