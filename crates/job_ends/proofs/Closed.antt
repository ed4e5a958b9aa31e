-- With status 0 or 8 the output's stream has all that was put.
use Rattle.std.proofs.Common.{◌≡◌, refl, sym, subst, ◌∙◌, ℕ, Bool, true, false, List, arith}
use Rattle.outside.specs.Said.{Errors, SaysLine, whole, failed, no_memory, errors}
use Rattle.end_mean.specs.Status.{Ended, done, breached, status_number, error_line}
use Rattle.job_ends.specs.Shown.{Said}
use Rattle.program_streams.specs.Streams.{HandsOn, Stream}
use Rattle.job_ends.specs.Closes.{Closes, end_after_delivery}

-- the status of a line that is said is its own, or 7
not_said : (line : List ℕ) (n m : ℕ) (e : Errors) → SaysLine line n e → (n ≡ m → ⊥) → (7 ≡ m → ⊥) → e.status ≡ m → ⊥
not_said line n m e (whole gained is) apart seven now = apart (sym is ∙ now)
not_said line n m e (failed part is) apart seven now = apart (sym is ∙ now)
not_said line n m e (no_memory begun is) apart seven now = seven (sym is ∙ now)

-- only a job that went well has the status 0, and only a breach has 8
zero_is : (end : Ended) (e : Errors) → Said end e → e.status ≡ 0 → end ≡ done
zero_is done e said is = refl
zero_is end e said is =
    absurd (not_said (error_line end) (status_number end) 0 e said (λ z. omega (arith, z)) (λ z. omega (arith, z)) is)

eight_is : (end : Ended) (e : Errors) → Said end e → e.status ≡ 8 → end ≡ breached
eight_is breached e said is = refl
eight_is done e said is = let zero = said.status in absurd (omega (arith, is, zero))
eight_is end e said is =
    absurd (not_said (error_line end) (status_number end) 8 e said (λ z. omega (arith, z)) (λ z. omega (arith, z)) is)

-- an end that is whole after the stream was whole before, and the stream got all
got_done : (whole : Bool) (end : Ended) → end_after_delivery whole end ≡ done → (whole ≡ true) × (end ≡ done)
got_done true end is = (refl, is)
got_done false done is = absurd (cc is)
got_done false breached is = absurd (cc is)
got_done false end is = absurd (cc is)

got_breached : (whole : Bool) (end : Ended) → end_after_delivery whole end ≡ breached →
    (whole ≡ true) × (end ≡ breached)
got_breached true end is = (refl, is)
got_breached false done is = absurd (cc is)
got_breached false breached is = absurd (cc is)
got_breached false end is = absurd (cc is)

module _ (end : Ended) (out err : Stream) (status : ℕ) (c : Closes end out err status) where
  pub ends_well : status ≡ 0 → HandsOn out.before out.after out.holds true × (end ≡ done)
  ends_well is =
      let got = got_done c.whole end
      (zero_is (end_after_delivery c.whole end) (errors err.before c.closing status) c.said is) in
      (subst (HandsOn out.before out.after out.holds) got.0 c.handed_on, got.1)

  pub ends_in_breach : status ≡ 8 → HandsOn out.before out.after out.holds true × (end ≡ breached)
  ends_in_breach is =
      let got = got_breached c.whole end
      (eight_is (end_after_delivery c.whole end) (errors err.before c.closing status) c.said is)
      in
      (subst (HandsOn out.before out.after out.holds) got.0 c.handed_on, got.1)
