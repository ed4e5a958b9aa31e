use Rattle.std.proofs.Common.{◌∙◌, List, map, ap, subst}
use Rattle.std.specs.List.{AllByRecursion}
use Rattle.guard_checks.specs.Places.{EntryWithin}
use Rattle.guard_checks.specs.Trees.{asked_for, entry_asked}
use Rattle.guard_checks.specs.declared.cases.CaseChecks.{CaseChecks}
use Rattle.guard_checks.proofs.Entries.{all_made}
use Rattle.guard_checks.proofs.Within.{all_within}
use Rattle.guard_checks.proofs.stack.StackChecks.of.Goals as goal

pub invariant_of-result : goal.invariant_of-result
invariant_of-result c = (
  c.in_ok-values.ensures.0,
  all_within c.in_ok-cast.cast c.in_ok-send.send c.in_ok-plans.plans.items _ _ _ _ _ _ c.case_numbers.ensures
      c.case_numbers-2.ensures
      (subst (λ (all : List CaseChecks). AllByRecursion (EntryWithin c.all_numbers.result) (map entry_asked all))
      c.as_slice-2.ensures.value
      c.all_numbers.ensures) c.larger-apps.ensures.first c.larger-apps.ensures.second c.larger-numbers.ensures.first
      c.larger-numbers.ensures.second
      c.in_ok-values.ensures.1.numbers,
)

pub returns : goal.returns
returns c = all_made c.in_ok-cast.cast c.in_ok-send.send c.in_ok-plans.plans.items c.args.bypasses.now
    c.in_ok-cast.ensures c.in_ok-send.ensures
    (c.in_ok-plans.ensures ∙ ap (map asked_for) c.as_slice.ensures.value)
