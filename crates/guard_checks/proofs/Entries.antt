-- What is asked of all entries, by what is made of each.
use Rattle.std.proofs.Common.{◌≡◌, ◌∙◌, List, ◌∷◌, map, sym, ap}
use Rattle.std.specs.Prelude.{option_map}
use Rattle.std.proofs.lemmas.Simd.{map-map}
use Rattle.trace_core.specs.Bypasses.{first_tree, second_tree, bypasses_tree}
use Rattle.trace_core.specs.declared.bypass.Bypasses.{Bypasses}
use Rattle.miss_laws.specs.Asked.{asked_of, all_asked}
use Rattle.guard_checks.specs.Trees.{entry_asked, asked_for, in_first, in_second, stack_tree}
use Rattle.guard_checks.specs.declared.cases.CaseChecks.{CaseChecks}

pub all_made : (cast send : CaseChecks) (plans : List CaseChecks) (b : Bypasses) → entry_asked cast ≡ asked_for b.cast →
    entry_asked send ≡ asked_for b.send → map entry_asked plans ≡ map asked_for b.plans.items →
    stack_tree cast send plans ≡ all_asked (bypasses_tree b)
all_made cast send plans b casts sends others = λ i. record {
  made = (casts i).first ∷ (sends i).first ∷ firsts i;
  second = (casts i).second ∷ (sends i).second ∷ seconds i;
} where
  firsts : map in_first (map entry_asked plans) ≡ map asked_of (map first_tree b.plans.items)
  firsts = ap (map in_first) others ∙ map-map in_first asked_for b.plans.items ∙
      sym (map-map asked_of first_tree b.plans.items)

  seconds : map in_second (map entry_asked plans) ≡ map (option_map asked_of) (map second_tree b.plans.items)
  seconds = ap (map in_second) others ∙ map-map in_second asked_for b.plans.items ∙
      sym (map-map (option_map asked_of) second_tree b.plans.items)
