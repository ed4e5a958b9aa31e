-- How plans are told apart.
use Rattle.std.specs.Prelude.{ℕ, List, Option, refl}
use Rattle.std.specs.Coded.{Coded, code_by, coded×, coded_list, coded_option, coded_ℕ}
use Rattle.layer_words.specs.declared.events.Kind.{Kind}
use Rattle.layer_words.specs.contracts.events.Kind as kind
use Rattle.stack_mean.specs.Plan.{Plan}

-- A plan is its kind, its tags and its fields.
abbrev pub plan_code : Coded Plan
plan_code = code_by (Kind × (List ℕ × List (Option ℕ)))
    (coded× kind.the_row.coded (coded× (coded_list coded_ℕ) (coded_list (coded_option coded_ℕ))))
    (λ p. (p.kind, (p.tags, p.fields))) (λ q. record { kind = q.0; tags = q.1.0; fields = q.1.1 }) (λ _. refl)
