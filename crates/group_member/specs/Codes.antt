-- How placed members are told apart.
use Rattle.std.specs.Prelude.{ℕ, List, Option, refl}
use Rattle.std.specs.Coded.{Coded, code_by, coded×, coded_list, coded_option, coded_ℕ}
use Rattle.slot_pool.specs.Held.{Held, held_code}
use Rattle.layer_words.specs.declared.events.Kind.{Kind}
use Rattle.layer_words.specs.contracts.events.Kind as kind
use Rattle.layer_mean.specs.Tree.{LayerTree}
use Rattle.stack_mean.specs.Plan.{Plan}
use Rattle.run_mean.specs.Member.{Member}
use Rattle.layer_mean.specs.Codes.{stack_code}
use Rattle.member_reads.specs.Codes.{member_code}
use Rattle.run_mean.specs.Mode.{Mode}
use Rattle.group_member.specs.Modes.{mode_code}
use Rattle.group_member.specs.Placed.{Placed}

abbrev plan_code : Coded Plan
plan_code = code_by (Kind × (List ℕ × List (Option ℕ)))
    (coded× kind.the_row.coded (coded× (coded_list coded_ℕ) (coded_list (coded_option coded_ℕ))))
    (λ p. (p.kind, (p.tags, p.fields))) (λ q. record { kind = q.0; tags = q.1.0; fields = q.1.1 }) (λ _. refl)

abbrev pub placed_code : Coded Placed
placed_code = code_by
    (List LayerTree × (List Plan × (Mode × (ℕ × (ℕ × (ℕ × (ℕ × (Member × (List Held × (List ℕ × List ℕ))))))))))
    (coded× stack_code (coded×
    (coded_list plan_code) (coded× mode_code (coded× coded_ℕ (coded× coded_ℕ (coded× coded_ℕ (coded× coded_ℕ
    (coded× member_code (coded× held_code (coded× (coded_list coded_ℕ) (coded_list coded_ℕ)))))))))))
    (λ p. (
      p.stack,
      (
        p.plans,
        (p.mode, (p.group, (p.stamp, (p.id, (p.most, (p.member, (p.pool, (p.refs, p.taken)))))))),
      ),
    ))
    (λ q. record {
      stack = q.0;
      plans = q.1.0;
      mode = q.1.1.0;
      group = q.1.1.1.0;
      stamp = q.1.1.1.1.0;
      id = q.1.1.1.1.1.0;
      most = q.1.1.1.1.1.1.0;
      member = q.1.1.1.1.1.1.1.0;
      pool = q.1.1.1.1.1.1.1.1.0;
      refs = q.1.1.1.1.1.1.1.1.1.0;
      taken = q.1.1.1.1.1.1.1.1.1.1;
    })
    (λ _. refl)
