-- What is kept ready stays so.
use Rattle.std.proofs.Common.{◌≡◌, ℕ, List, Option, sym, subst}
use Rattle.std.specs.List.{AllByRecursion}
use Rattle.std.specs.Prelude.{vec_capacity}
use Rattle.stack_mean.specs.Plan as mean
use Rattle.code_table.specs.Codes.{CodesTree}
use Rattle.code_tests.specs.declared.values.Values.{Values}
use Rattle.packet_short.specs.Keeping.{HasAtMost}
use Rattle.group_member.specs.Serving.{IsSpare, Serves}
use Rattle.group_member.specs.declared.scratch.Scratch.{Scratch}

-- there is room for a run while the fields of a packet are kept
pub spare_on : (codes : Option CodesTree) (plans : List mean.Plan) (s s' : Scratch) → s'.values ≡ s.values →
    vec_capacity s'.fields ≡ vec_capacity s.fields →
    IsSpare codes plans s → IsSpare codes plans s'
spare_on codes plans s s' same room spare = record {
  values = subst (λ (v : Values). Serves codes v) (sym same) spare.values;
  fields = subst (λ (n : ℕ). AllByRecursion (HasAtMost n) plans) (sym room) spare.fields;
}
