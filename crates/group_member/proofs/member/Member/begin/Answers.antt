use Rattle.std.proofs.Common.{◌≡◌, ◌∙◌, Option, sym, ap, subst, arith, rules}
use Rattle.std.specs.Prelude.{option_map}
use Rattle.std.specs.Rc.{rc_value}
use Rattle.stack_judge.specs.Answer.{stack_tree}
use Rattle.stack_judge.specs.declared.stack.Stack.{Stack}
use Rattle.stack_shapes.specs.Starts.{starts_of}
use Rattle.code_table.specs.Codes.{CodesTree}
use Rattle.group_member.specs.Opening.{codes_in}
use Rattle.group_member.specs.Serving.{AreCodes}
use Rattle.group_member.specs.Viewing.{IsIn}
use Rattle.group_member.specs.Working.{states_in, IsReady}
use Rattle.group_member.proofs.Placing.{laid_for, opened_member, spare_for}
use Rattle.group_member.proofs.member.Member.begin.Goals as goal

pub invariant_of-result : goal.invariant_of-result
invariant_of-result c =
    let same : rc_value c.in_ok-stack.stack ≡ rc_value c.args.opening.stack.now = search rules in
    let plans : rc_value c.in_ok-plans.plans ≡ rc_value c.args.opening.plans.now = search rules in
    let codes : option_map rc_value c.in_ok-codes.codes ≡ codes_in c.args.opening = c.in_ok-codes.ensures in
    let both = opened_member (stack_tree (rc_value c.args.opening.stack.now)) c.member_count-most.result c.args.view
    c.args.id _ _
    c.in_ok-kit.kit.works c.requires.opening.typed (record { ltime = omega arith; mask = omega arith })
    c.member_count-most.ensures.count
    c.in_ok-kit.ensures.works in record {
      typed = search rules;
      plans_are = search rules;
      entries_are = search rules;
      starts_are = c.requires.opening.starts_are ∙ ap (λ (s : Stack). starts_of (stack_tree s)) (sym same);
      codes_are = subst (λ (s : Stack). AreCodes (stack_tree s) (option_map rc_value c.in_ok-codes.codes)) (sym same)
          (subst (λ (made : Option CodesTree). AreCodes (stack_tree (rc_value c.args.opening.stack.now)) made)
          (sym codes)
          c.requires.opening.codes_are);
      rank_is = (c.rank_in.ensures.rank, c.rank_in.ensures.few);
      count_is = (c.member_count.ensures.count, c.member_count.ensures.few);
      bare = search rules;
      ready = subst (λ (s : Stack). IsReady (stack_tree s) c.member_count-most.result c.in_ok-kit.kit.works) (sym same)
          both.0;
      spare = spare_for (codes_in c.args.opening) (option_map rc_value c.in_ok-codes.codes)
          (rc_value c.args.opening.plans.now) (rc_value c.in_ok-plans.plans) c.in_ok-kit.kit.scratch
          (sym codes) (sym plans) c.in_ok-kit.ensures.spare;
      laid = laid_for (rc_value c.in_ok-stack.stack) (rc_value c.args.opening.stack.now) (rc_value c.in_ok-plans.plans)
          (rc_value c.args.opening.plans.now) c.in_ok-layouts.layouts same plans c.in_ok-layouts.ensures;
      at = subst (λ (s : Stack). IsIn (stack_tree s) c.member_count-most.result c.args.view c.args.id
          (states_in c.in_ok-kit.kit.works)) (sym same)
          both.1;
    }
