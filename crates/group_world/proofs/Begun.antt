-- A group that has begun.
use Rattle.std.proofs.Common.{◌≡◌, ℕ, List, [], Bool, Option, Some, None, is_some, option_map, refl, ap, sym, subst}
use Rattle.std.proofs.Common.{◌∙◌}
use Rattle.std.proofs.lemmas.List.{length-map}
use Rattle.run_mean.specs.Mode.{Mode}
use Rattle.layer_mean.specs.Tree.{LayerTree}
use Rattle.stack_mean.specs.Plan.{Plan}
use Rattle.live_layer.specs.Making.{Making}
use Rattle.code_table.specs.Codes.{CodesTree}
use Rattle.group_member.specs.Modes.{mode_with}
use Rattle.group_member.specs.Opening.{mode_in, plans_in, stack_in}
use Rattle.group_member.specs.Placed.{Placed}
use Rattle.group_member.specs.declared.opening.Opening.{Opening}
use Rattle.group_world.proofs.Stepped.{are_seated, count_seats, kept}
use Rattle.group_feed.specs.Standing.{SpellPackets}
use Rattle.group_world.specs.Opening.{AreOpen, IsBegun}
use Rattle.group_world.specs.Seats.{member_of, mode_when, AreSeated}

-- members run by bypasses exactly where there is code of these
with_code : {A : Type 0} (tree_of : A → CodesTree) (codes : Option A) →
    mode_when (is_some codes) ≡ mode_with (option_map tree_of codes)
with_code tree_of None = refl
with_code tree_of (Some codes) = refl

pub mode_begun : (o : Opening) (bypasses : Bool) → bypasses ≡ is_some o.codes → mode_when bypasses ≡ mode_in o
mode_begun o bypasses is = ap mode_when is ∙ with_code _ o.codes

module _ (o : Opening) (n : ℕ) (before after : Making) (members : List Placed) (mode : Mode) (stack : List LayerTree)
    (plans : List Plan) where
  pub begun_seated : AreOpen o n before after members → mode ≡ mode_in o → stack ≡ stack_in o → plans ≡ plans_in o →
      AreSeated mode stack plans o.group o.stamp members
  begun_seated open_are same_mode same_stack same_plans =
      subst (λ x. AreSeated x stack plans o.group o.stamp members) (sym same_mode)
      (subst (λ x. AreSeated (mode_in o) x plans o.group o.stamp members) (sym same_stack)
      (subst (λ x. AreSeated (mode_in o) (stack_in o) x o.group o.stamp members) (sym same_plans)
      (are_seated (mode_in o) (stack_in o) (plans_in o) o.group o.stamp n members open_are.seated)))

  pub begun : (spelled : List (List ℕ)) → AreOpen o n before after members → mode ≡ mode_in o → stack ≡ stack_in o →
      plans ≡ plans_in o →
      spelled ≡ [] → IsBegun o n before after (kept mode stack plans o.group o.stamp members spelled)
  begun spelled open_are same_mode same_stack same_plans none = record {
    world = record {
      group = refl;
      stamp = refl;
      members = sym open_are.opened_are;
      spelled = subst (λ xs. SpellPackets stack plans xs []) (sym none) tt;
    };
    mode_is = same_mode;
    stack_is = same_stack;
    plans_are = same_plans;
    count = length-map members member_of ∙ count_seats (mode_in o) (stack_in o) (plans_in o) o.group o.stamp n members
        open_are.seated;
    few = open_are.few;
    same = open_are.same;
    made = open_are.made;
  }
