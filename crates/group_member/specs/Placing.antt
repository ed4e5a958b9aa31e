-- What a contract sees of a member, and what holds of each.
use Rattle.std.specs.Prelude.{◌≡◌, ℕ, ◌<◌, ◌≤◌, [], Option, Some, None, option_map}
use Rattle.std.specs.Rc.{rc_value}
use Rattle.msg_core.specs.View.{member_count, most_members}
use Rattle.msg_core.specs.declared.packet.View.{View}
use Rattle.stack_mean.specs.Plans.{plans_of}
use Rattle.chain_laws.specs.Runs.{TypedStack}
use Rattle.stack_judge.specs.Answer.{stack_tree}
use Rattle.stack_shapes.specs.Trees.{plans_tree}
use Rattle.stack_shapes.specs.Starts.{starts_of, starts_tree}
use Rattle.stack_shapes.specs.Shapes.{short_shapes}
use Rattle.member_reads.specs.Shown.{member_in}
use Rattle.packet_short.specs.Layouts.{AreLaidOut}
use Rattle.code_table.specs.Codes.{CodesTree}
use Rattle.group_member.specs.After.{rank_of}
use Rattle.group_member.specs.Modes.{mode_with}
use Rattle.group_member.specs.Placed.{Placed}
use Rattle.group_member.specs.Serving.{AreCodes, IsSpare}
use Rattle.group_member.specs.Viewing.{IsAt}
use Rattle.group_member.specs.Working.{states_in, refs_in, taken_in, IsReady}
use Rattle.group_member.specs.declared.member.Member.TheInside.{Inside}

-- The code by which it runs, if any.
abbrev pub codes_kept : Inside → Option CodesTree
codes_kept m = option_map rc_value m.codes

abbrev pub placed_member : Inside → Placed
placed_member m = record {
  stack = stack_tree (rc_value m.stack);
  plans = plans_tree (rc_value m.plans);
  mode = mode_with (codes_kept m);
  group = m.group;
  stamp = m.stamp;
  id = m.id;
  most = m.most;
  member = member_in m.view (states_in m.kit.works);
  pool = m.kit.works.pool;
  refs = refs_in m.kit.works;
  taken = taken_in m.kit.works;
}

-- In a view the rank that a member keeps is that of its id there, and less than `most_members`; in no view it may be
-- any number.
abbrev pub IsRankIn : Option View → ℕ → ℕ → Type 0
IsRankIn None id r = Unit {0}
IsRankIn (Some view) id r = (r ≡ rank_of view id) × (r < most_members)

-- In a view the count that a member keeps is that of the view's members, which are `most_members` at most; in no view
-- it may be any number.
abbrev pub IsCountIn : Option View → ℕ → Type 0
IsCountIn None c = Unit {0}
IsCountIn (Some view) c = (c ≡ member_count view) × (c ≤ most_members)

-- Its stack is typed, the plans, the entries, the numbers of their first plans and the code are the stack's, its rank
-- and count are those of its view, its bare headers are none, its plans are laid out, and it is between two steps, in a
-- view with chained states that are its own, or in none.
pub record IsMember (m : Inside) : Type 0 where
  pub typed : TypedStack (stack_tree (rc_value m.stack))
  pub plans_are : plans_tree (rc_value m.plans) ≡ plans_of (stack_tree (rc_value m.stack))
  pub entries_are : rc_value m.entries ≡ short_shapes (stack_tree (rc_value m.stack)) (plans_tree (rc_value m.plans))
  pub starts_are : starts_tree m.starts ≡ starts_of (stack_tree (rc_value m.stack))
  pub codes_are : AreCodes (stack_tree (rc_value m.stack)) (codes_kept m)
  pub rank_is : IsRankIn m.view m.id m.rank
  pub count_is : IsCountIn m.view m.count
  pub bare : m.bare ≡ []
  pub ready : IsReady (stack_tree (rc_value m.stack)) m.most m.kit.works
  pub spare : IsSpare (codes_kept m) (plans_tree (rc_value m.plans)) m.kit.scratch
  pub laid : AreLaidOut (stack_tree (rc_value m.stack)) (plans_tree (rc_value m.plans)) m.layouts
  pub at : IsAt (stack_tree (rc_value m.stack)) m.most m.id m.view (states_in m.kit.works)
