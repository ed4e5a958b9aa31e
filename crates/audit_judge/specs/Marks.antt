-- Which segments of a group have a delivery, and the first that lacks it, as it is found.
use Rattle.std.specs.Prelude.{◌≡◌, ℕ, ◌==◌, ◌&&◌, ◌||◌, ◌<◌, not, nat_lt, Bool, true, false, List, [], ◌∷◌, fold}
use Rattle.std.specs.Prelude.{filter, count_by, Option, Some, None, if◌then◌else◌}
use Rattle.std.specs.List.{AllByRecursion, list_any}
use Rattle.audit_mean.specs.Segment.{same_content}
use Rattle.audit_mean.specs.Clash.{Placed}
use Rattle.audit_judge.specs.Lacks.{Known, content_of, entries_in, goes, lacks_in, ranked_shown, same_content_key}
use Rattle.audit_judge.specs.Lacks.{same_way}
use Rattle.audit_judge.specs.declared.contents.Ranked.{Ranked}
use Rattle.audit_judge.specs.declared.ended.Ended.{Ended}
use Rattle.audit_judge.specs.declared.ended.Way.{Way}
use Rattle.audit_judge.specs.declared.marks.Item.{Item}
use Rattle.audit_judge.specs.declared.marks.Mark.{Mark}
use Rattle.audit_judge.specs.declared.marks.Group.{Group}

-- two deliveries have the same content, and as many deliveries of it before them in their segments
abbrev pub same_item : Placed → Placed → Bool
same_item a b = same_content a.entry b.entry && a.place == b.place

-- a segment has an item
abbrev pub has : Placed → Known → Bool
has placed ended = list_any (same_item placed) ended.deliveries

abbrev pub item_for : Way → Ranked → Item
item_for way ranked = record { way = way; content = content_of ranked.entry; place = ranked.place }

abbrev pub same_item_key : Item → Item → Bool
same_item_key a b = same_way a.way b.way && (same_content_key a.content b.content && a.place == b.place)

-- the line that ended the first segment of a group that lacks an item
abbrev pub lacking : Option Mark → Option Group → Option ℕ
lacking mark None = None
lacking None (Some group) = Some group.front
lacking (Some mark) (Some group) = if mark.front == group.front then mark.gap else Some group.front

-- the line that ended the first segment of a member other than this one
abbrev pub other_than : ℕ → Option Group → Option ℕ
other_than member None = None
other_than member (Some group) = if group.member == member then group.other else Some group.front

-- a group with one more segment in front
abbrev pub group_with : Option Group → (member line : ℕ) → Group
group_with group member line = record { member = member; front = line; other = other_than member group }

-- the mark of an item with one more segment in front that has it
abbrev pub mark_with : Option Mark → Option Group → (member line : ℕ) → Mark
mark_with None group member line =
    record { member = member; more_members = false; front = line; gap = lacking None group }
mark_with (Some mark) group member line =
    if mark.front == line then mark
    else record {
      member = mark.member;
      more_members = mark.more_members || not (mark.member == member);
      front =
          line;
      gap = lacking (Some mark) group;
    }

-- what is known of the segments of a group
abbrev pub group_found : List Known → Option Group
group_found [] = None
group_found (one ∷ group) = Some (group_with (group_found group) one.member one.line)

-- what is known of an item in a group
abbrev pub item_found : Placed → List Known → Option Mark
item_found placed [] = None
item_found placed (one ∷ group) =
    if has placed one then Some (mark_with (item_found placed group) (group_found group) one.member one.line)
    else item_found placed group

-- each item and group is known
pub record Marked (items : Item → Option Mark) (groups : Way → Option Group) (all : List Known) : Type 0 where
  pub of_items : (way : Way) (r : Ranked) → items (item_for way r) ≡ item_found (ranked_shown r) (filter (goes way) all)
  pub of_groups : (way : Way) → groups way ≡ group_found (filter (goes way) all)

-- the line that ended the first segment of a group that lacks an item which another member has
abbrev pub lack_line : Option Mark → Option Group → Option ℕ
lack_line None group = None
lack_line (Some mark) group = if mark.more_members then lacking (Some mark) group else other_than mark.member group

-- the first of two lines
abbrev pub sooner : Option ℕ → Option ℕ → Option ℕ
sooner None b = b
sooner (Some x) None = Some x
sooner (Some x) (Some y) = if nat_lt y x then Some y else Some x

-- the first of a line and the line at which this delivery is lacking
abbrev pub sooner_of : (Item → Option Mark) → (Way → Option Group) → Way → Option ℕ → Ranked → Option ℕ
sooner_of items groups way found ranked = sooner found (lack_line (items (item_for way ranked)) (groups way))

-- the first of a line and the lines at which the deliveries of a segment are lacking
abbrev pub sooner_in : (Item → Option Mark) → (Way → Option Group) → Option ℕ → Ended → Option ℕ
sooner_in items groups found one = fold (sooner_of items groups one.way) found one.deliveries.items

-- segments after a line, each ended by a later line than the one before it
abbrev pub Rises : ℕ → List Known → Type 0
Rises line [] = Unit {0}
Rises line (one ∷ more) = (line < one.line) × Rises one.line more

-- each delivery of a segment has fewer of its content before it than the segment has
abbrev pub IsRanked : Known → Type 0
IsRanked one = AllByRecursion (λ placed. placed.place < count_by (same_content placed.entry) (entries_in one))
    one.deliveries

-- segments in the order of the lines that ended them, with the ranks of their deliveries
pub record IsInLine (all : List Known) : Type 0 where
  pub rises : Rises 0 all
  pub ranked : AllByRecursion IsRanked all

-- a line stands before another, which may be none
abbrev pub is_before : ℕ → Option ℕ → Bool
is_before line None = true
is_before line (Some other) = nat_lt line other

-- segments that were ended before this line lack nothing
abbrev pub IsClear : Option ℕ → List Known → Type 0
IsClear line all = AllByRecursion (λ one. is_before one.line line ≡ true → lacks_in all one ≡ []) all
