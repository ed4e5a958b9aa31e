-- Who is in a view (the agreed list of members, as Hayden has it); the first view, and the one that a member installs.
use Rattle.std.specs.Prelude.{ℕ, ◌+◌, ◌^◌, ◌-◌, ◌==◌, if◌then◌else◌, List, length, Option, Some, None}
use Rattle.std.specs.List.{filter, position, range_with_len, enumerate_from, sum_by}
use Rattle.std.specs.Int.{bit_at}
use Rattle.msg_core.specs.declared.packet.View.{View}
use Rattle.msg_core.specs.declared.packet.TheConstants.{MOST_MEMBERS, LAST_MEMBER}

-- The most members of a group; ids are below it.
abbrev pub most_members : ℕ
most_members = MOST_MEMBERS

-- The highest id of a group, and the highest rank.
abbrev pub last_member : ℕ
last_member = LAST_MEMBER

-- The ids of a view, ascending: those whose bits are set in its mask.
abbrev pub ids : View → List ℕ
ids view = filter (λ id. bit_at view.mask id == 1) (range_with_len 0 most_members)

-- How many members a view has.
abbrev pub member_count : View → ℕ
member_count view = length (ids view)

-- The rank of a member: how many smaller ids its view has.
abbrev pub rank : View → ℕ → Option ℕ
rank view id = position (λ other. other == id) (ids view)

-- The first view of a group of n members: all of them.
abbrev pub first_view : ℕ → View
first_view n = record { ltime = 0; mask = 2 ^ n - 1 }

-- The mask of the ids of a view whose ranks are set in a number; further bits of the number mean nothing.
abbrev pub mask_of : View → ℕ → ℕ
mask_of view ranks = sum_by (λ x. if bit_at ranks x.0 == 1 then 2 ^ x.1 else 0) (enumerate_from 0 (ids view))

-- The last value of the count of views.
abbrev pub last_ltime : ℕ
last_ltime = 4294967295

-- The view after a view, with the members at these ranks; none where the count of views is at its end.
abbrev pub next_view : View → ℕ → Option View
next_view view ranks = if view.ltime == last_ltime then None
    else Some record { ltime = view.ltime + 1; mask = mask_of view ranks }
