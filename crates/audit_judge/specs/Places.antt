-- Places in lists, as the definitions see them.
use Rattle.std.specs.Prelude.{◌≡◌, ℕ, ◌+◌, ◌==◌, ◌&&◌, Bool, Option, Some, None, nat_eq, unwrap_or, if◌then◌else◌}
use Rattle.std.specs.Option.{option_eq}
use Rattle.audit_mean.specs.Segment.{Entry}
use Rattle.audit_mean.specs.Clash as spec
use Rattle.audit_judge.specs.Entries.{entry_shown}
use Rattle.audit_judge.specs.declared.places.Lists.{Lists}
use Rattle.audit_judge.specs.declared.places.Lists.TheVariants.{OfEachPeer, Whole}
use Rattle.audit_judge.specs.declared.places.ListKey.{ListKey}
use Rattle.audit_judge.specs.declared.places.Placed.{Placed}

abbrev pub lists_shown : Lists → spec.Lists
lists_shown OfEachPeer = spec.of_each_peer
lists_shown Whole = spec.whole

-- the peer whose list a delivery is in, where each peer has its list
abbrev pub source_of : spec.Lists → Entry → Option ℕ
source_of spec.of_each_peer entry = Some entry.peer
source_of spec.whole entry = None

abbrev pub placed_shown : Placed → spec.Placed
placed_shown placed = record { entry = entry_shown placed.entry; place = placed.place }

-- the list that a delivery is in
abbrev pub list_key : spec.Lists → Entry → ListKey
list_key lists entry = record { member = entry.member; began = entry.segment.began; peer = source_of lists entry }

abbrev pub same_key : ListKey → ListKey → Bool
same_key a b = a.member == b.member && (a.began == b.began && option_eq nat_eq a.peer b.peer)

-- one list is longer by one, and the others are as they were
abbrev pub Lengthens : (ListKey → Option ℕ) → (ListKey → Option ℕ) → ListKey → Type 0
Lengthens old new key = (q : ListKey) → new q ≡ (if same_key key q then Some (unwrap_or (old key) 0 + 1) else old q)
