-- What is taken off the front of a datagram.
use Rattle.std.specs.Prelude.{◌≡◌, ℕ, List, ◌++◌, Option, Some, None}
use Rattle.packet_mean.specs.Reading as reading
use Rattle.packet_mean.specs.declared.here.Here.{Here}
use Rattle.packet_full.specs.declared.cursor.Cursor.{Cursor}
use Rattle.packet_full.specs.declared.front.Preamble.{Preamble}

-- the bytes that are left
abbrev pub left : Cursor → List ℕ
left cursor = cursor.bytes.now

-- a preamble, as the definition has it
abbrev pub preamble_tree : Preamble → reading.Preamble
preamble_tree p = record {
  form = p.form;
  group = p.group;
  stamp = p.stamp;
  view = p.view;
  sender = p.sender;
  dest = p.dest;
}

-- the group, the stamp and the view of a preamble are a member's own
pub record IsOwn (here : Here) (front : Preamble) : Type 0 where
  pub group : front.group ≡ here.group
  pub stamp : front.stamp ≡ here.stamp
  pub view : front.view ≡ here.view

-- what a reader took and the bytes after it, or that it took nothing
abbrev pub Takes : {A : Type 0} → Option (A × List ℕ) → Option A → List ℕ → Type 0
Takes taken (Some value) following = taken ≡ Some (value, following)
Takes taken None following = taken ≡ None

-- numbers or headers that were read, before those that are still read
abbrev pub with_front : {A : Type 0} → List A → Option (List A × List ℕ) → Option (List A × List ℕ)
with_front front None = None
with_front front (Some (more, following)) = Some (front ++ more, following)
