-- What it means that the plans of a stack are laid out.
use Rattle.std.specs.Prelude.{◌≡◌, ℕ, true, List, [], map, flat_map, length, slice_get, position, Option, Some}
use Rattle.std.specs.Prelude.{None}
use Rattle.layer_words.specs.declared.events.Kind.{Kind}
use Rattle.layer_mean.specs.Tree.{LayerTree}
use Rattle.msg_core.specs.declared.message.Header.{Header}
use Rattle.msg_core.specs.declared.packet.Dest.{Dest}
use Rattle.packet_mean.specs.Plan.{kind_of}
use Rattle.stack_mean.specs.Plan.{Plan}
use Rattle.stack_shapes.specs.Prints.{IsNext, plan_print, print_of}
use Rattle.packet_short.specs.Contents.{plan_named}
use Rattle.packet_short.specs.Dealing.{dealing}
use Rattle.packet_short.specs.Fits.{fits_headers}
use Rattle.packet_short.specs.Keeping.{kept_by}
use Rattle.packet_short.specs.Laid.{LooseTree, filled, with_variable, HasRoom}
use Rattle.packet_short.specs.declared.layout.Loose.{Loose}
use Rattle.packet_short.specs.declared.layout.Layout.{Layout}
use Rattle.packet_short.specs.declared.layouts.Layouts.{Layouts}

-- The loose headers of a layout.
abbrev pub loose_tree : Loose → LooseTree
loose_tree l = record { place = l.place; tag = l.tag; own = l.own.items }

abbrev pub looses : Layout → List LooseTree
looses layout = map loose_tree layout.loose.items

-- The plan of a number is the first of the print of packets of a kind with the tags of these headers.
abbrev pub IsFirst : List Plan → Kind → List Header → (k : ℕ) → Type 0
IsFirst plans kind headers k = IsNext plans (print_of kind (map (λ h. h.tag) headers)) 0 (Some k)

-- The plan of a number is laid out: whatever the bytes are, filling in its headers is the same as reading the headers
-- that the plan says, one after the other. Where its layout says that it is the least, no plan before it has its print.
pub record IsLaidOut (stack : List LayerTree) (plans : List Plan) (k : ℕ) (layout : Layout) : Type 0 where
  pub plan : Plan
  pub listed : slice_get plans k ≡ Some plan
  pub reads : (bytes : List ℕ) → filled (looses layout) layout.headers [] bytes ≡
      with_variable plan.fields (dealing stack 0 plan.tags plan.fields bytes)
  pub room : HasRoom (length plan.fields) (length layout.headers) (looses layout)
  pub least : layout.is_least ≡ true → IsNext plans (plan_print plan) 0 (Some k)

-- So is each plan of which there is a layout.
abbrev pub AreLaidOut : List LayerTree → List Plan → Layouts → Type 0
AreLaidOut stack plans layouts = (k : ℕ) (layout : Layout) → slice_get layouts.list.items k ≡ Some (Some layout) →
    IsLaidOut stack plans k layout

-- What is known of headers of a packet of a kind after they were read: nothing, or the number of the least plan that
-- they fit; then their fields that this plan leaves variable are kept.
abbrev pub IsReadAs : List Plan → Option ℕ → Kind → List Header → (kept : List ℕ) → Type 0
IsReadAs plans None kind headers kept = Unit {0}
IsReadAs plans (Some k) kind headers kept = (Some k ≡ position (fits_headers kind headers) plans) ×
    (kept ≡ kept_by plans (Some k) (flat_map (λ h. h.fields) headers))

-- The plan whose number is read is one of the destination's kind, and it is laid out.
pub record IsNamed (stack : List LayerTree) (plans : List Plan) (dest : Dest) (k : ℕ) (layout : Layout)
    (bytes following : List ℕ) : Type 0 where
  pub laid : IsLaidOut stack plans k layout
  pub named : plan_named plans dest bytes ≡ Some (laid.plan, following)
  pub kind : laid.plan.kind ≡ kind_of dest
