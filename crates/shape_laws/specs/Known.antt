-- What is drawn of an event is so: its kind, the tags of its headers, and those of their fields that are known.
use Rattle.std.specs.Prelude.{◌≡◌, ℕ, List, [], ◌∷◌, Option, Some, None}
use Rattle.msg_core.specs.Chain.{Content}
use Rattle.msg_core.specs.declared.message.Header.{Header}
use Rattle.layer_mean.specs.declared.run.Event.{Event}
use Rattle.layer_mean.specs.Queue.{Task}
use Rattle.layer_mean.specs.Marked.{Logged, Marked}
use Rattle.stack_mean.specs.Drawn.{DrawnHeader, DrawnEvent}

-- Each of a list and of another, in order and as many, are related.
abbrev pub Pairwise : {A B : Type 0} → (A → B → Type 0) → List A → List B → Type 0
Pairwise R [] [] = Unit {0}
Pairwise R (x ∷ xs) (y ∷ ys) = R x y × Pairwise R xs ys
Pairwise R _ _ = ⊥

-- A number is the known one, where it is known.
abbrev pub IsKnownAs : Option ℕ → ℕ → Type 0
IsKnownAs None v = Unit {0}
IsKnownAs (Some n) v = v ≡ n

-- A header has the drawn tag and as many fields as are drawn, and its known fields are as drawn.
pub record HeaderIs (d : DrawnHeader) (h : Header) : Type 0 where
  pub tag : d.tag ≡ h.tag
  pub fields : Pairwise IsKnownAs d.fields h.fields

-- The headers of a message are as drawn.
abbrev pub HeadersAre : List DrawnHeader → List Header → Type 0
HeadersAre = Pairwise HeaderIs

abbrev pub MessageIs : Option (List DrawnHeader) → Option Content → Type 0
MessageIs None None = Unit {0}
MessageIs (Some headers) (Some m) = HeadersAre headers m.headers
MessageIs _ _ = ⊥

-- An event has the drawn kind, and its message the drawn headers, if it has one.
pub record EventIs (d : DrawnEvent) (e : Event) : Type 0 where
  pub kind : d.kind ≡ e.kind
  pub message : MessageIs d.headers e.message

-- A task and a visit or output: where it stands, its direction, its event and its maker are as drawn.
pub record MarkedIs (d : Marked DrawnEvent) (e : Marked Event) : Type 0 where
  pub event : EventIs d.event e.event
  pub made_by : d.made_by ≡ e.made_by

pub record TaskIs (d : Task (Marked DrawnEvent)) (t : Task (Marked Event)) : Type 0 where
  pub at : d.at ≡ t.at
  pub dir : d.dir ≡ t.dir
  pub marked : MarkedIs d.event t.event

pub record LoggedIs (d : Logged DrawnEvent) (e : Logged Event) : Type 0 where
  pub at : d.at ≡ e.at
  pub dir : d.dir ≡ e.dir
  pub marked : MarkedIs d.marked e.marked

-- A first task is that of an entry.
pub record BeginsAs (d : Task DrawnEvent) (t : Task Event) : Type 0 where
  pub at : d.at ≡ t.at
  pub dir : d.dir ≡ t.dir
  pub event : EventIs d.event t.event
