-- What the events of each kind have.
use Rattle.std.specs.Prelude.{ℕ, Bool, true, false, if◌then◌else◌, List, [], ◌∷◌, slice_index, Option}
use Rattle.msg_core.specs.Chain.{Content}
use Rattle.layer_words.specs.declared.events.Kind.{Kind}
use Rattle.layer_words.specs.declared.events.Kind.TheVariants.{Cast, Send, Stable, Ack}
use Rattle.layer_mean.specs.declared.run.Event.{Event}

-- Whether the events of a kind carry a message: casts and sends do.
abbrev pub carries : Kind → Bool
carries Cast = true
carries Send = true
carries _ = false

-- The number arguments of an event, in the order in which they are written: the peer of a cast or a send, two numbers
-- of a Stable or an Ack, and one number of each other kind.
abbrev pub arguments_for : Kind → Event → List ℕ
arguments_for Cast e = e.peer ∷ []
arguments_for Send e = e.peer ∷ []
arguments_for Stable e = e.a ∷ e.b ∷ []
arguments_for Ack e = e.a ∷ e.b ∷ []
arguments_for _ e = e.a ∷ []

-- The number arguments of an event, by its own kind.
abbrev pub arguments : Event → List ℕ
arguments e = arguments_for e.kind e

-- The event of a kind with these number arguments and this message; what its kind doesn't have is 0.
abbrev pub event_of : Kind → List ℕ → Option Content → Event
event_of kind numbers message = if carries kind
    then record { kind = kind; peer = slice_index numbers 0; a = 0; b = 0; message = message }
    else record { kind = kind; peer = 0; a = slice_index numbers 0; b = slice_index numbers 1; message = message }
