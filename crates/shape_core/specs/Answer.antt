-- What may be answered.
use Rattle.std.specs.Prelude.{◌≡◌, Bool, true, false, List, option_map, Option, Result, Ok, Err}
use Rattle.std.specs.declared.alloc.Global.{Global}
use Rattle.std.specs.declared.vec.Vec.{Vec}
use Rattle.stack_mean.specs.NoShape as no_shape
use Rattle.stack_mean.specs.Drawn as drawn
use Rattle.shape_core.specs.declared.error.NoShape.{NoShape}
use Rattle.shape_core.specs.declared.error.NoShape.TheVariants.{Loop, Rare, Stored, Long, Same, Memory}
use Rattle.shape_core.specs.declared.header.DrawnHeader.{DrawnHeader}
use Rattle.shape_core.specs.declared.walk.Walk.{Walk}
use Rattle.shape_core.specs.Trees.{headers_tree}
use Rattle.shape_core.specs.Walk.{Walking, Stop, walking}
use Rattle.shape_core.specs.Sketch.{Sketching, sketching}
use Rattle.stack_mean.specs.Acceptance.{held_at_most}
use Rattle.stack_mean.specs.NoShape.{drawn_from}
use Rattle.stack_mean.specs.Shape as mean
use Rattle.shape_core.specs.declared.types.Shape.{Shape}
use Rattle.shape_core.specs.declared.sketch.Sketch.{Sketch}

-- There is none, for this very reason; nothing is said about want of memory.
abbrev pub FailsFor : {A : Type 0} → Result A no_shape.NoShape → NoShape → Type 0
FailsFor drawn (Loop place) = drawn ≡ Err (no_shape.loop place)
FailsFor drawn (Rare place) = drawn ≡ Err (no_shape.rare place)
FailsFor drawn (Stored place) = drawn ≡ Err (no_shape.stored place)
FailsFor drawn Long = drawn ≡ Err no_shape.long
FailsFor drawn Same = drawn ≡ Err no_shape.same
FailsFor drawn Memory = Unit {0}

-- What was walked or drawn so far stops for this very reason.
abbrev pub StopsFor : {A : Type 0} → Result A Stop → Bool → NoShape → Type 0
StopsFor r forks (Loop place) = r ≡ Err (record { reason = no_shape.loop place; forks = forks })
StopsFor r forks (Rare place) = r ≡ Err (record { reason = no_shape.rare place; forks = forks })
StopsFor r forks (Stored place) = r ≡ Err (record { reason = no_shape.stored place; forks = forks })
StopsFor r forks Long = r ≡ Err (record { reason = no_shape.long; forks = forks })
StopsFor r forks Same = r ≡ Err (record { reason = no_shape.same; forks = forks })
StopsFor r forks Memory = Unit {0}

-- The headers of an emission.
abbrev pub HeadersAre : Result (Option (List drawn.DrawnHeader)) no_shape.NoShape →
    Result (Option (Vec DrawnHeader Global)) NoShape → Type 0
HeadersAre drawn (Ok headers) = drawn ≡ Ok (option_map headers_tree headers)
HeadersAre drawn (Err e) = FailsFor drawn e

-- A walk gives what the code's walk holds after it.
abbrev pub Walks : Result Walking Stop → Walk → Result Unit NoShape → Type 0
Walks r w (Ok done) = r ≡ Ok (walking w)
Walks r w (Err e) = StopsFor r w.forks e

-- A run that is drawn gives what the code's sketch holds after it.
abbrev pub Sketches : Result Sketching Stop → Sketch → Result Unit NoShape → Type 0
Sketches r s (Ok done) = r ≡ Ok (sketching s)
Sketches r s (Err e) = StopsFor r s.forks e

-- A shape whose length is held within 32 bits.
abbrev pub held_shape : mean.Shape → mean.Shape
held_shape s = record s { length = held_at_most s.length }

-- What is drawn, its length held within 32 bits.
abbrev pub held_answer : Result mean.Shape no_shape.NoShape → Result mean.Shape no_shape.NoShape
held_answer drawn = drawn_from (λ s. Ok (held_shape s)) drawn

-- The shape that a run gives, or the reason for which it stops.
abbrev pub drawn_of : Result Sketching Stop → Result mean.Shape no_shape.NoShape
drawn_of (Ok s) = Ok (record { visits = s.visits; outs = s.outs; length = s.length })
drawn_of (Err stop) = Err stop.reason

-- Whether it met a condition with two predicted ways.
abbrev pub forks_of : Result Sketching Stop → Bool
forks_of (Ok s) = s.forks
forks_of (Err stop) = stop.forks
