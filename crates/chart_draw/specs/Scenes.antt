-- The receptions of which the lines of a picture tell, as they are kept.
use Rattle.std.specs.Prelude.{◌≡◌, ◌==◌, ◌&&◌, ◌||◌, Bool, bytes_eq, List, Option, Some, is_some, if◌then◌else◌, map}
use Rattle.std.specs.HashMap as hash
use Rattle.chart_mean.specs.Says as spec
use Rattle.chart_mean.specs.Place.{Line}
use Rattle.chart_mean.specs.Stub as stub
use Rattle.chart_draw.specs.Reading.{line_shown}
use Rattle.chart_draw.specs.declared.stubs.Reception.{Reception}
use Rattle.chart_draw.specs.declared.stubs.Post.{Post}
use Rattle.chart_draw.specs.declared.stubs.Scene.{Scene}

-- two receptions are of the same packet by the same member
abbrev pub same_reception : Reception → Reception → Bool
same_reception a b = bytes_eq a.number.now b.number.now && a.member == b.member

-- what is kept are the receptions of which these lines tell
abbrev pub Receives : (Reception → Option (Unit {0})) → List Line → Type 0
Receives kept lines =
    (reception : Reception) →
    is_some (kept reception) ≡ stub.was_given lines reception.number.now reception.member

-- what is kept after one more line
abbrev pub NextReceived : (Reception → Option (Unit {0})) → (Reception → Option (Unit {0})) → spec.Says → Type 0
NextReceived old new says =
    (reception : Reception) →
    is_some (new reception) ≡ (stub.gives reception.number.now reception.member says || is_some (old reception))

-- what is kept after this reception
abbrev pub Puts : (Reception → Option (Unit {0})) → (Reception → Option (Unit {0})) → Reception → Type 0
Puts old new given =
    (reception : Reception) → new reception ≡ (if same_reception given reception then Some tt else old reception)

-- a packet that was sent, in the definitions
abbrev pub post_shown : Post → stub.Post
post_shown post = record {
  number = post.number.now;
  sender = post.sender;
  to = post.to.now;
  x = post.x;
  known = post.known;
}

-- the lines of a scene
abbrev pub scene_lines : Scene → List Line
scene_lines scene = map line_shown scene.lines.now

-- the receptions of a scene are those of which its lines tell
abbrev pub IsScene : Scene → Type 0
IsScene scene = Receives (hash.get same_reception scene.receptions) (scene_lines scene)
