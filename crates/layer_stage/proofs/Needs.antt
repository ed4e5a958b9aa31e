-- A visit's need at a desk is its handler's.
use Rattle.std.proofs.Common.{◌≡◌, Option, Some, None, refl}
use Rattle.layer_words.specs.declared.events.Dir.{Dir}
use Rattle.layer_mean.specs.declared.run.Event.{Event}
use Rattle.layer_mean.specs.Tree.{HandlerTree, LayerTree}
use Rattle.layer_mean.specs.Visit.{Met, met}
use Rattle.layer_desk.specs.Need.{Layout, headers_of, visit_need}
use Rattle.layer_stage.specs.Room.{slots_for, places_for, handler_of, slots_needed, places_needed, headers_met}

slots_same : (layout : Layout) (o : Option HandlerTree) (m : Met) → (visit_need layout o m).slots ≡ slots_for o
slots_same layout None m = refl
slots_same layout (Some h) m = refl

places_same : (layout : Layout) (o : Option HandlerTree) (m : Met) → (visit_need layout o m).places ≡ places_for o
places_same layout None m = refl
places_same layout (Some h) m = refl

headers_same : (layout : Layout) (o : Option HandlerTree) (m : Met) → (visit_need layout o m).headers ≡
    headers_of m.message
headers_same layout None m = refl
headers_same layout (Some h) m = refl

pub slots_at_a_desk : (layout : Layout) (layer : LayerTree) (dir : Dir) (event : Event) →
    (visit_need layout (handler_of layer dir event) (met dir event.message)).slots ≡ slots_needed layer dir event
slots_at_a_desk layout layer dir event = slots_same layout (handler_of layer dir event) (met dir event.message)

pub places_at_a_desk : (layout : Layout) (layer : LayerTree) (dir : Dir) (event : Event) →
    (visit_need layout (handler_of layer dir event) (met dir event.message)).places ≡ places_needed layer dir event
places_at_a_desk layout layer dir event = places_same layout (handler_of layer dir event) (met dir event.message)

pub headers_at_a_desk : (layout : Layout) (layer : LayerTree) (dir : Dir) (event : Event) →
    (visit_need layout (handler_of layer dir event) (met dir event.message)).headers ≡ headers_met dir event
headers_at_a_desk layout layer dir event = headers_same layout (handler_of layer dir event) (met dir event.message)
