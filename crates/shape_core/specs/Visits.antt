-- A drawn visit as a walk: what its layer's handler gives, or what the lack of a handler gives.
use Rattle.std.specs.Prelude.{◌==◌, if◌then◌else◌, List, [], ◌∷◌, Option, Some, None, Result, Ok, Err, option_map}
use Rattle.layer_words.specs.declared.events.Dir.{Dir}
use Rattle.layer_words.specs.declared.events.Dir.TheVariants.{Up, Down}
use Rattle.layer_words.specs.declared.events.Kind.{Kind}
use Rattle.layer_mean.specs.Tree.{HandlerTree, LayerTree}
use Rattle.layer_mean.specs.Visit.{handler_for}
use Rattle.layer_mean.specs.Way.{Step, handler_way}
use Rattle.stack_mean.specs.NoShape as no_shape
use Rattle.stack_mean.specs.Drawn.{DrawnHeader, DrawnEvent, DrawnMet, drawn_met, drawn_entered}
use Rattle.shape_core.specs.declared.visit.Met.{Met}
use Rattle.shape_core.specs.declared.walk.Visit.{Visit}
use Rattle.shape_core.specs.Trees.{headers_tree}
use Rattle.shape_core.specs.Walk.{Walking, Stop, sends, walked}

abbrev pub met_tree : Met → DrawnMet
met_tree m = record { tag = m.tag; headers = option_map headers_tree m.headers }

abbrev pub way_walked : Visit → Option (List Step) → Walking → Result Walking Stop
way_walked v None w = Err (record { reason = no_shape.rare v.place; forks = w.forks })
way_walked v (Some steps) w = walked v steps w

-- The header `none`, after which a message passes down.
abbrev pub none_header : DrawnHeader
none_header = record { tag = 0; fields = [] }

-- A missing handler passes an event on, except upwards after another header than `none`.
abbrev pub unhandled_walked : Visit → Dir → Kind → DrawnMet → Option (List DrawnHeader) → Walking → Result Walking Stop
unhandled_walked v dir kind m None w = Ok (sends v dir kind None w)
unhandled_walked v Down kind m (Some headers) w = Ok (sends v Down kind (Some (none_header ∷ headers)) w)
unhandled_walked v Up kind m (Some headers) w =
    if m.tag == 0 then Ok (sends v Up kind (Some headers) w) else Err
    (record { reason = no_shape.rare v.place; forks = w.forks })

abbrev pub handler_walked : Visit → Option HandlerTree → Dir → Kind → DrawnMet → Walking → Result Walking Stop
handler_walked v None dir kind m w = unhandled_walked v dir kind m m.headers w
handler_walked v (Some h) dir kind m w =
    way_walked v (handler_way v.case h) (record w { scope = (drawn_entered h m.headers).scope })

abbrev pub visit_walked : Visit → LayerTree → Dir → DrawnEvent → Walking → Result Walking Stop
visit_walked v layer dir event w =
    let m = drawn_met dir event.headers in handler_walked v (handler_for layer dir event.kind m.tag) dir event.kind m w
