-- Layers of which no way that is predicted in a case reads a part, as all layers of the library are.
use Rattle.std.specs.Prelude.{◌≡◌, Bool, true, false, List}
use Rattle.std.specs.List.{list_all}
use Rattle.std.specs.Option.{option_map_or}
use Rattle.layer_mean.specs.declared.run.Case.{Case}
use Rattle.layer_mean.specs.declared.run.Event.{Event}
use Rattle.layer_mean.specs.Tree.{Carried, part, whole, MessageTree, held, tail, join, HandlerTree, LayerTree}
use Rattle.layer_mean.specs.Queue.{Line, Work}
use Rattle.layer_mean.specs.Marked.{Log, Marked}
use Rattle.layer_mean.specs.Way.{Step, get, send, handler_way}
use Rattle.shape_laws.specs.Bare.{BareRun}

-- Whether rows carry messages of the layers above, and no parts.
abbrev pub is_whole : Carried → Bool
is_whole part = false
is_whole (whole blank) = true

-- Whether a message isn't made of a part that is held.
abbrev pub holds_no_part : MessageTree → Bool
holds_no_part (held c i row carried) = is_whole carried
holds_no_part (tail m from) = holds_no_part m
holds_no_part (join p m) = holds_no_part m
holds_no_part _ = true

-- Whether a step neither takes a part nor sends one that is held.
abbrev pub reads_no_part : Step → Bool
reads_no_part (get c i taken) = option_map_or (λ slot. is_whole slot.1) taken.message true
reads_no_part (send e) = option_map_or (λ c. holds_no_part c.message) e.content true
reads_no_part _ = true

-- Whether no way of a layer that is predicted in a case reads a part.
abbrev pub way_reads_no_part : Case → HandlerTree → Bool
way_reads_no_part case h = option_map_or (list_all reads_no_part) (handler_way case h) true

abbrev pub layer_reads_no_part : Case → LayerTree → Bool
layer_reads_no_part case layer = list_all (way_reads_no_part case) layer.handlers

-- In runs of such layers the parts that are read have no headers, since none are read.
abbrev pub RunsWithoutParts : Type 0
RunsWithoutParts = (case : Case) (stack : List LayerTree) → list_all (layer_reads_no_part case) stack ≡ true →
    (r : Line (Log Work Event) (Marked Event)) → BareRun case stack r
