-- A run, played and drawn.
use Rattle.std.specs.Prelude.{◌≡◌, ℕ, ◌-◌, Option, true, false, List, [], ◌∷◌, map, Some, None, codes, Ok}
use Rattle.std.specs.List.{list_all}
use Rattle.layer_words.specs.declared.events.Dir.TheVariants.{Up, Down}
use Rattle.layer_words.specs.declared.events.Dir.{Dir}
use Rattle.layer_words.specs.declared.events.Kind.{Kind}
use Rattle.layer_words.specs.declared.events.Kind.TheVariants.{Cast}
use Rattle.layer_mean.specs.Marked.{Source, Logged}
use Rattle.stack_mean.specs.Shape.{ShapeVisit}
use Rattle.layer_mean.specs.declared.run.Case.{Case}
use Rattle.layer_mean.specs.declared.run.Case.TheVariants.{First, Second}
use Rattle.layer_mean.specs.declared.run.Event.{Event}
use Rattle.layer_mean.specs.State.{State}
use Rattle.layer_mean.specs.State as state
use Rattle.layer_mean.specs.Visit.{fresh}
use Rattle.layer_mean.specs.Queue.{Task, is_predicted}
use Rattle.stack_mean.specs.Samples.{keeping_stack, made_by, visit}
use Rattle.stack_mean.specs.SampleLayers.{counter, echo, fan, repeater, late, silent_layer}
use Rattle.stack_mean.specs.Shape.{packet_entry, shape}
use Rattle.stack_mean.specs.TwoCases.{flip}
use Rattle.shape_laws.specs.Law.{headers_in, first_tag_in, marked_run}
use Rattle.shape_laws.specs.Parts.{layer_reads_no_part}

-- The first of two members casts the letter x, over fresh layers.
abbrev pub fresh_states : List State
fresh_states = map (λ layer. fresh layer 0 2 0) keeping_stack

abbrev pub first_cast : Task Event
first_cast = record {
  at = 4;
  dir = Down;
  event = record { kind = Cast; peer = 0; a = 0; b = 0; message = Some (record { headers = []; body = codes "x" }) };
}

-- A visit of a run as a shape tells it, and an output of which the fields aren't told.
abbrev pub as_visit : Logged Event → ShapeVisit
as_visit x = record {
  place = x.at - 1;
  dir = x.dir;
  kind = x.marked.event.kind;
  tag = first_tag_in (headers_in x.marked.event);
  made_by = x.marked.made_by;
}

pub record OutOutline : Type 0 where
  pub dir : Dir
  pub kind : Kind
  pub tags : List ℕ
  pub made_by : Option Source

abbrev pub as_out : Logged Event → OutOutline
as_out x = record {
  dir = x.dir;
  kind = x.marked.event.kind;
  tags = map (λ h. h.tag) (headers_in x.marked.event);
  made_by = x.marked.made_by;
}

-- The run goes as predicted, and has the visits and the outputs of the shape.
abbrev pub KeptRun : Type 0
KeptRun =
    let log = (marked_run keeping_stack fresh_states first_cast).world in
    (is_predicted First log.world ≡ true) ×
    (map as_visit log.visits ≡
    visit 3 Down 0 None ∷ visit 2 Down 1 (made_by 0 0) ∷ visit 1 Down 0 (made_by 1 0) ∷ visit 3 Up 1 (made_by 1 1) ∷
    visit 0 Down 1 (made_by 2 0) ∷ []) ×
    (map as_out log.outs ≡
    record { dir = Up; kind = Cast; tags = []; made_by = made_by 3 0 } ∷
    record { dir = Down; kind = Cast; tags = 1 ∷ 1 ∷ 0 ∷ 1 ∷ []; made_by = made_by 4 0 } ∷ [])

-- The layers of the samples read no parts.
abbrev pub SamplesReadNoParts : Type 0
SamplesReadNoParts = (case : Case) →
    list_all (layer_reads_no_part case) (counter ∷ echo ∷ fan ∷ repeater ∷ late ∷ keeping_stack) ≡ true

-- The cast of a layer with two common cases after one other, by the same member: the run goes as predicted in the
-- second case alone, and has the outputs of that case's shape.
abbrev pub second_cast : Task Event
second_cast = record first_cast { at = 1 }

abbrev pub FlipRun : Type 0
FlipRun =
    let log = (marked_run (flip ∷ []) (record (fresh flip 0 2 0) { cells = state.numbers (1 ∷ []) ∷ [] } ∷ [])
    second_cast).world in
    (is_predicted First log.world ≡ false) × (is_predicted Second log.world ≡ true) ×
    (map as_out log.outs ≡
    record { dir = Down; kind = Cast; tags = 2 ∷ []; made_by = made_by 0 0 } ∷ [])

-- A packet's cast that is sent back keeps the headers of the layers above, of which the tags alone are known.
abbrev pub ReturnedPacket : Type 0
ReturnedPacket = shape (echo ∷ silent_layer ∷ []) (packet_entry Cast (0 ∷ 1 ∷ [])) First ≡ Ok (record {
  visits = visit 0 Up 0 None ∷ [];
  outs = record {
    dir = Down;
    kind = Cast;
    headers = record { tag = 0; fields = [] } ∷ record { tag = 1; fields = None ∷ [] } ∷ [];
    made_by = made_by 0 0;
  } ∷ [];
  length = 2;
})
