use Rattle.std.proofs.Common.{◌∷◌, [], ◌++◌, ◌<◌, length, None, refl, ap, ◌∙◌, arith}
use Rattle.std.proofs.lemmas.List.{length-map}
use Rattle.circular_buffer.specs.Buffer.{Buffer}
use Rattle.layer_words.specs.declared.events.Dir.{Dir}
use Rattle.layer_mean.specs.declared.run.Event.{Event}
use Rattle.run_mean.specs.Member.{content, output_of}
use Rattle.step_outputs.specs.Gathered.{Gathered}
use Rattle.step_outputs.specs.declared.kept.Kept.{Kept}
use Rattle.pool_message.specs.Seen.{event_seen}
use Rattle.step_outputs.specs.Kept.{output_in}
use Rattle.step_outputs.proofs.Ranges.{put_keeps, put_tells, kept_tells}
use Rattle.step_outputs.proofs.outputs.Outputs.put.Goals as goal

pub invariant_of-self : goal.invariant_of-self
invariant_of-self c =
    let shown = length-map c.self.inside.list.items (output_in c.self.inside.here c.self.inside.bytes.items) in
    let free : length c.self.inside.list.items < c.self.inside.places =
    omega (
      arith,
      shown,
      c.requires.room,
      ap (λ (g : Gathered). length g.outputs) c.self.view_is,
      ap (λ (g : Gathered). g.places) c.self.view_is,
    ) in
    let kept = c.keep.ensures c.args.pool.now in
    put_keeps _ _ _ _ _ _ _ _ _ _ _ _ c.self.invariant free c.keep_bytes-body.ensures.items
    (ap (λ (b : Buffer Kept). b.items) kept)
    (ap (λ (b : Buffer Kept). b.capacity) kept) c.keep_bytes-body.ensures.capacity c.body_of.ensures.few refl
    c.keep_bytes-body.ensures.within

-- one more output of those that are gathered
abbrev with_output : Gathered → Dir × Event → Gathered
with_output g sent = record g { outputs = g.outputs ++ (output_of g.here sent, None) ∷ [] }

pub returns : goal.returns
returns c =
    let event = event_seen c.args.pool.now c.args.event.now in
    let sent : Dir × Event = (c.args.direction, event) in
    let one : Kept = record {
      what = c.what_of-what.result;
      headers = (content event).headers;
      body =
          c.keep_bytes-body.result;
    } in
    let told = put_tells c.self.inside.here _ _ _ _ _ one _ c.self.invariant.lie c.keep_bytes-body.ensures.items
    (ap (λ (b : Buffer Kept). b.items) (c.keep.ensures c.args.pool.now))
    (kept_tells c.self.inside.here c.args.direction event _ _ one _ (c.what_of-what.ensures c.args.pool.now) refl refl
    c.keep_bytes-body.ensures.kept
    c.body_of.ensures.is) in
    (λ i. record { here = c.self.inside.here; outputs = told i; places = c.self.inside.places }) ∙
    ap (λ g. with_output g sent) c.self.view_is
