use Rattle.std.proofs.Common.{◌∷◌, [], ◌++◌, ◌<◌, length, Some, refl, sym, ap, ◌∙◌, arith}
use Rattle.std.proofs.lemmas.List.{length-map}
use Rattle.circular_buffer.specs.Buffer.{Buffer}
use Rattle.layer_words.specs.declared.events.Dir.{Dir}
use Rattle.layer_mean.specs.Envelope.{event_in}
use Rattle.layer_mean.specs.declared.run.Event.{Event}
use Rattle.msg_core.specs.Chain.{Content}
use Rattle.step_outputs.specs.Gathered.{Gathered, full_output}
use Rattle.step_outputs.specs.declared.kept.Kept.{Kept}
use Rattle.step_outputs.specs.Kept.{output_in}
use Rattle.step_outputs.proofs.Ranges.{put_keeps, put_tells, kept_tells}
use Rattle.step_outputs.proofs.outputs.Outputs.put_content.Goals as goal

pub invariant_of-self : goal.invariant_of-self
invariant_of-self c =
    let shown = length-map c.self.inside.list.items (output_in c.self.inside.here c.self.inside.bytes.items) in
    let free : length c.self.inside.list.items < c.self.inside.places =
    omega (
      arith,
      shown,
      c.requires.room,
      ap (λ (g : Gathered). length g.outputs) c.self.view_is,
      ap (λ (g : Gathered). g.places) c.self.view_is,
    ) in
    put_keeps _ _ _ _ _ _ _ _ _ _ _ _ c.self.invariant free c.keep_bytes.ensures.items
    (ap (λ (b : Buffer Kept). b.items) c.push.ensures)
    (ap (λ (b : Buffer Kept). b.capacity) c.push.ensures) c.keep_bytes.ensures.capacity c.requires.few
    (c.span_after-span.ensures ∙ sym c.keep_bytes.ensures.place)
    c.keep_bytes.ensures.within

-- one more output of those that are gathered
abbrev with_output : Gathered → Dir × Event → Gathered
with_output g sent = record g { outputs = g.outputs ++ full_output g.here sent ∷ [] }

pub returns : goal.returns
returns c =
    let m : Content = record { headers = c.args.headers.now; body = c.args.body.now } in
    let event = event_in c.args.envelope (Some m) in
    let sent : Dir × Event = (c.args.direction, event) in
    let one : Kept = record {
      what = c.what_carried-what.result;
      headers = c.args.headers.now;
      body =
          c.span_after-span.result;
    } in
    let told = put_tells c.self.inside.here _ _ _ _ _ one _ c.self.invariant.lie c.keep_bytes.ensures.items
    (ap (λ (b : Buffer Kept). b.items) c.push.ensures)
    (kept_tells c.self.inside.here c.args.direction event _ _ one _ (c.what_carried-what.ensures m) refl
    (c.span_after-span.ensures ∙ sym c.keep_bytes.ensures.place)
    c.keep_bytes.ensures.kept refl) in
    (λ i. record { here = c.self.inside.here; outputs = told i; places = c.self.inside.places }) ∙
    ap (λ g. with_output g sent) c.self.view_is
