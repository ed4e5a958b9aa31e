use Rattle.std.proofs.Common.{Some, map, ap, ◌∙◌}
use Rattle.circular_buffer.specs.Buffer.{Buffer}
use Rattle.run_mean.specs.Common.{with_plans}
use Rattle.step_outputs.specs.Gathered.{Gathered}
use Rattle.step_outputs.specs.Kept.{output_in}
use Rattle.step_outputs.specs.declared.kept.Kept.{Kept}
use Rattle.step_outputs.proofs.Numbers.{numbered_kept, sent_short}
use Rattle.step_outputs.proofs.outputs.Outputs.send_short.Goals as goal

pub invariant_of-self : goal.invariant_of-self
invariant_of-self c =
    numbered_kept _ _ _ c.self.inside.bytes.items c.args.count c.args.first c.self.inside.list.items
    c.number.new.self.items _ c.self.invariant
    (ap (λ (b : Buffer Kept). b.items) c.number.ensures) (ap (λ (b : Buffer Kept). b.capacity) c.number.ensures)

pub returns : goal.returns
returns c plans many outs full =
    let here = c.self.inside.here in
    let bytes = c.self.inside.bytes.items in
    let told = ap (λ (b : Buffer Kept). map (output_in here bytes) b.items) c.number.ensures
    ∙ sent_short here bytes plans c.args.count c.args.first c.self.inside.list.items c.args.self.now.outputs outs
    (ap (λ (g : Gathered). g.outputs) c.self.view_is) many full in
    (λ i. record { here = here; outputs = told i; places = c.self.inside.places })
    ∙ ap (λ (g : Gathered). record g { outputs = with_plans plans (Some c.args.first) outs }) c.self.view_is
