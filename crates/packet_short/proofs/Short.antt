-- The headers of a short datagram, and where its body begins.
use Rattle.std.proofs.Common.{◌≡◌, ◌≢◌, ℕ, false, List, [], ◌∷◌, Some, None, refl, ap, ◌∙◌}
use Rattle.std.specs.Prelude.{Ok, Err, ok_or, option_and_then, ◌==◌}
use Rattle.msg_core.specs.declared.message.Header.{Header}
use Rattle.msg_core.specs.declared.packet.Stray.TheVariants as cause
use Rattle.layer_mean.specs.Tree.{LayerTree}
use Rattle.stack_mean.specs.Plan.{Plan}
use Rattle.packet_mean.specs.Reading.{Preamble, value_reader, named_plan}
use Rattle.packet_mean.specs.Spelling.{full_form}
use Rattle.packet_full.specs.Steps.{contents}
use Rattle.packet_short.specs.Contents.{plan_named}
use Rattle.packet_short.specs.Dealing.{dealing}
use Rattle.packet_short.proofs.Alike.{no_same}
use Rattle.packet_short.proofs.Dealt.{dealt_at_once}

pub no_full : (form : ℕ) → form ≢ full_form → (form == full_form) ≡ false
no_full form other = no_same form full_form (form == full_form) refl other

-- the plan that a short datagram names
pub named_is : (plans : List Plan) (p : Preamble) (bytes : List ℕ) → (p.form == full_form) ≡ false →
    named_plan plans p bytes ≡ option_and_then (λ r. value_reader (Some r.0) r.1) (plan_named plans p.dest bytes)
named_is plans p [] short = rw short refl
named_is plans p (k ∷ bytes) short = rw short refl

pub no_plan : (stack : List LayerTree) (plans : List Plan) (p : Preamble) (bytes : List ℕ) →
    (p.form == full_form) ≡ false →
    plan_named plans p.dest bytes ≡ None → contents stack plans p bytes ≡ Err cause.Plan
unfolding contents
no_plan stack plans p bytes short none = rw (named_is plans p bytes short, none) refl

pub not_dealt : (stack : List LayerTree) (plans : List Plan) (p : Preamble) (bytes : List ℕ) (plan : Plan)
    (more : List ℕ) →
    (p.form == full_form) ≡ false → plan_named plans p.dest bytes ≡ Some (plan, more) →
    dealing stack 0 plan.tags plan.fields more ≡ None →
    contents stack plans p bytes ≡ Err cause.Chain
unfolding contents
not_dealt stack plans p bytes plan more short some none =
    rw (named_is plans p bytes short, some) (ap (λ o. ok_or o cause.Chain) (dealt_at_once stack plan more ∙ none))

pub dealt_contents : (stack : List LayerTree) (plans : List Plan) (p : Preamble) (bytes : List ℕ) (plan : Plan)
    (more : List ℕ)
    (hs : List Header) (body : List ℕ) → (p.form == full_form) ≡ false → plan_named plans p.dest bytes ≡
    Some (plan, more) →
    dealing stack 0 plan.tags plan.fields more ≡ Some (hs, body) → contents stack plans p bytes ≡ Ok (hs, body)
unfolding contents
dealt_contents stack plans p bytes plan more hs body short some read =
    rw (named_is plans p bytes short, some) (ap (λ o. ok_or o cause.Chain) (dealt_at_once stack plan more ∙ read))
