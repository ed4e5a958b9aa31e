-- What is told of a moment are its lines.
use Rattle.std.proofs.Common.{◌≡◌, ℕ, Bool, true, false, List, ◌∷◌, [], ◌++◌, map, refl, sym, ap, ◌∙◌, Option, None}
use Rattle.std.proofs.Common.{Some}
use Rattle.std.specs.Prelude.{option_to_list}
use Rattle.run_mean.specs.Mode.{Mode}
use Rattle.layer_mean.specs.Tree.{LayerTree}
use Rattle.run_mean.specs.Common.{as_sent, plan_after, short_from, with_plans}
use Rattle.run_mean.specs.Lines.{refused_line}
use Rattle.run_mean.specs.Member.{Member, Output, Step, inside, out}
use Rattle.run_mean.specs.Report.{Moment, first_number, installed_line, lines_of, lines_of_outputs, member_lines}
use Rattle.run_mean.specs.Report.{mode_if, moment_lines, no_annex, number_following, output_lines, step_lines}
use Rattle.run_mean.specs.World as world
use Rattle.run_mean.specs.World.{member_at}
use Rattle.script_mean.specs.Event.{member_of}
use Rattle.stack_mean.specs.Plan.{Plan}
use Rattle.view_core.specs.Happenings.{DidIs}
use Rattle.view_core.specs.Steps.{installed_change}
use Rattle.view_core.specs.declared.step.Change.{Change}
use Rattle.view_core.specs.declared.step.Did as code
use Rattle.view_core.specs.declared.step.Did.TheVariants as did
use Rattle.view_core.specs.declared.step.Stepped.TheVariants.{Taken, Refused}
use Rattle.report_text.specs.Told.{annex_of, change_lines, taken_lines, told_lines}

-- the line of where a member is then
pub changes_told : (id : ℕ) (installs : Option Member) → change_lines id (installed_change installs) ≡
    map (installed_line id) (option_to_list installs)
changes_told id None = refl
changes_told id (Some (inside view states)) = refl
changes_told id (Some out) = refl

-- where nothing stands after outputs, their plans make no difference
plain_lines : (stack : List LayerTree) (plans : List Plan) (a b : Option ℕ) (id first : ℕ) (outputs : List Output) →
    lines_of_outputs stack no_annex id first (with_plans plans a outputs) ≡
    lines_of_outputs stack no_annex id first (with_plans plans b outputs)
plain_lines stack plans a b id first [] = refl
plain_lines stack plans a b id first (o ∷ outputs) = ap (λ rest. output_lines stack id first o ++ [] ++ rest)
    (plain_lines stack plans (plan_after a o) (plan_after b o) id (number_following first o) outputs)

outputs_told : (mode : Mode) (stack : List LayerTree) (plans : List Plan) (wire : Bool) (id first : ℕ) (s : Step) →
    lines_of_outputs stack (annex_of wire plans) id first (as_sent mode stack plans s) ≡
    step_lines stack plans (mode_if wire mode) id first s
outputs_told mode stack plans false id first s = plain_lines stack plans (short_from mode stack plans s) None id first
    s.outputs
outputs_told mode stack plans true id first s = refl

taken_told : (mode : Mode) (stack : List LayerTree) (plans : List Plan) (wire : Bool) (id first : ℕ) (s : Step)
    (outs : List (Output × Option ℕ))
    (change : Option Change) → outs ≡ as_sent mode stack plans s → change ≡ installed_change s.installs →
    taken_lines stack (annex_of wire plans) id first outs change
    ≡ step_lines stack plans (mode_if wire mode) id first s ++ map (installed_line id) (option_to_list s.installs)
taken_told mode stack plans wire id first s outs change outs_are change_is =
    ap (λ told. lines_of_outputs stack (annex_of wire plans) id first told ++ change_lines id change) outs_are
    ∙ ap (λ lines. lines ++ change_lines id change) (outputs_told mode stack plans wire id first s)
    ∙ ap (λ told. step_lines stack plans (mode_if wire mode) id first s ++ change_lines id told) change_is
    ∙ ap (λ lines. step_lines stack plans (mode_if wire mode) id first s ++ lines) (changes_told id s.installs)

told_as : (mode : Mode) (stack : List LayerTree) (plans : List Plan) (wire : Bool) (m : Moment) (h : world.Did)
    (outs : List (Output × Option ℕ)) (before after : ℕ)
    (d : code.Did) (shown : Member) (first : ℕ) → DidIs mode stack plans h outs before after d →
    (d ≡ did.Shown → shown ≡ member_at m.before (member_of m.event)) →
    told_lines stack plans wire m.event d outs shown first
    ≡ lines_of stack (step_lines stack plans (mode_if wire mode) (member_of m.event) first) m h
told_as mode stack plans wire m (world.taken s) outs before after (did.Stepped (Taken common change)) shown first is
    member =
    taken_told mode stack plans wire (member_of m.event) first s outs change is.outs_are is.change_is
told_as mode stack plans wire m (world.refused r) outs before after (did.Stepped (Refused told)) shown first is member =
    ap (λ cause. refused_line (member_of m.event) cause ∷ []) (sym is.cause_is)
told_as mode stack plans wire m world.absent outs before after did.Absent shown first is member = refl
told_as mode stack plans wire m world.shown outs before after did.Shown shown first is member =
    ap (member_lines stack (member_of m.event)) (member refl)
told_as mode stack plans wire m (world.taken s) outs before after (did.Stepped (Refused told)) shown first is member =
    absurd is
told_as mode stack plans wire m (world.taken s) outs before after did.Absent shown first is member = absurd is
told_as mode stack plans wire m (world.taken s) outs before after did.Shown shown first is member = absurd is
told_as mode stack plans wire m (world.refused r) outs before after (did.Stepped (Taken common change)) shown first is
    member = absurd is
told_as mode stack plans wire m (world.refused r) outs before after did.Absent shown first is member = absurd is
told_as mode stack plans wire m (world.refused r) outs before after did.Shown shown first is member = absurd is
told_as mode stack plans wire m world.absent outs before after (did.Stepped (Taken common change)) shown first is
    member = absurd is
told_as mode stack plans wire m world.absent outs before after (did.Stepped (Refused told)) shown first is member =
    absurd is
told_as mode stack plans wire m world.absent outs before after did.Shown shown first is member = absurd is
told_as mode stack plans wire m world.shown outs before after (did.Stepped (Taken common change)) shown first is
    member = absurd is
told_as mode stack plans wire m world.shown outs before after (did.Stepped (Refused told)) shown first is member =
    absurd is
told_as mode stack plans wire m world.shown outs before after did.Absent shown first is member = absurd is

pub told_is_moment : (mode : Mode) (stack : List LayerTree) (plans : List Plan) (wire : Bool) (m : Moment)
    (outs : List (Output × Option ℕ)) (before after : ℕ)
    (d : code.Did) (shown : Member) (first : ℕ) → DidIs mode stack plans m.happening.did outs before after d →
    (d ≡ did.Shown → shown ≡ member_at m.before (member_of m.event)) → first ≡ first_number m →
    told_lines stack plans wire m.event d outs shown first ≡ moment_lines stack plans (mode_if wire mode) m
told_is_moment mode stack plans wire m outs before after d shown first is member numbered =
    ap (told_lines stack plans wire m.event d outs shown) numbered
    ∙ told_as mode stack plans wire m m.happening.did outs before after d shown (first_number m) is member
