-- Shapes whose lengths are held within 32 bits: their outputs are the same, and so are those that aren't too long.
use Rattle.std.proofs.Common.{◌≡◌, ◌∙◌, ◌≤◌, Bool, true, false, List, map, refl, sym, ap, ap₂, arith}
use Rattle.std.specs.Prelude.{leb, min, if◌then◌else◌, Result, Ok, Err}
use Rattle.std.proofs.Math.Nat.{min-eq_left, le-min}
use Rattle.std.proofs.lemmas.Bool.{leb-true, leb-false, lt-leb}
use Rattle.layer_mean.specs.declared.run.Case.TheVariants.{First, Second}
use Rattle.layer_mean.specs.Tree.{LayerTree}
use Rattle.stack_mean.specs.NoShape.{NoShape}
use Rattle.stack_mean.specs.NoShape as no_shape
use Rattle.stack_mean.specs.Plan.{Plan}
use Rattle.stack_mean.specs.Plans.{outs_of, plans_of}
use Rattle.stack_mean.specs.Shape.{Known, Shape, app_cast, app_send, shape}
use Rattle.shape_core.specs.Answer.{held_answer, held_shape}
use Rattle.shape_core.specs.Cases.{CaseShapes, shapes_of}
use Rattle.stack_shapes.specs.Shapes.{ShortShapes, limited, limited_cases, kept_shapes, plan_shapes, short_shapes}

pub held_outs : (drawn : Result Shape NoShape) → outs_of (held_answer drawn) ≡ outs_of drawn
held_outs (Ok s) = refl
held_outs (Err reason) = refl

abbrev choice : Shape → Bool → Result Shape NoShape
choice s b = if b then Ok s else Err no_shape.long

limited_held : (drawn : Result Shape NoShape) → limited (held_answer drawn) ≡ limited drawn
limited_held (Err reason) = refl
limited_held (Ok s) = go (leb s.length 4096) refl where
  go : (b : Bool) → leb s.length 4096 ≡ b → limited (Ok (held_shape s)) ≡ limited (Ok s)
  go true is =
      let short = leb-true s.length 4096 is in
      ap (λ n. limited (Ok (record s { length = n }))) (min-eq_left (omega (arith, short)))
  go false is =
      let long = leb-false s.length 4096 is in
      let both : 4097 ≤ min s.length 4294967295 = le-min (omega (arith, long)) (omega arith) in
      ap (choice (held_shape s)) (lt-leb (min s.length 4294967295) 4096 both) ∙ sym (ap (choice s) is)

-- an entry's shapes as they are kept
pub kept_are : (stack : List LayerTree) (known : Known) (drawn kept : CaseShapes) → drawn ≡ shapes_of stack known →
    kept ≡ limited_cases drawn →
    kept ≡ kept_shapes stack known
kept_are stack known drawn kept is of_drawn =
    of_drawn ∙ ap limited_cases is
    ∙ ap₂ (λ a b. record { first = a; second = b }) (limited_held (shape stack known First))
    (limited_held (shape stack known Second))

pub all_kept : (stack : List LayerTree) (entries : ShortShapes) (cast send : CaseShapes) (listed plans : List Plan) →
    cast ≡ shapes_of stack app_cast → send ≡ shapes_of stack app_send → entries.cast ≡ limited_cases cast →
    entries.send ≡ limited_cases send →
    entries.plans ≡ map (plan_shapes stack) listed → listed ≡ plans → plans ≡ plans_of stack →
    entries ≡ short_shapes stack (plans_of stack)
all_kept stack entries cast send listed plans casts sends first second others same are =
    let kept_cast = kept_are stack app_cast cast entries.cast casts first in
    let kept_send = kept_are stack app_send send entries.send sends second in
    let kept_plans = others ∙ ap (map (plan_shapes stack)) (same ∙ are) in
    λ i. record { cast = kept_cast i; send = kept_send i; plans = kept_plans i }
