-- Where the plans of an application's own events begin.
use Rattle.std.proofs.Common.{◌≡◌, ◌∙◌, ℕ, ◌+◌, List, [], ◌∷◌, length, ap, arith}
use Rattle.std.specs.Prelude.{Result}
use Rattle.layer_mean.specs.Tree.{LayerTree}
use Rattle.layer_mean.specs.declared.run.Case.{Case}
use Rattle.layer_mean.specs.declared.run.Case.TheVariants.{First, Second}
use Rattle.stack_mean.specs.NoShape.{NoShape}
use Rattle.stack_mean.specs.Plans.{outs_of}
use Rattle.stack_mean.specs.Shape.{Known, Shape, app_cast, app_send, shape}
use Rattle.shape_core.specs.Answer.{held_answer}
use Rattle.shape_core.specs.Cases.{CaseShapes, shapes_of}
use Rattle.stack_shapes.specs.Lists.{packets_in}
use Rattle.stack_shapes.specs.Starts.{starts_of}
use Rattle.stack_shapes.proofs.Held.{held_outs}

-- the groups that stand before others
of_group : (stack : List LayerTree) (known : Known) (case : Case) (drawn : Result Shape NoShape) (n : ℕ) →
    drawn ≡ held_answer (shape stack known case) →
    n ≡ length (packets_in (outs_of drawn)) → n ≡ length (packets_in (outs_of (shape stack known case)))
of_group stack known case drawn n is many =
    many ∙ ap (λ d. length (packets_in (outs_of d))) is ∙
    ap (λ outs. length (packets_in outs)) (held_outs (shape stack known case))

pub begins : (stack : List LayerTree) (cast send : CaseShapes) (a b c l m n : ℕ) → cast ≡ shapes_of stack app_cast →
    send ≡ shapes_of stack app_send →
    l ≡ length (packets_in (outs_of cast.first)) → m ≡ length (packets_in (outs_of send.first)) →
    n ≡ length (packets_in (outs_of cast.second)) →
    a ≡ l → b ≡ a + m → c ≡ b + n → (0 ∷ a ∷ b ∷ c ∷ []) ≡ starts_of stack
begins stack cast send a b c l m n casts sends first second third at_a at_b at_c =
    let one = of_group stack app_cast First cast.first l (ap (λ s. s.first) casts) first in
    let two = of_group stack app_send First send.first m (ap (λ s. s.first) sends) second in
    let three = of_group stack app_cast Second cast.second n (ap (λ s. s.second) casts) third in
    let x : ℕ = length (packets_in (outs_of (shape stack app_cast First))) in
    let y : ℕ = length (packets_in (outs_of (shape stack app_send First))) in
    let z : ℕ = length (packets_in (outs_of (shape stack app_cast Second))) in
    let a_is : a ≡ 0 + x = omega (arith, one, at_a) in
    let b_is : b ≡ 0 + x + y = omega (arith, one, two, at_a, at_b) in
    let c_is : c ≡ 0 + x + y + z = omega (arith, one, two, three, at_a, at_b, at_c) in
    λ i. 0 ∷ a_is i ∷ b_is i ∷ c_is i ∷ []
