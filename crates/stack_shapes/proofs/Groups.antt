-- The plans of the groups, one after the other.
use Rattle.std.proofs.Common.{◌≡◌, ◌≤◌, append-nil, List, [], ◌∷◌, ◌++◌, map, flat_map, take, length, sym, ap, ◌∙◌}
use Rattle.std.specs.Prelude.{Result, Err}
use Rattle.std.proofs.lemmas.List.{map-append}
use Rattle.std.proofs.lemmas.List.Concat.{flat_map-cons}
use Rattle.std.proofs.lemmas.Grind.{flat_map-append}
use Rattle.layer_mean.specs.declared.run.Case.{Case}
use Rattle.layer_mean.specs.declared.run.Case.TheVariants.{First, Second}
use Rattle.layer_mean.specs.Tree.{LayerTree}
use Rattle.stack_mean.specs.NoShape.{NoShape}
use Rattle.stack_mean.specs.Plan as mean
use Rattle.stack_mean.specs.Plans.{Group, outs_of, packets_of, plan_of, plans_of}
use Rattle.stack_mean.specs.Shape.{Known, Shape, app_cast, app_send, shape}
use Rattle.shape_core.specs.Answer.{held_answer}
use Rattle.shape_core.specs.declared.absent.Absent.{Absent}
use Rattle.shape_core.specs.declared.types.Shape as code
use Rattle.shape_core.specs.Cases.{CaseShapes, drawn_tree, shapes_of}
use Rattle.stack_shapes.specs.Lists.{packets_in}
use Rattle.stack_shapes.proofs.Held.{held_outs}
use Rattle.stack_shapes.proofs.Gathered.{take_more, none_more}

abbrev group : Known → Case → Group
group known case = record { entry = known; case = case }

-- the plans of what is drawn of a group
abbrev drawn_plans : Result Shape NoShape → List mean.Plan
drawn_plans drawn = map plan_of (packets_in (outs_of drawn))

of_group : (stack : List LayerTree) (known : Known) (case : Case) (drawn : Result Shape NoShape) →
    drawn ≡ held_answer (shape stack known case) →
    drawn_plans drawn ≡ map plan_of (packets_of stack (group known case))
of_group stack known case drawn is = ap drawn_plans is ∙
    ap (λ outs. map plan_of (packets_in outs)) (held_outs (shape stack known case))

-- a group whose event has no shape has no plans
pub shapeless : (plans : List mean.Plan) (drawn : Result code.Shape Absent) (reason : Absent) → length plans ≤ 250 →
    drawn ≡ Err reason →
    plans ≡ take 250 (plans ++ map plan_of (packets_in (outs_of (drawn_tree drawn))))
shapeless plans drawn reason few is =
    none_more plans (map plan_of (packets_in (outs_of (drawn_tree drawn)))) few
    (ap (λ d. map plan_of (packets_in (outs_of (drawn_tree d)))) is)

flat_more : {X B : Type 0} (f : X → List B) (xs : List X) (x : X) → flat_map f (xs ++ x ∷ []) ≡ flat_map f xs ++ f x
flat_more f xs x =
    flat_map-append f xs (x ∷ []) ∙ ap (λ ys. flat_map f xs ++ ys) (flat_map-cons f x [] ∙ append-nil (f x))

group_more : (stack : List LayerTree) (groups : List Group) (known : Known) (case : Case) (drawn : Result Shape NoShape)
    (done next : List mean.Plan) →
    drawn ≡ held_answer (shape stack known case) → done ≡ take 250 (map plan_of (flat_map (packets_of stack) groups)) →
    next ≡ take 250 (done ++ drawn_plans drawn) →
    next ≡ take 250 (map plan_of (flat_map (packets_of stack) (groups ++ group known case ∷ [])))
group_more stack groups known case drawn done next is so_far more =
    let own : List mean.Plan = map plan_of (packets_of stack (group known case)) in
    more
    ∙ ap (λ xs. take 250 (done ++ xs)) (of_group stack known case drawn is)
    ∙ ap (λ xs. take 250 (xs ++ own)) so_far
    ∙ take_more 250 (map plan_of (flat_map (packets_of stack) groups)) own
    ∙ ap (take 250) (sym (ap (map plan_of) (flat_more (packets_of stack) groups (group known case))
    ∙ map-append plan_of (flat_map (packets_of stack) groups) (packets_of stack (group known case))))

pub all_groups : (stack : List LayerTree) (cast send : CaseShapes) (a b c d e : List mean.Plan) →
    cast ≡ shapes_of stack app_cast → send ≡ shapes_of stack app_send → a ≡ [] →
    b ≡ take 250 (a ++ map plan_of (packets_in (outs_of cast.first))) →
    c ≡ take 250 (b ++ map plan_of (packets_in (outs_of send.first))) →
    d ≡ take 250 (c ++ map plan_of (packets_in (outs_of cast.second))) →
    e ≡ take 250 (d ++ map plan_of (packets_in (outs_of send.second))) →
    e ≡ plans_of stack
all_groups stack cast send a b c d e casts sends none first second third fourth =
    let g1 : List Group = group app_cast First ∷ [] in
    let g2 : List Group = group app_cast First ∷ group app_send First ∷ [] in
    let g3 : List Group = group app_cast First ∷ group app_send First ∷ group app_cast Second ∷ [] in
    group_more stack g3 app_send Second send.second d e (ap (λ s. s.second) sends)
    (group_more stack g2 app_cast Second cast.second c d (ap (λ s. s.second) casts)
    (group_more stack g1 app_send First send.first b c (ap (λ s. s.first) sends)
    (group_more stack [] app_cast First cast.first a b (ap (λ s. s.first) casts) none first) second) third) fourth
