-- `values` lends the values that a `&` to the memory reaches. Assumes `Logic`.
use mathlib.Core.Path.{◌≡◌, refl, ap, subst, ◌∙◌}
use Prim.Native.Nat.{◌+◌, ◌*◌, ◌<◌, ◌^◌}
use native.Mathlib.Omega.{arith}
use mathlib.Core.List.{List, [], ◌∷◌}
use lib.ListN.{length}
use base.Logic.{SProp, emp}
use base.Fml.{flft, ftrue, fat}
use base.Fraction.{full_share}
use mir.MapTy.{inst_fn}
use mir.Syntax.{named, w64}
use mir.Val.{Val, vint, vptr}
use contract.Monad.{fact, fact_i}
use contract.Running.{tables}
use types.Kit.{‵, raw, ◌⊛◌, at_ret, ◌$◌, ◌∵◌, !, qed, by, move, keep, drop, use0, split, rewrite, fsplit, fjoin, feq_i}
use types.Kit.{flt_l, flt_i}
use types.Part.{whole, sub, agg}
use types.Run.{stop, fld, of_opd, and_then, no_more, first, blocks, exec, returns, enter}
use types.ByLocal.{alloc_all, pass_all, free_all, look_at, get, get_in, sets, sets_last, take_at, give_at, env}
use denote.Builtin.{RefOf, usize}
use denote.Exit.{yes, no}
use denote.Opens.{hide, unhide}
use denote.Param.{layout}
use denote.Plain.{uint_vals, uint_Tells}
use denote.RattleType.{owns}
use denote.RawPtr.{Ptr, in_a_block}
use denote.Ref.{shr_vals, shr_Tells}
use denote.Signature.{plain, types_at}
use denote.Slice.{slice_val}
use denote.Steps.{nothing, heard}
use denote.Triple.Walked.{Stays, stay_dropped, walk_of, Goes-dropped}
use Rattle.core.proofs.mem.Param.{El, R, args}
use Rattle.core.proofs.ptr.Rows.{times_below}
use Rattle.std.proofs.raw_atomic.Walks.{proved, leaves}
use Rattle.std.specs.Mem.{type_size}
use Rattle.std_alloc.proofs.RcSteps.{word, word-Good}
use Rattle.std_alloc.proofs.VecSteps.Shapes.{after}
use Rattle.raw_block.specs.Ownership.{filled_lends}
use Rattle.raw_block.proofs.Parts.{St, Fr, start_tells, no_values_at_null}
use Rattle.raw_block.specs.contracts.memory.Filled.values.{ended, clauses}
use Rattle.raw_block.specs.contracts.memory.Filled.values.Key.{name as #self}
use Rattle.raw_block.proofs.memory.Filled.values.Statement.{statement}
use Rattle.raw_block.proofs.memory.Filled.values.Code as code

pub values_spec : {M : Type 1} → statement M
values_spec 𝓤 𝓛 𝓜 𝓡 wired X LX =
    let E : El = record { row = X; laws = LX } in
    let 𝓣 = tables 𝓤 𝓛.H 𝓜 𝓡 𝓡.env in let En = ended X in let c = clauses X 𝓛 𝓜.mem 𝓡.returns in let fn =
    inst_fn (args E) code.function in
    let self_slot = RefOf (0 ∷ []) tt (plain {n = 2} (λ _. Fr E)) (λ _. tt) in let start_slot = plain
    {n = 2} (λ _. St E) in let count_slot = plain {n = 2} (λ _. usize) in
    let hs : Stays En.signature.params En.kept =
    (stay_dropped self_slot yes, (stay_dropped start_slot no, (stay_dropped count_slot yes, tt))) in
    proved 𝓛 En hs c 𝓜 𝓡 (
      Goes-dropped 𝓛 2 self_slot yes (λ κs x w. refl),
      (Goes-dropped 𝓛 2 start_slot no (λ κs x w. refl), (Goes-dropped 𝓛 2 count_slot yes (λ κs x w. refl), tt)),
    )
    (#self (args E)) fn (code.unfolded 𝓤 𝓛.H 𝓜 𝓡 wired (X, tt))
    (λ κs. (shr_vals, ((λ s. word s.first ∷ []), (uint_vals w64, tt))))
    (λ κs. (shr_Tells (named 0) κs.0 (Fr E), (start_tells E, (uint_Tells w64, tt)))) (λ κs qs bounds a g are.
    let f = a.0.now in let start = a.1.0 in let count = a.1.1.0 in let xs = f.values in let s = type_size (R E) in
    let vs : List Val = vptr a.0.ref_ptr.0 a.0.ref_ptr.1 ∷ word start.first ∷ vint w64 count ∷ [] in
    let y : (walk_of 𝓛 En hs c).Ghost = (
      (
        κs,
        qs,
        bounds,
        a,
        (
          vptr a.0.ref_ptr.0 a.0.ref_ptr.1 ∷ [],
          (word start.first ∷ [], (vint w64 count ∷ [], tt)),
        ),
      ),
      g,
    ) in
    let Post : Val → SProp 𝓤 = (walk_of 𝓛 En hs c).post y in
    let Asked : Type 0 = (start.first ≡ f.at) × (count ≡ length xs) in
    qed 𝓛 (((‵ (flft κs.0 qs.0) ⊛ ‵ (flft κs.1.0 qs.1.0) ⊛ ‵ ftrue) ⊛ ‵
    (owns (types_at En.signature.params κs) a y.0.4)) ∷ raw (fact 𝓤 _) ∷ raw (fact 𝓤 Asked) ∷ []) ∵
    keep ! (2 ∷ 0 ∷ []) $ heard ! Asked
    (λ asked. split ! $ move ! (1 ∷ []) $ fsplit ! $ fsplit ! $ drop ! $ keep ! (0 ∷ 2 ∷ []) $
    -- [what the `&` reaches; the tokens]
    enter ! 𝓣.C 𝓣.Λ fn vs Post $ alloc_all !
    (λ l. pass_all ! refl ((tt, tt), (word-Good [] start.first, ((tt, record { fits = are.1.1.0.1 }), tt))) $
    unhide ! $ fsplit ! $ drop ! $ in_a_block ! f.at (λ p. filled_lends (R E) p xs f.room κs.0)
    (no_values_at_null E 𝓛 xs f.room κs.0) (λ b o e.
    fsplit ! $ flt_l ! (λ small. fsplit ! $ drop ! $ fsplit ! $ drop ! $ hide ! $
    take_at ! 2 $ rewrite ! 0 (λ (p : Ptr). ‵ (fat full_share (layout (St E)) (l 2) 0 (word p))) (asked.0 ∙ e) refl $
    give_at ! 2 $ first ! $ blocks ! $
    sets_last ! (agg ! (and_then ! (get_in ! (fld ! refl (stop !)) (sub ! 0 refl (whole !)))
    (and_then ! (get ! refl) (no_more !)))) refl (tt, (tt, (record { fits = are.1.1.0.1 }, tt))) $
    exec ! 𝓣.C 𝓣.Λ (env fn.locals l) (after 1 fn.body) (at_ret _ Post) $ sets ! (of_opd ! (get ! refl)) refl
    (tt, (tt, (record { fits = are.1.1.0.1 }, tt))) $
    returns ! (look_at ! 0 refl) $ free_all ! refl $
    -- [the values, lent; the tokens]
    flt_i ! (length xs * s) (2 ^ 63) (times_below (length xs) (length xs + f.room) s (2 ^ 63) (omega arith) small) $
    flt_i ! (length xs) (2 ^ 64) (subst (λ k. k < 2 ^ 64) asked.1 are.1.1.0.1) $ fjoin ! $
    feq_i ! (List Val) (slice_val (b, o) count ∷ []) (slice_val (b, o) (length xs) ∷ [])
    (ap (λ k. slice_val (b, o) k ∷ []) asked.1) $ fjoin ! $ fjoin ! $
    use0 𝓛 (raw (fact 𝓤 (xs ≡ xs))) (fact_i 𝓤 (xs ≡ xs) (emp 𝓤) refl) $ nothing ! $ nothing ! $ fjoin
    ! $ nothing ! $ fjoin ! $ nothing ! $ fjoin ! $ move ! (3 ∷ 0 ∷ 2 ∷ 1 ∷ []) $
    by ! (leaves 𝓛 En hs c y (slice_val (b, o) count) (record { ref_ptr = (b, o); now = xs }) (tt, (tt, (tt, tt)))
    (tt, (tt, (tt, tt)))))))))
