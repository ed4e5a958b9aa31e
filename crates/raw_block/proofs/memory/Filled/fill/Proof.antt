-- `fill` writes a value into the first place of the room. Assumes `Logic`.
use mathlib.Core.Path.{◌≡◌, refl, sym, ap, subst, ◌∙◌}
use Prim.Native.Nat.{ℕ, ◌+◌, ◌-◌, ◌*◌, ◌<◌, ◌^◌}
use native.Mathlib.Omega.{arith}
use mathlib.Core.List.{List, [], ◌∷◌, ◌++◌}
use lib.ListN.{length, length-append}
use base.Logic.{SProp, emp}
use base.Fml.{flft, ftrue, fat, froom}
use base.Fraction.{full_share}
use mir.MapTy.{inst_fn}
use mir.Syntax.{named, ty_array, w64}
use mir.Val.{Val, vint, vptr, vunit}
use prog.Wp.{WpFn}
use contract.Monad.{fact, fact_i}
use contract.Running.{tables}
use types.Kit.{‵, raw, prop, ◌⊛◌, at_ret, ◌$◌, ◌∵◌, !, qed, by, move, keep, drop, use0, use1, use2, split, join, regoal}
use types.Kit.{rewrite, fsplit, fsplit3, fjoin, fjoin3, feq_i, flt_l, flt_i}
use types.Part.{whole, sub}
use types.Run.{stop, fld, bin, init, of_opd, size_lit, unit_lit, assigns_last, first, blocks, exec, returns, enter}
use types.ByLocal.{alloc_all, pass_all, free_all, look_at, get, get_in, through, sets, take_at, give_at, env}
use denote.Array.{Array}
use denote.Builtin.{usize}
use denote.Exit.{yes, no}
use denote.Memory.{part_at}
use denote.Param.{layout}
use denote.Plain.{uint_Tells}
use denote.RattleType.{owns}
use denote.RawPtr.{Ptr, in_a_block}
use denote.Ref.{mut_Tells}
use denote.Signature.{plain, types_at}
use denote.Steps.{nothing, heard, opens, closes}
use denote.Triple.Walked.{Stays, stay_dropped, stay_ref, walk_of, Goes-dropped, Goes-ref}
use Rattle.core.proofs.mem.Param.{El, R, args, elτ, lawful, one}
use Rattle.core.proofs.ptr.Rows.{times_below, one_below}
use Rattle.std.proofs.raw_atomic.Walks.{proved_at, leaves}
use Rattle.std.specs.Mem.{type_size}
use Rattle.std_alloc.proofs.RawLayout.{as_raw, as_written}
use Rattle.std_alloc.proofs.RcSteps.{word, word-Good}
use Rattle.std_alloc.proofs.VecSteps.Rows.{el_in, snoc, spare}
use Rattle.std_alloc.proofs.VecSteps.Shapes.{after}
use Rattle.raw_block.specs.Ownership.{filled_owns}
use Rattle.raw_block.proofs.Parts.{St, Fr, in_a_run, start_tells, no_memory_at_null}
use Rattle.raw_block.specs.contracts.memory.Filled.fill.{ended, clauses}
use Rattle.raw_block.specs.contracts.memory.Filled.fill.Key.{name as #self}
use Rattle.raw_block.proofs.memory.Filled.fill.Statement.{statement}
use Rattle.raw_block.proofs.memory.Filled.fill.Code as code

pub fill_spec : {M : Type 1} → statement M
fill_spec 𝓤 𝓛 𝓜 𝓡 wired X LX =
    let E : El = record { row = X; laws = LX } in
    let 𝓣 = tables 𝓤 𝓛.H 𝓜 𝓡 𝓡.env in let En = ended X in let c = clauses X 𝓛 𝓜.mem 𝓡.returns in let fn =
    inst_fn (args E) code.function in
    let filled_slot = plain {n = 2} (λ _. Fr E) in let start_slot = plain {n = 2} (λ _. St E) in let index_slot = plain
    {n = 2} (λ _. usize) in let value_slot = plain {n = 2} (λ _. R E) in
    let hs : Stays En.signature.params En.kept = (
      stay_ref (0 ∷ []) tt filled_slot,
      (stay_dropped start_slot no, (stay_dropped index_slot yes, (stay_dropped value_slot no, tt))),
    ) in
    proved_at 𝓛 En hs c 𝓜 𝓡 (
      Goes-ref 𝓛 2 0 tt filled_slot,
      (
        Goes-dropped 𝓛 2 start_slot no (λ κs x w. refl),
        (Goes-dropped 𝓛 2 index_slot yes (λ κs x w. refl), (Goes-dropped 𝓛 2 value_slot no (λ κs x w. refl), tt)),
      ),
    )
    (#self (args E)) fn (code.unfolded 𝓤 𝓛.H 𝓜 𝓡 wired (X, tt)) (λ y are.
    let Post : Val → SProp 𝓤 = (walk_of 𝓛 En hs c).post y in
    let κs = y.0.0 in let qs = y.0.1 in let a = y.0.3 in let vss = y.0.4 in let rb = a.0.ref_ptr.0 in let ro =
    a.0.ref_ptr.1 in
    let f = a.0.now in let start = a.1.0 in let index = a.1.1.0 in let x = a.1.1.1.0 in let xs = f.values in let n =
    length xs in let k = f.room in let s = type_size (R E) in let τ = elτ E in
    let Asked : Type 0 = (start.first ≡ f.at) × (index ≡ n) × (0 < k) in
    let was = one E vss.1.1.1.0 ((lawful E 𝓛).typed x vss.1.1.1.0 are.1.1.1.0) in let v : Val = was.0 in let good =
    was.2 in
    let is_self : vss.0 ≡ vptr rb ro ∷ [] = mut_Tells (named 0) κs.0 (Fr E) a.0 vss.0 are.0 in
    let is_index : vss.1.1.0 ≡ vint w64 index ∷ [] = uint_Tells w64 index vss.1.1.0 are.1.1.0 in
    let vs : List Val = vptr rb ro ∷ word f.at ∷ vint w64 n ∷ v ∷ [] in
    qed 𝓛 (((‵ (flft κs.0 qs.0) ⊛ ‵ (flft κs.1.0 qs.1.0) ⊛ ‵ ftrue) ⊛ ‵ (owns (types_at En.signature.params κs) a vss))
    ∷ raw (fact 𝓤 _) ∷ raw (fact 𝓤 Asked) ∷ []) ∵
    keep ! (2 ∷ 0 ∷ []) $ heard ! Asked
    (λ asked. split ! $ split ! $ move ! (2 ∷ []) $ fsplit3 ! $ move ! (2 ∷ []) $ fsplit3 ! $ keep !
    (1 ∷ 3 ∷ 5 ∷ 6 ∷ []) $
    rewrite ! 0 (λ (us : List Val). ‵ (X.own_val x us)) was.1 refl $ move ! (1 ∷ []) $ fsplit3 ! $ drop ! $ move !
    (0 ∷ 1 ∷ 3 ∷ 4 ∷ 2 ∷ []) $
    -- [the `&mut`, in two parts; its token; the other token; the value]
    let is_start : vss.1.0 ≡ word f.at ∷ [] = start_tells E start vss.1.0 are.1.0 ∙ ap (λ p. word p ∷ []) asked.0 in
    let is_next : vss.1.1.0 ≡ vint w64 n ∷ [] = is_index ∙ ap (λ j. vint w64 j ∷ []) asked.1 in let fits : n < 2 ^ 64 =
    subst (λ j. j < 2 ^ 64) asked.1 are.1.1.0.1 in
    regoal ! (λ (us : List Val). prop (WpFn 𝓤 𝓛.H 𝓣.C 𝓣.Λ fn us Post))
    (λ i. is_self i ++ (is_start i ++ (is_next i ++ (was.1 i ++ [])))) refl $
    enter ! 𝓣.C 𝓣.Λ fn vs Post $ alloc_all !
    (λ l. pass_all ! refl ((tt, tt), (word-Good [] f.at, ((tt, record { fits = fits }), (good, tt)))) $
    opens ! tt (Fr E) {h = f} rb ro (λ us. move ! (1 ∷ []) $ fsplit ! $ move ! (1 ∷ []) $
    in_a_block ! f.at (λ p. filled_owns (R E) p xs k) (no_memory_at_null E 𝓛 xs k)
    (λ b o e. fsplit ! $ flt_l ! (λ small. fsplit ! $
    take_at ! 2 $ rewrite ! 0 (λ (p : Ptr). ‵ (fat full_share (layout (St E)) (l 2) 0 (word p))) e refl $ give_at ! 2 $
    -- [the values; the room; the mark; its cell; the open `&mut`, in three parts; the other token; the value]
    let all : ℕ = n + k in let tiny : s < 2 ^ 64 = omega (arith, one_below all s (2 ^ 63) (omega arith) small) in
    let far : n * s < 2 ^ 64 = omega (arith, times_below n all s (2 ^ 63) (omega arith) small) in
    move ! (1 ∷ []) $ as_written ! (ty_array τ k) b (o + n * s) $ rewrite ! 0
    (λ (j : ℕ). ‵ (froom (ty_array τ j) b (o + n * s))) {x = all - n} (omega arith) refl $
    use1 𝓛 (‵ (froom τ b (n * s + o)) ⊛ ‵ (froom (ty_array τ (all - (n + 1))) b (o + (n + 1) * s)))
    (spare (in_a_run E) 𝓛 b o n all (omega arith)) $ split ! $
    first ! $ blocks ! $ sets ! (bin ! (get ! refl) (size_lit ! (record { fits = tiny })) (record { fits = far })) refl
    (tt, record { fits = far }) $
    sets ! (bin ! (get_in ! (fld ! refl (stop !)) (sub ! 0 refl (whole !))) (get ! refl) tt) refl (tt, tt) $ sets !
    (of_opd ! (get ! refl)) refl good $
    assigns_last ! (of_opd ! (get ! refl)) (through ! refl (stop !)) (init ! 0 refl good) $
    exec ! 𝓣.C 𝓣.Λ (env fn.locals l) (after 1 fn.body) (at_ret _ Post) $ sets ! (of_opd ! (unit_lit !)) refl (tt, tt) $
    -- [the new value's place; the room after it; the values; the mark; its cell; the open `&mut`, in three parts; the
    -- other token; the value]
    let ys = xs ++ x ∷ [] in let long : length ys ≡ n + 1 = length-append xs (x ∷ []) in let new : (Fr E).Denot =
    record { mark = f.mark; at = f.at; values = ys; room = k - 1 } in
    move ! (0 ∷ 9 ∷ []) $ use2 𝓛 (‵ (part_at (R E) full_share x b (n * s + o)))
    (el_in (in_a_run E) 𝓛 full_share x b (n * s + o) v) $ move ! (2 ∷ 0 ∷ []) $
    use2 𝓛 (‵ (part_at (Array (R E) (n + 1)) full_share ys b o)) (snoc (in_a_run E) 𝓛 b o n xs x) $ rewrite ! 0
    (λ (j : ℕ). ‵ (part_at (Array (R E) j) full_share ys b o)) (sym long) refl $
    move ! (1 ∷ []) $ rewrite ! 0 (λ (j : ℕ). ‵ (froom (ty_array τ j) b (o + (n + 1) * s))) {x = k - 1} (omega arith)
    refl $
    rewrite ! 0 (λ (j : ℕ). ‵ (froom (ty_array τ (k - 1)) b (o + j * s))) (sym long) refl $ as_raw !
    (ty_array τ (k - 1)) b (o + length ys * s) $ move ! (1 ∷ 0 ∷ []) $ fjoin ! $
    let same : n + k ≡ length ys + (k - 1) = omega arith in
    flt_i ! ((length ys + (k - 1)) * s) (2 ^ 63) (subst (λ j. j * s < 2 ^ 63) same small) $ fjoin ! $
    rewrite ! 0 (λ (p : Ptr). ‵ (filled_owns (R E) p ys (k - 1))) (sym e) refl $ move ! (1 ∷ 0 ∷ []) $ fjoin
    ! $ move ! (1 ∷ 0 ∷ []) $ closes ! tt (Fr E) new us rb ro $
    returns ! (look_at ! 0 refl) $ free_all ! refl $
    -- [the `&mut`, in two parts; its token; the other token]
    feq_i ! (List Val) vss.0 (vptr rb ro ∷ []) is_self $ fjoin3 ! $ nothing ! $ nothing ! $ fjoin ! $ nothing ! $ fjoin
    ! $ nothing ! $ fjoin ! $ move ! (1 ∷ 0 ∷ []) $ fjoin ! $ move ! (1 ∷ 2 ∷ []) $ join ! $
    let Told : Type 0 = (f.at ≡ f.at) × (ys ≡ ys) × (k - 1 ≡ k - 1) in
    use0 𝓛 (raw (fact 𝓤 Told)) (fact_i 𝓤 Told (emp 𝓤) (refl, refl, refl)) $ feq_i ! (List Val) (vunit ∷ []) (vunit ∷ [])
    refl $ move ! (2 ∷ 3 ∷ 0 ∷ 1 ∷ []) $ keep ! (0 ∷ 1 ∷ 2 ∷ 3 ∷ []) $
    by ! (leaves 𝓛 En hs c y vunit tt (new, (tt, (tt, (tt, tt)))) (tt, (tt, (tt, (tt, tt)))))))))))
