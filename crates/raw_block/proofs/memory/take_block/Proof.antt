-- `take_block` keeps the new block as room for values, with the right to give it back. Assumes `Logic`.
use mathlib.Core.Path.{◌≡◌, refl, sym, ap, subst}
use mathlib.Core.Bool.{true, false}
use Prim.Native.Nat.{ℕ, ◌+◌, ◌*◌, ◌<◌, ◌^◌}
use native.Mathlib.Nat.{zero-mul}
use native.Mathlib.Omega.{arith}
use mathlib.Core.List.{List, [], ◌∷◌}
use lib.Dec.{lit<}
use lib.ListN.{length}
use base.Logic.{SProp, emp}
use base.Fml.{Incl-trans, flft, ftrue, froom}
use base.Fraction.{full_share}
use mir.MapTy.{inst_fn}
use mir.Syntax.{Body, named, w64}
use mir.Val.{Val, vint, vptr, vstruct, vcons, vnil}
use prog.Capped.{capped_fits}
use prog.Memory.{align, capped}
use prog.Wp.{Env, Wp, after_seq, at_return}
use contract.BorrowLft.{◌⊑◌}
use contract.Monad.{fact, fact_i}
use contract.Running.{tables}
use types.Kit.{Post as After, any_q, ‵, raw, ◌⊛◌, later, at_ret, ◌$◌, ◌∵◌, !, qed, by, move, keep, drop, use0, use1}
use types.Kit.{use2, split, join, await, rewrite, fsplit, fjoin, flt_i}
use types.Match.{live, vrt, in_variant}
use types.Part.{whole, agg}
use types.Run.{stop, fld, lit, bin, of_opd, size_word, align_word, and_then, no_more, first, exec, returns, enter}
use types.Run.{switches_on}
use types.ByLocal.{alloc_all, pass_all, free_all, look_at, get, get_in, get_tag, sets, sets_last, is, lands_as, env}
use denote.Array.{Array}
use denote.Builtin.{RefOf, usize}
use denote.Exit.{yes}
use denote.Laws.{Is}
use denote.Memory.{part_at}
use denote.Param.{layout}
use denote.Plain.{uint_vals, uint_Tells}
use denote.RattleType.{RattleType, owns}
use denote.RawPtr.{Ptr, block_ptr, ptr_val}
use denote.Ref.{shr_vals, shr_Tells}
use denote.Signature.{plain, types_at}
use denote.Steps.{nothing, heard, owned}
use denote.Struct.Declared.{shape}
use denote.Struct.Struct.{Struct, Struct-Makes}
use denote.Struct.Tuple.{Tuple}
use denote.Triple.Call.{calls_at}
use denote.Triple.Table.{framed}
use denote.Triple.Walked.{Stays, stay_dropped, walk_of, Goes-dropped}
use Rattle.core.proofs.alloc.Calls.{Al, Answer-typed, Takes, at_takes, Answered, Takes-goes, Takes-gives, answers}
use Rattle.core.proofs.mem.Param.{El, R, elτ, el_x}
use Rattle.core.proofs.slots.Leases.{args, P, block_ty, block_size, block_align, uncapped}
use Rattle.core.specs.Allocator.{array_of}
use Rattle.core.specs.contracts.alloc.AllocError as refusal
use Rattle.core.specs.contracts.result.Result as result
use Rattle.std.proofs.raw_atomic.Walks.{proved, leaves}
use Rattle.std.specs.Mem.{type_size}
use Rattle.std.specs.Prelude.{IfOk, Ok, Err}
use Rattle.std.specs.Vec.Ownership.{FitsInBlock}
use Rattle.std_alloc.proofs.RcSteps.{Good, word, word-Good, first_Good}
use Rattle.std_alloc.proofs.ResultValues.{ok_of, err_of}
use Rattle.std_alloc.proofs.VecSteps.Rows.{empty}
use Rattle.std_alloc.proofs.VecSteps.Shapes.{after, head, arm_body}
use Rattle.raw_block.proofs.Parts.{mark, triple_val, St, Fr, Lr, Mark, in_a_run, mark_made, start_made, triple_made}
use Rattle.raw_block.specs.contracts.memory.Start as start
use Rattle.raw_block.specs.contracts.memory.take_block.{ended, clauses}
use Rattle.raw_block.specs.contracts.memory.take_block.Key.{name as #self}
use Rattle.raw_block.proofs.memory.take_block.Statement.{statement}
use Rattle.raw_block.proofs.memory.take_block.Code as code

pub take_block_spec : {M : Type 1} → statement M
take_block_spec 𝓤 𝓛 𝓜 𝓡 wired X W LX LW g d dd met md =
    let E : El = record { row = X; laws = LX } in let Z : Al = record { row = W; laws = LW; g = g; d = d; drops = dd }
    in
    let H = 𝓛.H in let 𝓣 = tables 𝓤 H 𝓜 𝓡 𝓡.env in let En = ended X W g d dd in let c =
    clauses X W g d dd 𝓛 𝓜.mem 𝓡.returns in let fn = inst_fn (args E Z) code.function in
    let alloc_slot = RefOf (0 ∷ []) tt (plain {n = 3} (λ _. P E Z)) (λ _. tt) in let places_slot = plain
    {n = 3} (λ _. usize) in
    let hs : Stays En.signature.params En.kept = (stay_dropped alloc_slot yes, (stay_dropped places_slot yes, tt)) in
    proved 𝓛 En hs c 𝓜 𝓡 (
      Goes-dropped 𝓛 3 alloc_slot yes (λ κs x w. refl),
      (Goes-dropped 𝓛 3 places_slot yes (λ κs x w. refl), tt),
    )
    (#self (args E Z)) fn (code.unfolded 𝓤 H 𝓜 𝓡 wired (X, (W, tt)) d dd) (λ κs. (shr_vals, (uint_vals w64, tt)))
    (λ κs. (shr_Tells (named 0) κs.0 (P E Z), (uint_Tells w64, tt))) (λ κs qs bounds a gh are.
    let κ = κs.0 in let q = qs.0 in let rb = a.0.ref_ptr.0 in let ro = a.0.ref_ptr.1 in let h = a.0.now in let n : ℕ =
    a.1.0 in let s = type_size (R E) in let τ = elτ E in let fits : n < 2 ^ 64 = are.1.0.1 in
    let y : (walk_of 𝓛 En hs c).Ghost = ((κs, qs, bounds, a, (vptr rb ro ∷ [], (vint w64 n ∷ [], tt))), gh) in
    let Post : Val → SProp 𝓤 = (walk_of 𝓛 En hs c).post y in
    let Three : RattleType = Tuple (St E ∷ Fr E ∷ Lr E Z ∷ []) in let Out : RattleType =
    result.the_row Three refusal.the_row in
    let Asked : Type 0 = FitsInBlock (R E) n in let others = ‵ (flft κs.1.0 qs.1.0) ⊛ ‵ (flft κs.1.1.0 qs.1.1.0) ⊛ ‵
    ftrue in
    let Told : Out.Denot →
    Type 0 = λ r. IfOk r (λ t. (t.1.at ≡ t.0.first) × (t.1.values ≡ []) × (t.1.room ≡ n) × (t.2.at ≡ t.0.first) ×
    (t.2.places ≡ n) × (t.2.alloc ≡ h)) in
    qed 𝓛 (((‵ (flft κ q) ⊛ others) ⊛ ‵ (owns (types_at En.signature.params κs) a y.0.4)) ∷ raw (fact 𝓤 _) ∷
    raw (fact 𝓤 (κs.1.1.0 ⊑ W.lives)) ∷ raw (fact 𝓤 Asked) ∷ []) ∵
    keep ! (3 ∷ 2 ∷ 0 ∷ []) $ heard ! Asked
    (λ asked. heard ! (κs.1.1.0 ⊑ W.lives)
    (λ lives. split ! $ split ! $ move ! (2 ∷ []) $ fsplit ! $ fsplit ! $ drop ! $ keep ! (0 ∷ 2 ∷ 3 ∷ []) $
    -- [the allocator after its `&`; the token of its lifetime; the others]
    let small : n * s < 2 ^ 63 = asked.0 in let bytes : n * s < 2 ^ 64 = omega arith in let al : ℕ = capped (align τ) in
    let T = Takes Z 𝓛 𝓜.mem 𝓡.returns in
    let z : T.Ghost = at_takes Z 𝓛 𝓜.mem 𝓡.returns κ q (rb, ro) h (n * s) al (block_ty E n) in
    enter ! 𝓣.C 𝓣.Λ fn (vptr rb ro ∷ vint w64 n ∷ []) Post $ alloc_all !
    (λ l. pass_all ! refl ((tt, tt), ((tt, record { fits = fits }), tt)) $ let En' : Env 𝓤 H = env fn.locals l in
    let choice : Body = head (after 2 fn.body) in let Then : After 𝓤 H =
    any_q (after_seq 𝓤 H (Wp 𝓤 H 𝓣.C 𝓣.Λ En' (after 3 fn.body) (at_return 𝓤 H En' Post)) (at_return 𝓤 H En' Post))
    in
    sets ! (is ! (bin ! (get ! refl) (size_word !)
    (record { fits = subst (λ (k : ℕ). k < 2 ^ 64) (sym (uncapped n s bytes)) bytes }))
    (ap (vint w64) (uncapped n s bytes))) refl (tt, record { fits = bytes }) $
    use2 𝓛 (raw (T.pre z))
    (Takes-goes Z 𝓛 𝓜.mem 𝓡.returns κ q (rb, ro) h (Incl-trans bounds.0 lives) (n * s) al (block_ty E n)
    (block_size E n bytes) (block_align E n) bytes (capped_fits (align τ))) $
    calls_at ! (framed 𝓤 H 𝓜 𝓣) T (met.allocate dd) z
    (and_then ! (get ! refl) (and_then ! (get ! refl) (and_then ! (align_word !) (no_more !)))) (λ v.
    use1 𝓛 (later (raw (Answered Z 𝓛 𝓜.mem 𝓡.returns h (block_ty E n) v) ⊛ ‵ (flft κ q)))
    (Takes-gives Z 𝓛 𝓜.mem 𝓡.returns κ q (rb, ro) h (n * s) al (block_ty E n) v) $ await ! tt $ split ! $
    answers Z ! 𝓜.mem 𝓡.returns h (block_ty E n) v
    (λ b o e.
    let p : Ptr = block_ptr b o in let none : List (el_x E) = [] in
    let st : (St E).Denot = record { first = p } in let fr : (Fr E).Denot =
    record { mark = record {}; at = p; values = none; room = n } in let lr : (Lr E Z).Denot =
    record { mark = record {}; at = p; places = n; alloc = h } in
    let made : Val = triple_val (word p) mark mark in let good : Good (layout Three) made =
    (tt, ((tt, tt), ((tt, tt), ((tt, tt), tt)))) in let ok = first_Good (layout Three) made good in
    lands_as ! e refl (Answer-typed true b o) $ first ! $ switches_on !
    (get_tag ! (vrt ! refl (fld ! refl (stop !))) (whole !)) $ exec ! 𝓣.C 𝓣.Λ En' (arm_body 0 choice) Then $
    sets ! (of_opd ! (get_in ! (vrt ! refl (fld ! refl (stop !))) (in_variant ! 0 0 refl refl (whole !)))) refl (tt, tt)
    $ sets ! (of_opd ! (get ! refl)) refl (tt, tt) $
    sets ! (agg ! (and_then ! (get ! refl) (no_more !))) refl (word-Good [] p) $ sets ! (agg ! (no_more !)) refl
    (tt, tt) $ sets ! (agg ! (and_then ! (get ! refl) (no_more !))) refl (tt, (tt, tt)) $
    sets ! (agg ! (no_more !)) refl (tt, tt) $ sets ! (agg ! (and_then ! (get ! refl) (no_more !))) refl (tt, (tt, tt))
    $
    sets ! (agg ! (and_then ! (get ! refl) (and_then ! (get ! refl) (and_then ! (get ! refl) (no_more !))))) refl good $
    sets_last ! (agg ! (and_then ! (lit ! tt) (and_then ! (get ! refl) (no_more !)))) refl ok $
    exec ! 𝓣.C 𝓣.Λ En' (after 3 fn.body) (at_ret En' Post) $ sets ! (of_opd ! (get ! refl)) refl ok $
    -- [the block's memory; its token; the token of the lifetime; the others]
    move ! (1 ∷ []) $ use0 𝓛 (‵ ((Mark E).own_val (tt, tt) (mark ∷ []))) (mark_made E 𝓛) $ fjoin ! $ move ! (1 ∷ []) $
    rewrite ! 0 (λ (j : ℕ). ‵ (froom (array_of (R E) n) b j)) {x = o + length none * s} (omega (arith, zero-mul s)) refl
    $
    use0 𝓛 (‵ (part_at (Array (R E) (length none)) full_share none b o)) (empty (in_a_run E) 𝓛 none b o refl) $ fjoin
    ! $
    let same : n ≡ length none + n = omega arith in
    flt_i ! ((length none + n) * s) (2 ^ 63) (subst (λ j. j * s < 2 ^ 63) same small) $ fjoin ! $
    use0 𝓛 (‵ ((Mark E).own_val (tt, tt) (mark ∷ []))) (mark_made E 𝓛) $ fjoin ! $
    owned ! (Struct (shape (start.the_type (R E)))) (Is (Struct (shape (start.the_type (R E))))) (start_made E 𝓛)
    (p, tt) (word p ∷ []) ((ptr_val p ∷ [], tt), (refl, (refl, tt))) $
    triple_made ! (St E) (Fr E) (Lr E Z) st fr lr (word p) mark mark $
    use1 𝓛 (‵ (Out.own_val (Ok (st, fr, lr)) (live 0 (vcons made vnil) ∷ [])))
    (ok_of 𝓛 Three refusal.the_row (st, fr, lr) made) $
    returns ! (look_at ! 0 refl) $ free_all ! refl $ keep ! (1 ∷ 2 ∷ 0 ∷ []) $ join ! $
    use0 𝓛 (raw (fact 𝓤 (Told (Ok (st, fr, lr)))))
    (fact_i 𝓤 (Told (Ok (st, fr, lr))) (emp 𝓤) (refl, refl, refl, refl, refl, refl)) $ nothing ! $ nothing ! $ fjoin
    ! $ nothing ! $ fjoin ! $ move ! (2 ∷ 0 ∷ 3 ∷ 1 ∷ []) $
    by ! (leaves 𝓛 En hs c y (live 0 (vcons made vnil)) (Ok (st, fr, lr)) (tt, (tt, tt)) (tt, (tt, tt))))
    (λ e.
    let Refusal : RattleType = Struct (shape refusal.the_type) in let bad : Val = live 1 (vcons (vstruct vnil) vnil) in
    lands_as ! e refl (Answer-typed false 0 0) $ first ! $ switches_on !
    (get_tag ! (vrt ! refl (fld ! refl (stop !))) (whole !)) $ exec ! 𝓣.C 𝓣.Λ En' (arm_body 1 choice) Then $
    sets ! (of_opd ! (get_in ! (vrt ! refl (fld ! refl (stop !))) (in_variant ! 1 0 refl refl (whole !)))) refl (tt, tt)
    $
    sets_last ! (agg ! (and_then ! (lit ! tt) (and_then ! (get ! refl) (no_more !)))) refl
    (tt, (record { fits = lit< tt }, (tt, tt))) $
    exec ! 𝓣.C 𝓣.Λ En' (after 3 fn.body) (at_ret En' Post) $ sets ! (of_opd ! (get ! refl)) refl
    (tt, (record { fits = lit< tt }, (tt, tt))) $
    owned ! Refusal (Is Refusal) (Struct-Makes 𝓛 (shape refusal.the_type) tt) tt (vstruct vnil ∷ []) (tt, (refl, tt)) $
    use1 𝓛 (‵ (Out.own_val (Err (record {})) (bad ∷ []))) (err_of 𝓛 Three refusal.the_row (record {}) (vstruct vnil)) $
    returns ! (look_at ! 0 refl) $ free_all ! refl $ keep ! (1 ∷ 2 ∷ 0 ∷ []) $ join ! $
    use0 𝓛 (raw (fact 𝓤 (Told (Err (record {}))))) (fact_i 𝓤 (Told (Err (record {}))) (emp 𝓤) tt) $ nothing ! $ nothing
    ! $ fjoin ! $ nothing ! $ fjoin ! $ move ! (2 ∷ 0 ∷ 3 ∷ 1 ∷ []) $
    by ! (leaves 𝓛 En hs c y bad (Err (record {})) (tt, (tt, tt)) (tt, (tt, tt)))))))))
