-- `return_block` makes one room of the values and the room after them, and hands it back with the allocator's token.
-- Assumes `Logic`.
use mathlib.Core.Path.{◌≡◌, refl, sym, ap, subst, ◌∙◌}
use Prim.Native.Nat.{ℕ, ◌+◌, ◌-◌, ◌*◌, ◌<◌, ◌^◌}
use native.Mathlib.Omega.{arith}
use mathlib.Core.List.{List, [], ◌∷◌}
use lib.Dec.{T}
use lib.ListN.{length}
use base.Logic.{SProp}
use base.Fml.{Incl-trans, flft, ftrue, froom}
use mir.MapTy.{inst_fn}
use mir.Syntax.{named, ty_array, ty_unit, w64}
use mir.Val.{Val, has_ty, vint, vptr, vunit, WT}
use prog.Capped.{capped_fits}
use prog.Memory.{align, capped}
use contract.BorrowLft.{◌⊑◌}
use contract.Monad.{fact}
use contract.Running.{tables}
use types.Kit.{‵, raw, ◌⊛◌, given, later, at_ret, ◌$◌, ◌∵◌, !, qed, by, move, keep, drop, use1, use2, split, join}
use types.Kit.{learn, await, group, rewrite, fsplit, fsplit3, fjoin, feq_i, flt_l}
use types.Part.{whole, sub}
use types.Run.{stop, fld, bin, of_opd, unit_lit, size_word, align_word, and_then, no_more, first, blocks, exec, returns}
use types.Run.{enter}
use types.ByLocal.{alloc_all, pass_all, free_all, look_at, get, get_in, sets, is, lands_last, env}
use denote.Builtin.{RefOf, usize}
use denote.Exit.{yes, no}
use denote.Plain.{uint_vals, uint_Tells}
use denote.RattleType.{owns}
use denote.RawPtr.{Ptr, block_ptr, ptr_val, in_a_block}
use denote.Ref.{shr_vals, shr_Tells}
use denote.Signature.{plain, types_at}
use denote.Steps.{nothing, heard}
use denote.Triple.Call.{calls_at_last}
use denote.Triple.Table.{framed}
use denote.Triple.Walked.{Stays, stay_dropped, walk_of, Goes-dropped}
use Rattle.core.proofs.alloc.Calls.{Al, token, Gives, at_gives, Gives-goes, Gives-Gives, Goes-blank}
use Rattle.core.proofs.mem.Param.{El, R, elτ}
use Rattle.core.proofs.slots.Leases.{args, P, block_ty, block_size, block_align, uncapped}
use Rattle.std.proofs.raw_atomic.Walks.{proved, leaves}
use Rattle.std.specs.Mem.{type_size}
use Rattle.std_alloc.proofs.RawLayout.{as_raw, as_written}
use Rattle.std_alloc.proofs.RcSteps.{word, word-Good}
use Rattle.std_alloc.proofs.VecSteps.Rows.{all_room}
use Rattle.std_alloc.proofs.VecSteps.Shapes.{after}
use Rattle.raw_block.specs.Ownership.{filled_owns, lease_owns}
use Rattle.raw_block.proofs.Parts.{mark, St, Fr, Lr, in_a_run, start_tells, filled_tells, lease_tells}
use Rattle.raw_block.proofs.Parts.{no_memory_at_null}
use Rattle.raw_block.specs.contracts.memory.return_block.{ended, clauses}
use Rattle.raw_block.specs.contracts.memory.return_block.Key.{name as #self}
use Rattle.raw_block.proofs.memory.return_block.Statement.{statement}
use Rattle.raw_block.proofs.memory.return_block.Code as code

pub return_block_spec : {M : Type 1} → statement M
return_block_spec 𝓤 𝓛 𝓜 𝓡 wired X W LX LW g d dd met md =
    let E : El = record { row = X; laws = LX } in let Z : Al = record { row = W; laws = LW; g = g; d = d; drops = dd }
    in
    let 𝓣 = tables 𝓤 𝓛.H 𝓜 𝓡 𝓡.env in let En = ended X W g d dd in let c = clauses X W g d dd 𝓛 𝓜.mem 𝓡.returns in
    let fn = inst_fn (args E Z) code.function in
    let alloc_slot = RefOf (0 ∷ []) tt (plain {n = 3} (λ _. P E Z)) (λ _. tt) in let start_slot = plain
    {n = 3} (λ _. St E) in let places_slot = plain {n = 3} (λ _. usize) in
    let filled_slot = plain {n = 3} (λ _. Fr E) in let lease_slot = plain {n = 3} (λ _. Lr E Z) in
    let hs : Stays En.signature.params En.kept = (
      stay_dropped alloc_slot yes,
      (
        stay_dropped start_slot no,
        (stay_dropped places_slot yes, (stay_dropped filled_slot no, (stay_dropped lease_slot no, tt))),
      ),
    ) in
    proved 𝓛 En hs c 𝓜 𝓡 (
      Goes-dropped 𝓛 3 alloc_slot yes (λ κs x w. refl),
      (
        Goes-dropped 𝓛 3 start_slot no (λ κs x w. refl),
        (
          Goes-dropped 𝓛 3 places_slot yes (λ κs x w. refl),
          (Goes-blank 𝓛 3 filled_slot no (λ κs x w. tt), (Goes-blank 𝓛 3 lease_slot no (λ κs x w. tt), tt)),
        ),
      ),
    )
    (#self (args E Z)) fn (code.unfolded 𝓤 𝓛.H 𝓜 𝓡 wired (X, (W, tt)) d dd)
    (λ κs. (shr_vals, ((λ s. word s.first ∷ []), (uint_vals w64, ((λ f. mark ∷ []), ((λ l. mark ∷ []), tt))))))
    (λ κs. (
      shr_Tells (named 0) κs.0 (P E Z),
      (start_tells E, (uint_Tells w64, (filled_tells E, (lease_tells E Z, tt)))),
    )) (λ κs qs bounds a gh are.
    let κ = κs.0 in let q = qs.0 in let rb = a.0.ref_ptr.0 in let ro = a.0.ref_ptr.1 in let h = a.0.now in let start =
    a.1.0 in let places = a.1.1.0 in let f = a.1.1.1.0 in let lease = a.1.1.1.1.0 in
    let xs = f.values in let n = length xs in let k = f.room in let s = type_size (R E) in let τ = elτ E in
    let fits : places < 2 ^ 64 = are.1.1.0.1 in
    let vs : List Val = vptr rb ro ∷ word start.first ∷ vint w64 places ∷ mark ∷ mark ∷ [] in
    let y : (walk_of 𝓛 En hs c).Ghost = (
      (
        κs,
        qs,
        bounds,
        a,
        (
          vptr rb ro ∷ [],
          (word start.first ∷ [], (vint w64 places ∷ [], (mark ∷ [], (mark ∷ [], tt)))),
        ),
      ),
      gh,
    ) in
    let Post : Val → SProp 𝓤 = (walk_of 𝓛 En hs c).post y in
    let Asked : Type 0 = (f.at ≡ start.first) × (n + k ≡ places) × (lease.at ≡ start.first) × (lease.places ≡ places) ×
    (lease.alloc ≡ h) in
    let others = ‵ (flft κs.1.0 qs.1.0) ⊛ ‵ (flft κs.1.1.0 qs.1.1.0) ⊛ ‵ ftrue in
    qed 𝓛 (((‵ (flft κ q) ⊛ others) ⊛ ‵ (owns (types_at En.signature.params κs) a y.0.4)) ∷ raw (fact 𝓤 _) ∷
    raw (fact 𝓤 (κs.1.1.0 ⊑ W.lives)) ∷ raw (fact 𝓤 Asked) ∷ []) ∵
    keep ! (3 ∷ 2 ∷ 0 ∷ []) $ heard ! Asked
    (λ asked. heard ! (κs.1.1.0 ⊑ W.lives)
    (λ lives. split ! $ split ! $ move ! (2 ∷ []) $ fsplit3 ! $ fsplit ! $ drop ! $ move ! (2 ∷ []) $ fsplit3 ! $
    keep ! (1 ∷ 2 ∷ 3 ∷ 5 ∷ 6 ∷ []) $ fsplit ! $ drop ! $ move ! (1 ∷ []) $ fsplit ! $ fsplit ! $ keep !
    (3 ∷ 1 ∷ 4 ∷ 5 ∷ 6 ∷ []) $
    -- [the memory; the token of the block; the allocator after its `&`; the token of its lifetime; the others]
    enter ! 𝓣.C 𝓣.Λ fn vs Post $ alloc_all !
    (λ l. pass_all ! refl
    ((tt, tt), (word-Good [] start.first, ((tt, record { fits = fits }), ((tt, (tt, tt)), ((tt, (tt, tt)), tt))))) $
    in_a_block ! f.at (λ p. filled_owns (R E) p xs k) (no_memory_at_null E 𝓛 xs k)
    (λ b o e. fsplit ! $ flt_l ! (λ small. fsplit ! $
    let at : start.first ≡ block_ptr b o = sym asked.0 ∙ e in let fit : places * s < 2 ^ 63 =
    subst (λ j. j * s < 2 ^ 63) asked.1 small in let bytes : places * s < 2 ^ 64 = omega arith in
    let al : ℕ = capped (align τ) in let z : (Gives Z 𝓛 𝓜.mem 𝓡.returns).Ghost =
    at_gives Z 𝓛 𝓜.mem 𝓡.returns κ q (rb, ro) h b o (places * s) al (block_ty E places) in
    move ! (1 ∷ []) $ as_written ! (ty_array τ k) b (o + n * s) $ rewrite ! 0
    (λ (j : ℕ). ‵ (froom (ty_array τ j) b (o + n * s))) {x = places - n} (omega arith) refl $ move ! (1 ∷ 0 ∷ []) $
    use2 𝓛 (‵ (froom (ty_array τ places) b o)) (all_room (in_a_run E) 𝓛 b o n places xs (omega arith)) $ as_raw !
    (ty_array τ places) b o $
    rewrite ! 1 (λ (t : W.Denot × Ptr × ℕ). ‵ (lease_owns (R E) (token Z t.0) t.1 t.2))
    (λ i. (asked.4 i, (asked.2 ∙ at) i, asked.3 i)) refl $ first ! $ blocks ! $
    sets ! (is ! (of_opd ! (get_in ! (fld ! refl (stop !)) (sub ! 0 refl (whole !)))) (ap ptr_val at)) refl (tt, tt) $
    sets ! (is ! (bin ! (get ! refl) (size_word !)
    (record { fits = subst (λ (j : ℕ). j < 2 ^ 64) (sym (uncapped places s bytes)) bytes }))
    (ap (vint w64) (uncapped places s bytes))) refl (tt, record { fits = bytes }) $
    group ! 4 $ use1 𝓛 (raw ((Gives Z 𝓛 𝓜.mem 𝓡.returns).pre z))
    (Gives-goes Z 𝓛 𝓜.mem 𝓡.returns κ q (rb, ro) h (Incl-trans bounds.0 lives) b o (places * s) al
    (block_ty E places) (block_size E places bytes) (block_align E places) bytes (capped_fits (align τ))) $
    calls_at_last ! (framed 𝓤 𝓛.H 𝓜 𝓣) (Gives Z 𝓛 𝓜.mem 𝓡.returns) (met.deallocate dd) z
    (and_then ! (get ! refl)
    (and_then ! (get ! refl) (and_then ! (get ! refl) (and_then ! (align_word !) (no_more !))))) (λ v.
    use1 𝓛 (later (given (v ≡ vunit) (‵ (flft κ q))))
    (Gives-Gives Z 𝓛 𝓜.mem 𝓡.returns κ q (rb, ro) h b o (places * s) al (block_ty E places) v) $ await ! tt $ learn
    ! (λ is_unit.
    lands_last ! refl (subst (λ (u : Val). T (has_ty ty_unit u) × WT u) (sym is_unit) (tt, tt)) $ exec ! 𝓣.C 𝓣.Λ
    (env fn.locals l) (after 1 fn.body) (at_ret _ Post) $
    sets ! (of_opd ! (unit_lit !)) refl (tt, tt) $ returns ! (look_at ! 0 refl) $ free_all ! refl $ keep ! (0 ∷ 1 ∷ [])
    $ join ! $
    nothing ! $ feq_i ! (List Val) (vunit ∷ []) (vunit ∷ []) refl $ nothing ! $ nothing ! $ fjoin ! $ nothing ! $ fjoin
    ! $ nothing ! $ fjoin ! $ nothing ! $ fjoin ! $ nothing ! $ fjoin ! $ move ! (3 ∷ 0 ∷ 1 ∷ 2 ∷ []) $
    by ! (leaves 𝓛 En hs c y vunit tt (tt, (tt, (tt, (tt, (tt, tt))))) (tt, (tt, (tt, (tt, (tt, tt))))))))))))))
