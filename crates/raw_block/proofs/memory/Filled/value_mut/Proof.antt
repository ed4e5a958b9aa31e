-- `value_mut` lends one value, and the memory follows what is written to it. Assumes `Logic`.
use mathlib.Core.Path.{◌≡◌, refl, sym, subst, ◌∙◌}
use Prim.Native.Nat.{ℕ, ◌+◌, ◌*◌, ◌<◌, ◌^◌}
use native.Mathlib.Omega.{arith}
use mathlib.Core.List.{List, [], ◌∷◌}
use lib.ListN.{length, get_or, set, length-set}
use seplogic.Ra.Ura.{Ura}
use base.Logic.{SProp, ent, sep, emp, id⊢}
use base.Fml.{Fml, GName, flft, ftrue, fsep, fat}
use base.Fraction.{full_share}
use mir.MapTy.{inst_fn}
use mir.Syntax.{named, w64}
use mir.Val.{Val, vint, vptr}
use contract.Monad.{fact, fact_i}
use contract.Running.{tables}
use types.Kit.{‵, done, raw, ◌⊛◌, some, given, later, at_ret, ◌$◌, ◌∵◌, !, qed, by, move, keep, drop, use0, use1, use2}
use types.Kit.{split, split3, join, pick, learn, await, group, rewrite, fsplit, fsplit3, fjoin, fjoin3, fpack, flt_l}
use types.Kit.{flt_i}
use types.Logic.{Logic, sem}
use types.Part.{whole, sub}
use types.Run.{stop, fld, addr, bin, of_opd, size_lit, first, blocks, exec, returns, enter}
use types.ByLocal.{alloc_all, pass_all, free_all, look_at, get, get_in, through, sets, sets_last, take_at, give_at, env}
use denote.Array.{Array}
use denote.Builtin.{usize}
use denote.Exit.{yes, no}
use denote.Follow.{follows, Part, lends_Part}
use denote.Index.{others}
use denote.Memory.{cell_at, mem, part_at, part_of, shares}
use denote.Param.{layout}
use denote.Plain.{uint_vals, uint_Tells}
use denote.RattleType.{owns}
use denote.RawPtr.{Ptr, block_ptr, room_for, in_a_block}
use denote.Ref.{MutBor, MutRef, mut_vals, mut_Tells}
use denote.Signature.{plain, types_at, mut_ref_to}
use denote.Steps.{nothing, heard, opens}
use denote.Triple.Walked.{Stays, stay_dropped, walk_of, Goes-dropped, Goes-spent_ref}
use Rattle.core.proofs.mem.Param.{El, R, args, el_x}
use Rattle.core.proofs.ptr.Rows.{times_below, one_below, hd}
use Rattle.core.specs.Allocator.{array_of}
use Rattle.std.proofs.lemmas.List.{get_or_default}
use Rattle.std.proofs.raw_atomic.Walks.{proved, leaves}
use Rattle.std.specs.Mem.{type_size}
use Rattle.std_alloc.proofs.RcSteps.{word, word-Good}
use Rattle.std_alloc.proofs.VecSteps.Rows.{take_out, put_in}
use Rattle.std_alloc.proofs.VecSteps.Shapes.{after}
use Rattle.raw_block.specs.Lends.{with_value}
use Rattle.raw_block.specs.Ownership.{filled_owns}
use Rattle.raw_block.proofs.Parts.{St, Fr, Mark, in_a_run, start_tells, no_memory_at_null}
use Rattle.raw_block.specs.contracts.memory.Filled.value_mut.{ended, clauses}
use Rattle.raw_block.specs.contracts.memory.Filled.value_mut.Key.{name as #self}
use Rattle.raw_block.proofs.memory.Filled.value_mut.Statement.{statement}
use Rattle.raw_block.proofs.memory.Filled.value_mut.Code as code

module _ (E : El) {M : Type 1} {𝓤 : Ura M} (𝓛 : Logic 𝓤) (rb ro b o : ℕ) (f : (Fr E).Denot) (i : ℕ) (us : List Val)
  where
    -- the memory, without the value at i
    abbrev Kept : Fml
    Kept = fsep (others (shares (R E)) full_share f.values i b o)
        (fsep (room_for (array_of (R E) f.room) (block_ptr b (o + length f.values * type_size (R E))))
        (fsep ((Mark E).own_val (tt, tt) us) (cell_at full_share (Fr E).mir us rb ro)))

    -- and with another in its place
    back : f.at ≡ block_ptr b o → (length f.values + f.room) * type_size (R E) < 2 ^ 63 → i < length f.values →
        (w : el_x E)
        → ent 𝓤 (sep 𝓤 (sem 𝓛 ((mem (R E)).own_at w b (i * type_size (R E) + o))) (sem 𝓛 Kept))
        (sem 𝓛 ((mem (Fr E)).own_at (with_value f i w) rb ro))
    unfolding part_of
    back e small within w =
        let s = type_size (R E) in let xs = f.values in let ys = set xs i w in let long : length ys ≡ length xs =
        length-set xs i w in
        qed 𝓛 (‵ (part_at (R E) full_share w b (i * s + o)) ∷ ‵ Kept ∷ []) ∵ move ! (1 ∷ []) $ fsplit ! $ move !
        (2 ∷ 0 ∷ []) $
        use2 𝓛 (‵ (part_at (Array (R E) (length xs)) full_share ys b o))
        (put_in (in_a_run E) 𝓛 (length xs) xs i w b o within refl) $
        rewrite ! 0 (λ (k : ℕ). ‵ (part_at (Array (R E) k) full_share ys b o)) (sym long) refl $ move ! (1 ∷ []) $
        fsplit3
        ! $
        rewrite ! 0 (λ (k : ℕ). ‵ (room_for (array_of (R E) f.room) (block_ptr b (o + k * s)))) (sym long) refl $ move !
        (3 ∷ 0 ∷ []) $ fjoin ! $
        flt_i ! ((length ys + f.room) * s) (2 ^ 63) (subst (λ k. (k + f.room) * s < 2 ^ 63) (sym long) small) $ fjoin
        ! $
        rewrite ! 0 (λ (p : Ptr). ‵ (filled_owns (R E) p ys f.room)) (sym e) refl $ move ! (1 ∷ 0 ∷ []) $ fjoin
        ! $ move ! (1 ∷ 0 ∷ []) $ fjoin ! $
        fpack ! (List Val) (λ vs. fsep (cell_at full_share (Fr E).mir vs rb ro) ((Fr E).own_val (with_value f i w) vs))
        us
        $ done !

pub value_mut_spec : {M : Type 1} → statement M
value_mut_spec 𝓤 𝓛 𝓜 𝓡 wired X LX =
    let E : El = record { row = X; laws = LX } in
    let 𝓣 = tables 𝓤 𝓛.H 𝓜 𝓡 𝓡.env in let En = ended X in let c = clauses X 𝓛 𝓜.mem 𝓡.returns in let fn =
    inst_fn (args E) code.function in
    let filled_slot = plain {n = 2} (λ _. Fr E) in let start_slot = plain {n = 2} (λ _. St E) in let index_slot = plain
    {n = 2} (λ _. usize) in
    let hs : Stays En.signature.params En.kept = (
      stay_dropped (mut_ref_to (0 ∷ []) tt filled_slot) no,
      (stay_dropped start_slot no, (stay_dropped index_slot yes, tt)),
    ) in
    proved 𝓛 En hs c 𝓜 𝓡 (
      Goes-spent_ref 𝓛 2 (0 ∷ []) tt filled_slot,
      (Goes-dropped 𝓛 2 start_slot no (λ κs x w. refl), (Goes-dropped 𝓛 2 index_slot yes (λ κs x w. refl), tt)),
    )
    (#self (args E)) fn (code.unfolded 𝓤 𝓛.H 𝓜 𝓡 wired (X, tt))
    (λ κs. (mut_vals, ((λ s. word s.first ∷ []), (uint_vals w64, tt))))
    (λ κs. (mut_Tells (named 0) κs.0 (Fr E), (start_tells E, (uint_Tells w64, tt)))) (λ κs qs bounds a g are.
    let κ = κs.0 in let q = qs.0 in let rb = a.0.ref_ptr.0 in let ro = a.0.ref_ptr.1 in let γ = a.0.ghost_name in
    let f = a.0.now in let start = a.1.0 in let i = a.1.1.0 in let xs = f.values in let n = length xs in let s =
    type_size (R E) in let big : i < 2 ^ 64 = are.1.1.0.1 in
    let vs : List Val = vptr rb ro ∷ word start.first ∷ vint w64 i ∷ [] in
    let y : (walk_of 𝓛 En hs c).Ghost =
    ((κs, qs, bounds, a, (vptr rb ro ∷ [], (word start.first ∷ [], (vint w64 i ∷ [], tt)))), g) in
    let Post : Val → SProp 𝓤 = (walk_of 𝓛 En hs c).post y in
    let Asked : Type 0 = (start.first ≡ f.at) × (i < n) in
    let other = ‵ (flft κs.1.0 qs.1.0) ⊛ ‵ ftrue in
    qed 𝓛 (((‵ (flft κ q) ⊛ other) ⊛ ‵ (owns (types_at En.signature.params κs) a y.0.4)) ∷ raw (fact 𝓤 _) ∷
    raw (fact 𝓤 Asked) ∷ []) ∵
    keep ! (2 ∷ 0 ∷ []) $ heard ! Asked
    (λ asked. split ! $ split ! $ move ! (2 ∷ []) $ fsplit ! $ fsplit3 ! $ drop ! $ keep ! (0 ∷ 1 ∷ 3 ∷ 4 ∷ []) $
    -- [the `&mut`, in two parts; its token; the other token]
    enter ! 𝓣.C 𝓣.Λ fn vs Post $ alloc_all !
    (λ l. pass_all ! refl ((tt, tt), (word-Good [] start.first, ((tt, record { fits = big }), tt))) $
    opens ! tt (Fr E) {h = f} rb ro (λ us. move ! (1 ∷ []) $ fsplit ! $ move ! (1 ∷ []) $
    in_a_block ! f.at (λ p. filled_owns (R E) p xs f.room) (no_memory_at_null E 𝓛 xs f.room)
    (λ b o e. fsplit ! $ flt_l ! (λ small. fsplit ! $
    take_at ! 2 $ rewrite ! 0 (λ (p : Ptr). ‵ (fat full_share (layout (St E)) (l 2) 0 (word p))) (asked.0 ∙ e) refl $
    give_at ! 2 $ first ! $ blocks ! $
    let all : ℕ = n + f.room in let tiny : s < 2 ^ 64 = omega (arith, one_below all s (2 ^ 63) (omega arith) small) in
    let far : i * s < 2 ^ 64 = omega (arith, times_below i all s (2 ^ 63) (omega arith) small) in
    sets ! (bin ! (get ! refl) (size_lit ! (record { fits = tiny })) (record { fits = far })) refl
    (tt, record { fits = far }) $
    sets ! (bin ! (get_in ! (fld ! refl (stop !)) (sub ! 0 refl (whole !))) (get ! refl) tt) refl (tt, tt) $
    -- [the values; the room; the mark; its cell; the open `&mut`, in three parts; the other token]
    let some_value = hd xs (omega arith) in let x = get_or xs i some_value in let at = i * s + o in
    use1 𝓛 (given (n ≡ n) (‵ (part_at (R E) full_share x b at) ⊛ ‵ (others (shares (R E)) full_share xs i b o)))
    (take_out (in_a_run E) 𝓛 n xs i some_value b o asked.1) $ learn ! (λ _. split ! $
    sets_last ! (addr ! (through ! refl (stop !))) refl (tt, tt) $ exec ! 𝓣.C 𝓣.Λ (env fn.locals l) (after 1 fn.body)
    (at_ret _ Post) $ sets ! (of_opd ! (get ! refl)) refl (tt, tt) $
    -- [the value; the other values; the room; the mark; its cell; the open `&mut`, in three parts; the other token]
    move ! (2 ∷ 3 ∷ 4 ∷ []) $ fjoin3 ! $ move ! (2 ∷ 0 ∷ []) $ fjoin ! $ move ! (2 ∷ 3 ∷ 4 ∷ 1 ∷ 0 ∷ []) $ group ! 5 $
    let written = with_value f i in let Left = sem 𝓛 (Kept E 𝓛 rb ro b o f i us) in let way =
    back E 𝓛 rb ro b o f i us e small asked.1 in let code = (Fr E).coded.code f in
    use1 𝓛 (later (some (λ (δ : GName). raw (Part 𝓛 (Fr E) (R E) written (named 0) κ q rb ro b at γ Left way x δ))))
    (lends_Part 𝓛 (Fr E) (R E) written (named 0) κ q rb ro b at γ Left way code code x) $ await ! tt $ pick ! (λ δ.
    returns ! (look_at ! 0 refl) $ free_all ! refl $ keep ! (0 ∷ 1 ∷ []) $
    let r : MutBor (el_x E) = record { ref_ptr = (b, at); ghost_name = δ; now = x } in let same : x ≡ get_or xs i x =
    get_or_default xs i some_value x asked.1 in
    use1 𝓛 (‵ ((MutRef (named 0) κ (R E)).own_val r (vptr b at ∷ [])) ⊛ ‵ (flft κ q) ⊛ ‵
    (follows (Fr E) (R E) γ δ written)) (id⊢ 𝓤 _) $ split3 ! $ move ! (1 ∷ 3 ∷ []) $ join ! $
    use0 𝓛 (raw (fact 𝓤 (x ≡ get_or xs i x))) (fact_i 𝓤 (x ≡ get_or xs i x) (emp 𝓤) same) $ move ! (3 ∷ 0 ∷ []) $ join
    ! $ nothing ! $ nothing ! $ fjoin ! $ nothing ! $ fjoin ! $ nothing ! $ fjoin ! $
    -- [nothing of the parameters; what follows, and the fact; the tokens; the `&mut`]
    move ! (2 ∷ 0 ∷ 3 ∷ 1 ∷ []) $ by !
    (leaves 𝓛 En hs c y (vptr b at) r (tt, (tt, (tt, tt))) (tt, (tt, (tt, tt))))))))))))
