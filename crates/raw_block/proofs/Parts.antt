-- The parts of a block at a type parameter: their rows, their machine values, and what is false of them at null.
-- Assumes `Logic`.
use mathlib.Core.Path.{refl}
use mathlib.Core.List.{List, [], ◌∷◌}
use Prim.Native.Nat.{ℕ}
use seplogic.Ra.Ura.{Ura}
use mir.Val.{Val, vstruct, vcons, vnil}
use base.Logic.{ent, emp, never}
use base.Fml.{Lft}
use types.Logic.{Logic, sem}
use types.Kit.{Item, Goal, Step, step, ‵, ◌$◌, ◌∵◌, !, qed, move, keep, drop, fsplit, fjoin, fpack, feq_i, done}
use denote.RattleType.{RattleType, Valss}
use denote.Steps.{nothing}
use denote.Laws.{Tells, Is, Makes}
use denote.Param.Laws.{param_laws}
use denote.RawPtr.{RawPtr, null_ptr}
use denote.Struct.Declared.{shape as plain_shape}
use denote.Struct.Struct.{Struct, Struct-Makes, Struct-Pure, within}
use denote.Struct.Tuple.{Tuple, tuple_type}
use denote.Struct.Owning.{shape}
use Rattle.core.proofs.mem.Param.{El, R, el_x}
use Rattle.core.specs.contracts.marker.PhantomData as marker
use Rattle.core.proofs.alloc.Calls.{Al}
use Rattle.core.proofs.slots.Leases.{P}
use Rattle.std_alloc.proofs.RcSteps.{word}
use Rattle.std_alloc.proofs.VecSteps.El as run
use Rattle.raw_block.specs.Ownership.{filled_owns, filled_lends}
use Rattle.raw_block.specs.contracts.memory.Start as start
use Rattle.raw_block.specs.contracts.memory.Filled as filled
use Rattle.raw_block.specs.contracts.memory.Lease as lease
use Rattle.raw_block.proofs.memory.Start.TheLaws as start-laws
use Rattle.raw_block.proofs.memory.Filled.TheLaws as filled-laws
use Rattle.raw_block.proofs.memory.Lease.TheLaws as lease-laws

-- the machine value of a struct whose one field takes no bytes
abbrev pub mark : Val
mark = vstruct (vcons (vstruct vnil) vnil)

module _ (E : El) where
  abbrev pub St : RattleType
  St = start.the_row (R E)

  abbrev pub Fr : RattleType
  Fr = filled.the_row (R E)

  -- the one field of `Filled`, which takes no bytes
  abbrev pub Mark : RattleType
  Mark = Struct (shape (filled.the_type (R E)))

  -- the type parameter of a block, as the lemmas on the elements of a `Vec` have it
  abbrev pub in_a_run : run.El
  in_a_run = record { row = E.row; laws = E.laws; al = run.no_al }

  pub start_tells : Tells St (Is St) (λ s. word s.first ∷ [])
  start_tells = (start-laws.lowers (R E) (param_laws 0 E.row E.laws)).val_is

  pub filled_tells : Tells Fr (Is Fr) (λ f. mark ∷ [])
  filled_tells = (filled-laws.lowers (R E) (param_laws 0 E.row E.laws)).val_is

  -- the one field of `Filled` or of `Lease` owns nothing, so it is made of nothing
  pub mark_made : {M : Type 1} {𝓤 : Ura M} (𝓛 : Logic 𝓤) → ent 𝓤 (emp 𝓤) (sem 𝓛 (Mark.own_val (tt, tt) (mark ∷ [])))
  mark_made 𝓛 =
      let inner = plain_shape (marker.the_type RawPtr) in let of_marker = λ (x : Unit {0}) (vs : List Val).
      Struct-Pure inner tt x vs in
      Struct-Makes 𝓛 (shape (filled.the_type (R E))) (of_marker, tt) (tt, tt) (mark ∷ [])
      ((vstruct vnil ∷ [], tt), (refl, ((tt, (refl, tt)), tt)))

  pub start_made : {M : Type 1} {𝓤 : Ura M} (𝓛 : Logic 𝓤) →
      Makes 𝓛 (Struct (plain_shape (start.the_type (R E)))) (Is (Struct (plain_shape (start.the_type (R E)))))
  start_made 𝓛 = Struct-Makes 𝓛 (plain_shape (start.the_type (R E))) (start-laws.the_plain (R E))

  module _ {M : Type 1} {𝓤 : Ura M} (𝓛 : Logic 𝓤) (xs : List (el_x E)) (n : ℕ) where
    pub no_values_at_null : (κ : Lft) → ent 𝓤 (sem 𝓛 (filled_lends (R E) null_ptr xs n κ)) (never 𝓤)
    no_values_at_null κ = qed 𝓛 (‵ (filled_lends (R E) null_ptr xs n κ) ∷ []) ∵ fsplit ! $ drop ! $ fsplit ! $ keep !
        (0 ∷ []) $ done !

    pub no_memory_at_null : ent 𝓤 (sem 𝓛 (filled_owns (R E) null_ptr xs n)) (never 𝓤)
    no_memory_at_null = qed 𝓛 (‵ (filled_owns (R E) null_ptr xs n) ∷ []) ∵ fsplit ! $ drop ! $ fsplit ! $ keep !
        (0 ∷ []) $ done !

module _ (E : El) (Z : Al) where
  abbrev pub Lr : RattleType
  Lr = lease.the_row (R E) (P E Z) Z.g

  pub lease_tells : Tells Lr (Is Lr) (λ l. mark ∷ [])
  lease_tells = (lease-laws.lowers (R E) (P E Z) Z.g (param_laws 0 E.row E.laws) (param_laws 1 Z.row Z.laws)).val_is

-- three values, as the tuple of them
abbrev pub triple_val : Val → Val → Val → Val
triple_val u v w = vstruct (vcons u (vcons v (vcons w vnil)))

module _ {M : Type 1} {𝓤 : Ura M} {𝓛 : Logic 𝓤} {K : Type 0} {Γ : List (Item 𝓤)} {G : Goal 𝓤 𝓛.H} where
  pub triple_made : K → (R S T : RattleType) (x : R.Denot) (y : S.Denot) (z : T.Denot) (u v w : Val)
      → Step K 𝓛 (‵ ((Tuple (R ∷ S ∷ T ∷ [])).own_val (x, y, z) (triple_val u v w ∷ [])) ∷ Γ) G
      (‵ (R.own_val x (u ∷ [])) ∷ ‵ (S.own_val y (v ∷ [])) ∷ ‵ (T.own_val z (w ∷ [])) ∷ Γ) G
  triple_made t R S T x y z u v w = step (λ s.
      let all = R ∷ S ∷ T ∷ [] in let vs = triple_val u v w ∷ [] in
      move t (2 ∷ []) $ nothing t $ move t (1 ∷ 0 ∷ []) $ fjoin t $ move t (2 ∷ 0 ∷ []) $ fjoin
      t $ move t (1 ∷ 0 ∷ []) $ fjoin t $ feq_i t (List Val) vs vs refl $ fjoin t $
      fpack t (Valss all) (within (plain_shape (tuple_type all)) (x, (y, (z, tt))) vs) (u ∷ [], (v ∷ [], (w ∷ [], tt)))
      $ s)
