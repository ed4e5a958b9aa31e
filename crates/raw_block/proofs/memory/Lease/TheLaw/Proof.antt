-- A `&` to a lease holds nothing. Assumes `Logic`.
use denote.RattleType.{RattleType}
use denote.Param.Laws.{Laws}
use denote.Param.Shared.{copy_shared}
use denote.RawPtr.{RawPtr}
use denote.SharingLaws.{nothing_shr_laws}
use denote.Struct.Laws.{field_copy}
use denote.Struct.Lending.{Lends-nothing, of_Lends}
use Rattle.core.specs.contracts.marker.PhantomData as marker
use Rattle.core.specs.declared.alloc.Allocator.{Ghosts}
use Rattle.raw_block.specs.contracts.memory.Lease as D
use Rattle.raw_block.proofs.memory.Lease.TheLaw.Statement.{statement}

pub shares : (R A : RattleType) (g : Ghosts A.Denot) (L : Laws R) (K : Laws A) → statement R A g L K
shares R A g L K = of_Lends (D.struct R A g) (D.the_codes R.Denot A.Denot R.coded A.coded (marker.the_row RawPtr).coded)
    (D.the_heap R A g) (D.the_lent R A g) (λ l p. nothing_shr_laws)
    (copy_shared (marker.the_field RawPtr) (field_copy (marker.the_type RawPtr) tt), tt)
    (λ M 𝓤 𝓛 l p. Lends-nothing 𝓛 (D.the_heap R A g l) (D.the_row R A g).lives)
