-- A `&` to the memory reaches each value, and nothing of the room. Assumes `Logic`.
use mathlib.Core.Path.{sym, subst}
use mathlib.Core.List.{[], ◌++◌}
use lib.ListN.{length}
use base.Fraction.{full_share}
use base.Fml.{Incl-trans, fsep}
use contract.BorrowLft.{meet_⊑_left}
use denote.RattleType.{RattleType}
use denote.Array.{Array, Array-row_laws}
use denote.ArrayMemory.{Single}
use denote.Param.Laws.{Laws}
use denote.Param.Shared.{copy_shared}
use denote.RawPtr.{RawPtr, lies_at, room_for, ◌+ₚ◌}
use denote.Shares.{Shares-less, Shares-Array}
use denote.Sharing.{said}
use denote.SharingLaws.{beside_shr_laws, said_shr_laws}
use denote.Struct.Laws.{field_copy}
use denote.Struct.Lending.{lent_at, lent_at_shr_laws, of_Lends, Lends-both, Lends-first, Lends-lies, Lends-said}
use Prim.Native.Nat.{◌*◌}
use Rattle.core.specs.Allocator.{array_of}
use Rattle.core.specs.Mem.{type_size}
use Rattle.core.specs.contracts.marker.PhantomData as marker
use Rattle.raw_block.specs.Ownership.{within}
use Rattle.raw_block.specs.contracts.memory.Filled as F
use Rattle.raw_block.proofs.memory.Filled.TheLaw.Statement.{statement}

pub shares : (R : RattleType) (L : Laws R) → statement R L
shares R L = of_Lends (F.struct R) (F.the_codes R.Denot R.coded (marker.the_row RawPtr).coded) (F.the_heap R)
    (F.the_lent R)
    (λ f p. beside_shr_laws (said (within R f.values f.room)) (lent_at (Array R (length f.values)) f.at f.values)
    (said_shr_laws (within R f.values f.room) tt)
    (lent_at_shr_laws (Array R (length f.values)) (Array-row_laws R L.shr_laws (length f.values)) f.at f.values))
    (copy_shared (marker.the_field RawPtr) (field_copy (marker.the_type RawPtr) tt), tt)
    (λ M 𝓤 𝓛 f p.
    let l = (F.the_row R).lives in let n = length f.values in
    let lies = lies_at (Array R n) full_share f.at f.values in let room =
    room_for (array_of R f.room) (f.at +ₚ n * type_size R) in let lent = lent_at (Array R n) f.at f.values in
    let each = Shares-less 𝓛 R R.lives l (Incl-trans (meet_⊑_left (R.lives ++ []) _) (meet_⊑_left R.lives []))
    (L.shares 𝓛) in
    Lends-both 𝓛 (within R f.values f.room) (fsep lies room) (said (within R f.values f.room)) lent l
    (Lends-said 𝓛 (within R f.values f.room) tt l)
    (Lends-first 𝓛 lies room lent l
    (Lends-lies 𝓛 (Array R n) l f.at f.values (Shares-Array 𝓛 R (subst Single (sym L.one) tt) n l each f.values))))
