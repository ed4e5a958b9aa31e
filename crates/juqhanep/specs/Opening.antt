-- What the call does that opens a member.
use Rattle.std.specs.Prelude.{◌≡◌, ℕ, List}
use Rattle.peer_handle.specs.Opens.{Opens, Wanted, opening_number}
use Rattle.peer_handle.specs.Ownership.{Kept}
use Rattle.peer_handle.specs.declared.answer.Opening.{Opening}
use Rattle.peer_handle.specs.declared.fault.ToldFault.{ToldFault}

-- A handle opens what is wanted, and the status is the number of the answer.
pub record CallOpens (w : Wanted) (old new : Kept) (before fault : ToldFault) (room after : List ℕ) (status : ℕ) :
    Type 0 where
  pub answer : Opening
  pub opens : Opens w old new before fault room after answer
  pub status_is : status ≡ opening_number answer
