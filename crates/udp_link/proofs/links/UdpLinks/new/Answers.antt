use Rattle.std.proofs.Common.{◌≡◌, ℕ, zero, suc, None, refl}
use Rattle.std.specs.Prelude.{replicate}
use Rattle.udp_link.specs.Listening.{listening_in, peers_in}
use Rattle.udp_link.proofs.links.UdpLinks.new.Goals as goal

-- nobody listens at places of which none has a member
listening_none : (n m : ℕ) → listening_in (replicate n None) m ≡ None
unfolding peers_in
listening_none zero m = refl
listening_none (suc n) zero = refl
listening_none (suc n) (suc m) = listening_none n m

pub returns-clause-nobody : goal.returns-clause-nobody
returns-clause-nobody g c m = rw c.in_ok-members.ensures (listening_none 32 m)
