use Rattle.std.proofs.Common.{◌≡◌, ℕ, zero, suc, None, refl}
use Rattle.std.specs.Prelude.{replicate}
use Rattle.outside.specs.MemLinks.{listening_in}
use Rattle.outside.proofs.mem_links.MemLinks.new.Goals as goal

-- nobody listens at places of which none has a number
listening_none : (n m : ℕ) → listening_in (replicate n None) m ≡ None
unfolding listening_in
listening_none zero m = refl
listening_none (suc n) zero = refl
listening_none (suc n) (suc m) = listening_none n m

pub returns-clause-nobody : goal.returns-clause-nobody
returns-clause-nobody c m = listening_none 32 m
