-- Kinds of events.
use Rattle.std.proofs.Common.{◌≡◌, ℕ, false, refl}
use Rattle.script_mean.specs.declared.event.ScriptEvent.{ScriptEvent}
use Rattle.script_mean.specs.declared.event.ScriptEvent.TheVariants.{Cast, Send, Leave, Tick, Give, Raw, Show}
use Rattle.family_mean.specs.Family.{same_kind}

-- The giving of a packet is no act, nor is the showing of a member.
pub no_kind_give : (act : ScriptEvent) (k id : ℕ) → same_kind act (Give k id) ≡ false
no_kind_give (Cast m body) k id = refl
no_kind_give (Send m to body) k id = refl
no_kind_give (Leave m) k id = refl
no_kind_give (Tick m moment) k id = refl
no_kind_give (Give k' m) k id = refl
no_kind_give (Raw m body) k id = refl
no_kind_give (Show m) k id = refl

pub no_kind_show : (act : ScriptEvent) (id : ℕ) → same_kind act (Show id) ≡ false
no_kind_show (Cast m body) id = refl
no_kind_show (Send m to body) id = refl
no_kind_show (Leave m) id = refl
no_kind_show (Tick m moment) id = refl
no_kind_show (Give k' m) id = refl
no_kind_show (Raw m body) id = refl
no_kind_show (Show m) id = refl
