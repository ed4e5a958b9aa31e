-- What laws say of the packets from which arrows and stubs lead.
use Rattle.std.specs.Prelude.{◌≡◌, ℕ, Bool, true, false, All, Contains, List}
use Rattle.script_mean.specs.Words.{Word}
use Rattle.chart_mean.specs.Mark.{carries, sender_of}
use Rattle.chart_mean.specs.Place.{Line}
use Rattle.chart_mean.specs.Stub.{gives_at}
use Rattle.chart_mean.specs.declared.types.SentPacket.{SentPacket}

-- none of these lines is a packet that is found by this word
abbrev pub NoneCarries : Bool → Word → List Line → Type 0
NoneCarries told word lines = All (λ line. carries told word line.says ≡ false) lines

-- one of these lines is this packet, and is found by this word
pub record IsFoundIn (told : Bool) (word : Word) (lines : List Line) (sent : SentPacket) : Type 0 where
  pub line : Line
  pub stands : Contains lines line
  pub found : carries told word line.says ≡ true
  pub place : line.x ≡ sent.x
  pub sender : sender_of line.says ≡ sent.member

-- none of these lines tells that this packet is given to this member
abbrev pub NoneGives : Word → ℕ → List Line → Type 0
NoneGives number member lines = All (λ line. gives_at number member line ≡ false) lines
