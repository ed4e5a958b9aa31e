-- What a run over a group that is opened gives.
use Rattle.std.proofs.Common.{◌≡◌, sym, subst, ℕ, List, inr}
use Rattle.std.specs.Prelude.{Result, Ok, Err}
use Rattle.outside.specs.declared.sink.SinkError.{SinkError}
use Rattle.outside.specs.declared.sink.SinkError.TheVariants.{Failed, Memory}
use Rattle.group_feed.specs.Beginning.{IsAtFirst}
use Rattle.group_feed.specs.Standing.{Peopled}
use Rattle.run_mean.specs.Mode.{Mode}
use Rattle.layer_mean.specs.Tree.{LayerTree}
use Rattle.group_mean.specs.Room.{HasRoom}
use Rattle.stack_mean.specs.Plan.{Plan}
use Rattle.outside.specs.Lines.{Wrote}
use Rattle.outside.specs.Tells.{Tells}
use Rattle.play_jobs.specs.Play.{Plays, unwritten}
use Rattle.play_jobs.specs.declared.error.PlayError.{PlayError}

-- The result of a run, from that of putting its lines.
abbrev pub cut_short : Result (Unit {0}) SinkError → Result (Unit {0}) PlayError
cut_short (Ok wrote) = Ok wrote
cut_short (Err cause) = Err (unwritten cause)

-- Lines that were written in a mode over a stack whose members have room are those of a mode, a stack and plans that
-- equal these.
pub plays : (lines : Mode → List LayerTree → List Plan → List (List ℕ)) (mode own_mode : Mode)
    (stack own : List LayerTree) (plans own_plans : List Plan)
    (members : ℕ) (a b : Tells) (r : Result (Unit {0}) SinkError) → own_mode ≡ mode → own ≡ stack → own_plans ≡ plans →
    HasRoom stack members →
    Wrote (lines own_mode own own_plans) a b r → Plays stack members (lines mode stack plans) a b (cut_short r)
plays lines mode own_mode stack own plans own_plans members a b r same_mode same same_plans room wrote =
    go r (subst {A = Mode × (List LayerTree × List Plan)} (λ x. Wrote (lines x.0 x.1.0 x.1.1) a b r)
    (λ k. (same_mode k, (same k, same_plans k))) wrote) where
      go : (r : Result (Unit {0}) SinkError) → Wrote (lines mode stack plans) a b r →
          Plays stack members (lines mode stack plans) a b (cut_short r)
      go (Ok done) w = (room, w)
      go (Err Failed) w = (room, w)
      go (Err Memory) w = inr (room, w)

-- A group that begins in a mode begins in the mode that it has.
pub first_as_it_is : (mode : Mode) (stack : List LayerTree) (plans : List Plan) (group stamp members : ℕ) (c : Peopled)
    (places : ℕ) →
    IsAtFirst mode stack plans group stamp members c places → IsAtFirst c.mode stack plans group stamp members c places
first_as_it_is mode stack plans group stamp members c places first =
    subst (λ x. IsAtFirst x stack plans group stamp members c places) (sym first.ready.mode_is) first
