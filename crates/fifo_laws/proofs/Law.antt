-- The laws of whole runs, from what each step keeps.
use Rattle.std.proofs.Common.{◌<◌, ◌^◌, [], length, refl, arith}
use Rattle.std.specs.Prelude.{slice_get}
use Rattle.msg_core.specs.View.{first_view}
use Rattle.script_mean.specs.declared.script.Script.{Script}
use Rattle.audit_mean.specs.Clash.{of_each_peer}
use Rattle.audit_mean.specs.Segment.{entries_of}
use Rattle.audit_mean.specs.declared.law.Law.TheVariants.{Sender}
use Rattle.stack_mean.specs.Plans.{plans_of}
use Rattle.run_mean.specs.Report.{run_of}
use Rattle.order_laws.specs.Said.{report_said}
use Rattle.order_laws.proofs.First.{told_are_first}
use Rattle.protocol_laws.specs.Runs.{IsFair, all_sent}
use Rattle.protocol_laws.specs.Protocol.{Keeps}
use Rattle.protocol_laws.proofs.Protocols.{protocols_keep}
use Rattle.report_laws.proofs.ReadsBack.{kept_is_found}
use Rattle.fifo_laws.specs.Layer.{stack}
use Rattle.fifo_laws.specs.Protocol.{casts_of, delivery, fifo_protocol}
use Rattle.fifo_laws.specs.Law.{IsTyped, said, SenderHolds, DeliversFirst, AuditHolds}
use Rattle.fifo_laws.proofs.Kept.{fifo_is_proved}

pub is_typed : IsTyped
is_typed = (
  record {
    cells = (omega arith, (omega arith, tt));
    handlers = (
      (
        ((tt, tt), record { fields = (tt, tt); declares = (refl, refl) }),
        ((tt, omega arith), tt),
      ),
      (
        (((((tt, omega arith), (((tt, tt), refl), tt)), tt)), tt),
        tt,
      ),
    );
  },
  tt,
)

pub keeps : (s : Script) → IsFair s → length s.events < 2 ^ 32 →
    Keeps (fifo_protocol (first_view s.members)) (all_sent stack s)
    (report_said stack (run_of stack (plans_of stack) s))
keeps s fair few =
    protocols_keep stack (fifo_protocol (first_view s.members)) s is_typed fair few (fifo_is_proved s.members)

pub sender_holds : SenderHolds
sender_holds s fair few = (keeps s fair few).kept

pub delivers_first : DeliversFirst
delivers_first s member peer fair few =
    told_are_first of_each_peer (λ name other place. slice_get (casts_of (all_sent stack s) other) place)
    (entries_of (said s)) (delivery 0 member peer []) (casts_of (all_sent stack s) peer) (keeps s fair few).told
    (λ name place x is. is)

pub audit_holds : AuditHolds
audit_holds s given unforged few small =
    let fair : IsFair s = record {
      group = given.group;
      stamp = given.stamp;
      members = given.members;
      given = given.given;
      unforged = unforged;
    } in
    kept_is_found Sender stack s is_typed refl given small (sender_holds s fair few)
