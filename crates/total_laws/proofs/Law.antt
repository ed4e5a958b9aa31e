-- The laws of whole runs, from what each step keeps.
use Rattle.std.proofs.Common.{◌<◌, ◌^◌, [], length, refl, arith}
use Rattle.std.specs.Prelude.{slice_get}
use Rattle.script_mean.specs.declared.script.Script.{Script}
use Rattle.audit_mean.specs.Clash.{whole}
use Rattle.audit_mean.specs.Segment.{entries_of}
use Rattle.audit_mean.specs.declared.law.Law.TheVariants.{Total}
use Rattle.stack_mean.specs.Plans.{plans_of}
use Rattle.run_mean.specs.Report.{run_of}
use Rattle.library_rows.specs.OrderStack.{stack}
use Rattle.order_laws.specs.Said.{report_said}
use Rattle.order_laws.proofs.First.{told_are_first}
use Rattle.protocol_laws.specs.Runs.{IsFair, all_sent}
use Rattle.protocol_laws.specs.Protocol.{Keeps}
use Rattle.protocol_laws.proofs.Protocols.{protocols_keep}
use Rattle.report_laws.proofs.ReadsBack.{kept_is_found}
use Rattle.total_laws.specs.Protocol.{order_of, delivery, total_protocol}
use Rattle.total_laws.specs.Law.{IsTyped, said, TotalHolds, DeliversFirst, AuditHolds}
use Rattle.total_laws.proofs.Kept.{total_is_proved}

pub is_typed : IsTyped
is_typed = (
  record {
    cells = tt;
    handlers = (
      (((tt, tt), record { fields = (omega arith, tt); declares = (refl, refl) }), tt),
      (
        (((tt, tt), record { fields = (omega arith, tt); declares = (refl, refl) }), tt),
        ((((((tt, tt), refl), tt), tt), tt), ((((((tt, tt), refl), tt), tt), tt), tt)),
      ),
    );
  },
  (
    record {
      cells = tt;
      handlers = ((((tt, tt), record { fields = tt; declares = (refl, refl) }), (((tt, tt), refl), tt)), tt);
    },
    (
      record {
        cells = (omega arith, (omega arith, tt));
        handlers = (
          (
            (
              (((tt, tt), record { fields = (tt, (tt, tt)); declares = (refl, refl) }), ((tt, omega arith), tt)),
              (((omega arith, tt), record { fields = tt; declares = (refl, refl) }), tt),
            ),
            tt,
          ),
          (
            (
              (
                (((tt, tt), record { fields = (tt, (tt, tt)); declares = (refl, refl) }), ((tt, omega arith), tt)),
                tt,
              ),
              tt,
            ),
            (((((tt, omega arith), (((tt, tt), refl), tt)), tt), tt), tt),
          ),
        );
      },
      tt,
    ),
  ),
)

keeps : (s : Script) → IsFair s → length s.events < 2 ^ 32 →
    Keeps total_protocol (all_sent stack s) (report_said stack (run_of stack (plans_of stack) s))
keeps s fair few = protocols_keep stack total_protocol s is_typed fair few (total_is_proved s.members)

pub total_holds : TotalHolds
total_holds s fair few = (keeps s fair few).kept

pub delivers_first : DeliversFirst
delivers_first s member fair few =
    told_are_first whole (λ name list place. slice_get (order_of (all_sent stack s)) place) (entries_of (said s))
    (delivery 0 member 0 []) (order_of (all_sent stack s)) (keeps s fair few).told (λ name place x is. is)

pub audit_holds : AuditHolds
audit_holds s given unforged few small =
    let fair : IsFair s = record {
      group = given.group;
      stamp = given.stamp;
      members = given.members;
      given = given.given;
      unforged = unforged;
    } in
    kept_is_found Total stack s is_typed refl given small (total_holds s fair few)
