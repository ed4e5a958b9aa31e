use Rattle.std.proofs.Common.{ap, sym, ◌∙◌}
use Rattle.std.specs.Option.{option_map}
use Rattle.outside.specs.declared.datagram.Datagram.{Datagram}
use Rattle.outside.proofs.Waiting.{first_for_at, first_for_past}
use Rattle.outside.proofs.mem_links.take_first.Goals as goal

pub returns-in_err-place-clause-first : goal.returns-in_err-place-clause-first
returns-in_err-place-clause-first c =
    ap (λ r. option_map (λ (d : Datagram). d.bytes.items) r) c.from_residual.ensures
    ∙ sym (first_for_past c.args.member c.args.waiting.now.items (rw c.deref.ensures.value at c.in_err-place.ensures)).0

pub returns-in_err-place-clause-rest : goal.returns-in_err-place-clause-rest
returns-in_err-place-clause-rest c =
    sym (first_for_past c.args.member c.args.waiting.now.items (rw c.deref.ensures.value at c.in_err-place.ensures)).1

pub returns-clause-first : goal.returns-clause-first
returns-clause-first c =
    sym (first_for_at c.args.member c.args.waiting.now.items c.in_ok-place.place c.remove.result
    (rw c.deref.ensures.value at c.in_ok-place.ensures) c.remove.ensures.value).0

pub returns-clause-rest : goal.returns-clause-rest
returns-clause-rest c =
    rw c.remove.ensures.items
    (sym (first_for_at c.args.member c.args.waiting.now.items c.in_ok-place.place c.remove.result
    (rw c.deref.ensures.value at c.in_ok-place.ensures) c.remove.ensures.value).1)
