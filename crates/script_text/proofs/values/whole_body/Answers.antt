use Rattle.std.proofs.Common.{Some, sym, ap, ◌∙◌, arith}
use Rattle.std.proofs.lemmas.List.{with_items_is}
use Rattle.script_text.proofs.Whole.{whole_body}
use Rattle.script_text.proofs.values.whole_body.Goals as goal

pub returns-then-write_bytes : goal.returns-then-write_bytes
returns-then-write_bytes c =
    let items = with_items_is c.in_ok-bytes.bytes c.write_bytes.new.bytes
    (omega (arith, c.write_bytes.auto.bytes, c.as_mut_slice.ensures.len)) in
    whole_body c.args.text.now c.of.result (omega arith) (omega arith)
    (c.if-write_bytes.ensures ∙ ap Some (sym (c.of.ensures ∙ items)))
