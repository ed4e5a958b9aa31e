use Rattle.std.proofs.Common.{◌≡◌, ◌+◌, true, get_or, sym, refl, arith}
use Rattle.std.specs.Char.{is_ascii_digit}
use Rattle.std.specs.List.{list_all}
use Rattle.std.specs.Str.Parse.{digits_value}
use Rattle.std.proofs.lemmas.Int.Digits.{digits_value_more}
use Rattle.std.proofs.lemmas.List.Folds.{list_all_more}
use Rattle.std.proofs.lemmas.Str.Parse.{digits_value-take-le}
use Rattle.script_text.proofs.Digits.{digit_is, too_large}
use Rattle.script_text.proofs.values.value_within.Goals as goal

pub returns-then-value-from-clause-value : goal.returns-then-value-from-clause-value
returns-then-value-from-clause-value c =
    let i = c.loop-byte.byte-index in
    let word = c.args.word.now in
    let digit = digit_is (get_or word i 0) (sym c.if-not-is_ascii_digit.ensures.value) in
    let more = digits_value_more 10 word i (omega arith) in
    let whole = digits_value-take-le 10 word (i + 1) (omega arith) in
    too_large (list_all is_ascii_digit word) c.args.low c.args.high (digits_value 10 word) (omega arith)

pub loop-byte-preserved : goal.loop-byte-preserved
loop-byte-preserved c =
    let i = c.loop-byte.byte-index in
    let word = c.args.word.now in
    let is_digit : is_ascii_digit (get_or word i 0) ≡ true = sym c.if-not-is_ascii_digit.ensures.value in
    let digit = digit_is (get_or word i 0) is_digit in
    let more = digits_value_more 10 word i (omega arith) in (
      rw (list_all_more is_ascii_digit word i 0 (omega arith), c.loop-byte.invariant.0, is_digit) refl,
      omega arith,
      omega arith,
    )
