-- Readings that are spelled alike are worth the same.
use Rattle.std.proofs.Common.{◌≡◌, ◌==◌, true, List, refl, ap, ap₂}
use Rattle.std.proofs.lemmas.Bool.{eqb-true, and_parts, false≢true}
use denote.Enum.Bare.{sameb, same_true}
use Rattle.layer_words.specs.contracts.operators.Operator as operator_row
use Rattle.layer_words.specs.contracts.operators.Function as function_row
use Rattle.layer_mean.specs.State.{State}
use Rattle.trace_mean.specs.Worth.{Input, Kept}
use Rattle.guard_mean.specs.Code.{Operand, number, me, count, ltime, peer, field, made, taken, Source, body, nothing}
use Rattle.guard_mean.specs.Code.{message, Reading, element, square, rows, item, size, taken_size, held_size, cut_size}
use Rattle.guard_mean.specs.Code.{tail_size, join_size, binary, apply, pick}
use Rattle.guard_mean.specs.Same.{same_operand, same_source, same_reading}
use Rattle.guard_mean.specs.Machine.{reading_of}

operand_is : (a b : Operand) → same_operand a b ≡ true → a ≡ b
operand_is (number n) (number m) is = ap number (eqb-true n m is)
operand_is me me is = refl
operand_is count count is = refl
operand_is ltime ltime is = refl
operand_is peer peer is = refl
operand_is (field k) (field j) is = ap field (eqb-true k j is)
operand_is (made k) (made j) is = ap made (eqb-true k j is)
operand_is (taken r k) (taken q j) is = let both = and_parts (r == q) (k == j) is in
    ap₂ taken (eqb-true r q both.0) (eqb-true k j both.1)
operand_is _ _ is = absurd (false≢true is)

source_is : (a b : Source) → same_source a b ≡ true → a ≡ b
source_is body body is = refl
source_is nothing nothing is = refl
source_is (message k) (message j) is = ap message (eqb-true k j is)
source_is _ _ is = absurd (false≢true is)

reading_is : (a b : Reading) → same_reading a b ≡ true → a ≡ b
reading_is (element p c e) (element q d f) is =
    let x = and_parts (p == q) _ is in let y = and_parts (c == d) _ x.1 in
    let ep = eqb-true p q x.0 in let ec = eqb-true c d y.0 in let ee = operand_is e f y.1 in λ z.
    element (ep z) (ec z) (ee z)
reading_is (square p c r k) (square q d t j) is =
    let x = and_parts (p == q) _ is in let y = and_parts (c == d) _ x.1 in let w = and_parts (same_operand r t) _ y.1 in
    let ep = eqb-true p q x.0 in let ec = eqb-true c d y.0 in let er = operand_is r t w.0 in let ek =
    operand_is k j w.1 in
    λ z. square (ep z) (ec z) (er z) (ek z)
reading_is (rows p c e) (rows q d f) is =
    let x = and_parts (p == q) _ is in let y = and_parts (c == d) _ x.1 in
    let ep = eqb-true p q x.0 in let ec = eqb-true c d y.0 in let ee = operand_is e f y.1 in λ z.
    rows (ep z) (ec z) (ee z)
reading_is (item p c e r k) (item q d f t j) is =
    let x = and_parts (p == q) _ is in let y = and_parts (c == d) _ x.1 in let v = and_parts (k == j) _ y.1 in let w =
    and_parts (same_operand e f) _ v.1 in
    let ep = eqb-true p q x.0 in let ec = eqb-true c d y.0 in let ek = eqb-true k j v.0 in let ee =
    operand_is e f w.0 in let er = operand_is r t w.1 in
    λ z. item (ep z) (ec z) (ee z) (er z) (ek z)
reading_is (size m) (size w) is = ap size (source_is m w is)
reading_is (taken_size r) (taken_size q) is = ap taken_size (eqb-true r q is)
reading_is (held_size p c e r) (held_size q d f t) is =
    let x = and_parts (p == q) _ is in let y = and_parts (c == d) _ x.1 in let w = and_parts (same_operand e f) _ y.1 in
    let ep = eqb-true p q x.0 in let ec = eqb-true c d y.0 in let ee = operand_is e f w.0 in let er =
    operand_is r t w.1 in
    λ z. held_size (ep z) (ec z) (ee z) (er z)
reading_is (cut_size a b c) (cut_size d e f) is =
    let x = and_parts (same_operand a d) _ is in let y = and_parts (same_operand b e) _ x.1 in
    let ea = operand_is a d x.0 in let eb = operand_is b e y.0 in let ec = operand_is c f y.1 in λ z.
    cut_size (ea z) (eb z) (ec z)
reading_is (tail_size a b) (tail_size d e) is = let x = and_parts (same_operand a d) _ is in
    ap₂ tail_size (operand_is a d x.0) (operand_is b e x.1)
reading_is (join_size a b) (join_size d e) is = let x = and_parts (same_operand a d) _ is in
    ap₂ join_size (operand_is a d x.0) (operand_is b e x.1)
reading_is (binary o a b) (binary u d e) is =
    let x = and_parts (sameb operator_row.the_type o u) _ is in let y = and_parts (same_operand a d) _ x.1 in
    let eo = same_true operator_row.the_type tt o u x.0 in let ea = operand_is a d y.0 in let eb = operand_is b e y.1 in
    λ z. binary (eo z) (ea z) (eb z)
reading_is (apply f a) (apply g d) is =
    let x = and_parts (sameb function_row.the_type f g) _ is in
    let ef = same_true function_row.the_type tt f g x.0 in let ea = operand_is a d x.1 in λ z. apply (ef z) (ea z)
reading_is (pick a b c) (pick d e f) is =
    let x = and_parts (same_operand a d) _ is in let y = and_parts (same_operand b e) _ x.1 in
    let ea = operand_is a d x.0 in let eb = operand_is b e y.0 in let ec = operand_is c f y.1 in λ z.
    pick (ea z) (eb z) (ec z)
reading_is _ _ is = absurd (false≢true is)

pub same_worth : (i : Input) (k : Kept) (ss : List State) (a b : Reading) → same_reading a b ≡ true →
    reading_of i k ss a ≡ reading_of i k ss b
same_worth i k ss a b is = ap (reading_of i k ss) (reading_is a b is)
