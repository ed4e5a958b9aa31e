use Rattle.std.proofs.Common.{Some, None, refl}
use Rattle.file_lex.proofs.Groups.{found_in_group, found_nothing}
use Rattle.file_lex.proofs.words.found_among.Goals as goal

pub returns-in_default : goal.returns-in_default
returns-in_default g c = found_nothing c.args.groups.now c.args.word.now c.in_default.ensures.cases

pub returns-in-Some-group_of : goal.returns-in-Some-group_of
returns-in-Some-group_of g c =
    found_in_group c.args.groups.now c.args.word.now c.in-Some.first.now c.in-Some.field-0-1.now
    (Some c.in-Some-group_of.group) c.found_in.result c.in-Some.ensures.cases.0 c.in-Some-group_of.ensures
    c.found_in.ensures

pub returns-in-None : goal.returns-in-None
returns-in-None g c =
    found_in_group c.args.groups.now c.args.word.now c.in-Some.first.now c.in-Some.field-0-1.now None None
    c.in-Some.ensures.cases.0 c.in-None.ensures refl
