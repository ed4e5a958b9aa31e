use Rattle.std.proofs.Common.{inl, inr, rules}
use Rattle.file_parse.proofs.Whole.{left_within, inside_here, end_bad, end_early, nothing_more}
use Rattle.file_parse.proofs.refusal.Goals as goal

pub overflow_sub-len : goal.overflow_sub-len
overflow_sub-len c =
    let within = left_within c.args.tokens.now.tokens.items c.args.left c.requires.refused in search (rules, within)

pub returns-then-left-gt0 : goal.returns-then-left-gt0
returns-then-left-gt0 c =
    let stops = inside_here c.args.text.now c.args.tokens.now.tokens.items c.args.tokens.now.bad_at c.requires.cut
    c.args.left
    c.len.result c.index-token.result.now c.if-left-gt0.true c.requires.refused (search rules) c.index-token.ensures in
    (c.requires.small, inl (search (rules, stops)))

pub returns-in-Some : goal.returns-in-Some
returns-in-Some c = (
  c.requires.small,
  end_bad c.args.text.now c.args.tokens.now.tokens.items c.args.tokens.now.bad_at c.requires.cut c.in-Some.at
      c.in-Some.is
      (nothing_more c.args.tokens.now.tokens.items c.args.left c.if-left-gt0.false c.requires.refused),
)

pub returns-in-None : goal.returns-in-None
returns-in-None c = (
  c.requires.small,
  rw c.end_of.ensures (inr
      (end_early c.args.text.now c.args.tokens.now.tokens.items c.args.tokens.now.bad_at c.requires.cut
      c.in-None.is (nothing_more c.args.tokens.now.tokens.items c.args.left c.if-left-gt0.false c.requires.refused))),
)
