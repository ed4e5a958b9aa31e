use Rattle.std.proofs.Common.{rules, sym, ◌∙◌}
use Rattle.format_layout.proofs.Remarks.{at_first, past_blank, past_byte, at_feed, at_end, within}
use Rattle.format_layout.proofs.marks.comment_length.Goals as goal

pub loop-first-init : goal.loop-first-init
loop-first-init c = at_first _

pub loop-first-preserved-then-is_blank : goal.loop-first-preserved-then-is_blank
loop-first-preserved-then-is_blank c =
    past_blank _ _ _ _ _ _ c.in-Some.ensures.cases.0 c.loop-first.invariant (sym c.is_feed.ensures ∙ c.if-is_feed.false)
    _ (search rules)
    (sym c.is_blank.ensures ∙ c.if-is_blank.true)

pub loop-first-preserved : goal.loop-first-preserved
loop-first-preserved c =
    past_byte _ _ _ _ _ _ c.in-Some.ensures.cases.0 c.loop-first.invariant (sym c.is_feed.ensures ∙ c.if-is_feed.false)
    _ (search rules)
    (sym c.is_blank.ensures ∙ c.if-is_blank.false)

pub returns-then-is_feed-clause-count : goal.returns-then-is_feed-clause-count
returns-then-is_feed-clause-count c =
    at_feed _ _ _ _ _ _ c.in-Some.ensures.cases.0 c.loop-first.invariant (sym c.is_feed.ensures ∙ c.if-is_feed.true)

pub returns-then-is_feed-clause-within : goal.returns-then-is_feed-clause-within
returns-then-is_feed-clause-within c = within _ _ _ _ c.loop-first.invariant

pub returns-clause-count : goal.returns-clause-count
returns-clause-count c = at_end _ _ _ _ c.loop-first.invariant c.in_default.ensures.cases

pub returns-clause-within : goal.returns-clause-within
returns-clause-within c = within _ _ _ _ c.loop-first.invariant
