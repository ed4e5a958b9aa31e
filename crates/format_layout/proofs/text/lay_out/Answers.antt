use Rattle.std.proofs.Common.{sym, ◌∙◌}
use Rattle.format_layout.proofs.Laying.{at_first, past_feed, past_blank, past_piece, breaks_off, at_end}
use Rattle.format_layout.proofs.text.lay_out.Goals as goal

pub loop-first-init : goal.loop-first-init
loop-first-init g c = at_first _ _ _ c.first-line.ensures

pub loop-first-preserved-then-is_feed : goal.loop-first-preserved-then-is_feed
loop-first-preserved-then-is_feed g c =
    past_feed _ _ _ _ _ _ _ _ c.in-Some.ensures.cases.0 c.loop-first.invariant _
    (sym c.is_feed.ensures ∙ c.if-is_feed.true) c.more_feeds-feeds.ensures

pub loop-first-preserved-then-is_blank : goal.loop-first-preserved-then-is_blank
loop-first-preserved-then-is_blank g c =
    past_blank _ _ _ _ _ _ _ _ c.in-Some.ensures.cases.0 c.loop-first.invariant
    (sym c.is_feed.ensures ∙ c.if-is_feed.false)
    (sym c.is_blank.ensures ∙ c.if-is_blank.true)

pub loop-first-preserved : goal.loop-first-preserved
loop-first-preserved g c =
    past_piece _ _ _ _ _ _ _ _ c.in-Some.ensures.cases.0 c.loop-first.invariant _ _
    (sym c.is_feed.ensures ∙ c.if-is_feed.false)
    (sym c.is_blank.ensures ∙ c.if-is_blank.false) c.length_after-more.ensures.count c.front-spelling.ensures _ _ _
    c.in-Ok.ensures.wrote
    c.in-Ok.ensures.begun c.split_at.ensures.back

pub returns-in-Err : goal.returns-in-Err
returns-in-Err g c =
    breaks_off _ _ _ _ _ _ _ _ c.in-Some.ensures.cases.0 c.loop-first.invariant _ _
    (sym c.is_feed.ensures ∙ c.if-is_feed.false)
    (sym c.is_blank.ensures ∙ c.if-is_blank.false) c.length_after-more.ensures.count c.front-spelling.ensures _ _
    c.in-Err.ensures.wrote

pub returns : goal.returns
returns g c = at_end _ _ _ _ _ _ _ _ c.loop-first.invariant c.in_default.ensures.cases c.finish.ensures
