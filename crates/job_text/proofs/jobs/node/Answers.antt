use Rattle.std.proofs.Common.{rules, ◌∙◌, ap}
use Rattle.job_text.specs.Shown.{node_of, shown_given}
use Rattle.job_text.proofs.Words.{goes_on}
use Rattle.job_text.proofs.jobs.node.Goals as goal

pub returns : goal.returns
returns c =
    c.node_of.ensures ∙ ap (node_of (shown_given c.args.given.now)) c.in_ok-members.ensures.are
    ∙ goes_on _ _ (search rules)
