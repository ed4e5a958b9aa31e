use Rattle.chart_mean.specs.Label.{body_text, chain_text}
use Rattle.chart_draw.proofs.Joined.{last}
use Rattle.chart_draw.proofs.labels.put_packet.Goals as goal

pub returns : goal.returns
returns c = last c.put_body.result c.args.text.now (chain_text c.args.hide.now c.args.chain.now)
    (body_text c.args.body.now) _ _
    c.in_ok-put_chain.ensures c.put_body.ensures
