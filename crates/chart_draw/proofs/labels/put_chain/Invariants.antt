use Rattle.std.proofs.Common.{◌≡◌, ◌++◌}
use Rattle.std.specs.List.{flat_map}
use Rattle.chart_mean.specs.Label.{chain_text, header_text}
use Rattle.chart_draw.specs.Reading.{pieces_left}
use Rattle.chart_draw.proofs.labels.put_chain.Given as goal

abbrev pub invariant-loop-header : goal.invariant-loop-header
invariant-loop-header l =
    l.text ++ flat_map (header_text l.hide) (pieces_left l.header-iterator) ≡ l.initial.text ++
    chain_text l.hide l.fn.chain
