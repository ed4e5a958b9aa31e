use Rattle.script_text.proofs.Hex.{odd_none}
use Rattle.script_text.proofs.values.hex_body.Goals as goal

pub returns-then-word-ne0 : goal.returns-then-word-ne0
returns-then-word-ne0 c = odd_none c.args.word.now c.if-word-ne0.true
