use Rattle.file_lex.proofs.pieces.piece_at.Goals as goal

pub returns-clause-front : goal.returns-clause-front
returns-clause-front c = c.symbol.ensures.front c.args.text.now
