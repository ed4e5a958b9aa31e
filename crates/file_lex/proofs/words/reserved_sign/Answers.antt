use Rattle.std.proofs.Common.{◌∙◌, refl}
use Rattle.layer_words.specs.Spelling.{reserved}
use Rattle.file_lex.proofs.Groups.{grouped_is}
use Rattle.file_lex.proofs.words.reserved_sign.Goals as goal

pub returns : goal.returns
unfolding reserved
returns c = c.found_among.ensures ∙ grouped_is _ reserved refl refl c.args.word.now c.requires
