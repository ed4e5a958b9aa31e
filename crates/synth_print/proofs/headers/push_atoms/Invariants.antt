use Rattle.std.proofs.Common.{◌≡◌, ◌++◌, take}
use Rattle.synth_print.specs.Headers.{atom_texts, comma_list}
use Rattle.synth_print.specs.Texts.{written_in}
use Rattle.synth_print.proofs.headers.push_atoms.Given as goal

abbrev pub invariant-loop-k : goal.invariant-loop-k
invariant-loop-k l = l.line ≡ l.initial.line ++ comma_list (take l.k (atom_texts (written_in l.scope) l.atoms))
