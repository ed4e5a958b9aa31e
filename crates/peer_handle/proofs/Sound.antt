-- A stack that a file means is sound.
use Rattle.std.proofs.Common.{◌≡◌, refl, sym, subst, ◌∙◌, ap, ℕ, List, Option, Some, None}
use Rattle.std.specs.Prelude.{Result, Ok, Err, is_ok}
use Rattle.layer_ast.specs.Tree.{FileTree}
use Rattle.layer_mean.specs.Tree.{LayerTree}
use Rattle.fault_mean.specs.Faults as faults
use Rattle.fault_mean.specs.FileFault.{file_fault}
use Rattle.file_mean.specs.Stack.{stack_of}
use Rattle.stack_mean.specs.Acceptance.{Refusal, acceptance}
use Rattle.stack_judge.proofs.Judged.{accepted_is}
use Rattle.chain_laws.specs.Named.{NamedStack}
use Rattle.file_laws.proofs.Texts.{texts_are_named, texts_are_typed}
use Rattle.bypass_laws.specs.Making.{IsSound}
use Rattle.output_mean.specs.Judged.{Means, judged_by, said_accepted}
use Rattle.chain_laws.specs.Runs.{TypedStack}

-- a stack that is said was accepted
said_is : (r : Result (List LayerTree) Refusal) (t : List LayerTree) → said_accepted r ≡ Ok t → r ≡ Ok t
said_is (Ok s) t is = let same : s ≡ t = cc is in ap Ok same
said_is (Err refusal) t is = absurd (cc is)

-- a file that means a stack has no fault, and its own stack is accepted as that
judged_so : (file : FileTree) (t : List LayerTree) (fault : Option faults.FileFault) → file_fault file ≡ fault →
    judged_by file fault ≡ Ok t →
    (file_fault file ≡ None) × (acceptance (stack_of file) ≡ Ok t)
judged_so file t (Some fault) found is = absurd (cc is)
judged_so file t None none is = (none, said_is (acceptance (stack_of file)) t is)

pub means_sound : (text : List ℕ) (stack : List LayerTree) → Means text stack → IsSound stack
means_sound text stack m =
    let judged = judged_so m.file stack (file_fault m.file) refl m.accepted in
    let own = accepted_is (stack_of m.file) (ap is_ok judged.1) in
    let both : ◌≡◌ {A = Result (List LayerTree) Refusal} (Ok (stack_of m.file)) (Ok stack) = sym own ∙ judged.1 in
    let same : stack_of m.file ≡ stack = cc both in record {
      typed = subst TypedStack same (texts_are_typed text m.file m.is_file judged.0);
      named = subst NamedStack same (texts_are_named text m.file m.is_file judged.0);
      accepts = subst (λ s. acceptance s ≡ Ok s) same own;
    }
