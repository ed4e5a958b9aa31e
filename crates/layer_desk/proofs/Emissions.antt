-- The places that statements need, by their emissions.
use Rattle.std.proofs.Common.{◌≡◌, ℕ, ◌+◌, ◌*◌, List, ◌++◌, ◌∙◌, arith}
use Rattle.std.specs.List.{sum_by}
use Rattle.std.proofs.lemmas.List.Sums.{sum_by-append}
use Rattle.std.proofs.Math.Nat.{mul-add, mul_assoc}
use Rattle.layer_mean.specs.Tree.{StatementTree, bind, assign, assign_square, push, take, branch, each, emit}
use Rattle.layer_mean.specs.Tree.{StatementTrees, none, more}
use Rattle.stack_mean.specs.Emissions.{Repeated, emissions, emissions_in}
use Rattle.layer_desk.specs.Need.{sends_at_most, block_sends}

abbrev done : List Repeated → ℕ
done es = sum_by (λ (e : Repeated). e.times) es

together : (times n m : ℕ) (es fs : List Repeated) → done es ≡ times * n → done fs ≡ times * m →
    done (es ++ fs) ≡ times * (n + m)
together times n m es fs first second =
    sum_by-append (λ (e : Repeated). e.times) es fs ∙ omega (arith, first, second, mul-add times n m)

mutual
  pub statement_places : (times : ℕ) (x : StatementTree) → done (emissions times x) ≡ times * sends_at_most x
  statement_places times (bind k e) = omega arith
  statement_places times (assign c i e) = omega arith
  statement_places times (assign_square c row column e) = omega arith
  statement_places times (push c i capacity row otherwise) = block_places times otherwise
  statement_places times (take c i taken block otherwise) =
      together times (block_sends block) (block_sends otherwise) (emissions_in times block)
      (emissions_in times otherwise) (block_places times block) (block_places times otherwise)
  statement_places times (branch likely e block otherwise) =
      together times (block_sends block) (block_sends otherwise) (emissions_in times block)
      (emissions_in times otherwise) (block_places times block) (block_places times otherwise)
  statement_places times (each k below most block) = block_places (times * most) block ∙
      mul_assoc times most (block_sends block)
  statement_places times (emit e) = omega arith

  pub block_places : (times : ℕ) (b : StatementTrees) → done (emissions_in times b) ≡ times * block_sends b
  block_places times none = omega arith
  block_places times (more x rest) =
      together times (sends_at_most x) (block_sends rest) (emissions times x) (emissions_in times rest)
      (statement_places times x) (block_places times rest)
