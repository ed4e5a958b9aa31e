-- The literals of expressions are numbers.
use Rattle.std.proofs.Common.{ℕ, Bool, true, false, List, map, Option, Some, None, arith}
use Rattle.std.specs.Prelude.{bytes_eq, take, length, ◌-◌, unwrap_or, option_map, option_and_then}
use Rattle.std.specs.List.{AllByRecursion, find}
use Rattle.std.specs.Option.{option_or}
use Rattle.layer_words.specs.declared.words.Word.{Word}
use Rattle.layer_ast.specs.Tree as ast
use Rattle.layer_mean.specs.Tree.{local, number, element}
use Rattle.packet_mean.specs.ChainedState.{IsNumber}
use Rattle.fault_mean.specs.Declared.{declares, declaration_of}
use Rattle.fault_mean.specs.Places.{declared_value, given_value, param_value}
use Rattle.file_mean.specs.Names.{Placed, Names, cell_of, size_value, numbers_among, number_slot}
use Rattle.file_mean.specs.Values.{number_of, argument_number}
use Rattle.chain_laws.specs.Typed.{Small}
use Rattle.chain_laws.proofs.Lists.{Where, each_map, each_take}
use Rattle.file_laws.specs.Literals.{Literal, LiteralArgument, LiteralSize, LiteralDeclaration}
use Rattle.file_laws.proofs.Lists.{find_where}

-- a layer at a place, whose written and given numbers are below 2^32
pub record LiteralPlaced (p : Placed) : Type 0 where
  pub declarations_are : AllByRecursion LiteralDeclaration p.layer.declarations
  pub given_are : AllByRecursion (λ g. IsNumber g.value) p.given

value_small : (d : Option ast.DeclarationTree) → Where LiteralDeclaration d →
    Where IsNumber (option_and_then declared_value d)
value_small None h = tt
value_small (Some (ast.param at name n)) h = h
value_small (Some (ast.int at name shape initial)) h = tt
value_small (Some (ast.rows_cell at name capacity items)) h = tt
value_small (Some (ast.rows_array at name capacity items)) h = tt
value_small (Some (ast.header at name fields end)) h = tt

given_small : (g : Option ast.GivenTree) (n : ℕ) → Where (λ g. IsNumber g.value) g → IsNumber n →
    IsNumber (unwrap_or (option_map (λ g. g.value) g) n)
given_small None n h small = small
given_small (Some g) n h small = h

both_small : (p : Placed) (word : Word) (v : Option ℕ) → LiteralPlaced p → Where IsNumber v →
    Where IsNumber (option_map (λ n. unwrap_or (given_value p.given word) n) v)
both_small p word None h small = tt
both_small p word (Some n) h small = given_small (find (λ g. bytes_eq g.name.word word) p.given) n
    (find_where _ _ p.given h.given_are) small

pub param_small : (p : Placed) (word : Word) → LiteralPlaced p → Where IsNumber (param_value p.layer p.given word)
param_small p word h = both_small p word (option_and_then declared_value (declaration_of p.layer word)) h
    (value_small (declaration_of p.layer word)
    (find_where LiteralDeclaration (declares word) p.layer.declarations h.declarations_are))

or_zero : (v : Option ℕ) → Where IsNumber v → IsNumber (unwrap_or v 0)
or_zero None h = omega arith
or_zero (Some n) h = h

pub size_small : (p : Placed) (size : ast.SizeTree) → LiteralPlaced p → LiteralSize size → IsNumber (size_value p size)
size_small p (ast.fixed at n) h literal = literal
size_small p (ast.sized name) h literal = or_zero (param_value p.layer p.given name.word) (param_small p name.word h)

named_small : (slot : Option ℕ) (v : Option ℕ) (c : ℕ) → Where IsNumber v →
    Small (unwrap_or (option_or (option_map local slot) (option_map number v)) (element c (number 0)))
named_small None None c h = tt
named_small None (Some v) c h = h
named_small (Some k) v c h = tt

module _ (names : Names) (placed : LiteralPlaced names.place) where
  pub number_small : (e : ast.ExpressionTree) → Literal e → Small (number_of names e)
  number_small (ast.number at n) h = h
  number_small (ast.named name) h =
      named_small (number_slot names name) (param_value names.place.layer names.place.given name.word)
      (cell_of names.place name) (param_small names.place name.word placed)
  number_small (ast.binary at left operator right) h = (number_small left h.0, number_small right h.1)
  number_small (ast.pick at condition first second) h = (number_small first h.1, number_small second h.2)
  number_small _ h = tt

  pub argument_small : (a : ast.ArgumentTree) → LiteralArgument a → Small (argument_number names a)
  argument_small (ast.value e) h = number_small e h
  argument_small (ast.content b) h = omega arith

  pub arguments_small : (has : Bool) (xs : List ast.ArgumentTree) → AllByRecursion LiteralArgument xs →
      AllByRecursion Small (map (argument_number names) (numbers_among has xs))
  arguments_small true xs h = each_map LiteralArgument Small (argument_number names) argument_small
      (take (length xs - 1) xs)
      (each_take LiteralArgument (length xs - 1) xs h)
  arguments_small false xs h = each_map LiteralArgument Small (argument_number names) argument_small xs h
