-- All numbers of a visit are below 2^32, and all bodies have at most 8,192 bytes.
use Rattle.std.proofs.Common.{◌≡◌, ℕ, zero, suc, ◌+◌, ◌*◌, ◌-◌, ◌<◌, ◌≤◌, Bool, true, false, List, [], ◌++◌, length}
use Rattle.std.proofs.Common.{refl, arith}
use Rattle.std.specs.Prelude.{◌^◌, ◌%◌, ◌/◌, nat_lt, nat_le, if◌then◌else◌, take, drop}
use Rattle.std.specs.Int.Bits.{and_lt}
use Rattle.std.specs.Int.Count.{ones_in}
use Rattle.std.proofs.lemmas.Nat.{or_lt, xor_lt, trailing_le}
use Rattle.std.proofs.Math.Nat.{mod-lt}
use Rattle.std.proofs.Math.Pow.{pow-lt}
use Rattle.std.proofs.lemmas.Bool.{ltb-true, leb-true}
use Rattle.std.proofs.Math.ListN.{length-take, length-drop, length-append}
use Rattle.msg_core.specs.Chain.{Content}
use Rattle.msg_core.specs.Parts as parts
use Rattle.msg_core.specs.Parts.{longest_body}
use Rattle.layer_words.specs.declared.operators.Function.{Function}
use Rattle.layer_words.specs.declared.operators.Function.TheVariants.{Not, Bit, Count, Lowest}
use Rattle.layer_words.specs.declared.operators.Operator.{Operator}
use Rattle.layer_words.specs.declared.operators.Operator.TheVariants.{Add, Subtract, Multiply, Equal, NotEqual, Less}
use Rattle.layer_words.specs.declared.operators.Operator.TheVariants.{LessOrEqual, Greater, GreaterOrEqual, And, Or}
use Rattle.layer_words.specs.declared.operators.Operator.TheVariants.{BitAnd}
use Rattle.layer_words.specs.declared.operators.Operator.TheVariants.{BitOr, BitXor}
use Rattle.packet_mean.specs.ChainedState.{IsNumber, IsBody}
use Rattle.layer_mean.specs.Value.{of_bool, wrapped, applied, function_of}
use Rattle.chain_laws.proofs.Lists.{each_append, each_drop, each_take}

pub zero_small : IsNumber 0
zero_small = omega arith

of_bool_small : (b : Bool) → IsNumber (of_bool b)
of_bool_small true = omega arith
of_bool_small false = omega arith

wrapped_small : (x : ℕ) → IsNumber (wrapped x)
wrapped_small x = mod-lt x (omega arith)

pub applied_small : (o : Operator) (x y : ℕ) → IsNumber x → IsNumber y → IsNumber (applied o x y)
applied_small Add x y h i = wrapped_small (x + y)
applied_small Subtract x y h i = wrapped_small (x + 2 ^ 32 - y)
applied_small Multiply x y h i = wrapped_small (x * y)
applied_small Equal x y h i = of_bool_small _
applied_small NotEqual x y h i = of_bool_small _
applied_small Less x y h i = of_bool_small _
applied_small LessOrEqual x y h i = of_bool_small _
applied_small Greater x y h i = of_bool_small _
applied_small GreaterOrEqual x y h i = of_bool_small _
applied_small And x y h i = of_bool_small _
applied_small Or x y h i = of_bool_small _
applied_small BitAnd x y h i = and_lt 32 x y h i
applied_small BitOr x y h i = or_lt 32 x y h i
applied_small BitXor x y h i = xor_lt 32 x y h i

ones_in_le : (k n : ℕ) → ones_in k n ≤ k
unfolding ones_in
ones_in_le zero n = omega arith
ones_in_le (suc k) n =
    let bit : n % 2 < 2 = mod-lt n (omega arith) in
    omega (arith, ones_in_le k (n / 2))

bit_small : (x : ℕ) (b : Bool) → nat_lt x 32 ≡ b → IsNumber (if b then 2 ^ x else 0)
bit_small x true is = pow-lt {i = x} {j = 32} (ltb-true x 32 is)
bit_small x false is = omega arith

pub function_small : (f : Function) (x : ℕ) → IsNumber (function_of f x)
function_small Not x = of_bool_small _
function_small Bit x = bit_small x (nat_lt x 32) refl
function_small Count x = omega (arith, ones_in_le 32 x)
function_small Lowest x = omega (arith, trailing_le 32 x)

pub pick_small : (b : Bool) (x y : ℕ) → IsNumber x → IsNumber y → IsNumber (if b then x else y)
pick_small true x y h i = h
pick_small false x y h i = i

-- bodies

pub no_body : IsBody []
no_body = record { within = omega arith; bytes = tt }

pub body_number : (body : List ℕ) → IsBody body → IsNumber (length body)
body_number body h = omega (arith, h.within)

pub cut_body : (k n : ℕ) (body : List ℕ) → IsBody body → IsBody (take n (drop k body))
cut_body k n body h = record {
  within = omega (arith, h.within, length-take n (drop k body), length-drop k body);
  bytes = each_take _ n (drop k body) (each_drop _ k body h.bytes);
}

pub tail_body : (k : ℕ) (body : List ℕ) → IsBody body → IsBody (drop k body)
tail_body k body h = record {
  within = omega (arith, h.within, length-drop k body);
  bytes = each_drop _ k body h.bytes;
}

joined_body : (p m : Content) (b : Bool) → nat_le (length p.body + length m.body) longest_body ≡ b → IsBody p.body →
    IsBody m.body →
    IsBody (if b then record { headers = m.headers; body = p.body ++ m.body } else m).body
joined_body p m true is h i = record {
  within = omega (arith, leb-true (length p.body + length m.body) longest_body is, length-append p.body m.body);
  bytes = each_append _ p.body m.body h.bytes i.bytes;
}
joined_body p m false is h i = i

pub join_body : (p m : Content) → IsBody p.body → IsBody m.body → IsBody (parts.join p m).body
join_body p m h i = joined_body p m (nat_le (length p.body + length m.body) longest_body) refl h i
