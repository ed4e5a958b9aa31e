-- Short numbers in decimal, digit by digit.
use Rattle.std.proofs.Common.{◌≡◌, ◌+◌, ◌/◌, ◌%◌, ◌<◌, ◌≤◌, ◌++◌, ◌∷◌, ℕ, List, [], arith, ap, sym, ◌∙◌, append_assoc}
use Rattle.std.proofs.lemmas.Fmt.{decimal_digit, decimal_step}
use Rattle.std.specs.Fmt.{decimal}

-- the last digit stands after the others
step : (n : ℕ) (front : List ℕ) → 10 ≤ n → n < 10000 → decimal (n / 10) ≡ front → decimal n ≡ front ++ (48 + n % 10) ∷
    []
step n front least most is = decimal_step n least (omega (arith, most)) ∙ ap (λ ds. ds ++ (48 + n % 10) ∷ []) is

one : (n : ℕ) → n < 10 → decimal n ≡ (48 + n % 10) ∷ []
one n most = let same : n ≡ n % 10 = omega (arith, most) in decimal_digit n most ∙ ap (λ d. (48 + d) ∷ []) same

two : (n : ℕ) → 10 ≤ n → n < 100 → decimal n ≡ (48 + n / 10 % 10) ∷ (48 + n % 10) ∷ []
two n least most = step n ((48 + n / 10 % 10) ∷ []) least (omega (arith, most)) (one (n / 10) (omega (arith, most)))

three : (n : ℕ) → 100 ≤ n → n < 1000 → decimal n ≡ (48 + n / 10 / 10 % 10) ∷ (48 + n / 10 % 10) ∷ (48 + n % 10) ∷ []
three n least most =
    step n ((48 + n / 10 / 10 % 10) ∷ (48 + n / 10 % 10) ∷ []) (omega (arith, least)) (omega (arith, most))
    (two (n / 10) (omega (arith, least)) (omega (arith, most)))

four : (n : ℕ) → 1000 ≤ n → n < 10000 →
    decimal n ≡ (48 + n / 10 / 10 / 10 % 10) ∷ (48 + n / 10 / 10 % 10) ∷ (48 + n / 10 % 10) ∷ (48 + n % 10) ∷ []
four n least most =
    step n ((48 + n / 10 / 10 / 10 % 10) ∷ (48 + n / 10 / 10 % 10) ∷ (48 + n / 10 % 10) ∷ []) (omega (arith, least))
    most
    (three (n / 10) (omega (arith, least)) (omega (arith, most)))

-- the digits of a number, pushed one by one after what stands there
pub push_one : (n a : ℕ) (old new : List ℕ) → n < 10 → a ≡ 48 + n % 10 → new ≡ old ++ a ∷ [] → new ≡ old ++ decimal n
push_one n a old new most digit put = put ∙ ap (λ d. old ++ d ∷ []) digit ∙ ap (λ ds. old ++ ds) (sym (one n most))

pub push_two : (n b a : ℕ) (old first new : List ℕ) → 10 ≤ n → n < 100 → b ≡ 48 + n / 10 % 10 → a ≡ 48 + n % 10 →
    first ≡ old ++ b ∷ [] → new ≡ first ++ a ∷ [] → new ≡ old ++ decimal n
push_two n b a old first new least most tens ones put then =
    then ∙ ap (λ xs. xs ++ a ∷ []) put ∙ append_assoc old (b ∷ []) (a ∷ [])
    ∙ (λ i. old ++ tens i ∷ ones i ∷ []) ∙ ap (λ ds. old ++ ds) (sym (two n least most))

pub push_three : (n c b a : ℕ) (old first second new : List ℕ) → 100 ≤ n → n < 1000 → c ≡ 48 + n / 10 / 10 % 10 →
    b ≡ 48 + n / 10 % 10 →
    a ≡ 48 + n % 10 → first ≡ old ++ c ∷ [] → second ≡ first ++ b ∷ [] → new ≡ second ++ a ∷ [] → new ≡ old ++ decimal n
push_three n c b a old first second new least most hundreds tens ones put then last =
    last ∙ ap (λ xs. xs ++ a ∷ []) (then ∙ ap (λ xs. xs ++ b ∷ []) put ∙ append_assoc old (c ∷ []) (b ∷ []))
    ∙ append_assoc old (c ∷ b ∷ []) (a ∷ [])
    ∙ (λ i. old ++ hundreds i ∷ tens i ∷ ones i ∷ []) ∙ ap (λ ds. old ++ ds) (sym (three n least most))

pub push_four : (n d c b a : ℕ) (old first second third new : List ℕ) → 1000 ≤ n → n < 10000 →
    d ≡ 48 + n / 10 / 10 / 10 % 10 →
    c ≡ 48 + n / 10 / 10 % 10 → b ≡ 48 + n / 10 % 10 → a ≡ 48 + n % 10 → first ≡ old ++ d ∷ [] →
    second ≡ first ++ c ∷ [] →
    third ≡ second ++ b ∷ [] → new ≡ third ++ a ∷ [] → new ≡ old ++ decimal n
push_four n d c b a old first second third new least most thousands hundreds tens ones put then third_is last =
    last ∙ ap (λ xs. xs ++ a ∷ [])
    (third_is ∙ ap (λ xs. xs ++ b ∷ []) (then ∙ ap (λ xs. xs ++ c ∷ []) put ∙ append_assoc old (d ∷ []) (c ∷ []))
    ∙ append_assoc old (d ∷ c ∷ []) (b ∷ []))
    ∙ append_assoc old (d ∷ c ∷ b ∷ []) (a ∷ [])
    ∙ (λ i. old ++ thousands i ∷ hundreds i ∷ tens i ∷ ones i ∷ []) ∙ ap (λ ds. old ++ ds) (sym (four n least most))
