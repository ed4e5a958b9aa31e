-- What is drawn one after the other.
use Rattle.std.proofs.Common.{◌≡◌, ℕ, suc, ◌+◌, ◌-◌, ◌<◌, ◌≤◌, List, [], ◌∷◌, ◌++◌, refl, sym, ap, ◌∙◌, subst, arith}
use Rattle.std.proofs.Common.{append_assoc}
use Rattle.std.proofs.lemmas.List.{append-nil}
use Rattle.script_mean.specs.Generate.{Drawn, ◌>>=◌, made, a_draw, draws, a_preamble, cut_short, a_datagram}
use Rattle.script_mean.specs.declared.event.ScriptEvent.{ScriptEvent}
use Rattle.script_mean.specs.declared.event.ScriptEvent.TheVariants.{Raw}

-- with `done` of `count` numbers drawn, these and the others are all
pub record DrawnSoFar (count done : ℕ) (front bytes : List ℕ) (start seed : ℕ) : Type 0 where
  pub values : bytes ++ (draws (count - done) 4 seed).0 ≡ front ++ (draws count 4 start).0
  pub following : (draws (count - done) 4 seed).1 ≡ (draws count 4 start).1

pub none_drawn : (count : ℕ) (front : List ℕ) (start : ℕ) → DrawnSoFar count 0 front front start start
none_drawn count front start = let all : count - 0 ≡ count = omega arith in
    record { values = rw all refl; following = rw all refl }

pub one_drawn : (count done : ℕ) (front bytes : List ℕ) (start seed value next : ℕ) → done < count →
    DrawnSoFar count done front bytes start seed → a_draw 4 seed ≡ (value, next) →
    DrawnSoFar count (done + 1) front (bytes ++ value ∷ []) start next
one_drawn count done front bytes start seed value next inside so_far drawn =
    let left : count - done ≡ suc (count - (done + 1)) = omega arith in
    subst (λ (d : ℕ × ℕ). DrawnSoFar count (done + 1) front (bytes ++ d.0 ∷ []) start d.1) drawn record {
      values = append_assoc bytes ((a_draw 4 seed).0 ∷ []) (draws (count - (done + 1)) 4 (a_draw 4 seed).1).0 ∙
          (rw left at so_far.values);
      following = rw left at so_far.following;
    }

pub all_drawn : (count done : ℕ) (front bytes : List ℕ) (start seed : ℕ) → count ≤ done →
    DrawnSoFar count done front bytes start seed → (bytes ≡ front ++ (draws count 4 start).0) ×
    (seed ≡ (draws count 4 start).1)
all_drawn count done front bytes start seed past so_far =
    let none : count - done ≡ 0 = omega arith in
    (sym (append-nil bytes) ∙ (rw none at so_far.values), rw none at so_far.following)

-- a datagram, draw by draw
abbrev with_way : (members member form sender : ℕ) → List ℕ → ℕ → Drawn ScriptEvent
with_way members member form sender rest way = cut_short (a_preamble form members sender ++ rest) way >>= λ bytes.
    made (Raw member bytes)

abbrev with_rest : (members member form sender : ℕ) → List ℕ → Drawn ScriptEvent
with_rest members member form sender rest = a_draw 8 >>= with_way members member form sender rest

abbrev with_count : (members member form sender count : ℕ) → Drawn ScriptEvent
with_count members member form sender count = draws count 4 >>= with_rest members member form sender

abbrev with_sender : (members member form sender : ℕ) → Drawn ScriptEvent
with_sender members member form sender = a_draw 64 >>= with_count members member form sender

abbrev with_form : (members member form : ℕ) → Drawn ScriptEvent
with_form members member form = a_draw members >>= with_sender members member form

pub datagram_drawn : (members member form sender count way s0 s1 s2 s3 s4 s5 s6 : ℕ) (rest bytes : List ℕ) →
    a_draw 2 s0 ≡ (form, s1) → a_draw members s1 ≡ (sender, s2) → a_draw 64 s2 ≡ (count, s3) →
    rest ≡ a_preamble form members sender ++ (draws count 4 s3).0 → s4 ≡ (draws count 4 s3).1 →
    a_draw 8 s4 ≡ (way, s5) → cut_short rest way s5 ≡ (bytes, s6) → a_datagram members member s0 ≡
    (Raw member bytes, s6)
datagram_drawn members member form sender count way s0 s1 s2 s3 s4 s5 s6 rest bytes first second third all following
    fifth
    last =
    ap (λ (d : ℕ × ℕ). with_form members member d.0 d.1) first
    ∙ ap (λ (d : ℕ × ℕ). with_sender members member form d.0 d.1) second
    ∙ ap (λ (d : ℕ × ℕ). with_count members member form sender d.0 d.1) third
    ∙ ap (λ s. with_rest members member form sender (draws count 4 s3).0 s) (sym following)
    ∙ ap (λ (d : ℕ × ℕ). with_way members member form sender (draws count 4 s3).0 d.0 d.1) fifth
    ∙ ap (λ bs. (cut_short bs way >>= λ b. made (Raw member b)) s5) (sym all)
    ∙ ap (λ (d : List ℕ × ℕ). (Raw member d.0, d.1)) last
