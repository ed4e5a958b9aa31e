-- Token after token, a part is cut.
use Rattle.std.proofs.Common.{◌≡◌, ◌<◌, ◌≤◌, ◌+◌, ℕ, suc, Bool, true, false, not, ◌&&◌, cond, List, [], ◌∷◌, ◌++◌}
use Rattle.std.proofs.Common.{length, take, drop, Option, Some, None, refl, sym, ap, subst, ◌∙◌, arith, append_assoc}
use Rattle.std.proofs.Common.{append-nil, length-append}
use Rattle.std.proofs.lemmas.List.{append_cancel_left, nil_from_length, take-append-drop}
use Rattle.std.proofs.lemmas.List.Folds.{list_all-append}
use Rattle.std.proofs.Math.Seq.{take-append_seam, drop-append_seam}
use Rattle.std.specs.List.{list_all, prefix_len}
use Rattle.layer_words.specs.declared.places.At.{At}
use Rattle.layer_ast.specs.declared.tokens.Lexed.{Lexed}
use Rattle.layer_ast.specs.Cut.{Piece, gap, one, bad, Tokens, piece, with_piece, cut_from, place_after}
use Rattle.file_lex.specs.declared.Left.{Left}
use Rattle.file_lex.specs.Parts.{begins_part, part_length, unless_bad, CutsPart}
use Rattle.file_lex.specs.Pieces.{GoesOn, with_front, begins_at, left_of, IsAfter, StopsBefore, StopsBad}
use Rattle.file_lex.proofs.Cutting.{Cutting}

-- no part begins at any of these tokens
abbrev begin_none : List Lexed → Bool
begin_none tokens = list_all (λ l. not (begins_part l.token)) tokens

-- the tokens that were added so far are the front of one part, where one part is to be cut
pub record InPart (to_end : Bool) (old new : List Lexed) : Type 0 where
  pub added : List Lexed
  pub grown : new ≡ old ++ added
  pub inner : to_end ≡ false → begin_none (drop 1 added) ≡ true

-- none was added yet
pub none_yet : (to_end : Bool) (old : List Lexed) → InPart to_end old old
none_yet to_end old = record { added = []; grown = sym (append-nil old); inner = λ _. refl }

-- one more is in the part, if it is the first or begins none
still_in : (added : List Lexed) (l : Lexed) → begin_none (drop 1 added) ≡ true →
    (begins_part l.token ≡ true → length added ≡ 0) →
    begin_none (drop 1 (added ++ l ∷ [])) ≡ true
still_in [] l inner first = refl
still_in (a ∷ rest) l inner first = by_token (begins_part l.token) refl
  where
    by_token : (b : Bool) → begins_part l.token ≡ b → begin_none (rest ++ l ∷ []) ≡ true
    by_token true is = absurd (omega (arith, first is))
    by_token false is =
        list_all-append (λ k. not (begins_part k.token)) rest (l ∷ [])
        ∙ (ap (λ t. t && (not (begins_part l.token) && true)) inner ∙ ap (λ t. not t && true) is)

-- a piece is passed over or taken
pub piece_more : (to_end : Bool) (old now new : List Lexed) (p : Piece) (at : At) (more : Option ℕ) →
    InPart to_end old now →
    GoesOn p at now new more → (to_end ≡ false → begins_at p ≡ true → length now ≤ length old) → InPart to_end old new
piece_more to_end old now new (gap _) at more so_far h first = rw h.0 so_far
piece_more to_end old now new bad at more so_far h first = rw h.0 so_far
piece_more to_end old now new (one token _) at more so_far h first =
    let l : Lexed = record { token = token; at = at } in
    let count : length now ≡ length old + length so_far.added = ap length so_far.grown ∙
    length-append old so_far.added in
    record {
      added = so_far.added ++ l ∷ [];
      grown = h.0 ∙ (ap (λ ts. ts ++ l ∷ []) so_far.grown ∙ append_assoc old so_far.added (l ∷ []));
      inner = λ part. still_in so_far.added l (so_far.inner part) (λ begins. omega (arith, first part begins, count));
    }

-- where tokens may be a whole part, as these are after them
abbrev Ends : List Lexed → List Lexed → Type 0
Ends added [] = Unit {0}
Ends added (l ∷ _) = (begins_part l.token ≡ true) × (0 < length added)

prefix_is : (inner following : List Lexed) → begin_none inner ≡ true → (l : Lexed) → Ends (l ∷ inner) following →
    prefix_len (λ l. not (begins_part l.token)) (inner ++ following) ≡ length inner
prefix_is [] [] none l ends = refl
prefix_is [] (b ∷ bs) none l ends = rw ends.0 refl
prefix_is (a ∷ inner) following none l ends =
    by_token (begins_part a.token) refl none (λ all. prefix_is inner following all l (same_ends following ends))
  where
    same_ends : (following : List Lexed) → Ends (l ∷ a ∷ inner) following → Ends (l ∷ inner) following
    same_ends [] ends = tt
    same_ends (b ∷ bs) ends = (ends.0, omega arith)

    by_token : (b : Bool) → begins_part a.token ≡ b → (not b && begin_none inner) ≡ true →
        (begin_none inner ≡ true → prefix_len (λ l. not (begins_part l.token)) (inner ++ following) ≡ length inner) →
        cond (not (begins_part a.token)) (1 + prefix_len (λ l. not (begins_part l.token)) (inner ++ following)) 0 ≡
        suc (length inner)
    by_token true is none then = cc
    by_token false is none then =
        ap (λ t. cond (not t) (1 + prefix_len (λ l. not (begins_part l.token)) (inner ++ following)) 0) is ∙
        omega (arith, then none)

part_is : (added following : List Lexed) → begin_none (drop 1 added) ≡ true → Ends added following →
    part_length (added ++ following) ≡ length added
part_is [] [] inner ends = refl
part_is [] (b ∷ bs) inner ends = absurd (omega (arith, ends.1))
part_is (a ∷ rest) following inner ends = ap suc (prefix_is rest following inner a ends)

-- the part is whole
part_cut : (old now added : List Lexed) (t whole : Tokens) → now ≡ old ++ added →
    with_front now t ≡ with_front old whole →
    begin_none (drop 1 added) ≡ true → Ends added t.tokens → CutsPart old now whole (unless_bad t.tokens t.bad_at)
part_cut old now added t whole grown same inner ends =
    let tokens : added ++ t.tokens ≡ whole.tokens =
    append_cancel_left old (added ++ t.tokens) whole.tokens
    (sym (append_assoc old added t.tokens) ∙
    (ap (λ ts. ts ++ t.tokens) (sym grown) ∙ ap (λ (w : Tokens). w.tokens) same)) in
    let bad_at : t.bad_at ≡ whole.bad_at = ap (λ (w : Tokens). w.bad_at) same in
    let count : part_length (added ++ t.tokens) ≡ length added = part_is added t.tokens inner ends in
    let front : take (part_length (added ++ t.tokens)) (added ++ t.tokens) ≡ added =
    ap (λ n. take n (added ++ t.tokens)) count ∙ take-append_seam added t.tokens in
    let back : drop (part_length (added ++ t.tokens)) (added ++ t.tokens) ≡ t.tokens =
    ap (λ n. drop n (added ++ t.tokens)) count ∙ drop-append_seam added t.tokens in
    record {
      added = grown ∙ ap (λ ts. old ++ ts) (sym front ∙ ap (λ ts. take (part_length ts) ts) tokens);
      rest =
          ap (λ ts. unless_bad ts t.bad_at) (sym back)
          ∙ (ap (λ ts. unless_bad (drop (part_length ts) ts) t.bad_at) tokens ∙
          ap (unless_bad (drop (part_length whole.tokens) whole.tokens)) bad_at);
    }

-- what begins a part ends the part before it
begins_next : (p : Piece) (at : At) (rest : Bool → ℕ → Tokens) (added : List Lexed) → begins_at p ≡ true →
    0 < length added →
    Ends added (with_piece p at rest).tokens
    × (unless_bad (with_piece p at rest).tokens (with_piece p at rest).bad_at ≡ Some (with_piece p at rest))
    × ((with_piece p at rest).tokens ≡ [] → ⊥)
begins_next (one token n) at rest added begins lt = ((begins, lt), refl, λ none. cc)
begins_next (gap n) at rest added begins lt = cc
begins_next bad at rest added begins lt = cc

module _ (to_end : Bool) (old now : List Lexed) (left : Left) where
  -- the whole of what is left, its tokens after the old ones
  abbrev whole : Tokens
  whole = with_front old (left_of left)

  abbrev size : ℕ
  size = length left.text.now + length old

  following : (next : Left) → Cutting whole 4294967295 size next.text.now next.after_number next.at now →
      ((left_of next).tokens ≡ [] → next.text.now ≡ []) → IsAfter old now left next
  following next c ended = record {
    room = record { line = omega (arith, c.line); col = omega (arith, c.col) };
    fewer = c.fewer;
    ended = ended;
  }

  -- before the next part
  pub at_next : (next : Left) (first : ℕ) (after : List ℕ) (p : Piece) →
      Cutting whole 4294967295 size next.text.now next.after_number next.at now → InPart to_end old now →
      next.text.now ≡ first ∷ after → p ≡ piece next.after_number first after → begins_at p ≡ true →
      length old < length now →
      to_end ≡ false → StopsBefore old now left to_end next
  at_next next first after p c so_far split is begins longer part =
      let count : length now ≡ length old + length so_far.added = ap length so_far.grown ∙
      length-append old so_far.added in
      let some : 0 < length so_far.added = omega (arith, count, longer) in
      let rest : Bool → ℕ → Tokens = λ number n. cut_from number n after (place_after first next.at) in
      let shown : with_piece p next.at rest ≡ left_of next =
      ap (λ q. with_piece q next.at rest) is ∙ ap (λ bytes. cut_from next.after_number 0 bytes next.at) (sym split) in
      let facts = begins_next p next.at rest so_far.added begins some in
      let ends : Ends so_far.added (left_of next).tokens = subst (λ (t : Tokens). Ends so_far.added t.tokens) shown
      facts.0 in
      let good : unless_bad (left_of next).tokens (left_of next).bad_at ≡ Some (left_of next) =
      subst (λ (t : Tokens). unless_bad t.tokens t.bad_at ≡ Some t) shown facts.1 in
      record {
        all = λ to_the_end. cc;
        part = λ _. subst (CutsPart old now (left_of left)) good
            (part_cut old now so_far.added (left_of next) (left_of left) so_far.grown c.same (so_far.inner part) ends);
        following = following next c (λ none. absurd (facts.2 (ap (λ (t : Tokens). t.tokens) shown ∙ none)));
      }

  -- at the end of the text
  pub at_end : (next : Left) → Cutting whole 4294967295 size next.text.now next.after_number next.at now →
      InPart to_end old now →
      length next.text.now ≡ 0 → StopsBefore old now left to_end next
  at_end next c so_far is =
      let none : next.text.now ≡ [] = nil_from_length next.text.now is in
      let shown : left_of next ≡ record { tokens = []; bad_at = None } =
      ap (λ bytes. cut_from next.after_number 0 bytes next.at) none in
      let same : with_front now record { tokens = []; bad_at = None } ≡ with_front old (left_of left) =
      ap (with_front now) (sym shown) ∙ c.same in
      record {
        all = λ _. same;
        part = λ part. subst (λ t. CutsPart old now (left_of left) (Some t)) (sym shown)
            (part_cut old now so_far.added record { tokens = []; bad_at = None } (left_of left) so_far.grown same
            (so_far.inner part) tt);
        following = following next c (λ _. none);
      }

  -- at a bad token
  pub at_bad : (new : List Lexed) (bytes : List ℕ) (number : Bool) (at : At) (first : ℕ) (after : List ℕ) (p : Piece)
      (more : Option ℕ) →
      Cutting whole 4294967295 size bytes number at now → InPart to_end old now → bytes ≡ first ∷ after →
      p ≡ piece number first after →
      GoesOn p at now new more → more ≡ None → StopsBad old new left to_end at
  at_bad new bytes number at first after p more c so_far split is goes none =
      by_piece p goes (ap (λ q. with_piece q at (λ number n. cut_from number n after (place_after first at))) is
      ∙ ap (λ bytes. cut_from number 0 bytes at) (sym split))
    where
      by_piece : (p : Piece) → GoesOn p at now new more →
          with_piece p at (λ number n. cut_from number n after (place_after first at)) ≡ cut_from number 0 bytes at →
          StopsBad old new left to_end at
      by_piece (gap n) h shown = cc
      by_piece (one token n) h shown = cc
      by_piece bad h shown =
          let same : with_front now record { tokens = []; bad_at = Some at } ≡ with_front old (left_of left) =
          ap (with_front now) shown ∙ c.same in
          rw h.0 record {
            all = same;
            part = λ part. part_cut old now so_far.added record { tokens = []; bad_at = Some at } (left_of left)
                so_far.grown same (so_far.inner part) tt;
          }

-- tokens that aren't followed by a bad one at once
not_bad : (tokens : List Lexed) (bad_at : Option At) (t : Tokens) → Some t ≡ unless_bad tokens bad_at →
    t ≡ record { tokens = tokens; bad_at = bad_at }
not_bad [] (Some at) t is = cc
not_bad [] None t is = cc
not_bad (l ∷ tokens) bad_at t is = cc

-- a part and what stands after it make up the whole
pub made_up : (old new : List Lexed) (whole following : Tokens) → CutsPart old new whole (Some following) →
    with_front new following ≡ with_front old whole
made_up old new whole following c =
    let n = part_length whole.tokens in
    let is : following ≡ record { tokens = drop n whole.tokens; bad_at = whole.bad_at } =
    not_bad (drop n whole.tokens) whole.bad_at following c.rest in
    let all : (old ++ take n whole.tokens) ++ drop n whole.tokens ≡ old ++ whole.tokens =
    append_assoc old (take n whole.tokens) (drop n whole.tokens) ∙
    ap (λ ts. old ++ ts) (take-append-drop n whole.tokens) in
    ap (with_front new) is
    ∙ (ap (λ ts. record { tokens = ts ++ drop n whole.tokens; bad_at = whole.bad_at }) c.added
    ∙ ap (λ ts. record { tokens = ts; bad_at = whole.bad_at }) all)
