-- Laws of the packets from which arrows lead.
use Rattle.std.proofs.Common.{◌≡◌, refl, ap, subst, ◌∙◌, Bool, true, false, List, [], ◌∷◌, ◌++◌, Option, Some, None}
use Rattle.std.proofs.Common.{append_assoc, append-nil, sym}
use Rattle.std.specs.Prelude.{IfSome, fold, if◌then◌else◌}
use Rattle.std.proofs.lemmas.List.Elements.{All-head, All-tail, Contains-push, Contains-append_left}
use Rattle.std.proofs.lemmas.List.Sums.{fold-append}
use Rattle.script_mean.specs.Words.{Word}
use Rattle.chart_mean.specs.Arrows.{IsFoundIn, NoneCarries}
use Rattle.chart_mean.specs.Mark.{bearer, bearer_next, carries, sender_of}
use Rattle.chart_mean.specs.Place.{Line}
use Rattle.chart_mean.specs.declared.types.SentPacket.{SentPacket}

module _ (told : Bool) (word : Word) where
  abbrev bears_not : Line → Type 0
  bears_not line = carries told word line.says ≡ false

  abbrev sent_at : Line → Option SentPacket
  sent_at line = Some (record { x = line.x; member = sender_of line.says })

  -- lines of which none is found leave what was found
  kept : (found : Option SentPacket) (lines : List Line) → NoneCarries told word lines →
      fold (bearer_next told word) found lines ≡ found
  kept found [] none = refl
  kept found (line ∷ lines) none =
      ap (λ b. fold (bearer_next told word) (if b then sent_at line else found) lines)
      (All-head bears_not line lines none)
      ∙ kept found lines (All-tail bears_not line lines none)

  pub last_found : (before between : List Line) (sent : Line) → carries told word sent.says ≡ true →
      NoneCarries told word between →
      bearer told (before ++ sent ∷ between) word ≡ Some (record { x = sent.x; member = sender_of sent.says })
  last_found before between sent is none =
      let start = fold (bearer_next told word) None before in
      fold-append (bearer_next told word) None before (sent ∷ between)
      ∙ ap (λ b. fold (bearer_next told word) (if b then sent_at sent else start) between) is
      ∙ kept (sent_at sent) between none

  grown : (front : List Line) (line : Line) (found : Option SentPacket) → IfSome found (IsFoundIn told word front) →
      IfSome (bearer_next told word found line) (IsFoundIn told word (front ++ line ∷ []))
  grown front line found h = by (carries told word line.says) refl where
    stays : (was : Option SentPacket) → IfSome was (IsFoundIn told word front) →
        IfSome was (IsFoundIn told word (front ++ line ∷ []))
    stays None was = tt
    stays (Some sent) was = record {
      line = was.line;
      stands = Contains-append_left front (line ∷ []) was.line was.stands;
      found = was.found;
      place = was.place;
      sender = was.sender;
    }

    by : (b : Bool) → carries told word line.says ≡ b →
        IfSome (if b then sent_at line else found) (IsFoundIn told word (front ++ line ∷ []))
    by true is =
        record { line = line; stands = Contains-push front line; found = is; place = refl; sender = refl }
    by false is = stays found h

  walked : (front lines : List Line) (found : Option SentPacket) → IfSome found (IsFoundIn told word front) →
      IfSome (fold (bearer_next told word) found lines) (IsFoundIn told word (front ++ lines))
  walked front [] found h = subst (λ all. IfSome found (IsFoundIn told word all)) (sym (append-nil front)) h
  walked front (line ∷ lines) found h =
      subst (λ all. IfSome (fold (bearer_next told word) (bearer_next told word found line) lines)
      (IsFoundIn told word all))
      (append_assoc front (line ∷ []) lines)
      (walked (front ++ line ∷ []) lines (bearer_next told word found line) (grown front line found h))

  pub only_found : (before : List Line) → IfSome (bearer told before word) (IsFoundIn told word before)
  only_found before = walked [] before None tt
