-- What single lines of a report say.
use Rattle.std.proofs.Common.{◌≡◌, ℕ, ◌+◌, ◌≤◌, ◌<◌, ◌^◌, List, [], ◌∷◌, ◌++◌, refl, ap, ◌∙◌, arith}
use Rattle.std.proofs.Common.{Some}
use Rattle.std.specs.Prelude.{All, codes, option_map}
use Rattle.std.specs.Fmt.{decimal}
use Rattle.std.specs.List.{AllByRecursion, flat_map, join_by}
use Rattle.std.proofs.lemmas.List.Elements.{All-nil, All-cons}
use Rattle.msg_core.specs.declared.packet.View.{View}
use Rattle.script_mean.specs.Words.{Word, words_of}
use Rattle.script_mean.specs.EventText.{hex_text, IsSayable, IsBody as IsScriptBody}
use Rattle.audit_mean.specs.Line.{ReportLine, deliver, view, end, silent, any_line, line_said}
use Rattle.audit_mean.specs.Line as said_line
use Rattle.audit_mean.specs.Report.{running, stage_after}
use Rattle.packet_mean.specs.ChainedState.{IsNumber, IsBody}
use Rattle.member_laws.specs.Members.{IsView}
use Rattle.member_laws.proofs.Members.{all_of}
use Rattle.run_mean.specs.Lines.{line, deliver_line, view_line, out_line}
use Rattle.run_mean.specs.Report.{end_line}
use Rattle.report_laws.proofs.Clear.{Clear, clear_text, clear_both, clear_flat, decimal_clear, body_clear}
use Rattle.report_laws.proofs.Words.{IsWord, words_back, first_word, said_number, number_back, rank_back, number_word}
use Rattle.report_laws.proofs.Words.{body_word, body_back, verb, digits_word, decimal_digits}

-- a line, and what it says
pub record Says (l : List ℕ) (x : ReportLine) : Type 0 where
  pub text : List ℕ
  pub written : l ≡ text ++ 10 ∷ []
  pub whole : Clear 10 text
  pub said : line_said text ≡ Some x

-- one after which a report goes on
pub record SaysOn (l : List ℕ) (x : ReportLine) : Type 0 where
  pub says : Says l x
  pub stays : stage_after running x ≡ Some running

-- the text of a line of these words
abbrev words_text : List (List ℕ) → List ℕ
words_text words = join_by (λ word. word) (codes " ") words

text_whole : (first : List ℕ) (more : List (List ℕ)) → Clear 10 first → AllByRecursion (Clear 10) more →
    Clear 10 (words_text (first ∷ more))
text_whole first more h all =
    clear_both 10 first (flat_map (λ w. codes " " ++ w) more) h
    (clear_flat 10 (codes " ") (clear_text 10 (codes " ") refl) more all)

-- a line whose first word no law looks at, whatever follows
pub skipped : (first next : List ℕ) (more : List (List ℕ)) → IsWord first → Clear 10 first →
    ((ws : List Word) → any_line (first ∷ ws) ≡ Some (silent, [])) → Clear 10 next → AllByRecursion (Clear 10) more →
    SaysOn (line (first ∷ next ∷ more)) silent
skipped first next more word clear skips next_clear all = record {
  says = record {
    text = words_text (first ∷ next ∷ more);
    written = refl;
    whole = text_whole first (next ∷ more) clear (next_clear, all);
    said =
        ap (λ (ws : List Word). option_map (λ taken. taken.0) (any_line ws))
        (first_word first (next ++ flat_map (λ w. codes " " ++ w) more) word)
        ∙ ap (option_map (λ taken. taken.0)) (skips (words_of (next ++ flat_map (λ w. codes " " ++ w) more)));
  };
  stays = refl;
}

-- a line all of whose words are read
read : (first : List ℕ) (more : List (List ℕ)) (x : ReportLine) → IsWord first → All IsWord more → Clear 10 first →
    AllByRecursion (Clear 10) more → option_map (λ taken. taken.0) (any_line (first ∷ more)) ≡ Some x →
    Says (line (first ∷ more)) x
read first more x word words clear all is = record {
  text = words_text (first ∷ more);
  written = refl;
  whole = text_whole first more clear all;
  said = ap (λ (ws : List Word). option_map (λ taken. taken.0) (any_line ws)) (words_back first more word words) ∙ is;
}

-- lists of words

one : (a : Word) → IsWord a → All IsWord (a ∷ [])
one a ha = All-cons IsWord a [] ha (All-nil IsWord)

and_one : (a : Word) (more : List Word) → IsWord a → All IsWord more → All IsWord (a ∷ more)
and_one a more ha all = All-cons IsWord a more ha all

sayable : (n : ℕ) → IsNumber n → IsSayable n
sayable n small = omega (arith, small)

few : (id : ℕ) → id ≤ 31 → IsSayable id
few id most = omega (arith, most)

body_is : (body : List ℕ) → IsBody body → IsScriptBody body
body_is body is = record {
  bytes = all_of (λ byte. byte < 256) body is.bytes;
  most = omega (arith, is.within);
}

module _ (id : ℕ) (most : id ≤ 31) where
  -- the words of a delivery
  delivered_words : (what : List ℕ) (peer : ℕ) (body : List ℕ) → IsWord what → IsNumber peer → IsBody body →
      All IsWord (decimal id ∷ what ∷ decimal peer ∷ hex_text body ∷ [])
  delivered_words what peer body word n is =
      and_one (decimal id) (what ∷ decimal peer ∷ hex_text body ∷ []) (number_word id (few id most))
      (and_one what (decimal peer ∷ hex_text body ∷ []) word
      (and_one (decimal peer) (hex_text body ∷ []) (number_word peer (sayable peer n))
      (one (hex_text body) (body_word body (body_is body is)))))

  delivered_clear : (what : List ℕ) (peer : ℕ) (body : List ℕ) → Clear 10 what →
      AllByRecursion (Clear 10) (decimal id ∷ what ∷ decimal peer ∷ hex_text body ∷ [])
  delivered_clear what peer body h =
      (decimal_clear 10 id (omega arith), (h, (decimal_clear 10 peer (omega arith), (body_clear body, tt))))

  pub cast_says : (peer : ℕ) (body : List ℕ) → IsNumber peer → IsBody body →
      SaysOn (deliver_line id (codes "cast") peer body) (deliver id peer (hex_text body))
  cast_says peer body n is = record {
    says = read (codes "deliver") (decimal id ∷ codes "cast" ∷ decimal peer ∷ hex_text body ∷ [])
        (deliver id peer (hex_text body)) (verb (codes "deliver") refl)
        (delivered_words (codes "cast") peer body (verb (codes "cast") refl) n is)
        (clear_text 10 (codes "deliver") refl)
        (delivered_clear (codes "cast") peer body (clear_text 10 (codes "cast") refl))
        (rw (rank_back id most, said_number peer (sayable peer n), body_back body (body_is body is)) refl);
    stays = refl;
  }

  pub send_says : (peer : ℕ) (body : List ℕ) → IsNumber peer → IsBody body →
      SaysOn (deliver_line id (codes "send") peer body) silent
  send_says peer body n is = record {
    says = read (codes "deliver") (decimal id ∷ codes "send" ∷ decimal peer ∷ hex_text body ∷ []) silent
        (verb (codes "deliver") refl) (delivered_words (codes "send") peer body (verb (codes "send") refl) n is)
        (clear_text 10 (codes "deliver") refl)
        (delivered_clear (codes "send") peer body (clear_text 10 (codes "send") refl))
        (rw (rank_back id most, said_number peer (sayable peer n), body_back body (body_is body is)) refl);
    stays = refl;
  }

  pub view_says : (v : View) → IsView v → SaysOn (view_line (codes "view") id v) (view id v.ltime v.mask)
  view_says v is = record {
    says = read (codes "view") (decimal id ∷ decimal v.ltime ∷ decimal v.mask ∷ []) (view id v.ltime v.mask)
        (verb (codes "view") refl)
        (and_one (decimal id) (decimal v.ltime ∷ decimal v.mask ∷ []) (number_word id (few id most))
        (and_one (decimal v.ltime) (decimal v.mask ∷ []) (number_word v.ltime (sayable v.ltime is.ltime))
        (one (decimal v.mask) (number_word v.mask (sayable v.mask is.mask)))))
        (clear_text 10 (codes "view") refl) (
          decimal_clear 10 id (omega arith),
          (decimal_clear 10 v.ltime (omega arith), (decimal_clear 10 v.mask (omega arith), tt)),
        )
        (rw (
          rank_back id most,
          said_number v.ltime (sayable v.ltime is.ltime),
          said_number v.mask (sayable v.mask is.mask),
        ) refl);
    stays = refl;
  }

  pub out_says : SaysOn (out_line id) (said_line.out id)
  out_says = record {
    says = read (codes "out") (decimal id ∷ []) (said_line.out id) (verb (codes "out") refl)
        (one (decimal id) (number_word id (few id most))) (clear_text 10 (codes "out") refl)
        (decimal_clear 10 id (omega arith), tt) (rw (rank_back id most) refl);
    stays = refl;
  }

pub end_says : (n : ℕ) → n < 2 ^ 64 → Says (end_line n) end
end_says n small =
    read (codes "end") (decimal n ∷ []) end (verb (codes "end") refl)
    (one (decimal n) (digits_word (decimal n) (decimal_digits n small))) (clear_text 10 (codes "end") refl)
    (decimal_clear 10 n (omega arith), tt)
    (rw (number_back 0 18446744073709551615 n (omega arith) (omega (arith, small)) small) refl)
