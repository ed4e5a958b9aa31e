-- The peers and the turns of a plan, line by line.
use Rattle.std.proofs.Common.{◌≡◌, ℕ, zero, suc, ◌+◌, ◌-◌, ◌<◌, ◌≤◌, List, [], ◌∷◌, ◌++◌, length, take, drop, Result}
use Rattle.std.proofs.Common.{Ok, Err, refl, sym, ap, ◌∙◌, arith}
use Rattle.std.proofs.lemmas.List.{append-nil, length-append}
use Rattle.outside.specs.declared.links.Peer.{Peer}
use Rattle.script_mean.specs.Event.{said_by}
use Rattle.script_mean.specs.PlanLine.{peer_line}
use Rattle.script_mean.specs.NodePlan.{for_each, peers_of, turn_of, turns_of}
use Rattle.script_mean.specs.Script.{ScriptFault, too_long, bad_line, no_member, ◌>>=◌, in_form}
use Rattle.script_mean.specs.declared.event.ScriptEvent.{ScriptEvent}
use Rattle.script_text.specs.Answer.{Answers}
use Rattle.script_text.specs.Plan.{first_peers}
use Rattle.script_text.specs.declared.error.ScriptError.{ScriptError}
use Rattle.script_text.specs.declared.error.ScriptError.TheVariants.{TooLong, BadLine, NoMember, Memory}
use Rattle.script_text.proofs.Faults.{front_more, with_front}

-- the peers of n members that are read so far, and the lines after theirs
pub record PeersSoFar (members done : ℕ) (lines left : List (ℕ × List ℕ)) (peers : List Peer) : Type 0 where
  pub spelled : with_front peers (peers_of done (take (members - done) left)) ≡ peers_of 0 (take members lines)
  pub following : left ≡ drop done lines
  pub count : length peers ≡ done
  pub few : done ≤ members

dropped : (k : ℕ) (xs ys : List (ℕ × List ℕ)) (x : ℕ × List ℕ) → drop k xs ≡ x ∷ ys → ys ≡ drop (suc k) xs
dropped zero [] ys x e = absurd cc
dropped zero (a ∷ xs) ys x e = cc
dropped (suc k) [] ys x e = absurd cc
dropped (suc k) (a ∷ xs) ys x e = dropped k xs ys x e

no_peer : (peers : List Peer) (whole : Result (List Peer) ScriptFault) → with_front peers (Ok []) ≡ whole →
    whole ≡ Ok peers
no_peer peers whole e = sym e ∙ ap Ok (append-nil peers)

-- at first none is read
pub no_peers : (members : ℕ) (lines : List (ℕ × List ℕ)) → PeersSoFar members 0 lines lines []
no_peers members lines =
    record {
      spelled = let all : members - 0 ≡ members = omega arith in
          rw all (plain (peers_of 0 (take members lines)));
      following = refl;
      count = refl;
      few = omega arith;
    }
  where
    plain : (read : Result (List Peer) ScriptFault) → with_front [] read ≡ read
    plain (Ok read) = refl
    plain (Err fault) = refl

-- one more
pub one_more_peer : (members done : ℕ) (lines left rest : List (ℕ × List ℕ)) (line : ℕ × List ℕ) (peers : List Peer)
    (peer : Peer) → done < members → PeersSoFar members done lines left peers → left ≡ line ∷ rest →
    in_form line.0 (said_by (peer_line done) line.1) ≡ Ok peer →
    PeersSoFar members (done + 1) lines rest (peers ++ peer ∷ [])
one_more_peer members done lines left rest line peers peer inside so_far split reads =
    let next : members - done ≡ suc (members - (done + 1)) = omega arith in
    let one : done + 1 ≡ suc done = omega arith in
    record {
      spelled = front_more peers peer (peers_of (done + 1) (take (members - (done + 1)) rest)) ∙
          rw (next, split, reads) at so_far.spelled;
      following = rw one (dropped done lines rest line (sym so_far.following ∙ split));
      count = let long = length-append peers (peer ∷ []) in omega (arith, so_far.count);
      few = omega arith;
    }

-- a fault of a part is the fault of the whole
pub passed_on : {A B : Type 0} (part : Result A ScriptFault) (whole : Result B ScriptFault) (e : ScriptError) →
    Answers part (Err e) → ((fault : ScriptFault) → part ≡ Err fault → whole ≡ Err fault) → Answers whole (Err e)
passed_on part whole TooLong h on = on too_long h
passed_on part whole (BadLine line) h on = on (bad_line line) h
passed_on part whole (NoMember line) h on = on (no_member line) h
passed_on part whole Memory h on = tt

-- a line that says no peer
pub bad_peer : (members following done : ℕ) (lines left rest : List (ℕ × List ℕ)) (line : ℕ × List ℕ)
    (peers : List Peer)
    (fault : ScriptFault) → done < members → PeersSoFar members done lines left peers → left ≡ line ∷ rest →
    in_form line.0 (said_by (peer_line done) line.1) ≡ Err fault → first_peers members following lines ≡ Err fault
bad_peer members following done lines left rest line peers fault inside so_far split reads =
    let next : members - done ≡ suc (members - (done + 1)) = omega arith in
    ap (λ found. found >>= for_each members following) (sym (rw (next, split, reads) at so_far.spelled))

-- one more turn
pub one_more_turn : (members earliest : ℕ) (front : List (ℕ × ScriptEvent)) (line : ℕ × List ℕ) (turn : ℕ × ScriptEvent)
    (all following : List (ℕ × List ℕ)) (whole : Result (List (ℕ × ScriptEvent)) ScriptFault) → all ≡ line ∷ following →
    turn_of members earliest line ≡ Ok turn → with_front front (turns_of members earliest all) ≡ whole →
    with_front (front ++ turn ∷ []) (turns_of members turn.0 following) ≡ whole
one_more_turn members earliest front line turn all following whole split reads e =
    front_more front turn (turns_of members turn.0 following) ∙ rw (split, reads) at e
