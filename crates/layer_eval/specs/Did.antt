-- What statements and visits leave at a desk.
use Rattle.std.specs.Prelude.{◌≡◌, ℕ, Bool, true, false, ◌&&◌, List, [], ◌∷◌, ◌++◌, None}
use Rattle.layer_words.specs.declared.sorts.Likely.{Likely}
use Rattle.layer_words.specs.declared.sorts.Likely.TheVariants as likely
use Rattle.layer_mean.specs.declared.run.Case.TheVariants.{First, Second}
use Rattle.layer_mean.specs.Tree.{StatementTree, StatementTrees}
use Rattle.layer_mean.specs.Effect.{Decision, usual, unusual, forked, all_as, Outcome, in_order, does, acts}
use Rattle.layer_mean.specs.Visit.{no_scope}
use Rattle.layer_desk.specs.Laid.{Laid}
use Rattle.layer_eval.specs.declared.predicted.Predicted.{Predicted}

-- Whether decisions went as predicted, in each case.
abbrev pub as_predicted : List Decision → Predicted
as_predicted ds = record { first = all_as First ds; second = all_as Second ds }

-- Whether decisions here and decisions there went as predicted.
abbrev pub both : Predicted → Predicted → Predicted
both p q = record { first = p.first && q.first; second = p.second && q.second }

-- The decision that a condition is.
abbrev pub decision : Bool → Likely → Decision
decision true likely.First = usual
decision true likely.Else = unusual
decision true likely.Two = forked First
decision false likely.First = unusual
decision false likely.Else = usual
decision false likely.Two = forked Second

-- What a statement does to what lies on a desk, and what a block does.
abbrev pub statement_does : ℕ → StatementTree → Laid → Outcome
statement_does place x p = does place x p.state p.scope

abbrev pub block_does : ℕ → StatementTrees → Laid → Outcome
block_does place b p = in_order (acts place b) p.state p.scope

-- An outcome came about: its state and its scope lie there, its events were sent after the others, the hand is as
-- before, and what is known of whether all went as predicted now includes its decisions.
pub record Did (o : Outcome) (old new : Laid) (before now : Predicted) : Type 0 where
  pub state : new.state ≡ o.state
  pub scope : new.scope ≡ o.scope
  pub arrived : new.arrived ≡ old.arrived
  pub hand : new.hand ≡ old.hand
  pub sent : new.sent ≡ old.sent ++ o.sent
  pub predicted : now ≡ both (as_predicted o.decided) before

-- An outcome came about, and with it the visit ended: beside its state and its events it leaves nothing.
pub record Ended (o : Outcome) (old new : Laid) (before now : Predicted) : Type 0 where
  pub shown : new ≡ record {
    state = o.state;
    scope = no_scope;
    arrived = None;
    hand = old.hand;
    sent = old.sent ++ o.sent;
  }
  pub predicted : now ≡ both (as_predicted o.decided) before

-- A statement that looks for a row in vain and does nothing else, where that is said.
abbrev pub FindsNothing : Bool → StatementTree → Laid → Type 0
FindsNothing true tree p = (place : ℕ) →
    statement_does place tree p ≡ record { state = p.state; scope = p.scope; sent = []; decided = unusual ∷ [] }
FindsNothing false tree p = Unit {0}
