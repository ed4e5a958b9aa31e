use Rattle.pool_message.proofs.Stays.{message_stays, any_stays, row_stays, event_stays, sent_stay}
use Rattle.pool_message.proofs.laws.what_lies_stays.Goals as goal

pub returns-clause-message : goal.returns-clause-message
returns-clause-message c = message_stays

pub returns-clause-any : goal.returns-clause-any
returns-clause-any c = any_stays

pub returns-clause-row : goal.returns-clause-row
returns-clause-row c = row_stays

pub returns-clause-event : goal.returns-clause-event
returns-clause-event c = event_stays

pub returns-clause-sent : goal.returns-clause-sent
returns-clause-sent c = sent_stay
