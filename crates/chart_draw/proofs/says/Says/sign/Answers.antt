use Rattle.std.proofs.Common.{refl}
use Rattle.chart_draw.proofs.says.Says.sign.Goals as goal

pub returns-in-Deliver : goal.returns-in-Deliver
returns-in-Deliver c = rw c.in-Deliver.is refl

pub returns-in-Packet : goal.returns-in-Packet
returns-in-Packet c = rw c.in-Packet.is refl

pub returns-in-View : goal.returns-in-View
returns-in-View c = rw c.in-View.is refl

pub returns-in-Out : goal.returns-in-Out
returns-in-Out c = rw c.in-Out.is refl

pub returns-in-Other : goal.returns-in-Other
returns-in-Other c = rw c.in-Other.is refl

pub returns-in-Give : goal.returns-in-Give
returns-in-Give c = rw c.in-Give.is refl

pub returns-in-Ask : goal.returns-in-Ask
returns-in-Ask c = rw c.in-Ask.is refl

pub returns-in-Befall : goal.returns-in-Befall
returns-in-Befall c = rw c.in-Befall.is refl

pub returns-in-Aside : goal.returns-in-Aside
returns-in-Aside c = rw c.in-Aside.is refl
