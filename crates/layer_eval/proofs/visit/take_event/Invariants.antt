use Rattle.layer_eval.proofs.visit.take_event.Given as goal

abbrev pub ghosts-take_from : goal.ghosts-take_from
ghosts-take_from g a = record {
  begun = record {
    pool = a.pool.now;
    refs = g.D.Desk.refs a.desk.now;
    layout = g.D.Desk.layout a.desk.now;
    list = g.D.Desk.list a.desk.now;
    forms = g.D.Desk.forms a.desk.now;
  };
}
