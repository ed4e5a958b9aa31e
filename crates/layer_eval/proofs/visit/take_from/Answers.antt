use Rattle.std.proofs.Common.{sym, ap, ◌∙◌, option_map}
use Rattle.typed_layer.specs.View.{handler_tree, layer_tree}
use Rattle.layer_eval.proofs.Visits.{some_step, none_step, if_ok}
use Rattle.layer_eval.proofs.visit.take_from.Goals as goal

pub returns-in-Some-clause-visited : goal.returns-in-Some-clause-visited
returns-in-Some-clause-visited g c =
    if_ok _ _ c.run_handler.result
    (λ q visits. some_step c.args.visit.now.place (layer_tree c.args.layer.now) c.args.visit.now.direction
    c.args.visit.now.envelope _ _ _
    c.meet-tag.result c.meet-tag.new.fields (handler_tree c.in-Some.handler.now) q
    (sym c.find.ensures ∙ ap (option_map (λ h. handler_tree h.now)) c.in-Some.is) c.meet-tag.ensures.tag
    c.meet-tag.ensures.fields c.meet-tag.ensures.shown visits)
    c.run_handler.ensures.visited

pub returns-in-None-clause-visited : goal.returns-in-None-clause-visited
returns-in-None-clause-visited g c =
    if_ok _ _ c.pass.result
    (λ q visits. none_step c.args.visit.now.place (layer_tree c.args.layer.now) c.args.visit.now.direction
    c.args.visit.now.envelope _ _ _
    c.meet-tag.result q
    (sym c.find.ensures ∙ ap (option_map (λ h. handler_tree h.now)) c.in-None.is) c.meet-tag.ensures.tag
    c.meet-tag.ensures.shown visits)
    c.pass.ensures.visited
