use Rattle.std.proofs.Common.{rules, ◌≡◌, ◌∙◌, ap, subst, length, map, All, Some, None}
use Rattle.std.specs.List.{find}
use Rattle.layer_mean.specs.Visit.{is_for}
use Rattle.typed_layer.specs.View.{handler_tree}
use Rattle.typed_layer.specs.Table.{IsTagged}
use Rattle.typed_layer.proofs.Table.{code_small, none_beyond, finds_named, finds_none, table_length}
use Rattle.typed_layer.proofs.handlers.Handlers.find.Goals as goal

pub returns-then-tag-ge-TAGS : goal.returns-then-tag-ge-TAGS
returns-then-tag-ge-TAGS c =
    none_beyond c.args.self.now c.args.direction c.args.kind c.args.tag c.if-tag-ge-TAGS.true
    (subst (All IsTagged) c.self.view_is c.self.invariant.1)

pub index-requires : goal.index-requires
index-requires c =
    let all : length c.self.inside.table.items ≡ 192 = ap length c.self.invariant.2 ∙
    table_length 0 c.self.inside.items.items in
    let small = code_small c.args.direction c.args.kind c.args.tag c.if-tag-ge-TAGS.false in
    search (rules, all, small)

pub returns-then-entry-items : goal.returns-then-entry-items
returns-then-entry-items c =
    subst (λ hs. Some (handler_tree c.index-items-entry.result) ≡ find (is_for c.args.direction c.args.kind c.args.tag)
    (map handler_tree hs))
    c.self.view_is
    (finds_named c.self.inside.items.items c.args.direction c.args.kind c.args.tag c.from-entry.result
    c.index-items-entry.result
    c.if-tag-ge-TAGS.false c.self.invariant.1 c.self.invariant.0 (search rules) (search rules) (search rules))

pub returns-else-entry-items : goal.returns-else-entry-items
returns-else-entry-items c =
    subst (λ hs. None ≡ find (is_for c.args.direction c.args.kind c.args.tag) (map handler_tree hs))
    c.self.view_is
    (finds_none c.self.inside.items.items c.args.direction c.args.kind c.args.tag c.from-entry.result
    c.if-tag-ge-TAGS.false c.self.invariant.1 c.self.invariant.0 (search rules) (search rules))
