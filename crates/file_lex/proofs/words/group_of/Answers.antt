use Rattle.std.proofs.Common.{rules, sym, ap}
use Rattle.std.specs.Option.{option_map}
use Rattle.file_lex.proofs.Rows.{group_at, group_below, group_past}
use Rattle.file_lex.proofs.words.group_of.Goals as goal

pub returns-then-first-base : goal.returns-then-first-base
returns-then-first-base g c =
    sym (ap (option_map (λ group. group.1.now))
    (group_below c.args.base c.args.first c.args.groups.now c.requires (search rules)))

pub returns-then-place-groups : goal.returns-then-place-groups
returns-then-place-groups g c =
    sym (ap (option_map (λ group. group.1.now))
    (group_at c.args.base c.args.first c.from-place.result c.args.groups.now _ c.requires (search rules)
    (search rules)))

pub returns-else-place-groups : goal.returns-else-place-groups
returns-else-place-groups g c =
    sym (ap (option_map (λ group. group.1.now))
    (group_past c.args.base c.args.first c.from-place.result c.args.groups.now c.requires (search rules)
    (search rules)))
