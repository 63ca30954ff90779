use Rattle.std.proofs.Common.{◌-◌, length, take, drop, ◌&&◌, sym, ap, ◌∙◌, rules}
use Rattle.ssa_schema.specs.Repeats.{same_row, scalars_view}
use Rattle.ssa_schema.proofs.Rows.{same_lists}
use Rattle.ssa_schema.proofs.fit.item_key.+are_same_rows.Goals as goal

pub returns-then-same : goal.returns-then-same
returns-then-same t c =
    c.are_same_rows.ensures
    ∙ ap (λ b. b && same_row (scalars_view (take (length c.args.scalars.now - 1) (drop 1 c.args.scalars.now)))
    (scalars_view (take (length c.args.others.now - 1) (drop 1 c.args.others.now)))) (sym c.if-same.true ∙ c.same.ensures.test)
    ∙ same_lists c.args.scalars.now c.args.others.now c.first-item.result c.other-item.result (search rules) (search rules) c.first-item.is c.other-item.is

pub returns-else-same : goal.returns-else-same
returns-else-same t c =
    c.if-same.false
    ∙ ap (λ b. b && same_row (scalars_view (take (length c.args.scalars.now - 1) (drop 1 c.args.scalars.now)))
    (scalars_view (take (length c.args.others.now - 1) (drop 1 c.args.others.now)))) (sym c.if-same.false ∙ c.same.ensures.test)
    ∙ same_lists c.args.scalars.now c.args.others.now c.first-item.result c.other-item.result (search rules) (search rules) c.first-item.is c.other-item.is
