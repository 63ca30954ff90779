use Rattle.std.proofs.Common.{◌≡◌, ap, sym, subst, true, ◌∙◌}
use Rattle.ssa_model.specs.definitions.Schema.{with_field}
use Rattle.ssa_schema.specs.Kinds.{kind_view, fields_view}
use Rattle.ssa_schema.proofs.Fields.{fields-insert}
use Rattle.ssa_schema.proofs.Ordered.{all_ordered, fields-ordered, ordered-inside, ordered-insert}
use Rattle.ssa_schema.proofs.read.metadata.with_field.Goals as goal

pub returns-clause-fields : goal.returns-clause-fields
returns-clause-fields c =
    ap fields_view c.in_ok-insert.ensures.entries ∙ fields-insert c.in_ok-key.key c.args.kind c.args.fields.entries
    ∙ ap (λ n. with_field n (kind_view c.args.kind) (fields_view c.args.fields.entries)) c.in_ok-key.ensures.ok

pub returns-clause-ordered : goal.returns-clause-ordered
returns-clause-ordered c own rest =
    let made = c.insert.new.self.entries in
    fields-ordered made c.insert.ensures.ordered
    (subst (λ fs. all_ordered fs ≡ true) (sym c.in_ok-insert.ensures.entries)
    (ordered-insert c.in_ok-key.key c.args.kind c.args.fields.entries own (ordered-inside c.args.fields.entries rest)))
