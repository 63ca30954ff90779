use Rattle.std.proofs.Common.{◌≡◌, true, ◌&&◌, refl, sym, ◌∙◌, subst}
use Rattle.ssa_model.specs.definitions.Lawful.{is_lawful}
use Rattle.ssa_json.specs.View.{view}
use Rattle.ssa_schema.specs.Schemas.{Faults}
use Rattle.ssa_schema.specs.Kinds.{kind_view}
use Rattle.ssa_schema.proofs.Apart.{read-leaves}
use Rattle.ssa_schema.proofs.Lawful.{read-root}
use Rattle.ssa_schema.proofs.Metadata.{read-metadata}
use Rattle.ssa_schema.proofs.Reading.{reading_is}
use Rattle.ssa_schema.proofs.schema.Schema.read.Goals as goal

pub returns-in-Ok : goal.returns-in-Ok
returns-in-Ok c = (refl, reading_is (view c.args.schema) ∙ c.in-Ok.ensures.kind)

pub returns-in-Err : goal.returns-in-Err
returns-in-Err c = subst (λ r. Faults c.in-Err.fault r) (sym (reading_is (view c.args.schema))) c.in-Err.ensures.kind

pub invariant_of-result : goal.invariant_of-result
invariant_of-result c =
    let read = reading_is (view c.args.schema) ∙ c.in-Ok.ensures.kind in
    let root = read-root (view c.args.schema) (kind_view c.in-Ok.kind) read in
    let metadata = read-metadata (view c.args.schema) (kind_view c.in-Ok.kind) read in
    let lawful : is_lawful (kind_view c.in-Ok.kind) ≡ true = λ i. root i && (c.in-Ok.ensures.ordered i && metadata i) in
    (record { lawful = lawful; apart = read-leaves (view c.args.schema) (kind_view c.in-Ok.kind) read }, read)
