use Rattle.std.proofs.Common.{sym, ap, ◌∙◌, subst, Ok}
use Rattle.std.specs.Prelude.{option_map}
use Rattle.ssa_model.specs.definitions.Schema.{with_metadata, metadata_fields}
use Rattle.ssa_json.specs.View.{view}
use Rattle.ssa_schema.specs.Refusals.{refusal_view}
use Rattle.ssa_schema.specs.Schemas.{schema_reading, Faults}
use Rattle.ssa_schema.proofs.Reading.{reading-none, Faults-refusal}
use Rattle.ssa_schema.proofs.schema.read_kind.Goals as goal

pub returns-in-Some-clause-kind : goal.returns-in-Some-clause-kind
returns-in-Some-clause-kind c =
    let v = view c.args.schema.now in
    subst (λ f. Faults f (schema_reading v)) (sym c.fault_of.ensures)
    (Faults-refusal c.in-Some.refusal v (ap (option_map refusal_view) (sym c.in-Some.is) ∙ c.in_ok-refusal.ensures))

pub returns-clause-kind : goal.returns-clause-kind
returns-clause-kind c =
    reading-none (view c.args.schema.now) (ap (option_map refusal_view) (sym c.in_default.is) ∙ c.in_ok-refusal.ensures)
    ∙ ap (λ k. Ok (with_metadata metadata_fields k)) (sym c.in_ok-kind.ensures.kind)
    ∙ ap Ok (sym c.in_ok-with_metadata.ensures.kind)
