-- A schema's kind, or its first fault.
use Rattle.std.proofs.Common.{◌≡◌, List, [], ◌∷◌, Result, Ok, Err, refl, sym, ap, ◌∙◌, true≢false}
use Rattle.std.specs.Prelude.{Option, None, Some, is_some}
use Rattle.ssa_model.specs.definitions.Limits.{most_levels}
use Rattle.ssa_model.specs.definitions.Json.{Json}
use Rattle.ssa_model.specs.definitions.Kind as kinds
use Rattle.ssa_model.specs.definitions.Schema as model
use Rattle.ssa_schema.specs.Refusals.{refusal_view, first_of, faults_at}
use Rattle.ssa_schema.specs.Builds.{kind_at}
use Rattle.ssa_schema.specs.Schemas.{schema_reading, Faults, fault_of}
use Rattle.ssa_schema.specs.declared.read.refusal.Refusal.{Refusal}
use Rattle.ssa_schema.specs.declared.read.refusal.Refusal.TheVariants.{Keyword, Shape, Keys, Depth}

told : List model.SchemaFault → kinds.Kind → Result kinds.Kind model.SchemaFault
told [] k = Ok k
told (f ∷ fs) k = Err f

told_none : (fs : List model.SchemaFault) (k : kinds.Kind) → None ≡ first_of fs → told fs k ≡ Ok k
unfolding told
told_none [] k e = refl
told_none (f ∷ fs) k e = absurd (true≢false (sym (ap is_some e)))

told_first : (fs : List model.SchemaFault) (k : kinds.Kind) (f : model.SchemaFault) → Some f ≡ first_of fs → told fs k ≡ Err f
unfolding told
told_first [] k f e = absurd (true≢false (ap is_some e))
told_first (g ∷ fs) k f e = ap (λ (o : Option model.SchemaFault). elim o [ None ↦ Err g | Some h ↦ Err h ]) (sym e)

told_by : (fs : List model.SchemaFault) (k : kinds.Kind) → (elim fs [ [] ↦ Ok k | g ∷ gs ↦ Err g ]) ≡ told fs k
unfolding told
told_by [] k = refl
told_by (g ∷ gs) k = refl

reading : (v : Json) → schema_reading v ≡ told (faults_at most_levels model.at_root v) (model.with_metadata model.metadata_fields (kind_at most_levels v))
unfolding schema_reading faults_at kind_at
reading v = told_by (model.schema_faults most_levels model.at_root v) (model.with_metadata model.metadata_fields (model.kind_of_schema most_levels v))

-- the reading of a schema is that of the definitions
pub reading_is : (v : Json) → model.read_schema v ≡ schema_reading v
unfolding schema_reading
reading_is v = refl

-- a schema without faults is read as the kind that is made of it, with `metadata`
pub reading-none : (v : Json) → None ≡ first_of (faults_at most_levels model.at_root v)
    → schema_reading v ≡ Ok (model.with_metadata model.metadata_fields (kind_at most_levels v))
reading-none v e = reading v ∙ told_none (faults_at most_levels model.at_root v) _ e

-- a schema with a first fault is refused with this
pub reading-first : (v : Json) (f : model.SchemaFault) → Some f ≡ first_of (faults_at most_levels model.at_root v) → schema_reading v ≡ Err f
reading-first v f e = reading v ∙ told_first (faults_at most_levels model.at_root v) _ f e

-- a refusal with the first fault is the fault that is told
pub Faults-refusal : (r : Refusal) (v : Json) → Some (refusal_view r) ≡ first_of (faults_at most_levels model.at_root v)
    → Faults (fault_of r) (schema_reading v)
Faults-refusal Keyword v e = reading-first v model.schema_keyword e
Faults-refusal Shape v e = reading-first v model.schema_shape e
Faults-refusal Keys v e = reading-first v model.schema_keys e
Faults-refusal Depth v e = reading-first v model.schema_depth e
