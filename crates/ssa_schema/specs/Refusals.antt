-- The first fault of a schema.
use Rattle.std.specs.Prelude.{ℕ, List, [], ◌∷◌, ◌++◌, Option, None, Some}
use Rattle.ssa_model.specs.definitions.Json.{Json, Members}
use Rattle.ssa_model.specs.definitions.Schema as model
use Rattle.ssa_schema.specs.declared.read.refusal.Refusal.{Refusal}
use Rattle.ssa_schema.specs.declared.read.refusal.Refusal.TheVariants.{Keyword, Shape, Keys, Depth}

abbrev pub refusal_view : Refusal → model.SchemaFault
refusal_view Keyword = model.schema_keyword
refusal_view Shape = model.schema_shape
refusal_view Keys = model.schema_keys
refusal_view Depth = model.schema_depth

abbrev pub first_of : {X : Type 0} → List X → Option X
first_of [] = None
first_of (x ∷ xs) = Some x

-- the first, or the second where that is none
abbrev pub or_next : {X : Type 0} → Option X → Option X → Option X
or_next None y = y
or_next (Some x) y = Some x

-- the faults of a schema itself, without those of the schemas inside
abbrev pub own_faults : model.Standing → Members → List model.SchemaFault
own_faults s ms =
    model.fault_if (model.has_unknown_keyword ms) model.schema_keyword
    ++ (model.fault_if (model.has_wrong_type ms) model.schema_shape
    ++ (model.fault_if (model.has_wrong_shape s ms) model.schema_shape
    ++ model.fault_if (model.has_wrong_keys ms) model.schema_keys))

-- the faults where so many levels are left
unfoldable pub faults_at : ℕ → model.Standing → Json → List model.SchemaFault
faults_at = model.schema_faults

-- the faults of a schema that is an object, where so many levels are left below it
abbrev pub object_faults : ℕ → model.Standing → Members → List model.SchemaFault
object_faults levels s ms = own_faults s ms ++ (model.child_faults (faults_at levels (model.standing_inside s ms)) ms ++ model.item_faults ms)
