-- The first fault of a value, with its path as the texts of the elements.
use Rattle.std.specs.Prelude.{◌≡◌, Bool, List, [], ◌∷◌, ◌++◌, map, reverse, Option, Some, None, option_map, if◌then◌else◌}
use Rattle.ssa_model.specs.definitions.Json.{Text, Json, scalar, Scalar, Members}
use Rattle.ssa_model.specs.definitions.Path.{Path, element_text}
use Rattle.ssa_model.specs.definitions.Kind as model
use Rattle.ssa_schema.specs.Kinds.{names_view}
use Rattle.ssa_schema.specs.Refusals.{first_of}
use Rattle.ssa_schema.specs.declared.body_fault.BodyFault.{BodyFault}
use Rattle.ssa_schema.specs.declared.body_fault.BodyFault.TheVariants as fault
use Rattle.ssa_schema.specs.declared.fit.found.Misfit.{Misfit}
use Rattle.ssa_schema.specs.declared.fit.found.Misfit.TheVariants.{UnknownField, WrongType, MissingKey, DuplicateItem}
use Rattle.ssa_schema.specs.declared.fit.found.Found.{Found}

-- a fault and its path, as they are told
abbrev pub Told : Type 0
Told = model.BodyFault × List Text

abbrev pub told : model.FaultAt → Told
told f = (f.fault, map element_text f.path)

abbrev pub told_view : BodyFault → Told
told_view (fault.UnknownField path) = (model.unknown_field, names_view path.items)
told_view (fault.WrongType path) = (model.wrong_type, names_view path.items)
told_view (fault.MissingKey path) = (model.missing_key, names_view path.items)
told_view (fault.DuplicateItem path) = (model.duplicate_item, names_view path.items)

-- ---- during the walk

abbrev pub misfit_view : Misfit → model.BodyFault
misfit_view UnknownField = model.unknown_field
misfit_view WrongType = model.wrong_type
misfit_view MissingKey = model.missing_key
misfit_view DuplicateItem = model.duplicate_item

-- the fault, where the walk began at a path
abbrev pub found_at : Path → Found → Told
found_at p f = (misfit_view f.misfit, map element_text p ++ reverse (names_view f.path.items))

-- what is found is the first of the faults, wherever the walk began
abbrev pub Finds : Option Found → (Path → List model.FaultAt) → Type 0
Finds found faults = (p : Path) → option_map (found_at p) found ≡ option_map told (first_of (faults p))

-- the same where each fault is at the place itself
abbrev pub Breaks : Option Misfit → (Path → List model.FaultAt) → Type 0
Breaks misfit faults = (p : Path) → option_map (λ m. model.fault_at (misfit_view m) p) misfit ≡ first_of (faults p)

-- ---- items

-- the scalar, where the value is one of the kind
abbrev pub scalar_of : model.ScalarKind → Json → Option Scalar
scalar_of k (scalar s) = if model.is_of k s then Some s else None
scalar_of k _ = None

abbrev pub scalar_in : Option Json → Option Scalar
scalar_in (Some (scalar s)) = Some s
scalar_in _ = None

-- the faults of an item whose keys are right: an earlier one has them, or its fields have faults
abbrev pub keyed_faults : Bool → List Text → model.Fields → Members → Path → List model.FaultAt
keyed_faults is_new names fs ms p =
    if is_new then model.field_faults fs ms (p ++ model.item_key names ms ∷ []) else model.fault_at model.duplicate_item (p ++ model.item_key names ms ∷ [])
    ∷ []
