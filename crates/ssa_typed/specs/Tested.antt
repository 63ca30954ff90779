-- Values that are tested while their trees are made.
use Rattle.std.specs.Prelude.{◌≡◌, Bool, true, false, List, [], ◌∷◌, ◌++◌, Option, None, Some}
use Rattle.ssa_model.specs.definitions.Json.{Text, Json, object, scalar}
use Rattle.ssa_model.specs.definitions.Path.{field, Path}
use Rattle.ssa_model.specs.definitions.Kind.{Kind, Fields, FaultAt, faults, fault_at, atomic_of, is_of, key_faults, kind_of, or_else, scalar_kind, set_of, unknown_field, wrong_type}
use Rattle.ssa_schema.specs.Finds.{Finds, keyed_faults}
use Rattle.ssa_schema.specs.declared.fit.found.Found.{Found}
use Rattle.ssa_typed.specs.declared.tested.Tested.{Tested}
use Rattle.ssa_typed.specs.declared.tested.Tested.TheVariants.{Fits, Breaks}

-- there are no faults, and this was made; or it is the first of them, wherever the walk began
abbrev pub IsTested : {X : Type 0} → (Path → List FaultAt) → (X → Type 0) → Tested X → Type 0
IsTested here made (Fits x) = Finds None here × made x
IsTested here made (Breaks f) = Finds (Some f) here

-- there are no faults, and what was made stands behind these; or this is the first fault, wherever the walk began
abbrev pub PushesTested : {X : Type 0} → (Path → List FaultAt) → (X → Type 0) → List X → List X → Option Found → Type 0
PushesTested here made old new None = (x : _) × (new ≡ old ++ x ∷ []) × IsTested here made (Fits x)
PushesTested here made old new (Some f) = IsTested here made (Breaks f)

-- the kind has no fields and no entries: a scalar, an atomic value or a set
abbrev pub is_plain : Kind → Bool
is_plain (scalar_kind k) = true
is_plain (atomic_of k) = true
is_plain (set_of k) = true
is_plain _ = false

-- the value is a scalar of a kind that takes it
abbrev pub is_fitting_scalar : Kind → Json → Bool
is_fitting_scalar (scalar_kind k) (scalar s) = is_of k s
is_fitting_scalar _ _ = false

-- the faults of a member at the path of its object
abbrev pub member_faults : Fields → Text → Json → Path → List FaultAt
member_faults fs n v p = elim (kind_of n fs) [ None ↦ fault_at unknown_field (p ++ field n ∷ []) ∷ [] | Some k ↦ faults k v (p ++ field n ∷ []) ]

-- the faults of an item of a map list: it is no object, its keys are wrong, an earlier item has them, or its fields have faults
abbrev pub own_item_faults : Bool → List Text → Fields → Json → Path → List FaultAt
own_item_faults is_new names fs (object ms) p = or_else (key_faults names fs ms p) (keyed_faults is_new names fs ms p)
own_item_faults is_new names fs v p = fault_at wrong_type p ∷ []
