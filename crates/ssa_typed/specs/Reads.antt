-- What reading a body answers.
use Rattle.std.specs.Prelude.{◌≡◌, ◌<◌, ◌≤◌, [], Option, None, Some, option_map, Result, Ok, Err, Bool, false, true, codes}
use Rattle.ssa_model.specs.definitions.Limits.{most_places}
use Rattle.ssa_model.specs.definitions.Json.{Json, Members, member_of}
use Rattle.ssa_model.specs.definitions.Kind.{Kind, faults}
use Rattle.ssa_model.specs.definitions.PathMap.{from_entries, size}
use Rattle.ssa_model.specs.definitions.Fitting.{IsBodyOf}
use Rattle.ssa_model.specs.definitions.Operations.{is_none}
use Rattle.ssa_model.specs.definitions.Valid.{IsRooted}
use Rattle.ssa_typed.specs.Rows.{body_of, is_tree}
use Rattle.ssa_typed.specs.declared.node.Node.{Node}
use Rattle.ssa_model.specs.definitions.Body as model
use Rattle.ssa_model.specs.definitions.Body.{flat, is_empty_object}
use Rattle.ssa_schema.specs.Finds.{told, told_view}
use Rattle.ssa_schema.specs.Refusals.{first_of}
use Rattle.ssa_typed.specs.declared.fault.TypedFault.{TypedFault}
use Rattle.ssa_typed.specs.declared.fault.TypedFault.TheVariants.{Body, TooManyPaths, OutOfMemory}

-- The value fits and has few places, and the body is the value's; or its first fault, or that it has too many places.
abbrev pub ReadsBody : Result model.Body TypedFault → Kind → Json → Type 0
ReadsBody (Ok b) k v = (faults k v [] ≡ []) × ((b ≡ flat k v) × (size b ≤ most_places))
ReadsBody (Err (Body f)) k v = Some (told_view f) ≡ option_map told (first_of (faults k v []))
ReadsBody (Err TooManyPaths) k v = (faults k v [] ≡ []) × (most_places < size (flat k v))
ReadsBody (Err OutOfMemory) k v = Unit {0}

-- The body of a value that fits the root's kind.
pub record IsBodyRead (k : Kind) (v : Json) (b : model.Body) : Type 0 where
  pub exact : b ≡ flat k v
  pub fits : IsBodyOf k b
  pub rooted : IsRooted b

-- The value fits the kind, and the tree has its places and is of a body of the kind; or it doesn't fit.
pub record IsTreeRead (k : Kind) (v : Json) (n : Node) : Type 0 where
  pub fits : faults k v [] ≡ []
  pub tree : is_tree n ≡ true
  pub body : IsBodyOf k (body_of n)
  pub places : body_of n ≡ from_entries (model.places k v [])

abbrev pub ReadsTree : Option Node → Kind → Json → Type 0
ReadsTree None k v = is_none (faults k v []) ≡ false
ReadsTree (Some n) k v = IsTreeRead k v n

-- the members have a `metadata` with nothing in it
abbrev pub is_empty_member : Option Json → Bool
is_empty_member None = false
is_empty_member (Some v) = is_empty_object v

abbrev pub has_empty_metadata : Members → Bool
has_empty_metadata ms = is_empty_member (member_of (codes "metadata") ms)
