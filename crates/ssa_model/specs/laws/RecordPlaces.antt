-- Records that change a body at and below one path alone: what they lead to is the body with something else there.
use Rattle.std.specs.Prelude.{◌≡◌, ◌≤◌, ◌+◌, [], ◌++◌, map, Bool, true, false, ◌||◌, Some, None}
use Rattle.ssa_model.specs.definitions.Path.{Path, parent, rest_of, under, is_key_field}
use Rattle.ssa_model.specs.definitions.PathMap.{get, has, paths, size, map_of, from_entries, below}
use Rattle.ssa_model.specs.definitions.Limits.{most_places}
use Rattle.ssa_model.specs.definitions.Kind.{Kind, faults}
use Rattle.ssa_model.specs.definitions.Body.{Body, places}
use Rattle.ssa_model.specs.definitions.Fitting.{of_kind, place_at, IsBodyOf}
use Rattle.ssa_model.specs.definitions.Lawful.{is_lawful}
use Rattle.ssa_model.specs.definitions.Objects.{shown}
use Rattle.ssa_model.specs.definitions.Valid.{IsRooted, IsValidBody, metadata_path}
use Rattle.ssa_model.specs.definitions.Record.{BodyRecord}
use Rattle.ssa_model.specs.definitions.Takes.{BodyTakes}
use Rattle.ssa_model.specs.laws.FittingRecords.{IsPartOf}

-- the body, with a part in place of all that it has at and below a path
abbrev pub replaced : Body → Path → Body → Body
replaced v p b = map_of (paths v ++ map (λ q. p ++ q) (paths b)) (λ r. elim (rest_of p r) [ None ↦ get v r | Some q ↦ get b q ])

-- at and below the path it has the part, elsewhere what it had
abbrev pub ReplacedAnswers : Type 0
ReplacedAnswers =
    (v : Body) (p : Path) (b : Body) → ((q : Path) → get (replaced v p b) (p ++ q) ≡ get b q)
    × ((r : Path) → under p r ≡ false → get (replaced v p b) r ≡ get v r)

-- what a body of the kind has at and below a path may stand there
abbrev pub PartsFit : Type 0
PartsFit = (kind : Kind) (w : Body) (p : Path) → IsBodyOf kind w → has w p ≡ true → IsPartOf kind p (below w p)

-- with what may stand at a path of it, but at no key field, a body of the kind is one again
abbrev pub ReplacedFits : Type 0
ReplacedFits =
    (kind : Kind) (v : Body) (p : Path) (b : Body) → IsBodyOf kind v → has v p ≡ true → is_key_field p ≡ false → IsPartOf kind p b
    → IsBodyOf kind (replaced v p b)

-- and it is rooted again, where the path is neither the root nor `metadata`
abbrev pub ReplacedIsRooted : Type 0
ReplacedIsRooted =
    (v : Body) (p : Path) (b : Body) → IsRooted v → has v p ≡ true → has b [] ≡ true → under p metadata_path ≡ false → IsRooted (replaced v p b)

-- its size: the part's in place of what was there
abbrev pub ReplacedSize : Type 0
ReplacedSize = (v : Body) (p : Path) (b : Body) → size (replaced v p b) + size (below v p) ≡ size v + size b

-- ---- records

-- the record tells something of the path
abbrev pub tells_of : BodyRecord → Path → Bool
tells_of d q = has d.cut q || (has d.leaves q || (has d.order q || has d.put q))

-- each path of which the record tells something is below this one
abbrev pub TellsBelow : Path → BodyRecord → Type 0
TellsBelow p d = (q : Path) → tells_of d q ≡ true → under p (parent q) ≡ true

-- such a record leads to the body with something else at the path
abbrev pub ChangesThere : Type 0
ChangesThere = (kind : Kind) (d : BodyRecord) (v w : Body) (p : Path) → BodyTakes kind d v w → TellsBelow p d → w ≡ replaced v p (below w p)

-- and where the first body has the path, so has the second
abbrev pub PlaceStays : Type 0
PlaceStays = (kind : Kind) (d : BodyRecord) (v w : Body) (p : Path) → BodyTakes kind d v w → TellsBelow p d → has v p ≡ true → has w p ≡ true

-- ---- places of a kind

-- a body of the kind of a place may stand there
abbrev pub KindsFit : Type 0
KindsFit = (kind k : Kind) (p : Path) (b : Body) → place_at (of_kind kind) p ≡ Some (of_kind k) → IsBodyOf k b → IsPartOf kind p b

-- with a body of the kind of a place there, a valid body is valid again: where the place is neither the root, nor `metadata`, nor a key field
abbrev pub PlaceIsValid : Type 0
PlaceIsValid =
    (kind k : Kind) (v b : Body) (p : Path) → IsValidBody kind v → place_at (of_kind kind) p ≡ Some (of_kind k) → has v p ≡ true → is_key_field p ≡ false
    → under p metadata_path ≡ false → IsBodyOf k b → size (replaced v p b) ≤ most_places → IsValidBody kind (replaced v p b)

-- the value that a body has at a place of a kind has no fault under that kind, and its places are what the body has there
abbrev pub PlaceIsRead : Type 0
PlaceIsRead =
    (kind k : Kind) (w : Body) (p : Path) → is_lawful kind ≡ true → IsBodyOf kind w → place_at (of_kind kind) p ≡ Some (of_kind k) → has w p ≡ true
    → (faults k (shown k w p) [] ≡ []) × (from_entries (places k (shown k w p) []) ≡ below w p)
