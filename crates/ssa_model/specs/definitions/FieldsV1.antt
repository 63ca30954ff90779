-- FieldsV1: sets of paths written as JSON objects: which value is a writing of which set, the writing that is shown, and what a
-- value that is read says, or its faults.
use Rattle.std.specs.Prelude.{◌≡◌, ◌≢◌, ◌⊎◌, ℕ, zero, suc, ℤ, pos, negsuc, ◌^◌, List, [], ◌∷◌, ◌++◌, map, length, max, nat_lt, Bool, true, false, not, ◌&&◌, ◌||◌, Option, Some, None, is_some, option_and_then, Result, Ok, Err, if◌then◌else◌, codes}
use Rattle.std.specs.List.{list_any}
use Rattle.std.specs.Ordering.{is_lt, nat_cmp}
use Rattle.std.specs.Cmp.Lexicographic.{slice_cmp}
use Rattle.std.specs.Str.{is_utf8}
use Rattle.ssa_model.specs.definitions.Json.{Text, Scalar, text, whole, truth, Json, scalar, list, object, Members, no_members, member, member_at, same_text, same_json}
use Rattle.ssa_model.specs.definitions.Path.{Element, field, key, value, Path, is_root, element_text, same_element}
use Rattle.ssa_model.specs.definitions.PathMap.{PathSet, has, paths, listed}
use Rattle.ssa_model.specs.definitions.Readings.{ReadFault}
use Rattle.ssa_model.specs.definitions.ElementTexts.{ElementFault, bad_element, not_canonical, element_of}

-- ---- what an element may be: whole numbers of 64 bits with sign, and texts of UTF-8

-- the number fits in 64 bits, with its sign
abbrev pub is_narrow_whole : ℤ → Bool
is_narrow_whole (pos n) = nat_lt n (2 ^ 63)
is_narrow_whole (negsuc n) = nat_lt n (2 ^ 63)

abbrev pub is_in_range : Scalar → Bool
is_in_range (text t) = is_utf8 t
is_in_range (whole z) = is_narrow_whole z
is_in_range (truth b) = true

abbrev pub are_in_range : List (Text × Scalar) → Bool
are_in_range [] = true
are_in_range (k ∷ ks) = is_utf8 k.0 && (is_in_range k.1 && are_in_range ks)

abbrev pub names_rise : List (Text × Scalar) → Bool
names_rise [] = true
names_rise (k ∷ []) = true
names_rise (k ∷ l ∷ ks) = is_lt (slice_cmp nat_cmp k.0 l.0) && names_rise (l ∷ ks)

-- a key has a name, and its names rise by bytes; whole numbers have 64 bits, and texts are UTF-8
abbrev pub is_element : Element → Bool
is_element (field n) = is_utf8 n
is_element (key []) = false
is_element (key (k ∷ ks)) = names_rise (k ∷ ks) && are_in_range (k ∷ ks)
is_element (value s) = is_in_range s

-- ---- which value is a writing of which set

abbrev pub IsElementText : Text → Type 0
IsElementText n = (e : Element) × (is_element e ≡ true) × (element_text e ≡ n)

-- the value to which the texts of a path lead
abbrev pub value_below : Json → Path → Option Json
value_below v [] = Some v
value_below v (e ∷ p) = elim (member_at (element_text e) v) [ None ↦ None | Some w ↦ value_below w p ]

abbrev pub is_no_object : Option Json → Bool
is_no_object (Some (object no_members)) = true
is_no_object _ = false

abbrev pub has_dot : Option Json → Bool
has_dot o = is_some (option_and_then (member_at (codes ".")) o)

-- The texts of the path lead, in one step or more, to `{}`, or to an object with the member `.`.
abbrev pub says : Json → Path → Bool
says v p = (not (is_root p) && is_no_object (value_below v p)) || has_dot (value_below v p)

abbrev pub dot_alone : Json
dot_alone = object (member (codes ".") (object no_members) no_members)

-- Each member, at any depth, is `.` with `{}`, or an element's own text with an object other than `{".":{}}`.
abbrev mutual
  pub IsCanonical : Json → Type 0
  IsCanonical (object ms) = AreCanonical ms
  IsCanonical (scalar s) = ⊥
  IsCanonical (list vs) = ⊥

  pub AreCanonical : Members → Type 0
  AreCanonical no_members = Unit {0}
  AreCanonical (member n v ms) = (((n ≡ codes ".") × (v ≡ object no_members)) ⊎ (IsElementText n × (v ≢ dot_alone) × IsCanonical v)) × AreCanonical ms

-- the value is a writing of the set, and the only one in which names rise (`OneWriting`)
pub record IsWritten (s : PathSet) (v : Json) : Type 0 where
  pub canonical : IsCanonical v
  pub says_set : (p : Path) → says v p ≡ has s p

-- ---- the writing

-- the element, unless it stands in front already
abbrev pub with_head : Element → List Element → List Element
with_head e [] = e ∷ []
with_head e (f ∷ fs) = if same_element e f then f ∷ fs else e ∷ f ∷ fs

-- the first elements of paths in path order, each once
abbrev pub heads : List Path → List Element
heads [] = []
heads ([] ∷ ps) = heads ps
heads ((e ∷ p) ∷ ps) = with_head e (heads ps)

-- what follows the element in the paths that begin with it
abbrev pub tails : Element → List Path → List Path
tails e [] = []
tails e ([] ∷ ps) = tails e ps
tails e ((f ∷ p) ∷ ps) = if same_element e f then p ∷ tails e ps else tails e ps

-- the place itself, and nothing below it
abbrev pub is_place_alone : List Path → Bool
is_place_alone ([] ∷ []) = true
is_place_alone _ = false

abbrev pub nothing_written : Json
nothing_written = object no_members

abbrev pub field_members : (List Path → Json) → List Path → List Element → Members
field_members written ps [] = no_members
field_members written ps (e ∷ es) = member (element_text e) (if is_place_alone (tails e ps) then nothing_written else written (tails e ps))
    (field_members written ps es)

-- the object of paths of at most so many elements
abbrev pub written_paths : ℕ → List Path → Json
written_paths zero ps = if list_any is_root ps then object (member (codes ".") nothing_written no_members) else nothing_written
written_paths (suc most) ps =
    let below = field_members (written_paths most) ps (heads ps) in
    if list_any is_root ps then object (member (codes ".") nothing_written below) else object below

abbrev pub longest : List Path → ℕ
longest [] = zero
longest (p ∷ ps) = max (length p) (longest ps)

-- the writing of a set
abbrev pub fields_json : PathSet → Json
fields_json s = written_paths (longest (paths s)) (paths s)

-- ---- reading: the faults of a value, and the set that a value without faults says

abbrev pub is_nothing_inside : Json → Bool
is_nothing_inside (object no_members) = true
is_nothing_inside _ = false

module _ (reading : Text → Result Json ReadFault) where
  -- All faults in the order of the members, depth first; the first is told. The value is an object, `.` has `{}`, and each
  -- other member is an element's own text with an object, which isn't `{".":{}}`.
  abbrev mutual
    pub fields_faults : Json → List ElementFault
    fields_faults (object ms) = member_faults ms
    fields_faults (scalar s) = bad_element ∷ []
    fields_faults (list vs) = bad_element ∷ []

    pub member_faults : Members → List ElementFault
    member_faults no_members = []
    member_faults (member n v ms) =
        (if same_text n (codes ".") then (if is_nothing_inside v then [] else bad_element ∷ [])
        else elim (element_of reading n) [
          | Err f ↦ f ∷ []
          | Ok e ↦ (if same_json v dot_alone then not_canonical ∷ [] else fields_faults v)
        ])
        ++ member_faults ms

  -- The paths that a value without faults says: `.` says the place itself, an element with `{}` the place of this element
  -- alone, and an element with another object the paths that the object says below it.
  abbrev mutual
    pub said_paths : Json → List Path
    said_paths (object ms) = member_paths ms
    said_paths (scalar s) = []
    said_paths (list vs) = []

    pub member_paths : Members → List Path
    member_paths no_members = []
    member_paths (member n v ms) =
        (if same_text n (codes ".") then [] ∷ []
        else elim (element_of reading n) [ Err f ↦ [] | Ok e ↦ map (λ p. e ∷ p) (if is_nothing_inside v then [] ∷ [] else said_paths v) ])
        ++ member_paths ms

  abbrev pub said_set : Json → PathSet
  said_set v = listed (said_paths v)
