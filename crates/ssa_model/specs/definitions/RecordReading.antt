-- A record is read from its JSON value: which values have its shape, and what a value of that shape says.
use Rattle.std.specs.Prelude.{◌≡◌, ℕ, zero, suc, pos, List, [], ◌∷◌, Bool, true, false, not, ◌&&◌, ◌||◌, Option, Some, None, is_some, is_ok, option_and_then, Ok, Err, codes}
use Rattle.std.specs.List.{list_any, list_all}
use Rattle.ssa_model.specs.definitions.Json.{Text, same_text, whole, Json, scalar, list, object, Items, no_items, item, Members, no_members, member, member_at, as_text}
use Rattle.ssa_model.specs.definitions.Path.{Element, Path, element_text}
use Rattle.ssa_model.specs.definitions.PathMap.{PathSet, has, empty, from_entries, listed, paths}
use Rattle.ssa_model.specs.definitions.Kind.{Kind, atomic_of}
use Rattle.ssa_model.specs.definitions.Schema.{is_text, list_of_texts, has_member}
use Rattle.ssa_model.specs.definitions.Body.{Content, leaf, atom, record_branch, Body, places, field_places}
use Rattle.ssa_model.specs.definitions.Table.{Operation, applies, ManagerKey, Entry}
use Rattle.ssa_model.specs.definitions.Operations.{State}
use Rattle.ssa_model.specs.definitions.Objects.{members_of_value}
use Rattle.ssa_model.specs.definitions.Readings.{Readings}
use Rattle.ssa_model.specs.definitions.ElementTexts.{element_of, path_of}
use Rattle.ssa_model.specs.definitions.FieldsV1.{fields_faults, said_set}
use Rattle.ssa_model.specs.definitions.Commands.{text_in, texts_in, value_in, is_subresource, subresource_in}
use Rattle.ssa_model.specs.definitions.GivenEntries.{operation_of, said_entry}
use Rattle.ssa_model.specs.definitions.Fitting.{Place, of_kind, item_of, value_of, place_at}
use Rattle.ssa_model.specs.definitions.Valid.{AllEntries}
use Rattle.ssa_model.specs.definitions.Record.{Change, Part, Record}

-- ---- shapes

-- a test of a value
abbrev pub Test : Type 0
Test = Json → Bool

abbrev pub all_items : Test → Items → Bool
all_items test no_items = true
all_items test (item v vs) = test v && all_items test vs

-- a list of values that pass
abbrev pub is_list_of : Test → Test
is_list_of test (list vs) = all_items test vs
is_list_of test _ = false

abbrev pub items_pass : List Test → Items → Bool
items_pass [] no_items = true
items_pass (t ∷ ts) (item v vs) = t v && items_pass ts vs
items_pass _ _ = false

-- a list of exactly so many values, each of which passes its test
abbrev pub has_items : List Test → Test
has_items ts (list vs) = items_pass ts vs
has_items ts _ = false

-- a member that an object has or may have, and the test of its value
pub record MemberShape : Type 0 where
  pub name : Text
  pub test : Test
  pub required : Bool

abbrev pub must_have : Text → Test → MemberShape
must_have n t = record { name = n; test = t; required = true }

abbrev pub may_have : Text → Test → MemberShape
may_have n t = record { name = n; test = t; required = false }

abbrev pub are_members_of : List MemberShape → Members → Bool
are_members_of shapes no_members = true
are_members_of shapes (member n v ms) = list_any (λ s. same_text n s.name && s.test v) shapes && are_members_of shapes ms

-- an object with these members and no others
abbrev pub has_members : List MemberShape → Test
has_members shapes (object ms) = are_members_of shapes ms && list_all (λ s. not s.required || has_member s.name ms) shapes
has_members shapes _ = false

abbrev pub is_anything : Test
is_anything v = true

abbrev pub is_whole : Test
is_whole (scalar (whole z)) = true
is_whole _ = false

abbrev pub is_operation : Test
is_operation v = is_some (option_and_then operation_of (as_text v))

-- a manager, as its name and its operation, and its subresource where it has one
abbrev pub is_key : Test
is_key v = has_items (is_text ∷ is_operation ∷ []) v || has_items (is_text ∷ is_operation ∷ is_subresource ∷ []) v

-- ---- what a value says, whatever its shape

-- the items of a list, each told by the function
abbrev pub items_in : {X : Type 0} → (Json → X) → Items → List X
items_in f no_items = []
items_in f (item v vs) = f v ∷ items_in f vs

abbrev pub list_in : {X : Type 0} → (Json → X) → Json → List X
list_in f (list vs) = items_in f vs
list_in f _ = []

abbrev pub item_in : ℕ → Items → Option Json
item_in i no_items = None
item_in zero (item v vs) = Some v
item_in (suc i) (item v vs) = item_in i vs

-- the item of a list at this place, from 0
abbrev pub item_at : ℕ → Json → Option Json
item_at i (list vs) = item_in i vs
item_at i _ = None

abbrev pub member_in : Text → Json → Json
member_in n v = value_in (member_at n v)

abbrev pub text_at : Text → Json → Text
text_at n v = text_in (member_at n v)

-- a whole number that counts; anything else is 0
abbrev pub number_of : Json → ℕ
number_of (scalar (whole (pos n))) = n
number_of _ = 0

abbrev pub operation_or_applies : Option Operation → Operation
operation_or_applies (Some o) = o
operation_or_applies None = applies

abbrev pub operation_at : Option Json → Operation
operation_at v = operation_or_applies (operation_of (text_in v))

abbrev pub key_in : Json → ManagerKey
key_in v = record { name = text_in (item_at 0 v); operation = operation_at (item_at 1 v); part = subresource_in (item_at 2 v) }

-- the content of a leaf at a place
abbrev pub content_in : Option Place → Json → Content
content_in (Some (of_kind (atomic_of s))) v = atom v
content_in _ (scalar s) = leaf s
content_in _ v = atom v

-- each place at and below p, where a value of the schema's place stands at p, with its content
abbrev pub place_entries : Place → Json → Path → List (Path × Content)
place_entries (of_kind k) v p = places k v p
place_entries (item_of ns fs) v p = (p, record_branch) ∷ field_places fs (members_of_value v) p
place_entries (value_of s) v p = (p, content_in None v) ∷ []

-- the flattening of a value at a place: the paths are those below it
abbrev pub part_in : Option Place → Json → Body
part_in None v = empty
part_in (Some q) v = from_entries (place_entries q v [])

-- the place that is given behind a value that is put
abbrev pub place_given : Option Json → Option ℕ
place_given None = None
place_given (Some v) = Some (number_of v)

module _ (readings : Readings) where
  -- ---- the shape of a record

  abbrev pub is_read_path : Option (List Text) → Bool
  is_read_path None = false
  is_read_path (Some ts) = is_ok (path_of readings.value ts)

  -- a list of elements' own texts
  abbrev pub is_path : Test
  is_path v = is_read_path (list_of_texts v)

  -- canonical FieldsV1
  abbrev pub is_fields : Test
  is_fields v = elim (fields_faults readings.value v) [ [] ↦ true | f ∷ fs ↦ false ]

  abbrev pub is_moment_text : Option Text → Bool
  is_moment_text None = false
  is_moment_text (Some t) = readings.moment t

  abbrev pub is_moment : Test
  is_moment v = is_moment_text (as_text v)

  abbrev pub change_shape : List MemberShape
  change_shape =
      must_have (codes "gain") is_fields ∷ must_have (codes "lose") is_fields ∷ must_have (codes "manager") is_text
      ∷ must_have (codes "operation") is_operation ∷ may_have (codes "subresource") is_subresource ∷ may_have (codes "time") is_moment ∷ []

  -- an entry of `managedFields`; that its `apiVersion`, its `fieldsType` and its name are those of an entry of the state is no matter of shape
  abbrev pub entry_shape : List MemberShape
  entry_shape =
      must_have (codes "apiVersion") is_text ∷ must_have (codes "fieldsType") is_text ∷ must_have (codes "fieldsV1") is_fields
      ∷ must_have (codes "manager") is_text ∷ must_have (codes "operation") is_operation ∷ may_have (codes "subresource") is_subresource
      ∷ must_have (codes "time") is_moment ∷ []

  abbrev pub here_shape : List MemberShape
  here_shape = must_have (codes "entry") (has_members entry_shape) ∷ must_have (codes "place") is_whole ∷ []

  -- a path and a value, and any whole number where a third item is there
  abbrev pub is_put : Test
  is_put v = has_items (is_path ∷ is_anything ∷ []) v || has_items (is_path ∷ is_anything ∷ is_whole ∷ []) v

  abbrev pub record_shape : List MemberShape
  record_shape =
      must_have (codes "changed") (is_list_of (has_members change_shape)) ∷ must_have (codes "cut") (is_list_of is_path)
      ∷ must_have (codes "gone") (is_list_of is_key) ∷ must_have (codes "here") (is_list_of (has_members here_shape))
      ∷ must_have (codes "leaves") (is_list_of (has_items (is_path ∷ is_anything ∷ [])))
      ∷ must_have (codes "order") (is_list_of (has_items (is_path ∷ is_path ∷ []))) ∷ must_have (codes "put") (is_list_of is_put) ∷ []

  -- the value has the shape of a record: of some record, whatever the state
  abbrev pub is_record_shape : Test
  is_record_shape = has_members record_shape

  -- ---- the record that a value says

  abbrev pub path_in : Option Json → Path
  path_in v = elim (path_of readings.value (texts_in v)) [ Ok p ↦ p | Err f ↦ [] ]

  abbrev pub change_in : Json → Change
  change_in v = record {
    manager = record {
      name = text_at (codes "manager") v;
      operation = operation_at (member_at (codes "operation") v);
      part = subresource_in (member_at (codes "subresource") v);
    };
    gain = said_set readings.value (member_in (codes "gain") v);
    lose = said_set readings.value (member_in (codes "lose") v);
    moment = option_and_then as_text (member_at (codes "time") v);
  }

  abbrev pub here_in : Json → ℕ × Entry
  here_in v = (number_of (member_in (codes "place") v), said_entry readings (members_of_value (member_in (codes "entry") v)))

  abbrev pub order_in : Json → Path × List Element
  order_in v = (path_in (item_at 0 v), path_in (item_at 1 v))

  module _ (kind : Kind) where
    -- what the schema says of the place at a path
    abbrev pub schema_place : Path → Option Place
    schema_place = place_at (of_kind kind)

    abbrev pub leaf_in : Json → Path × Content
    leaf_in v = let p = path_in (item_at 0 v) in (p, content_in (schema_place p) (value_in (item_at 1 v)))

    abbrev pub put_in : Json → Path × Part
    put_in v = let p = path_in (item_at 0 v) in (p, record { below = part_in (schema_place p) (value_in (item_at 1 v)); place = place_given (item_at 2 v) })

    -- the record that a value of its shape says of states of the kind; what a value of another shape says is of no account
    abbrev pub record_in : Json → Record
    record_in v = record {
      body = record {
        cut = listed (list_in (λ w. path_in (Some w)) (member_in (codes "cut") v));
        leaves = from_entries (list_in leaf_in (member_in (codes "leaves") v));
        order = from_entries (list_in order_in (member_in (codes "order") v));
        put = from_entries (list_in put_in (member_in (codes "put") v));
      };
      table = record {
        changed = list_in change_in (member_in (codes "changed") v);
        gone = list_in key_in (member_in (codes "gone") v);
        here = list_in here_in (member_in (codes "here") v);
      };
    }

-- ---- states whose paths and moments are read

-- each element of the path is the one that is read from its text
abbrev pub IsReadPath : Readings → Path → Type 0
IsReadPath readings [] = Unit {0}
IsReadPath readings (e ∷ p) = (element_of readings.value (element_text e) ≡ Ok e) × IsReadPath readings p

-- each path of the set is read from its texts
abbrev pub HasReadSet : Readings → PathSet → Type 0
HasReadSet readings s = (p : Path) → has s p ≡ true → IsReadPath readings p

-- each path of the body is read from its texts
abbrev pub HasReadPaths : Readings → Body → Type 0
HasReadPaths readings b = (p : Path) → has b p ≡ true → IsReadPath readings p

-- whether each path of the body is read from its texts
abbrev pub has_read_paths : Readings → Body → Bool
has_read_paths readings b = list_all (list_all (λ e. is_ok (element_of readings.value (element_text e)))) (paths b)

-- the readings read the paths of the state, and hold its moments for moments
pub record IsReadState (readings : Readings) (s : State) : Type 0 where
  pub paths : HasReadPaths readings s.body
  pub moments : AllEntries (λ e. readings.moment e.moment ≡ true) s.table
