-- What holds of the kind of each schema that is accepted.
use Rattle.std.specs.Prelude.{◌≡◌, List, [], ◌∷◌, Bool, true, false, not, ◌&&◌, Option, Some, None, codes}
use Rattle.std.specs.List.{list_any}
use Rattle.std.specs.Ordering.{is_lt, nat_cmp}
use Rattle.std.specs.Cmp.Lexicographic.{slice_cmp}
use Rattle.ssa_model.specs.definitions.Json.{Text, same_text}
use Rattle.ssa_model.specs.definitions.Kind.{Kind, Fields, record_of, dict_of, items_of, no_fields, kind_field, kind_of}
use Rattle.ssa_model.specs.definitions.Objects.{file_names}

-- each name stands behind the one before it, the first behind this one
abbrev pub names_rise_after : Text → List Text → Bool
names_rise_after n [] = true
names_rise_after n (m ∷ ms) = is_lt (slice_cmp nat_cmp n m) && names_rise_after m ms

-- the names of the key fields of a map list: one at least, and they rise
abbrev pub are_key_names : List Text → Bool
are_key_names [] = false
are_key_names (n ∷ ns) = names_rise_after n ns

-- each map list has key fields
abbrev mutual
  pub is_keyed : Kind → Bool
  is_keyed (record_of fs) = are_keyed fs
  is_keyed (dict_of k) = is_keyed k
  is_keyed (items_of names fs) = are_key_names names && are_keyed fs
  is_keyed _ = true

  pub are_keyed : Fields → Bool
  are_keyed no_fields = true
  are_keyed (kind_field n k fs) = is_keyed k && are_keyed fs

-- the name is before all of the fields' names
abbrev pub is_before_all : Text → Fields → Bool
is_before_all n no_fields = true
is_before_all n (kind_field m k fs) = is_lt (slice_cmp nat_cmp n m) && is_before_all n fs

-- the names of the fields rise, at each level
abbrev mutual
  pub is_ordered : Kind → Bool
  is_ordered (record_of fs) = are_ordered fs
  is_ordered (dict_of k) = is_ordered k
  is_ordered (items_of names fs) = are_ordered fs
  is_ordered _ = true

  pub are_ordered : Fields → Bool
  are_ordered no_fields = true
  are_ordered (kind_field n k fs) = is_before_all n fs && (is_ordered k && are_ordered fs)

abbrev pub is_record : Kind → Bool
is_record (record_of fs) = true
is_record _ = false

-- the kind of an object with fields, in which each map list has key fields
abbrev pub is_root_kind : Kind → Bool
is_root_kind k = is_record k && is_keyed k

abbrev pub is_some_record : Option Kind → Bool
is_some_record (Some k) = is_record k
is_some_record None = false

-- the root's `metadata` is an object with fields
abbrev pub has_metadata : Kind → Bool
has_metadata (record_of fs) = is_some_record (kind_of (codes "metadata") fs)
has_metadata _ = false

abbrev pub is_lawful : Kind → Bool
is_lawful k = is_root_kind k && (is_ordered k && has_metadata k)

-- no field has one of the names
abbrev pub names_none : List Text → Fields → Bool
names_none ns no_fields = true
names_none ns (kind_field n k fs) = not (list_any (same_text n) ns) && names_none ns fs

abbrev pub fields_in : Option Kind → Fields
fields_in (Some (record_of fs)) = fs
fields_in _ = no_fields

-- no field of the root is one of the identity, and none of `metadata` is one that an object file's metadata has beside the body
abbrev pub leaves_identity : Kind → Bool
leaves_identity (record_of fs) = names_none (codes "apiVersion" ∷ codes "kind" ∷ []) fs && names_none file_names (fields_in (kind_of (codes "metadata") fs))
leaves_identity _ = false

-- The kind of an accepted schema: an object with fields whose names rise and `metadata` among them, each map list with
-- key fields, and no field in the identity's place.
pub record IsSchemaKind (kind : Kind) : Type 0 where
  pub lawful : is_lawful kind ≡ true
  pub apart : leaves_identity kind ≡ true
