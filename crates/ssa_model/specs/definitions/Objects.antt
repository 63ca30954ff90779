-- Objects: the identity, the body's value without it, and the object of a body.
use Rattle.std.specs.Prelude.{List, [], ◌∷◌, ◌++◌, Bool, true, false, ◌&&◌, ◌||◌, filter_map, Option, Some, None, if◌then◌else◌, codes, option_and_then}
use Rattle.std.specs.declared.cmp.Ordering.TheVariants.{Less, Equal, Greater}
use Rattle.std.specs.Ordering.{nat_cmp}
use Rattle.std.specs.List.{list_any}
use Rattle.std.specs.Cmp.Lexicographic.{slice_cmp}
use Rattle.ssa_model.specs.definitions.Json.{Text, text, Json, scalar, list, object, Items, no_items, item, Members, no_members, member, member_of, same_text, same_json}
use Rattle.ssa_model.specs.definitions.Path.{Element, field, Path, parent, same_path}
use Rattle.ssa_model.specs.definitions.PathMap.{get, has, paths}
use Rattle.ssa_model.specs.definitions.Kind as kinds
use Rattle.ssa_model.specs.definitions.Kind.{Kind, Fields, scalar_kind, atomic_of, record_of, dict_of, items_of, no_fields, kind_field}
use Rattle.ssa_model.specs.definitions.Body.{Content, leaf, atom, Body, order_at}

-- the value of members, one inside the other
abbrev pub value_at : List Text → Json → Option Json
value_at [] v = Some v
value_at (n ∷ ns) (object ms) = option_and_then (value_at ns) (member_of n ms)
value_at (n ∷ ns) _ = None

-- What an object is called: `apiVersion`, `kind`, and the name and namespace in `metadata`.
pub record Identity : Type 0 where
  pub version : Option Json
  pub kind : Option Json
  pub name : Option Json
  pub namespace : Option Json

abbrev pub identity_of : Json → Identity
identity_of v = record {
  version = value_at (codes "apiVersion" ∷ []) v;
  kind = value_at (codes "kind" ∷ []) v;
  name = value_at (codes "metadata" ∷ codes "name" ∷ []) v;
  namespace = value_at (codes "metadata" ∷ codes "namespace" ∷ []) v;
}

abbrev pub is_named_text : Option Json → Bool
is_named_text (Some (scalar (text []))) = false
is_named_text (Some (scalar (text (b ∷ bs)))) = true
is_named_text _ = false

abbrev pub is_missing : Option Json → Bool
is_missing None = true
is_missing (Some v) = false

abbrev pub is_some_object : Option Json → Bool
is_some_object (Some (object ms)) = true
is_some_object _ = false

-- each part is a text that isn't empty; the namespace may be absent
abbrev pub is_identity : Identity → Bool
is_identity i = is_named_text i.version && (is_named_text i.kind && (is_named_text i.name && (is_missing i.namespace || is_named_text i.namespace)))

abbrev pub same_value : Option Json → Option Json → Bool
same_value None None = true
same_value (Some v) (Some w) = same_json v w
same_value _ _ = false

abbrev pub same_identity : Identity → Identity → Bool
same_identity i j = same_value i.version j.version && (same_value i.kind j.kind && (same_value i.name j.name && same_value i.namespace j.namespace))

-- ---- the value of the body

abbrev pub without : List Text → Members → Members
without names no_members = no_members
without names (member n v ms) = if list_any (same_text n) names then without names ms else member n v (without names ms)

abbrev pub without_names : List Text → Json → Json
without_names names (object ms) = object (without names ms)
without_names names v = v

abbrev pub without_in_metadata : List Text → Members → Members
without_in_metadata names no_members = no_members
without_in_metadata names (member n v ms) = member n (if same_text n (codes "metadata") then without_names names v else v) (without_in_metadata names ms)

-- an object without `apiVersion`, `kind` and these members of its metadata
abbrev pub value_without : List Text → Json → Json
value_without names (object ms) = object (without_in_metadata names (without (codes "apiVersion" ∷ codes "kind" ∷ []) ms))
value_without names v = v

-- the identity's members of metadata
abbrev pub identity_names : List Text
identity_names = codes "name" ∷ codes "namespace" ∷ []

-- what an object file's metadata may have beside the body: the identity, what a server keeps, and the managers' entries
abbrev pub file_names : List Text
file_names =
    identity_names
    ++ codes "uid" ∷ codes "resourceVersion" ∷ codes "generation" ∷ codes "creationTimestamp" ∷ codes "selfLink" ∷ codes "managedFields" ∷ []

-- a command's object without its identity
abbrev pub body_value : Json → Json
body_value = value_without identity_names

-- the body's value of an object file
abbrev pub file_value : Json → Json
file_value = value_without file_names

-- ---- the object of a body

abbrev pub content_value : Option Content → Json
content_value (Some (leaf s)) = scalar s
content_value (Some (atom v)) = v
content_value _ = object no_members

-- the name of a place below p
abbrev pub name_below : Path → Path → Option Text
name_below p [] = None
name_below [] (field n ∷ []) = Some n
name_below [] _ = None
name_below (e ∷ p) (f ∷ q) = name_below p q

-- the names below p, in path order
abbrev pub names_below : Body → Path → List Text
names_below b p = filter_map (λ q. if same_path (parent q) p then name_below p q else None) (paths b)

abbrev pub entry_members : (Path → Json) → Path → List Text → Members
entry_members shown p [] = no_members
entry_members shown p (n ∷ ns) = member n (shown (p ++ field n ∷ [])) (entry_members shown p ns)

abbrev pub shown_items : (Path → Json) → Path → List Element → Items
shown_items shown p [] = no_items
shown_items shown p (e ∷ es) = item (shown (p ++ e ∷ [])) (shown_items shown p es)

-- the value that a body has at a place of a kind
abbrev mutual
  pub shown : Kind → Body → Path → Json
  shown (scalar_kind k) b p = content_value (get b p)
  shown (atomic_of s) b p = content_value (get b p)
  shown (record_of fs) b p = object (shown_fields fs b p)
  shown (dict_of k) b p = object (entry_members (shown k b) p (names_below b p))
  shown (kinds.set_of k) b p = list (shown_items (λ q. content_value (get b q)) p (order_at (get b p)))
  shown (items_of names fs) b p = list (shown_items (λ q. object (shown_fields fs b q)) p (order_at (get b p)))

  pub shown_fields : Fields → Body → Path → Members
  shown_fields no_fields b p = no_members
  shown_fields (kind_field n k fs) b p =
      if has b (p ++ field n ∷ []) then member n (shown k b (p ++ field n ∷ [])) (shown_fields fs b p) else shown_fields fs b p

-- the member in its place among members whose names rise
abbrev pub with_member : Text → Json → Members → Members
with_member n v no_members = member n v no_members
with_member n v (member m w ms) = elim (slice_cmp nat_cmp n m)
    [ Less ↦ member n v (member m w ms) | Equal ↦ member n v ms | Greater ↦ member m w (with_member n v ms) ]

abbrev pub with_given : Text → Option Json → Members → Members
with_given n None ms = ms
with_given n (Some v) ms = with_member n v ms

abbrev pub members_in : Option Json → Members
members_in (Some (object ms)) = ms
members_in _ = no_members

abbrev pub members_of_value : Json → Members
members_of_value v = members_in (Some v)

-- these members with the identity
abbrev pub with_identity : Identity → Members → Members
with_identity i ms =
    with_given (codes "apiVersion") i.version (with_given (codes "kind") i.kind
    (with_member (codes "metadata") (object (with_given (codes "name") i.name
    (with_given (codes "namespace") i.namespace (members_in (member_of (codes "metadata") ms))))) ms))

-- the object of an identity and a body
abbrev pub object_of_body : Identity → Kind → Body → Json
object_of_body identity kind b = object (with_identity identity (members_of_value (shown kind b [])))
