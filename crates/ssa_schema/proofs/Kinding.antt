-- Laws of building kinds.
use Rattle.std.proofs.Common.{◌≡◌, ℕ, zero, suc, List, [], ◌∷◌, map, String, Global, Vec, string_bytes, refl, ap, true, false, ◌∙◌, rules}
use Rattle.std.specs.Prelude.{if◌then◌else◌}
use Rattle.ssa_members.specs.Members.{Members as Entries}
use Rattle.ssa_model.specs.definitions.Json.{Text, Json, scalar, list, object, Scalar, Items, Members}
use Rattle.ssa_model.specs.definitions.Kind as model
use Rattle.ssa_model.specs.definitions.Schema.{kind_fields, is_atomic, shape_of_schema}
use Rattle.ssa_json.specs.View.{view, members_view}
use Rattle.ssa_json.proofs.Converting.{Found}
use Rattle.ssa_schema.specs.Kinds.{shape_view, kind_view, fields_view, names_view}
use Rattle.ssa_schema.specs.Builds.{shape_at, kind_at, merged_kind}
use Rattle.ssa_schema.proofs.Made.{named, asked}
use Rattle.ssa_schema.specs.declared.kind.Kind as kind
use Rattle.ssa_schema.specs.declared.kind.Shape.{Shape}

-- ---- one level

-- where no level is left, the kind is a record without fields
pub kind_at_none : (v : Json) → kind_at zero v ≡ model.record_of model.no_fields
unfolding kind_at
kind_at_none v = refl

-- a list is no schema: its kind is a record without fields
pub kind_at_list : (n : ℕ) (vs : Items) → kind_at (suc n) (list vs) ≡ model.record_of model.no_fields
unfolding kind_at
kind_at_list n vs = refl

-- a scalar is no schema: its kind is a record without fields
pub kind_at_scalar : (n : ℕ) (s : Scalar) → kind_at (suc n) (scalar s) ≡ model.record_of model.no_fields
unfolding kind_at
kind_at_scalar n s = refl

-- the kind of an atomic schema is its shape, as an atomic value
pub kind_at_atomic : (n : ℕ) (ms : Members) → is_atomic ms ≡ true → kind_at (suc n) (object ms) ≡ model.atomic_of (shape_at (suc n) (object ms))
unfolding kind_at shape_at
kind_at_atomic n ms e = ap (λ b. if b then model.atomic_of (shape_of_schema (suc n) (object ms)) else merged_kind n ms) e

-- the kind of a schema that is not atomic goes by its type
pub kind_at_object : (n : ℕ) (ms : Members) → is_atomic ms ≡ false → kind_at (suc n) (object ms) ≡ merged_kind n ms
unfolding kind_at shape_at
kind_at_object n ms e = ap (λ b. if b then model.atomic_of (shape_of_schema (suc n) (object ms)) else merged_kind n ms) e

-- ---- views

-- the kind of a record is seen as a record of the map's fields
pub kind_view-Record : (m : Entries kind.Kind) → kind_view (kind.Record m) ≡ model.record_of (fields_view m.entries)
kind_view-Record m = search (rules, kind.the_lemmas)

-- where the map is empty, it is a record without fields
pub kind_view-none : (m : Entries kind.Kind) → m.entries ≡ [] → kind_view (kind.Record m) ≡ model.record_of model.no_fields
kind_view-none m none = kind_view-Record m ∙ ap (λ es. model.record_of (fields_view es)) none

-- the kind of an atomic value is seen as that of its shape
pub kind_view-AtomicOf : (s : Shape) → kind_view (kind.AtomicOf s) ≡ model.atomic_of (shape_view s)
kind_view-AtomicOf s = search (rules, kind.the_lemmas)

-- the kind of a map list is seen as that of its keys' names and the map's fields
pub kind_view-ItemsOf : (keys : Vec (String Global) Global) (m : Entries kind.Kind)
    → kind_view (kind.ItemsOf keys m) ≡ model.items_of (names_view keys.items) (fields_view m.entries)
kind_view-ItemsOf keys m = search (rules, kind.the_lemmas)

-- ---- fields by name

fields_of : List (Text × model.Kind) → model.Fields
fields_of [] = model.no_fields
fields_of (x ∷ xs) = model.kind_field x.0 x.1 (fields_of xs)

made_fields : (ms : List (String Global × kind.Kind)) → fields_view ms ≡ fields_of (map (named kind_view) ms)
unfolding fields_of
made_fields [] = refl
made_fields (m ∷ ms) = ap (model.kind_field (string_bytes m.0) (kind_view m.1)) (made_fields ms)

asked_fields : (n : ℕ) (es : List Found) → fields_of (map (asked (kind_at n)) es) ≡ kind_fields (kind_at n) (members_view es)
unfolding fields_of
asked_fields n [] = refl
asked_fields n (e ∷ es) = ap (model.kind_field (string_bytes e.0) (kind_at n (view e.1))) (asked_fields n es)

-- where a kind was made of each property, the map's fields are those of the properties
pub fields-made : (n : ℕ) (ms : List (String Global × kind.Kind)) (es : List Found) → map (named kind_view) ms ≡ map (asked (kind_at n)) es
    → fields_view ms ≡ kind_fields (kind_at n) (members_view es)
fields-made n ms es same = made_fields ms ∙ ap fields_of same ∙ asked_fields n es
