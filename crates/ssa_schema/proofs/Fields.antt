-- Fields in a map, beside those that it stands for.
use Rattle.std.proofs.Common.{◌≡◌, List, [], ◌∷◌, Bool, true, false, cond, refl, sym, ap, String, Global, string_bytes, string_cmp, nat_cmp, is_eq, Less, Equal, Greater}
use Rattle.std.specs.Prelude.{Option, Some, None, option_map}
use Rattle.std.specs.Borrow.{Bor}
use Rattle.std.specs.declared.cmp.Ordering.{Ordering}
use Rattle.std.specs.Ordering.{match_ordering}
use Rattle.std.specs.FinMap.{slice_cmp-IsAntisymmetric, nat_cmp-IsAntisymmetric}
use Rattle.ssa_model.specs.definitions.Schema.{with_field}
use Rattle.std.specs.Map.{lookup}
use Rattle.std.specs.BTreeMap.{is_at, insert_entry}
use Rattle.std.specs.Cmp.Lexicographic.{slice_cmp}
use Rattle.ssa_model.specs.definitions.Json.{Text}
use Rattle.ssa_model.specs.definitions.Kind as model
use Rattle.ssa_schema.specs.Kinds.{kind_view, fields_view, shape_view, shape_fields_view}
use Rattle.ssa_schema.specs.declared.kind.Kind.{Kind}
use Rattle.ssa_schema.specs.declared.kind.Shape.{Shape}

one_more : {X Y : Type 0} (f : X → Y) (b : Bool) (v : X) (rest : Option X) (r : Option Y) → option_map f rest ≡ r
    → option_map f (cond b (Some v) rest) ≡ cond b (Some (f v)) r
one_more f true v rest r e = refl
one_more f false v rest r e = e

-- a value that is lent is seen as the value itself
pub view_of_ref : {X Y : Type 0} (f : X → Y) (r : Option (Bor X)) → option_map (λ x. f x.now) r ≡ option_map f (option_map (λ x. x.now) r)
view_of_ref f None = refl
view_of_ref f (Some x) = refl

-- looking a name up in the map, and then at the kind, is looking the name up among the fields
pub fields-lookup : (name : Text) (es : List (String Global × Kind))
    → option_map kind_view (lookup (is_at (λ k. slice_cmp nat_cmp name (string_bytes k))) es) ≡ model.kind_of name (fields_view es)
fields-lookup name [] = refl
fields-lookup name (e ∷ es) = one_more kind_view (is_eq (slice_cmp nat_cmp name (string_bytes e.0))) e.1 _ _ (fields-lookup name es)

-- so it is with the shapes of an atomic value's fields
pub shape_fields-lookup : (name : Text) (es : List (String Global × Shape))
    → option_map shape_view (lookup (is_at (λ k. slice_cmp nat_cmp name (string_bytes k))) es) ≡ model.shape_of name (shape_fields_view es)
shape_fields-lookup name [] = refl
shape_fields-lookup name (e ∷ es) = one_more shape_view (is_eq (slice_cmp nat_cmp name (string_bytes e.0))) e.1 _ _ (shape_fields-lookup name es)

-- ---- a field put into a map

-- one step, after the order of the two names
one_field : (k : String Global) (x : Kind) (e : String Global × Kind) (es rest : List (String Global × Kind)) (o : Ordering)
    → slice_cmp nat_cmp (string_bytes k) (string_bytes e.0) ≡ o
    → fields_view rest ≡ with_field (string_bytes k) (kind_view x) (fields_view es)
    → fields_view (match_ordering o ((k, x) ∷ e ∷ es) ((e.0, x) ∷ es) (e ∷ rest))
    ≡ (elim o [
      | Less ↦ model.kind_field (string_bytes k) (kind_view x) (model.kind_field (string_bytes e.0) (kind_view e.1) (fields_view es))
      | Equal ↦ model.kind_field (string_bytes k) (kind_view x) (fields_view es)
      | Greater ↦ model.kind_field (string_bytes e.0) (kind_view e.1) (with_field (string_bytes k) (kind_view x) (fields_view es))
    ])
one_field k x e es rest Less is h = refl
one_field k x e es rest Equal is h = ap (λ n. model.kind_field n (kind_view x) (fields_view es))
    (sym (slice_cmp-IsAntisymmetric nat_cmp-IsAntisymmetric (string_bytes k) (string_bytes e.0) is))
one_field k x e es rest Greater is h = ap (model.kind_field (string_bytes e.0) (kind_view e.1)) h

-- a kind put into the map is a field put in its place among the others
pub fields-insert : (k : String Global) (x : Kind) (es : List (String Global × Kind))
    → fields_view (insert_entry string_cmp es k x) ≡ with_field (string_bytes k) (kind_view x) (fields_view es)
fields-insert k x [] = refl
fields-insert k x (e ∷ es) = one_field k x e es (insert_entry string_cmp es k x) (slice_cmp nat_cmp (string_bytes k) (string_bytes e.0)) refl
    (fields-insert k x es)
