-- How many levels a kind has: a value without faults nests no deeper, and no path of a place is longer.
use Rattle.std.proofs.Common.{◌≡◌, ◌≤◌, ℕ, suc, ◌+◌, List, [], ◌∷◌, Option, Some, None, length, true, false, refl, sym, ap, ◌∙◌, arith}
use Rattle.std.proofs.Math.Nat.{max-le}
use Rattle.std.proofs.lemmas.Option.{same_Some, none-some}
use Rattle.std.specs.Prelude.{max, if◌then◌else◌}
use Rattle.ssa_model.specs.definitions.Json.{Text, Json, scalar, list, object, Items, no_items, item, Members, no_members, member, same_text, depth, items_depth, members_depth}
use Rattle.ssa_model.specs.definitions.Path.{Element, field, key, value, Path}
use Rattle.ssa_model.specs.definitions.Kind as kinds
use Rattle.ssa_model.specs.definitions.Kind.{ScalarKind, Shape, scalar_shape, record_shape, dict_shape, list_shape, ShapeFields, no_shape_fields, shape_field, Kind, scalar_kind, atomic_of, record_of, dict_of, items_of, Fields, no_fields, kind_field, kind_of, shape_of, is_of, shape_faults, shape_field_faults, shape_entry_faults, shape_item_faults}
use Rattle.ssa_model.specs.definitions.Fitting.{Place, of_kind, item_of, value_of, place_below, place_at, are_keys}
use Rattle.ssa_model.specs.laws.Faultless.{Fits, FieldsFit, EntriesFit}
use Rattle.ssa_model.proofs.Faults.{cons≢nil, nil_first, nil_second, shape_test, shape_member-now}
use Rattle.ssa_model.proofs.FaultlessParts.{ValuesFitAfter, ItemsFitAfter, member-first, member-rest, entry-first, entry-rest, value-rest, item-parts, item-rest}
use Rattle.ssa_model.proofs.Places.{if-some, kind-placed}

-- ---- levels

abbrev mutual
  -- how deep a value of the shape may nest
  pub shape_levels : Shape → ℕ
  shape_levels (scalar_shape k) = 0
  shape_levels (record_shape fs) = suc (shape_fields_levels fs)
  shape_levels (dict_shape s) = suc (shape_levels s)
  shape_levels (list_shape s) = suc (shape_levels s)

  -- how deep a value of one of the fields may nest
  pub shape_fields_levels : ShapeFields → ℕ
  shape_fields_levels no_shape_fields = 0
  shape_fields_levels (shape_field n s fs) = max (shape_levels s) (shape_fields_levels fs)

abbrev mutual
  -- how deep a value of the kind may nest
  pub levels : Kind → ℕ
  levels (scalar_kind k) = 0
  levels (atomic_of s) = shape_levels s
  levels (record_of fs) = suc (fields_levels fs)
  levels (dict_of k) = suc (levels k)
  levels (kinds.set_of k) = 1
  levels (items_of names fs) = suc (suc (fields_levels fs))

  -- how deep a value of one of the fields may nest
  pub fields_levels : Fields → ℕ
  fields_levels no_fields = 0
  fields_levels (kind_field n k fs) = max (levels k) (fields_levels fs)

shape_field-levels : (n : Text) (fs : ShapeFields) (s : Shape) → shape_of n fs ≡ Some s → shape_levels s ≤ shape_fields_levels fs
shape_field-levels n no_shape_fields s is = absurd (none-some s is)
shape_field-levels n (shape_field m t fs) s is =
    elim (same_text n m) as (λ b. (if b then Some t else shape_of n fs) ≡ Some s → shape_levels s ≤ max (shape_levels t) (shape_fields_levels fs)) [
      | true ↦ λ own. let e = ap shape_levels (same_Some t s own) in omega arith
      | false ↦ λ other. let h = shape_field-levels n fs s other in omega arith
    ] is

field-levels : (n : Text) (fs : Fields) (k : Kind) → kind_of n fs ≡ Some k → levels k ≤ fields_levels fs
field-levels n no_fields k is = absurd (none-some k is)
field-levels n (kind_field m j fs) k is =
    elim (same_text n m) as (λ b. (if b then Some j else kind_of n fs) ≡ Some k → levels k ≤ max (levels j) (fields_levels fs)) [
      | true ↦ λ own. let e = ap levels (same_Some j k own) in omega arith
      | false ↦ λ other. let h = field-levels n fs k other in omega arith
    ] is

-- ---- atomic values

shape_member-depth : (o : Option Shape) (fs : ShapeFields) (n : Text) (v : Json) (p : Path) → shape_of n fs ≡ o
    → ((s : Shape) → shape_faults s v p ≡ [] → depth v ≤ shape_levels s) → shape_test v p o ≡ [] → depth v ≤ shape_fields_levels fs
shape_member-depth None fs n v p is inside e = absurd (cons≢nil e)
shape_member-depth (Some s) fs n v p is inside e = let own = inside s e in let field = shape_field-levels n fs s is in omega arith

mutual
  -- a value without faults in an atomic one nests no deeper than its shape has levels
  pub shape-depth : (s : Shape) (v : Json) (p : Path) → shape_faults s v p ≡ [] → depth v ≤ shape_levels s
  shape-depth (scalar_shape k) (scalar t) p e = omega arith
  shape-depth (record_shape fs) (object ms) p e = let h = shape_fields-depth fs ms p e in omega arith
  shape-depth (dict_shape s) (object ms) p e = let h = shape_entries-depth s ms p e in omega arith
  shape-depth (list_shape s) (list vs) p e = let h = shape_items-depth s vs p e in omega arith
  shape-depth _ _ p e = absurd (cons≢nil e)

  shape_fields-depth : (fs : ShapeFields) (ms : Members) (p : Path) → shape_field_faults fs ms p ≡ [] → members_depth ms ≤ shape_fields_levels fs
  shape_fields-depth fs no_members p e = omega arith
  shape_fields-depth fs (member n v ms) p e =
      let now = sym (shape_member-now fs n v ms p) ∙ e in
      max-le (shape_member-depth (shape_of n fs) fs n v p refl (λ s f. shape-depth s v p f) (nil_first (shape_test v p (shape_of n fs)) _ now))
      (shape_fields-depth fs ms p (nil_second (shape_test v p (shape_of n fs)) _ now))

  shape_entries-depth : (s : Shape) (ms : Members) (p : Path) → shape_entry_faults s ms p ≡ [] → members_depth ms ≤ shape_levels s
  shape_entries-depth s no_members p e = omega arith
  shape_entries-depth s (member n v ms) p e = max-le (shape-depth s v p (nil_first (shape_faults s v p) _ e))
      (shape_entries-depth s ms p (nil_second (shape_faults s v p) _ e))

  shape_items-depth : (s : Shape) (vs : Items) (p : Path) → shape_item_faults s vs p ≡ [] → items_depth vs ≤ shape_levels s
  shape_items-depth s no_items p e = omega arith
  shape_items-depth s (item v vs) p e = max-le (shape-depth s v p (nil_first (shape_faults s v p) _ e))
      (shape_items-depth s vs p (nil_second (shape_faults s v p) _ e))

-- ---- values without faults

values-depth : (k : ScalarKind) (vs : Items) → ValuesFitAfter k vs → items_depth vs ≤ 0
values-depth k no_items h = omega arith
values-depth k (item (scalar s) vs) h = max-le (omega arith) (values-depth k vs (value-rest k (scalar s) vs h))
values-depth k (item (list ws) vs) h = absurd (cons≢nil h.1.1)
values-depth k (item (object ms) vs) h = absurd (cons≢nil h.1.1)

mutual
  -- a value without faults nests no deeper than its kind has levels
  pub fits-depth : (k : Kind) (v : Json) → Fits k v → depth v ≤ levels k
  fits-depth (scalar_kind k) (scalar s) h = omega arith
  fits-depth (atomic_of s) v h = shape-depth s v h.0 h.1
  fits-depth (record_of fs) (object ms) h = let inside = fields-depth fs ms h in omega arith
  fits-depth (dict_of k) (object ms) h = let inside = entries-depth k ms h in omega arith
  fits-depth (kinds.set_of k) (list vs) h = let inside = values-depth k vs ([], (h.0, h.1)) in omega arith
  fits-depth (items_of names fs) (list vs) h = let inside = list-depth names fs vs ([], (h.0, h.1)) in omega arith
  fits-depth _ _ h = absurd (cons≢nil h.1)

  -- members without faults nest no deeper than their fields have levels
  pub fields-depth : (fs : Fields) (ms : Members) → FieldsFit fs ms → members_depth ms ≤ fields_levels fs
  fields-depth fs no_members h = omega arith
  fields-depth fs (member n v ms) h =
      let known = member-first fs n v ms h in
      let own = fits-depth known.0 v known.1.1 in
      let field = field-levels n fs known.0 known.1.0 in
      max-le (omega arith) (fields-depth fs ms (member-rest fs n v ms h))

  entries-depth : (k : Kind) (ms : Members) → EntriesFit k ms → members_depth ms ≤ levels k
  entries-depth k no_members h = omega arith
  entries-depth k (member n v ms) h = max-le (fits-depth k v (entry-first k n v ms h)) (entries-depth k ms (entry-rest k n v ms h))

  list-depth : (names : List Text) (fs : Fields) (vs : Items) → ItemsFitAfter names fs vs → items_depth vs ≤ suc (fields_levels fs)
  list-depth names fs no_items h = omega arith
  list-depth names fs (item (scalar s) vs) h = absurd (cons≢nil h.1.1)
  list-depth names fs (item (list ws) vs) h = absurd (cons≢nil h.1.1)
  list-depth names fs (item (object ms) vs) h =
      let own = fields-depth fs ms (item-parts names fs ms vs h).1 in
      max-le (omega arith) (list-depth names fs vs (item-rest names fs (object ms) vs h))

-- ---- paths of places

-- how deep a value at the place may nest
abbrev pub place_levels : Place → ℕ
place_levels (of_kind k) = levels k
place_levels (item_of names fs) = suc (fields_levels fs)
place_levels (value_of s) = 0

fields_below : (n : Text) (fs : Fields) (r : Place) → ◌≡◌ {A = Option Place} (place_below (of_kind (record_of fs)) (field n)) (Some r)
    → place_levels r ≤ fields_levels fs
fields_below n fs r h =
    let known = kind-placed (kind_of n fs) r h in
    let own = field-levels n fs known.0 known.1.0 in
    let same = ap place_levels known.1.1 in
    omega arith

below-levels : (q : Place) (e : Element) (r : Place) → place_below q e ≡ Some r → suc (place_levels r) ≤ place_levels q
below-levels (of_kind (record_of fs)) (field n) r h = let inside = fields_below n fs r h in omega arith
below-levels (of_kind (dict_of k)) (field n) r h = let same = ap place_levels (same_Some (of_kind k) r h) in omega arith
below-levels (of_kind (kinds.set_of k)) (value s) r h = let same = ap place_levels (if-some (is_of k s) (value_of s) r h).1 in omega arith
below-levels (of_kind (items_of names fs)) (key ks) r h = let same = ap place_levels (if-some (are_keys names fs ks) (item_of names fs) r h).1 in omega arith
below-levels (item_of names fs) (field n) r h = let inside = fields_below n fs r h in omega arith
below-levels _ _ r h = absurd (none-some r h)

-- a path from one place to another takes a level for each element
pub place-levels : (p : Path) (q r : Place) → place_at q p ≡ Some r → length p + place_levels r ≤ place_levels q
place-levels [] q r h = let same = ap place_levels (same_Some q r h) in omega arith
place-levels (e ∷ p) q r h =
    elim (place_below q e) as (λ o. place_below q e ≡ o → ◌≡◌ {A = Option Place} (elim o [ None ↦ None | Some s ↦ place_at s p ]) (Some r)
    → suc (length p) + place_levels r ≤ place_levels q) [
      | None ↦ λ _ h. absurd (none-some r h)
      | Some s ↦ λ is h. let later = place-levels p s r h in let own = below-levels q e s is in omega arith
    ] refl h

-- the path of a place is no longer than the kind has levels
pub path-levels : (k : Kind) (p : Path) (r : Place) → place_at (of_kind k) p ≡ Some r → length p ≤ levels k
path-levels k p r h = let own = place-levels p (of_kind k) r h in omega arith
