-- The first item of a list that equals an earlier one.
use Rattle.std.specs.Prelude.{ℕ, ◌+◌, List, [], ◌∷◌, map, Bool, true, not, ◌==◌, Option, Some, None, option_map, if◌then◌else◌, nat_lt}
use Rattle.std.specs.Borrow.{Bor}
use Rattle.std.specs.List.{list_any}
use Rattle.std.specs.declared.cmp.Ordering.{Ordering}
use Rattle.std.specs.Ordering.{eq_by_cmp, nat_cmp, on, then_cmp}
use Rattle.std.specs.Cmp.Lexicographic.{slice_cmp}
use Rattle.ssa_model.specs.definitions.Json.{Text, Scalar, scalar_text, Json, object, Items, no_items, item, Members, member_of}
use Rattle.ssa_model.specs.definitions.Path.{Element, value}
use Rattle.ssa_model.specs.definitions.Kind.{ScalarKind, item_key}
use Rattle.ssa_json.specs.View.{scalar_view}
use Rattle.ssa_json.specs.declared.value.Scalar as json
use Rattle.ssa_schema.specs.Finds.{scalar_of, scalar_in}
use Rattle.ssa_schema.specs.Tags.{row_tag}
use Rattle.ssa_schema.specs.declared.fit.item_key.ItemKey.{ItemKey}
use Rattle.ssa_schema.specs.declared.fit.item_key.ItemKey.TheVariants.{One, Many}
use Rattle.ssa_schema.specs.declared.fit.tagged_key.TaggedKey.{TaggedKey}

-- the scalars that tell items apart
abbrev pub Row : Type 0
Row = List Scalar

abbrev pub scalars_view : List (Bor json.Scalar) → Row
scalars_view = map (λ s. scalar_view s.now)

abbrev pub row_view : ItemKey → Row
row_view (One only) = scalar_view only.now ∷ []
row_view (Many scalars) = scalars_view scalars.items

-- the tag of a key's row
abbrev pub key_tag : ItemKey → ℕ
key_tag k = row_tag (row_view k)

abbrev pub scalar_cmp : Scalar → Scalar → Ordering
scalar_cmp = on scalar_text (slice_cmp nat_cmp)

abbrev pub row_cmp : Row → Row → Ordering
row_cmp = slice_cmp scalar_cmp

abbrev pub same_row : Row → Row → Bool
same_row = eq_by_cmp row_cmp

-- the place of the first that is one of those before; the first stands at place k
abbrev pub repeat_from : {A : Type 0} → (A → A → Bool) → ℕ → List A → List A → Option ℕ
repeat_from same k before [] = None
repeat_from same k before (x ∷ xs) = if list_any (same x) before then Some k else repeat_from same (k + 1) (x ∷ before) xs

-- ---- among neighbours

abbrev pub lesser : Option ℕ → ℕ → Option ℕ
lesser None n = Some n
lesser (Some m) n = if nat_lt n m then Some n else Some m

-- the least place of one that equals the one in front of it, or the one that is given
abbrev pub least_from : {A : Type 0} → (A → A → Bool) → Option ℕ → A → List (ℕ × A) → Option ℕ
least_from same least last [] = least
least_from same least last (y ∷ ys) = least_from same (if same last y.1 then lesser least y.0 else least) y.1 ys

abbrev pub least_repeat : {A : Type 0} → (A → A → Bool) → List (ℕ × A) → Option ℕ
least_repeat same [] = None
least_repeat same (x ∷ xs) = least_from same None x.1 xs

-- a row behind its tag
abbrev pub TaggedRow : Type 0
TaggedRow = ℕ × Row

abbrev pub tagged : Row → TaggedRow
tagged row = (row_tag row, row)

abbrev pub tagged_view : TaggedKey → TaggedRow
tagged_view t = (t.tag, row_view t.key.now)

-- the order of the tags, and of the rows where the tags are one
abbrev pub tagged_cmp : TaggedRow → TaggedRow → Ordering
tagged_cmp = then_cmp (on (λ t. t.0) nat_cmp) (on (λ t. t.1) row_cmp)

abbrev pub same_tagged : TaggedRow → TaggedRow → Bool
same_tagged = eq_by_cmp tagged_cmp

abbrev pub placed_view : List TaggedKey → List (ℕ × TaggedRow)
placed_view = map (λ t. (t.place, tagged_view t))

-- it is not the one of that place
abbrev pub is_other : Option ℕ → ℕ → Bool
is_other None k = true
is_other (Some n) k = not (n == k)

-- ---- the items of a set, as far as they are scalars of the kind

abbrev pub value_rows : ScalarKind → Items → List Row
value_rows k no_items = []
value_rows k (item v vs) = elim (scalar_of k v) [ None ↦ [] | Some s ↦ (s ∷ []) ∷ value_rows k vs ]

abbrev pub leading_values : ScalarKind → Items → List Element
leading_values k no_items = []
leading_values k (item v vs) = elim (scalar_of k v) [ None ↦ [] | Some s ↦ value s ∷ leading_values k vs ]

-- ---- the items of a map list, as far as they are objects with a scalar under each key's name

abbrev pub cons_row : Option Scalar → Option Row → Option Row
cons_row (Some s) (Some r) = Some (s ∷ r)
cons_row _ _ = None

abbrev pub key_row : List Text → Members → Option Row
key_row [] ms = Some []
key_row (n ∷ ns) ms = cons_row (scalar_in (member_of n ms)) (key_row ns ms)

abbrev pub row_in : List Text → Json → Option Row
row_in names (object ms) = key_row names ms
row_in names _ = None

abbrev pub item_rows : List Text → Items → List Row
item_rows names no_items = []
item_rows names (item v vs) = elim (row_in names v) [ None ↦ [] | Some r ↦ r ∷ item_rows names vs ]

abbrev pub key_in : List Text → Json → Option Element
key_in names (object ms) = option_map (λ r. item_key names ms) (key_row names ms)
key_in names _ = None

abbrev pub leading_keys : List Text → Items → List Element
leading_keys names no_items = []
leading_keys names (item v vs) = elim (key_in names v) [ None ↦ [] | Some e ↦ e ∷ leading_keys names vs ]
