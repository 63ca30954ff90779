-- Names that differ: in the value that a body shows, and in the atomic values of a flattening.
use Rattle.std.proofs.Common.{◌≡◌, List, [], ◌∷◌, ◌++◌, map, Bool, true, false, cond, not, ◌&&◌, ◌||◌, Option, Some, None, option_map, refl, sym, ap, ◌∙◌, true≢false}
use Rattle.std.proofs.lemmas.Option.{same_Some, none-some}
use Rattle.std.specs.Prelude.{if◌then◌else◌, filter_map, option_and_then}
use Rattle.std.specs.List.{list_any, cons_option, AllByRecursion}
use Rattle.std.specs.Ordering.{is_eq}
use Rattle.std.specs.Cmp.{first_so, second_so}
use Rattle.std.specs.FinMap.Entries.{is_sorted, below_all}
use Rattle.ssa_model.specs.definitions.Json.{Text, Scalar, Json, scalar, list, object, Items, no_items, item, Members, no_members, member, member_of, same_text}
use Rattle.ssa_model.specs.definitions.Path.{Element, field, key, value, Path, path_cmp, same_element}
use Rattle.ssa_model.specs.definitions.PathMap.{get, has, paths}
use Rattle.ssa_model.specs.definitions.Schema.{are_distinct_texts}
use Rattle.ssa_model.specs.definitions.Kind as kinds
use Rattle.ssa_model.specs.definitions.Kind.{Kind, ScalarKind, Shape, Fields, scalar_kind, atomic_of, record_of, dict_of, items_of, no_fields, kind_field, kind_of, is_among, item_key}
use Rattle.ssa_model.specs.definitions.Body.{Content, leaf, atom, Body, order_at, value_order, without_empty_metadata}
use Rattle.ssa_model.specs.definitions.Fitting.{Place, of_kind, item_of, value_of, place_below, place_at, content_fits, IsBodyOf}
use Rattle.ssa_model.specs.definitions.Lawful.{is_before_all, are_ordered, is_ordered, is_keyed, is_root_kind, is_record}
use Rattle.ssa_model.specs.definitions.Objects.{is_missing, shown, shown_fields, entry_members, shown_items, names_below, content_value}
use Rattle.ssa_model.specs.definitions.MemberNames.{has_distinct_names, items_have_distinct_names, are_distinct_members}
use Rattle.ssa_model.specs.laws.FlatBodies.{HasDistinctAtoms, ShownIsDistinct, FlatHasDistinctAtoms}
use Rattle.ssa_model.proofs.Faults.{cons≢nil}
use Rattle.ssa_model.proofs.FlatFits.{left-distinct, flat-tells}
use Rattle.ssa_model.proofs.NamesOnce.{distinct-fields}
use Rattle.ssa_model.proofs.KindParts.{EachField, each_field, OfEach, OfParts, each_kind, none-before}
use Rattle.ssa_model.proofs.PathMaps.{is_one_of}
use Rattle.ssa_model.proofs.Places.{place-after, stands, if-some}
use Rattle.ssa_model.proofs.Reaching.{Standing, member_level, item_at, item_level, level, reached, content_of, content_at}
use Rattle.ssa_model.proofs.ShownItems.{each-among, set-item, list-item}
use Rattle.ssa_model.proofs.ShownNames.{name_of, name-is, among-names, names-there, member_of-fields}
use Rattle.ssa_model.proofs.Tables.{text-itself, element-itself}
use Rattle.ssa_model.proofs.Tests.{holds}
use Rattle.ssa_model.proofs.Basics.{not_true as no, first_false, second_false, lower, yes_no}

-- ---- the names below a path

-- no path stands twice in the list
abbrev pub are_distinct_paths : List Path → Bool
are_distinct_paths [] = true
are_distinct_paths (p ∷ ps) = not (is_one_of ps p) && are_distinct_paths ps

module _ {X : Type 0} where
  below-apart : (q : Path) (es : List (Path × X)) → below_all path_cmp q es ≡ true → is_one_of (map (λ e. e.0) es) q ≡ false
  below-apart q [] h = refl
  below-apart q (e ∷ es) h = λ i. is_eq (lower (path_cmp q e.0) (first_so _ _ h) i) || below-apart q es (second_so _ _ h) i

  -- entries in path order have no path twice
  pub sorted-distinct : (es : List (Path × X)) → is_sorted path_cmp es ≡ true → are_distinct_paths (map (λ e. e.0) es) ≡ true
  sorted-distinct [] h = refl
  sorted-distinct (e ∷ es) h = λ i. not (below-apart e.0 es (first_so _ _ h) i) && sorted-distinct es (second_so _ _ h) i

names-distinct : (p : Path) (ps : List Path) → are_distinct_paths ps ≡ true → are_distinct_texts (filter_map (name_of p) ps) ≡ true
names-distinct p [] h = refl
names-distinct p (q ∷ ps) h =
    elim (name_of p q) as (λ o. name_of p q ≡ o → are_distinct_texts (cons_option o (filter_map (name_of p) ps)) ≡ true) [
      | None ↦ λ _. names-distinct p ps (second_so (not (is_one_of ps q)) _ h)
      | Some n ↦ λ is i.
          not ((among-names p n ps ∙ ap (λ x. is_one_of ps x) (name-is p q n is) ∙ not_one) i) && names-distinct p ps (second_so (not (is_one_of ps q)) _ h) i
    ] refl
  where
    not_one : is_one_of ps q ≡ false
    not_one = no (is_one_of ps q) (first_so _ _ h)

-- the names below a path of a body differ
pub below-distinct : (b : Body) (p : Path) → are_distinct_texts (names_below b p) ≡ true
below-distinct b p = names-distinct p (paths b) (sorted-distinct b.entries (holds (is_sorted path_cmp b.entries) b.in_order))

-- ---- members

module _ (shown_at : Path → Json) (p : Path) where
  -- a name that is none of those shown is missing among the entries that are shown
  pub entry-missing : (n : Text) (ns : List Text) → list_any (same_text n) ns ≡ false → is_missing (member_of n (entry_members shown_at p ns)) ≡ true
  entry-missing n [] h = refl
  entry-missing n (m ∷ ns) h =
      ap (λ t. is_missing (if t then Some (shown_at (p ++ field m ∷ [])) else member_of n (entry_members shown_at p ns))) (first_false (same_text n m) _ h)
      ∙ entry-missing n ns (second_false (same_text n m) _ h)

  entries-distinct : (ns : List Text) → are_distinct_texts ns ≡ true → AllByRecursion (λ n. has_distinct_names (shown_at (p ++ field n ∷ [])) ≡ true) ns
      → are_distinct_members (entry_members shown_at p ns) ≡ true
  entries-distinct [] apart h = refl
  entries-distinct (n ∷ ns) apart h =
      λ i. entry-missing n ns (no (list_any (same_text n) ns) (first_so _ _ apart)) i
      && (h.0 i && entries-distinct ns (second_so (not (list_any (same_text n) ns)) _ apart) h.1 i)

-- no field has the name of one before them all
before-none : (n : Text) (fs : Fields) → is_before_all n fs ≡ true → kind_of n fs ≡ None
before-none n fs h = elim (kind_of n fs) as (λ o. kind_of n fs ≡ o
    → o ≡ None) [ None ↦ λ _. refl | Some k ↦ λ is. yes_no (same_text n n) (text-itself n) (none-before n n k fs h is) ] refl

cond-none : (t : Bool) → ◌≡◌ {A = Option Json} (cond t None None) None
cond-none true = refl
cond-none false = refl

module _ (b : Body) (p : Path) where
  abbrev IsDistinctField : Text → Kind → Type 0
  IsDistinctField n k = has b (p ++ field n ∷ []) ≡ true → has_distinct_names (shown k b (p ++ field n ∷ [])) ≡ true

  -- a name before all names of the fields is missing among the fields that a body shows
  pub field-missing : (n : Text) (fs : Fields) → is_before_all n fs ≡ true → is_missing (member_of n (shown_fields fs b p)) ≡ true
  field-missing n fs h =
      ap is_missing (member_of-fields b p n fs ∙ ap (λ o. cond (has b (p ++ field n ∷ [])) (option_map (λ k. shown k b (p ++ field n ∷ [])) o) None)
      (before-none n fs h) ∙ cond-none (has b (p ++ field n ∷ [])))

  fields-distinct : (fs : Fields) → are_ordered fs ≡ true → EachField IsDistinctField fs → are_distinct_members (shown_fields fs b p) ≡ true
  fields-distinct no_fields ordered h = refl
  fields-distinct (kind_field n k fs) ordered h =
      let others = fields-distinct fs (second_so (is_ordered k) _ (second_so (is_before_all n fs) _ ordered)) h.1 in
      elim (has b (p ++ field n ∷ [])) as (λ t. has b (p ++ field n ∷ []) ≡ t
      → are_distinct_members (if t then member n (shown k b (p ++ field n ∷ [])) (shown_fields fs b p) else shown_fields fs b p) ≡ true) [
        | true ↦ λ t i. field-missing n fs (first_so _ _ ordered) i && (h.0 t i && others i)
        | false ↦ λ t. others
      ] refl

items-distinct : (shown_at : Path → Json) (p : Path) (es : List Element) → AllByRecursion (λ e. has_distinct_names (shown_at (p ++ e ∷ [])) ≡ true) es
    → items_have_distinct_names (shown_items shown_at p es) ≡ true
items-distinct shown_at p [] h = refl
items-distinct shown_at p (e ∷ es) h = λ i. h.0 i && items-distinct shown_at p es h.1 i

-- ---- any kind

module _ (kind : Kind) (b : Body) (k : IsBodyOf kind b) (atoms : HasDistinctAtoms b) where
  abbrev IsDistinct : Kind → Type 0
  IsDistinct j = (p : Path) → place_at (of_kind kind) p ≡ Some (of_kind j) → has b p ≡ true → has_distinct_names (shown j b p) ≡ true

  scalar-distinct : (s : ScalarKind) (c : Content) → content_fits (of_kind (scalar_kind s)) c ≡ true → has_distinct_names (content_value (Some c)) ≡ true
  scalar-distinct s (leaf t) h = refl
  scalar-distinct s _ h = absurd (true≢false (sym h))

  atomic-distinct : (s : Shape) (p : Path) (c : Content) → get b p ≡ Some c → content_fits (of_kind (atomic_of s)) c ≡ true
      → has_distinct_names (content_value (Some c)) ≡ true
  atomic-distinct s p (atom v) is h = atoms p v is
  atomic-distinct s p _ is h = absurd (true≢false (sym h))

  shown-fields : (r : Place) (fs : Fields) (p : Path) → ((n : Text) → place_below r (field n) ≡ option_map of_kind (kind_of n fs))
      → place_at (of_kind kind) p ≡ Some r → are_ordered fs ≡ true → OfEach IsDistinct fs
      → are_distinct_members (shown_fields fs b p) ≡ true
  shown-fields r fs p like at ordered each =
      fields-distinct b p fs ordered
      (each_field (IsDistinctField b p) fs ordered (λ n j is one. each n j is (p ++ field n ∷ []) (place-after p (of_kind kind) (field n) r at ∙ like n
      ∙ ap (option_map of_kind) is) one))

  all_distinct : OfParts IsDistinct
  all_distinct = record {
    of_scalar = λ s p at one. let c = stands kind b k p (of_kind (scalar_kind s)) at one in ap (λ o. has_distinct_names (content_value o)) c.is_there
        ∙ scalar-distinct s c.content c.fits;
    of_atomic = λ s p at one. let c = stands kind b k p (of_kind (atomic_of s)) at one in ap (λ o. has_distinct_names (content_value o)) c.is_there
        ∙ atomic-distinct s p c.content c.is_there c.fits;
    of_record = λ fs ordered each p at one. shown-fields (of_kind (record_of fs)) fs p (λ n. refl) at ordered each;
    of_dict = λ j each p at one.
        entries-distinct (shown j b) p (names_below b p) (below-distinct b p)
        (each-among same_text text-itself (λ n. has_distinct_names (shown j b (p ++ field n ∷ [])) ≡ true) (names_below b p)
        (λ n among. each (p ++ field n ∷ []) (place-after p (of_kind kind) (field n) (of_kind (dict_of j)) at) (sym (names-there b p n) ∙ among)));
    of_set = λ s p at one.
        items-distinct (λ q. content_value (get b q)) p (order_at (get b p))
        (each-among same_element element-itself (λ e. has_distinct_names (content_value (get b (p ++ e ∷ []))) ≡ true) (order_at (get b p))
        (λ e among. ap (λ o. has_distinct_names (content_value o)) (set-item kind b k s p e at among).there));
    of_items = λ ns fs names ordered each p at one.
        items-distinct (λ q. object (shown_fields fs b q)) p (order_at (get b p))
        (each-among same_element element-itself (λ e. are_distinct_members (shown_fields fs b (p ++ e ∷ [])) ≡ true) (order_at (get b p))
        (λ e among. shown-fields (item_of ns fs) fs (p ++ e ∷ []) (λ n. refl) (list-item kind b k ns fs names p e at among).at ordered each));
  }

-- the value that a body of a lawful kind shows names no member twice, where no atomic value of it does
pub shown_is_distinct : ShownIsDistinct
shown_is_distinct kind body lawful k atoms =
    let ordered = first_so (is_ordered kind) _ (second_so (is_root_kind kind) _ lawful) in
    let keyed = second_so (is_record kind) (is_keyed kind) (first_so _ _ lawful) in
    each_kind (IsDistinct kind body k atoms) (all_distinct kind body k atoms) kind ordered keyed [] refl k.root

-- ---- what stands in a value whose names differ

-- where members name none twice at any depth, nor does the value of each of them
pub member-distinct : (n : Text) (ms : Members) (v : Json) → are_distinct_members ms ≡ true → member_of n ms ≡ Some v → has_distinct_names v ≡ true
member-distinct n no_members v apart found = absurd (none-some v found)
member-distinct n (member m w ms) v apart found =
    let later = second_so (is_missing (member_of m ms)) _ apart in
    elim (same_text n m) as (λ t. (if t then Some w else member_of n ms) ≡ Some v → has_distinct_names v ≡ true) [
      | true ↦ λ found. ap has_distinct_names (sym (same_Some w v found)) ∙ first_so (has_distinct_names w) _ later
      | false ↦ λ found. member-distinct n ms v (second_so (has_distinct_names w) _ later) found
    ] found

item-distinct : (ns : List Text) (e : Element) (vs : Items) (ms : Members) → items_have_distinct_names vs ≡ true → item_at ns e vs ≡ Some ms
    → are_distinct_members ms ≡ true
item-distinct ns e no_items ms apart found = absurd (none-some ms found)
item-distinct ns e (item (scalar s) vs) ms apart found = item-distinct ns e vs ms apart found
item-distinct ns e (item (list ws) vs) ms apart found = item-distinct ns e vs ms (second_so (items_have_distinct_names ws) _ apart) found
item-distinct ns e (item (object xs) vs) ms apart found =
    elim (same_element e (item_key ns xs)) as (λ t. (if t then Some xs else item_at ns e vs) ≡ Some ms → are_distinct_members ms ≡ true) [
      | true ↦ λ found. ap are_distinct_members (sym (same_Some xs ms found)) ∙ first_so (are_distinct_members xs) _ apart
      | false ↦ λ found. item-distinct ns e vs ms (second_so (are_distinct_members xs) _ apart) found
    ] found

abbrev IsDistinctStanding : Option Standing → Type 0
IsDistinctStanding o = (x : Standing) → o ≡ Some x → has_distinct_names x.1 ≡ true

member_level-distinct : (kinds_of : Text → Option Kind) (ms : Members) (n : Text) → are_distinct_members ms ≡ true
    → IsDistinctStanding (member_level kinds_of ms (field n))
member_level-distinct kinds_of ms n apart =
    elim (member_of n ms) as (λ o. member_of n ms ≡ o → IsDistinctStanding (option_and_then (λ v. option_map (λ j. (of_kind j, v)) (kinds_of n)) o)) [
      | None ↦ λ _ x h. absurd (none-some x h)
      | Some v ↦ λ own. elim (kinds_of n) as (λ o. IsDistinctStanding (option_map (λ j. (of_kind j, v)) o)) [
        | None ↦ λ x h. absurd (none-some x h)
        | Some j ↦ λ x h. ap (λ (y : Standing). has_distinct_names y.1) (sym (same_Some (of_kind j, v) x h)) ∙ member-distinct n ms v apart own
      ]
    ] refl

item_level-distinct : (ns : List Text) (fs : Fields) (vs : Items) (ks : List (Text × Scalar)) → items_have_distinct_names vs ≡ true
    → IsDistinctStanding (item_level ns fs vs (key ks))
item_level-distinct ns fs vs ks apart =
    elim (item_at ns (key ks) vs) as (λ o. item_at ns (key ks) vs ≡ o → IsDistinctStanding (option_map (λ ms. (item_of ns fs, object ms)) o)) [
      | None ↦ λ _ x h. absurd (none-some x h)
      | Some ms ↦ λ own x h. ap (λ (y : Standing). has_distinct_names y.1) (sym (same_Some (item_of ns fs, object ms) x h))
          ∙ item-distinct ns (key ks) vs ms apart own
    ] refl

level-distinct : (q : Place) (v : Json) (e : Element) → has_distinct_names v ≡ true → IsDistinctStanding (level q v e)
level-distinct (of_kind (record_of fs)) (object ms) (field n) apart = member_level-distinct (λ m. kind_of m fs) ms n apart
level-distinct (of_kind (dict_of k)) (object ms) (field n) apart = member_level-distinct (λ m. Some k) ms n apart
level-distinct (of_kind (kinds.set_of k)) (list vs) (value s) apart =
    λ x h. ap (λ (y : Standing). has_distinct_names y.1) (sym (if-some (is_among (value s) (value_order vs)) (value_of s, scalar s) x h).1)
level-distinct (of_kind (items_of ns fs)) (list vs) (key ks) apart = item_level-distinct ns fs vs ks apart
level-distinct (item_of ns fs) (object ms) (field n) apart = member_level-distinct (λ m. kind_of m fs) ms n apart
level-distinct _ _ _ apart = λ x h. absurd (none-some x h)

abbrev distinct_in : Option Content → Bool
distinct_in (Some (atom v)) = has_distinct_names v
distinct_in _ = true

content-distinct : (q : Place) (v : Json) → has_distinct_names v ≡ true → distinct_in (content_of q v) ≡ true
content-distinct (of_kind (scalar_kind k)) (scalar s) apart = refl
content-distinct (of_kind (atomic_of t)) v apart = apart
content-distinct (of_kind (record_of fs)) (object ms) apart = refl
content-distinct (of_kind (dict_of k)) (object ms) apart = refl
content-distinct (of_kind (kinds.set_of k)) (list vs) apart = refl
content-distinct (of_kind (items_of ns fs)) (list vs) apart = refl
content-distinct (item_of ns fs) (object ms) apart = refl
content-distinct (value_of s) (scalar t) apart = refl
content-distinct _ _ apart = refl

reached-distinct : (p : Path) (q : Place) (v : Json) → has_distinct_names v ≡ true → distinct_in (content_at (reached q v p)) ≡ true
reached-distinct [] q v apart = content-distinct q v apart
reached-distinct (e ∷ p) q v apart =
    elim (level q v e) as (λ o. level q v e ≡ o → distinct_in (content_at (option_and_then (λ (x : Standing). reached x.0 x.1 p) o)) ≡ true) [
      | None ↦ λ _. refl
      | Some x ↦ λ there. reached-distinct p x.0 x.1 (level-distinct q v e apart x there)
    ] refl

-- under a lawful kind, where a value without faults names no member twice, nor does an atomic value of its flattening
pub flat_has_distinct_atoms : FlatHasDistinctAtoms
flat_has_distinct_atoms (record_of fs) (object ms) lawful apart fits p v is =
    sym (ap distinct_in (sym (flat-tells fs ms ([], fits) (distinct-fields fs ms apart) p) ∙ is))
    ∙ reached-distinct p (of_kind (record_of fs)) (object (without_empty_metadata ms)) (left-distinct ms apart)
flat_has_distinct_atoms (record_of fs) (scalar s) lawful apart fits p v is = absurd (cons≢nil fits)
flat_has_distinct_atoms (record_of fs) (list vs) lawful apart fits p v is = absurd (cons≢nil fits)
flat_has_distinct_atoms _ w lawful apart fits p v is = absurd (true≢false (sym lawful))
