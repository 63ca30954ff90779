-- The places of a value without faults that names no member of a place twice are those at which something stands, each with its content.
use Rattle.std.proofs.Common.{◌≡◌, List, [], ◌∷◌, ◌++◌, Bool, true, false, not, cond, ◌&&◌, ◌||◌, Option, Some, None, option_map, refl, sym, ap, subst, ◌∙◌, true≢false}
use Rattle.std.specs.Prelude.{if◌then◌else◌, option_and_then}
use Rattle.std.specs.Cmp.{first_so, second_so}
use Rattle.std.specs.FinMap.Entries.{find}
use Rattle.std.specs.Option.{option_or}
use Rattle.ssa_model.specs.definitions.Json.{Text, Scalar, Json, scalar, list, object, Items, no_items, item, Members, no_members, member, member_of, same_text}
use Rattle.ssa_model.specs.definitions.Path.{Element, field, key, value, Path, element_cmp, path_cmp, same_element, same_path}
use Rattle.ssa_model.specs.definitions.Kind as kinds
use Rattle.ssa_model.specs.definitions.Kind.{Kind, Fields, scalar_kind, atomic_of, record_of, dict_of, items_of, kind_of, is_among, item_key}
use Rattle.ssa_model.specs.definitions.Body.{Content, leaf, atom, record_branch, dict_branch, list_branch, places, field_places, entry_places, value_places, item_places, value_order, key_order}
use Rattle.ssa_model.specs.definitions.Fitting.{Place, of_kind, item_of, value_of, are_distinct}
use Rattle.ssa_model.specs.definitions.Objects.{is_missing}
use Rattle.ssa_model.specs.laws.Faultless.{Fits, FieldsFit, EntriesFit}
use Rattle.ssa_model.proofs.Faults.{cons≢nil}
use Rattle.ssa_model.proofs.FaultlessParts.{member-first, member-rest, entry-first, entry-rest, ValuesFitAfter, value-rest, ItemsFitAfter, item-parts, item-rest, values-distinct, items-distinct}
use Rattle.ssa_model.proofs.Fitting.{same_element-true}
use Rattle.ssa_model.proofs.NamesOnce.{names_once, fields_once, entries_once, items_once, field_once}
use Rattle.ssa_model.proofs.PlacesTold.{Entries, find-both}
use Rattle.ssa_model.proofs.Reaching.{Standing, Level, nothing_below, member_level, value_level, item_at, item_level, level, reached, content_of, content_at, own_scalar}
use Rattle.ssa_model.proofs.Tables.{same_text-true}
use Rattle.ssa_model.proofs.Basics.{not_true as no, then_both}

-- ---- what follows a beginning

-- what follows the first path in the second
abbrev pub rest : Path → Path → Option Path
rest [] x = Some x
rest (f ∷ p) [] = None
rest (f ∷ p) (e ∷ x) = if same_element e f then rest p x else None

-- what follows an element
abbrev after : Element → Path → Option Path
after e [] = None
after e (f ∷ x) = if same_element f e then Some x else None

rest-push : (p : Path) (e : Element) (x : Path) → rest (p ++ e ∷ []) x ≡ option_and_then (after e) (rest p x)
rest-push [] e [] = refl
rest-push [] e (f ∷ x) = refl
rest-push (g ∷ p) e [] = refl
rest-push (g ∷ p) e (f ∷ x) =
    elim (same_element f g) as (λ t. (if t then rest (p ++ e ∷ []) x else None) ≡ option_and_then (after e) (if t then rest p x else None))
    [ true ↦ rest-push p e x | false ↦ refl ]

abbrev is_here : Option Path → Bool
is_here (Some []) = true
is_here _ = false

rest-here : (p x : Path) → same_path x p ≡ is_here (rest p x)
rest-here [] [] = refl
rest-here [] (e ∷ x) = refl
rest-here (f ∷ p) [] = refl
rest-here (f ∷ p) (e ∷ x) =
    then_both (element_cmp e f) (path_cmp x p)
    ∙ elim (same_element e f) as (λ t. (t && same_path x p) ≡ is_here (if t then rest p x else None)) [ true ↦ rest-here p x | false ↦ refl ]

-- ---- lists of entries that tell what stands below a path

-- what stands at the end of a path, if anything
abbrev pub Reach : Type 0
Reach = Path → Option Standing

-- the entries are what stands where this leads to from the path
abbrev pub TellsReached : Path → Reach → Entries → Type 0
TellsReached p f rs = (x : Path) → find path_cmp x rs ≡ content_at (option_and_then f (rest p x))

-- what stands below each element, and nothing here
abbrev pub reached_below : Level → Reach
reached_below s [] = None
reached_below s (e ∷ x) = option_and_then (λ y. reached y.0 y.1 x) (s e)

none-told : (p : Path) (s : Level) → ((e : Element) → s e ≡ None) → TellsReached p (reached_below s) []
none-told p s none x = by (rest p x)
  where
    by : (o : Option Path) → ◌≡◌ {A = Option Content} None (content_at (option_and_then (reached_below s) o))
    by None = refl
    by (Some []) = refl
    by (Some (e ∷ y)) = ap (λ o. content_at (option_and_then (λ z. reached z.0 z.1 y) o)) (sym (none e))

head-told : (p : Path) (q : Place) (v : Json) (c : Content) (rs : Entries) → content_of q v ≡ Some c → TellsReached p (reached_below (level q v)) rs
    → TellsReached p (reached q v) ((p, c) ∷ rs)
head-told p q v c rs own told x = (λ i. cond (rest-here p x i) (Some c) (told x i)) ∙ by (rest p x)
  where
    by : (o : Option Path) → cond (is_here o) (Some c) (content_at (option_and_then (reached_below (level q v)) o))
        ≡ content_at (option_and_then (reached q v) o)
    by None = refl
    by (Some []) = sym own
    by (Some (e ∷ y)) = refl

or-nothing : (o : Option Content) → option_or o None ≡ o
or-nothing None = refl
or-nothing (Some c) = refl

-- one more element in front, below which these entries tell
module _ (p : Path) (e : Element) (q : Place) (v : Json) (s t : Level) (xs ys : Entries)
    (first : (f : Element) → s f ≡ (if same_element f e then Some (q, v) else t f)) (new : t e ≡ None) where
  one-next : (f : Element) (z : Path) (b : Bool) → same_element f e ≡ b
      → option_or (content_at (option_and_then (reached q v) (if b then Some z else None))) (content_at (option_and_then (λ y. reached y.0 y.1 z) (t f)))
      ≡ content_at (option_and_then (λ y. reached y.0 y.1 z) (if b then Some (q, v) else t f))
  one-next f z true same =
      ap (λ o. option_or (content_at (reached q v z)) (content_at (option_and_then (λ y. reached y.0 y.1 z) o))) (ap t (same_element-true f e same) ∙ new)
      ∙ or-nothing (content_at (reached q v z))
  one-next f z false same = refl

  each-next : (o : Option Path) → option_or (content_at (option_and_then (reached q v) (option_and_then (after e) o)))
      (content_at (option_and_then (reached_below t) o)) ≡ content_at (option_and_then (reached_below s) o)
  each-next None = refl
  each-next (Some []) = refl
  each-next (Some (f ∷ z)) = one-next f z (same_element f e) refl ∙ ap (λ o. content_at (option_and_then (λ y. reached y.0 y.1 z) o)) (sym (first f))

  next-told : TellsReached (p ++ e ∷ []) (reached q v) xs → TellsReached p (reached_below t) ys → TellsReached p (reached_below s) (xs ++ ys)
  next-told g h x =
      find-both xs ys x ∙ (λ i. option_or ((g x ∙ ap (λ o. content_at (option_and_then (reached q v) o)) (rest-push p e x)) i) (h x i)) ∙ each-next (rest p x)

-- ---- levels with one element more

-- what is told to be missing is not there
pub missing : (o : Option Json) → is_missing o ≡ true → o ≡ None
missing None h = refl
missing (Some v) h = absurd (true≢false (sym h))

module _ (kinds_of : Text → Option Kind) where
  no-members : (e : Element) → member_level kinds_of no_members e ≡ None
  no-members (field n) = refl
  no-members (key ks) = refl
  no-members (value s) = refl

  first-member : (n : Text) (v : Json) (k : Kind) (ms : Members) → kinds_of n ≡ Some k → (f : Element)
      → member_level kinds_of (member n v ms) f ≡ (if same_element f (field n) then Some (of_kind k, v) else member_level kinds_of ms f)
  first-member n v k ms is (key ks) = refl
  first-member n v k ms is (value s) = refl
  first-member n v k ms is (field m) =
      elim (same_text m n) as (λ t. same_text m n ≡ t → option_and_then (λ w. option_map (λ j. (of_kind j, w)) (kinds_of m))
      (if t then Some v else member_of m ms) ≡ (if t then Some (of_kind k, v) else member_level kinds_of ms (field m))) [
        | true ↦ λ t. ap (option_map (λ j. (of_kind j, v))) (ap kinds_of (same_text-true m n t) ∙ is)
        | false ↦ λ t. refl
      ] refl

  new-member : (n : Text) (ms : Members) → is_missing (member_of n ms) ≡ true → member_level kinds_of ms (field n) ≡ None
  new-member n ms h = ap (option_and_then (λ w. option_map (λ j. (of_kind j, w)) (kinds_of n))) (missing (member_of n ms) h)

no-values : (e : Element) → value_level no_items e ≡ None
no-values (field n) = refl
no-values (key ks) = refl
no-values (value s) = refl

first-value : (s : Scalar) (vs : Items) (f : Element) → value_level (item (scalar s) vs) f
    ≡ (if same_element f (value s) then Some (value_of s, scalar s) else value_level vs f)
first-value s vs (field n) = refl
first-value s vs (key ks) = refl
first-value s vs (value t) =
    elim (same_element (value t) (value s)) as (λ b. same_element (value t) (value s) ≡ b
    → (if b || is_among (value t) (value_order vs) then Some (value_of t, scalar t) else None)
    ≡ (if b then Some (value_of s, scalar s) else value_level vs (value t))) [
      | true ↦ λ b. ap (λ e. option_map (λ x. (value_of x, scalar x)) (own_scalar e)) (same_element-true (value t) (value s) b)
      | false ↦ λ b. refl
    ] refl

new-value : (s : Scalar) (vs : Items) → is_among (value s) (value_order vs) ≡ false → value_level vs (value s) ≡ None
new-value s vs h = ap (λ b. if b then Some (value_of s, scalar s) else None) h

module _ (ns : List Text) (fs : Fields) where
  no-items : (e : Element) → item_level ns fs no_items e ≡ None
  no-items (field n) = refl
  no-items (key ks) = refl
  no-items (value s) = refl

  first-item : (ms : Members) (vs : Items) (f : Element) → item_level ns fs (item (object ms) vs) f
      ≡ (if same_element f (item_key ns ms) then Some (item_of ns fs, object ms) else item_level ns fs vs f)
  first-item ms vs (field n) = refl
  first-item ms vs (value s) = refl
  first-item ms vs (key ks) =
      elim (same_element (key ks) (item_key ns ms)) as (λ b. option_map (λ xs. (item_of ns fs, object xs)) (if b then Some ms else item_at ns (key ks) vs)
      ≡ (if b then Some (item_of ns fs, object ms) else item_level ns fs vs (key ks))) [ true ↦ refl | false ↦ refl ]

  not-among : (e : Element) (vs : Items) → is_among e (key_order ns vs) ≡ false → item_at ns e vs ≡ None
  not-among e no_items h = refl
  not-among e (item (scalar s) vs) h = not-among e vs h
  not-among e (item (list ws) vs) h = not-among e vs h
  not-among e (item (object ms) vs) h =
      elim (same_element e (item_key ns ms)) as (λ b. (b || is_among e (key_order ns vs)) ≡ false
      → (if b then Some ms else item_at ns e vs) ≡ None) [ true ↦ λ h. absurd (true≢false h) | false ↦ λ h. not-among e vs h ] h

  new-item : (ms : Members) (vs : Items) → is_among (item_key ns ms) (key_order ns vs) ≡ false → item_level ns fs vs (item_key ns ms) ≡ None
  new-item ms vs h = ap (option_map (λ xs. (item_of ns fs, object xs))) (not-among (item_key ns ms) vs h)

-- ---- the places of a value

values-told : (k : kinds.ScalarKind) (vs : Items) (p : Path) → ValuesFitAfter k vs → are_distinct (value_order vs) ≡ true
    → TellsReached p (reached_below (value_level vs)) (value_places vs p)
values-told k no_items p fits apart = none-told p (value_level no_items) no-values
values-told k (item (list ws) vs) p fits apart = absurd (cons≢nil fits.1.1)
values-told k (item (object ms) vs) p fits apart = absurd (cons≢nil fits.1.1)
values-told k (item (scalar s) vs) p fits apart =
    next-told p (value s) (value_of s) (scalar s) (value_level (item (scalar s) vs)) (value_level vs) ((p ++ value s ∷ [], leaf s) ∷ []) (value_places vs p)
    (first-value s vs)
    (new-value s vs (no (is_among (value s) (value_order vs)) (first_so _ _ apart)))
    (head-told (p ++ value s ∷ []) (value_of s) (scalar s) (leaf s) [] refl (none-told (p ++ value s ∷ []) nothing_below (λ e. refl)))
    (values-told k vs p (value-rest k (scalar s) vs fits) (second_so (not (is_among (value s) (value_order vs))) _ apart))

mutual
  -- the places of a fitting value that names no member of a place twice are all that is reached in it
  pub value-told : (k : Kind) (v : Json) (p : Path) → Fits k v → names_once k v ≡ true → TellsReached p (reached (of_kind k) v) (places k v p)
  value-told (scalar_kind k) (scalar s) p fits apart = head-told p (of_kind (scalar_kind k)) (scalar s) (leaf s) [] refl (none-told p nothing_below (λ e. refl))
  value-told (atomic_of t) v p fits apart = head-told p (of_kind (atomic_of t)) v (atom v) [] refl (none-told p nothing_below (λ e. refl))
  value-told (record_of fs) (object ms) p fits apart = head-told p (of_kind (record_of fs)) (object ms) record_branch (field_places fs ms p) refl
      (fields-told fs ms p fits apart)
  value-told (dict_of k) (object ms) p fits apart = head-told p (of_kind (dict_of k)) (object ms) dict_branch (entry_places k ms p) refl
      (entries-told k ms p fits apart)
  value-told (kinds.set_of k) (list vs) p fits apart =
      head-told p (of_kind (kinds.set_of k)) (list vs) (list_branch (value_order vs)) (value_places vs p) refl
      (values-told k vs p ([], fits) (values-distinct k vs fits))
  value-told (items_of ns fs) (list vs) p fits apart =
      head-told p (of_kind (items_of ns fs)) (list vs) (list_branch (key_order ns vs)) (item_places ns fs vs p) refl
      (items-told ns fs vs p ([], fits) apart (items-distinct ns fs vs fits))
  value-told _ _ p fits apart = absurd (cons≢nil fits.1)

  fields-told : (fs : Fields) (ms : Members) (p : Path) → FieldsFit fs ms → fields_once fs ms ≡ true
      → TellsReached p (reached_below (member_level (λ n. kind_of n fs) ms)) (field_places fs ms p)
  fields-told fs no_members p fits apart = none-told p (member_level (λ n. kind_of n fs) no_members) (no-members (λ n. kind_of n fs))
  fields-told fs (member n v ms) p fits apart =
      let fit = member-first fs n v ms fits in
      let own = p ++ field n ∷ [] in
      let later = second_so (is_missing (member_of n ms)) _ apart in
      subst (λ o. TellsReached p (reached_below (member_level (λ m. kind_of m fs) (member n v ms)))
      (elim o [ None ↦ [] | Some k ↦ places k v own ] ++ field_places fs ms p)) (sym fit.1.0)
      (next-told p (field n) (of_kind fit.0) v (member_level (λ m. kind_of m fs) (member n v ms)) (member_level (λ m. kind_of m fs) ms) (places fit.0 v own)
      (field_places fs ms p)
      (first-member (λ m. kind_of m fs) n v fit.0 ms fit.1.0) (new-member (λ m. kind_of m fs) n ms (first_so _ _ apart))
      (value-told fit.0 v own fit.1.1 (sym (ap (λ o. field_once o v) fit.1.0) ∙ first_so (field_once (kind_of n fs) v) _ later))
      (fields-told fs ms p (member-rest fs n v ms fits) (second_so (field_once (kind_of n fs) v) _ later)))

  entries-told : (k : Kind) (ms : Members) (p : Path) → EntriesFit k ms → entries_once k ms ≡ true
      → TellsReached p (reached_below (member_level (λ n. Some k) ms)) (entry_places k ms p)
  entries-told k no_members p fits apart = none-told p (member_level (λ n. Some k) no_members) (no-members (λ n. Some k))
  entries-told k (member n v ms) p fits apart =
      let own = p ++ field n ∷ [] in
      let later = second_so (is_missing (member_of n ms)) _ apart in
      next-told p (field n) (of_kind k) v (member_level (λ m. Some k) (member n v ms)) (member_level (λ m. Some k) ms) (places k v own) (entry_places k ms p)
      (first-member (λ m. Some k) n v k ms refl) (new-member (λ m. Some k) n ms (first_so _ _ apart))
      (value-told k v own (entry-first k n v ms fits) (first_so (names_once k v) _ later))
      (entries-told k ms p (entry-rest k n v ms fits) (second_so (names_once k v) _ later))

  items-told : (ns : List Text) (fs : Fields) (vs : Items) (p : Path) → ItemsFitAfter ns fs vs → items_once fs vs ≡ true → are_distinct (key_order ns vs) ≡ true
      → TellsReached p (reached_below (item_level ns fs vs)) (item_places ns fs vs p)
  items-told ns fs no_items p fits apart order = none-told p (item_level ns fs no_items) (no-items ns fs)
  items-told ns fs (item (scalar s) vs) p fits apart order = absurd (cons≢nil fits.1.1)
  items-told ns fs (item (list ws) vs) p fits apart order = absurd (cons≢nil fits.1.1)
  items-told ns fs (item (object ms) vs) p fits apart order =
      let e = item_key ns ms in
      let own = p ++ e ∷ [] in
      next-told p e (item_of ns fs) (object ms) (item_level ns fs (item (object ms) vs)) (item_level ns fs vs) ((own, record_branch) ∷ field_places fs ms own)
      (item_places ns fs vs p)
      (first-item ns fs ms vs) (new-item ns fs ms vs (no (is_among e (key_order ns vs)) (first_so _ _ order)))
      (head-told own (item_of ns fs) (object ms) record_branch (field_places fs ms own) refl
      (fields-told fs ms own (item-parts ns fs ms vs fits).1 (first_so (fields_once fs ms) _ apart)))
      (items-told ns fs vs p (item-rest ns fs (object ms) vs fits) (second_so (fields_once fs ms) _ apart)
      (second_so (not (is_among e (key_order ns vs))) _ order))
