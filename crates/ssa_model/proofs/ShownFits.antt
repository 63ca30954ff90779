-- The value that a body of a kind shows has no fault.
use Rattle.std.proofs.Common.{◌≡◌, List, [], ◌∷◌, ◌++◌, true, false, not, ◌||◌, Some, None, option_map, refl, sym, ap, ◌∙◌, true≢false}
use Rattle.std.specs.Prelude.{if◌then◌else◌}
use Rattle.std.specs.List.{AllByRecursion}
use Rattle.std.specs.Cmp.{first_so, second_so}
use Rattle.ssa_model.specs.definitions.Json.{Text, Json, object, item, Members, member, same_text}
use Rattle.ssa_model.specs.definitions.Path.{Element, field, value, Path, same_element}
use Rattle.ssa_model.specs.definitions.PathMap.{get, has}
use Rattle.ssa_model.specs.definitions.Kind.{Kind, ScalarKind, Shape, Fields, scalar_kind, atomic_of, record_of, dict_of, no_fields, kind_field, kind_of, is_among, faults, field_faults, entry_faults, value_faults, item_faults, item_key, shape_faults, fault_unless, or_else, wrong_type, duplicate_item, unknown_field, fault_at}
use Rattle.ssa_model.specs.definitions.Body.{Content, leaf, atom, Body, order_at}
use Rattle.ssa_model.specs.definitions.Fitting.{Place, of_kind, item_of, place_below, place_at, content_fits, are_distinct, IsBodyOf}
use Rattle.ssa_model.specs.definitions.Lawful.{are_ordered, is_ordered, is_keyed, is_root_kind, is_record}
use Rattle.ssa_model.specs.definitions.Objects.{shown, shown_fields, entry_members, shown_items, names_below, content_value}
use Rattle.ssa_model.specs.laws.ShownBodies.{ShownFits}
use Rattle.ssa_model.proofs.Faults.{none-found, shape-anywhere}
use Rattle.ssa_model.proofs.Fitting.{same_element-true}
use Rattle.ssa_model.proofs.KindParts.{EachField, each_field, OfEach, OfParts, each_kind}
use Rattle.ssa_model.proofs.Places.{place-after, stands}
use Rattle.ssa_model.proofs.ShownItems.{each-among, IsSetItem, set-item, IsListItem, list-item}
use Rattle.ssa_model.proofs.ShownNames.{names-there}
use Rattle.ssa_model.proofs.Tables.{text-itself, element-itself, true_or}
use Rattle.ssa_model.proofs.Basics.{or_true, not_true as no}

-- ---- single contents

scalar-fits : (k : ScalarKind) (c : Content) (q : Path) → content_fits (of_kind (scalar_kind k)) c ≡ true
    → faults (scalar_kind k) (content_value (Some c)) q ≡ []
scalar-fits k (leaf s) q h = ap (λ b. fault_unless b wrong_type q) h
scalar-fits k _ q h = absurd (true≢false (sym h))

-- ---- members

member-joins : (fs : Fields) (n : Text) (k : Kind) (v : Json) (ms : Members) (q : Path) → kind_of n fs ≡ Some k → faults k v (q ++ field n ∷ []) ≡ []
    → field_faults fs ms q ≡ [] → field_faults fs (member n v ms) q ≡ []
member-joins fs n k v ms q is first rest =
    ap (λ o. elim o [ None ↦ fault_at unknown_field (q ++ field n ∷ []) ∷ [] | Some j ↦ faults j v (q ++ field n ∷ []) ] ++ field_faults fs ms q) is
    ∙ (λ i. first i ++ rest i)

module _ (b : Body) (p : Path) where
  -- the field is known, and what stands there fits it
  abbrev IsFitField : Fields → Text → Kind → Type 0
  IsFitField fs n k = (kind_of n fs ≡ Some k) × (has b (p ++ field n ∷ []) ≡ true → (q : Path) → faults k (shown k b (p ++ field n ∷ [])) q ≡ [])

  members-fit : (fs gs : Fields) (q : Path) → EachField (IsFitField fs) gs → field_faults fs (shown_fields gs b p) q ≡ []
  members-fit fs no_fields q h = refl
  members-fit fs (kind_field n k gs) q h =
      let rest = members-fit fs gs q h.1 in
      let ms = shown_fields gs b p in
      elim (has b (p ++ field n ∷ [])) as (λ t. has b (p ++ field n ∷ []) ≡ t
      → field_faults fs (if t then member n (shown k b (p ++ field n ∷ [])) (shown_fields gs b p) else shown_fields gs b p) q ≡ []) [
        | true ↦ λ t. member-joins fs n k (shown k b (p ++ field n ∷ [])) (shown_fields gs b p) q h.0.0 (h.0.1 t (q ++ field n ∷ [])) rest
        | false ↦ λ t. rest
      ] refl

  entries-fit : (k : Kind) (ns : List Text) (q : Path) → AllByRecursion (λ n. (r : Path) → faults k (shown k b (p ++ field n ∷ [])) r ≡ []) ns
      → entry_faults k (entry_members (shown k b) p ns) q ≡ []
  entries-fit k [] q h = refl
  entries-fit k (n ∷ ns) q h = let rest = entries-fit k ns q h.1 in λ i. h.0 (q ++ field n ∷ []) i ++ rest i

-- ---- items

-- none of these is one of the earlier ones
abbrev AreNew : List Element → List Element → Type 0
AreNew earlier es = (e : Element) → is_among e es ≡ true → is_among e earlier ≡ false

rest-new : (e : Element) (es earlier : List Element) → are_distinct (e ∷ es) ≡ true → AreNew earlier (e ∷ es) → AreNew (e ∷ earlier) es
rest-new e es earlier apart new f among =
    elim (same_element f e) as (λ t. same_element f e ≡ t → (t || is_among f earlier) ≡ false) [
      | true ↦ λ t. absurd (true≢false (sym among ∙ ap (λ x. is_among x es) (same_element-true f e t) ∙ no (is_among e es) (first_so _ _ apart)))
      | false ↦ λ t. new f (or_true (same_element f e) (is_among f es) among)
    ] refl

first-new : (e : Element) (es earlier : List Element) → AreNew earlier (e ∷ es) → is_among e earlier ≡ false
first-new e es earlier new = new e (true_or (same_element e e) (is_among e es) (element-itself e))

module _ (kind : Kind) (b : Body) (p : Path) where
  values-fit : (k : ScalarKind) (es earlier : List Element) (q : Path) → AllByRecursion (IsSetItem k b p) es → are_distinct es ≡ true → AreNew earlier es
      → value_faults k earlier (shown_items (λ r. content_value (get b r)) p es) q ≡ []
  values-fit k [] earlier q h apart new = refl
  values-fit k (e ∷ es) earlier q h apart new =
      let own = h.0.own in
      let items = shown_items (λ r. content_value (get b r)) p es in
      let fresh : is_among (value own) earlier ≡ false = ap (λ x. is_among x earlier) (sym h.0.is_own) ∙ first-new e es earlier new in
      let rest : value_faults k (value own ∷ earlier) items q ≡ [] = ap (λ x. value_faults k (x ∷ earlier) items q) (sym h.0.is_own)
      ∙ values-fit k es (e ∷ earlier) q h.1 (second_so (not (is_among e es)) _ apart) (rest-new e es earlier apart new) in
      ap (λ c. value_faults k earlier (item (content_value c) items) q) h.0.there
      ∙ (λ i. or_else (fault_unless (h.0.fits i) wrong_type q) (fault_unless (not (fresh i)) duplicate_item (q ++ value own ∷ [])) ++ rest i)

  module _ (ns : List Text) (fs : Fields) where
    items-fit : (es earlier : List Element) (q : Path) → AllByRecursion (IsListItem kind ns fs b p) es
        → AllByRecursion (λ e. (r : Path) → field_faults fs (shown_fields fs b (p ++ e ∷ [])) r ≡ []) es
        → are_distinct es ≡ true → AreNew earlier es → item_faults ns fs earlier (shown_items (λ r. object (shown_fields fs b r)) p es) q ≡ []
    items-fit [] earlier q h fits apart new = refl
    items-fit (e ∷ es) earlier q h fits apart new =
        let ms = shown_fields fs b (p ++ e ∷ []) in
        let items = shown_items (λ r. object (shown_fields fs b r)) p es in
        let fresh : is_among (item_key ns ms) earlier ≡ false = ap (λ x. is_among x earlier) h.0.own_key ∙ first-new e es earlier new in
        let rest : item_faults ns fs (item_key ns ms ∷ earlier) items q ≡ [] = ap (λ x. item_faults ns fs (x ∷ earlier) items q) h.0.own_key
        ∙ items-fit es (e ∷ earlier) q h.1 fits.1 (second_so (not (is_among e es)) _ apart) (rest-new e es earlier apart new) in
        λ i. or_else (h.0.keys q i) (if fresh i then fault_at duplicate_item (q ++ item_key ns ms ∷ []) ∷ [] else fits.0 (q ++ item_key ns ms ∷ []) i) ++ rest i

-- ---- any kind

module _ (kind : Kind) (b : Body) (k : IsBodyOf kind b) where
  -- the value that is shown has no fault at any place of this kind that the body has
  abbrev pub Fits : Kind → Type 0
  Fits j = (p q : Path) → place_at (of_kind kind) p ≡ Some (of_kind j) → has b p ≡ true → faults j (shown j b p) q ≡ []

  atomic-fits : (s : Shape) (c : Content) (q : Path) → content_fits (of_kind (atomic_of s)) c ≡ true → faults (atomic_of s) (content_value (Some c)) q ≡ []
  atomic-fits s (atom v) q h = shape-anywhere s v [] q (none-found (shape_faults s v []) h)
  atomic-fits s _ q h = absurd (true≢false (sym h))

  -- the members of a place with fields
  pub fields-fit : (r : Place) (fs : Fields) (p q : Path)
      → ((n : Text) → place_below r (field n) ≡ option_map of_kind (kind_of n fs)) → place_at (of_kind kind) p ≡ Some r → are_ordered fs ≡ true → OfEach Fits fs
      → field_faults fs (shown_fields fs b p) q ≡ []
  fields-fit r fs p q like at ordered each =
      members-fit b p fs fs q (each_field (IsFitField b p fs) fs ordered
      (λ n j is. (is, λ one t. each n j is (p ++ field n ∷ []) t (place-after p (of_kind kind) (field n) r at ∙ like n ∙ ap (option_map of_kind) is) one)))

  dict-fits : (j : Kind) (p q : Path) → place_at (of_kind kind) p ≡ Some (of_kind (dict_of j)) → Fits j
      → entry_faults j (entry_members (shown j b) p (names_below b p)) q ≡ []
  dict-fits j p q at each =
      entries-fit b p j (names_below b p) q (each-among same_text text-itself (λ n. (r : Path)
      → faults j (shown j b (p ++ field n ∷ [])) r ≡ []) (names_below b p)
      (λ n among r. each (p ++ field n ∷ []) r (place-after p (of_kind kind) (field n) (of_kind (dict_of j)) at) (sym (names-there b p n) ∙ among)))

  -- so it is at each place of a kind, where it is at those of the kind's parts
  pub all_fit : OfParts Fits
  all_fit = record {
    of_scalar = λ s p q at one. let c = stands kind b k p (of_kind (scalar_kind s)) at one in ap (λ o. faults (scalar_kind s) (content_value o) q) c.is_there
        ∙ scalar-fits s c.content q c.fits;
    of_atomic = λ s p q at one. let c = stands kind b k p (of_kind (atomic_of s)) at one in ap (λ o. faults (atomic_of s) (content_value o) q) c.is_there
        ∙ atomic-fits s c.content q c.fits;
    of_record = λ fs ordered each p q at one. fields-fit (of_kind (record_of fs)) fs p q (λ n. refl) at ordered each;
    of_dict = λ j each p q at one. dict-fits j p q at each;
    of_set = λ s p q at one.
        values-fit kind b p s (order_at (get b p)) [] q (each-among same_element element-itself (IsSetItem s b p) (order_at (get b p))
        (λ e among. set-item kind b k s p e at among)) (k.once p) (λ e _. refl);
    of_items = λ ns fs names ordered each p q at one.
        let items = each-among same_element element-itself (IsListItem kind ns fs b p) (order_at (get b p))
        (λ e among. list-item kind b k ns fs names p e at among) in
        items-fit kind b p ns fs (order_at (get b p)) [] q items
        (each-among same_element element-itself (λ e. (r : Path) → field_faults fs (shown_fields fs b (p ++ e ∷ [])) r ≡ []) (order_at (get b p))
        (λ e among r. fields-fit (item_of ns fs) fs (p ++ e ∷ []) r (λ n. refl) (list-item kind b k ns fs names p e at among).at ordered each))
        (k.once p) (λ e _. refl);
  }

-- the value that a body of a lawful kind shows has no fault
pub shown_fits : ShownFits
shown_fits kind body lawful k =
    let ordered = first_so (is_ordered kind) _ (second_so (is_root_kind kind) _ lawful) in
    let keyed = second_so (is_record kind) (is_keyed kind) (first_so _ _ lawful) in
    each_kind (Fits kind body k) (all_fit kind body k) kind ordered keyed [] [] refl k.root
