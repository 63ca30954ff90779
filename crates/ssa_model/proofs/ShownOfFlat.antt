-- The value of which a body is the flattening is the one that the body shows, but for an empty `metadata`.
use Rattle.std.proofs.Common.{◌≡◌, List, [], ◌∷◌, ◌++◌, map, true, false, not, ◌&&◌, ◌||◌, Option, Some, None, Ordering, Less, option_map, refl, sym, ap, subst, ◌∙◌, true≢false}
use Rattle.std.proofs.lemmas.Option.{same_Some}
use Rattle.std.specs.Prelude.{if◌then◌else◌, is_some, option_and_then, filter_map}
use Rattle.std.specs.List.{cons_option}
use Rattle.std.specs.Ordering.{is_lt, ordering_then}
use Rattle.std.specs.Cmp.{first_so, second_so}
use Rattle.std.specs.FinMap.Entries.{is_sorted, below_all}
use Rattle.ssa_model.specs.definitions.Json.{Text, Scalar, Json, scalar, list, object, Items, no_items, item, Members, no_members, member, member_of}
use Rattle.ssa_model.specs.definitions.Path.{Element, field, value, Path, path_cmp, element_cmp, same_element}
use Rattle.ssa_model.specs.definitions.PathMap.{get, has}
use Rattle.ssa_model.specs.definitions.Kind as kinds
use Rattle.ssa_model.specs.definitions.Kind.{Kind, ScalarKind, Shape, Fields, scalar_kind, atomic_of, record_of, dict_of, items_of, kind_of, is_among, item_key, key_scalars}
use Rattle.ssa_model.specs.definitions.Body.{Body, flat, order_at, value_order, key_order, without_empty_metadata}
use Rattle.ssa_model.specs.definitions.Fitting.{Place, of_kind, item_of, value_of, are_distinct}
use Rattle.ssa_model.specs.definitions.Lawful.{are_ordered, is_ordered, is_keyed, is_record, is_root_kind, names_rise_after}
use Rattle.ssa_model.specs.definitions.MemberNames.{is_below, has_rising_names, items_have_rising_names, members_rise}
use Rattle.ssa_model.specs.definitions.Objects.{shown, shown_fields, shown_items, names_below, content_value}
use Rattle.ssa_model.specs.laws.Faultless.{Fits, FieldsFit}
use Rattle.ssa_model.specs.laws.ShownBodies.{ShownOfFlat, FlatTellsValue}
use Rattle.ssa_model.proofs.Faults.{cons≢nil}
use Rattle.ssa_model.proofs.FaultlessParts.{ValuesFitAfter, value-rest, ItemsFitAfter, item-first, item-rest, items-distinct}
use Rattle.ssa_model.proofs.FlatFits.{is_left_out, without-fits, flat-tells}
use Rattle.ssa_model.proofs.KindParts.{OfEach, OfParts, each_kind}
use Rattle.ssa_model.proofs.NamesOnce.{distinct-once}
use Rattle.ssa_model.proofs.OneWriting.{below-on}
use Rattle.ssa_model.proofs.PartValues.{cmp-below}
use Rattle.ssa_model.proofs.ReachedFits.{own-content}
use Rattle.ssa_model.proofs.Reaching.{Standing, level, member_level, item_at, reached, reached-push, content_at, found-field, found-entry, object-fields}
use Rattle.ssa_model.proofs.RisingMembers.{rising_is_distinct}
use Rattle.ssa_model.proofs.RisingNames.{before, do_rise}
use Rattle.ssa_model.proofs.Fitting.{some_there}
use Rattle.ssa_model.proofs.ShownMembers.{AreShown, fields-shown, entries-shown, found-rises}
use Rattle.ssa_model.proofs.ShownNames.{name_of, name-is, names-there, turned}
use Rattle.ssa_model.proofs.Tables.{element-itself}
use Rattle.ssa_model.proofs.Tests.{holds}
use Rattle.ssa_model.proofs.Basics.{not_true as no, or_true, first_false, second_false}

-- ---- the names below a path rise

then-same : (o : Ordering) → is_lt (ordering_then o (path_cmp [] [])) ≡ is_lt o
then-same Less = refl
then-same _ = refl

-- two fields of one place are in the order of their names
fields-order : (p : Path) (n m : Text) → is_lt (path_cmp (p ++ field n ∷ []) (p ++ field m ∷ [])) ≡ before n m
fields-order p n m = ap is_lt (cmp-below p (field n ∷ []) (field m ∷ [])) ∙ then-same (element_cmp (field n) (field m))

module _ {X : Type 0} (p : Path) where
  -- the names of paths behind one are behind its name
  names-behind : (q : Path) (n : Text) (es : List (Path × X)) → name_of p q ≡ Some n → below_all path_cmp q es ≡ true → is_sorted path_cmp es ≡ true
      → names_rise_after n (filter_map (name_of p) (map (λ e. e.0) es)) ≡ true
  names-behind q n [] is below sorted = refl
  names-behind q n (e ∷ es) is below sorted =
      elim (name_of p e.0) as (λ o. name_of p e.0 ≡ o → names_rise_after n (cons_option o (filter_map (name_of p) (map (λ e. e.0) es))) ≡ true) [
        | None ↦ λ _. names-behind q n es is (second_so _ _ below) (second_so _ _ sorted)
        | Some m ↦ λ own.
            let up : before n m ≡ true =
            sym (fields-order p n m) ∙ (λ i. is_lt (path_cmp (name-is p q n is i) (name-is p e.0 m own i))) ∙ first_so _ _ below in
            λ i. up i && names-behind e.0 m es own (first_so _ _ sorted) (second_so _ _ sorted) i
      ] refl

  names-rise : (es : List (Path × X)) → is_sorted path_cmp es ≡ true → do_rise (filter_map (name_of p) (map (λ e. e.0) es)) ≡ true
  names-rise [] sorted = refl
  names-rise (e ∷ es) sorted =
      elim (name_of p e.0) as (λ o. name_of p e.0 ≡ o → do_rise (cons_option o (filter_map (name_of p) (map (λ e. e.0) es))) ≡ true) [
        | None ↦ λ _. names-rise es (second_so _ _ sorted)
        | Some n ↦ λ own. names-behind e.0 n es own (first_so _ _ sorted) (second_so _ _ sorted)
      ] refl

-- the names below a path of a body rise
below-rise : (b : Body) (p : Path) → do_rise (names_below b p) ≡ true
below-rise b p = names-rise p b.entries (holds (is_sorted path_cmp b.entries) b.in_order)

-- ---- the items of a map list

-- each of these items is found by its key among all
AllFound : List Text → Items → Items → Type 0
AllFound ns vs no_items = Unit {0}
AllFound ns vs (item (object ms) ws) = (item_at ns (item_key ns ms) vs ≡ Some ms) × AllFound ns vs ws
AllFound ns vs (item _ ws) = AllFound ns vs ws

-- so it is among all and one more, of another key
found-behind : (ns : List Text) (ms : Members) (vs ws : Items) → is_among (item_key ns ms) (key_order ns ws) ≡ false → AllFound ns vs ws
    → AllFound ns (item (object ms) vs) ws
unfolding AllFound
found-behind ns ms vs no_items new h = tt
found-behind ns ms vs (item (scalar s) ws) new h = found-behind ns ms vs ws new h
found-behind ns ms vs (item (list us) ws) new h = found-behind ns ms vs ws new h
found-behind ns ms vs (item (object os) ws) new h = (
  ap (λ t. if t then Some ms else item_at ns (item_key ns os) vs)
      (turned (item_key ns ms) (item_key ns os) ∙ first_false (same_element (item_key ns ms) (item_key ns os)) _ new) ∙ h.0,
  found-behind ns ms vs ws (second_false (same_element (item_key ns ms) (item_key ns os)) _ new) h.1,
)

all-found : (ns : List Text) (fs : Fields) (vs : Items) → ItemsFitAfter ns fs vs → are_distinct (key_order ns vs) ≡ true → AllFound ns vs vs
unfolding AllFound
all-found ns fs no_items fits apart = tt
all-found ns fs (item (scalar s) vs) fits apart = absurd (cons≢nil fits.1.1)
all-found ns fs (item (list us) vs) fits apart = absurd (cons≢nil fits.1.1)
all-found ns fs (item (object ms) vs) fits apart = (
  ap (λ t. if t then Some ms else item_at ns (item_key ns ms) vs) (element-itself (item_key ns ms)),
  found-behind ns ms vs vs (no (is_among (item_key ns ms) (key_order ns vs)) (first_so _ _ apart))
      (all-found ns fs vs (item-rest ns fs (object ms) vs fits) (second_so (not (is_among (item_key ns ms) (key_order ns vs))) _ apart)),
)

-- ---- values of any kind

module _ (kind : Kind) (v : Json) (b : Body) (tells : (p : Path) → get b p ≡ content_at (reached (of_kind kind) v p)) where
  abbrev at : Path → Option Standing
  at p = reached (of_kind kind) v p

  -- where a value of the kind stands, the body shows it
  abbrev IsShown : Kind → Type 0
  IsShown k = (p : Path) (w : Json) → at p ≡ Some (of_kind k, w) → Fits k w → has_rising_names w ≡ true → shown k b p ≡ w

  next : (p : Path) (q : Place) (w : Json) (e : Element) → at p ≡ Some (q, w) → at (p ++ e ∷ []) ≡ level q w e
  next p q w e is = reached-push p (of_kind kind) v e ∙ ap (option_and_then (λ x. level x.0 x.1 e)) is

  there-at : (p : Path) → has b p ≡ is_some (content_at (at p))
  there-at p = ap is_some (tells p)

  scalar-shown : (k : ScalarKind) → IsShown (scalar_kind k)
  scalar-shown k p (scalar s) is fits rise = ap content_value (tells p ∙ ap content_at is)
  scalar-shown k p (list vs) is fits rise = absurd (cons≢nil fits.1)
  scalar-shown k p (object ms) is fits rise = absurd (cons≢nil fits.1)

  atomic-shown : (s : Shape) → IsShown (atomic_of s)
  atomic-shown s p w is fits rise = ap content_value (tells p ∙ ap content_at is)

  -- what stands under a name of a kind is there exactly where there is a member of the name
  member-there : (k : Kind) (o : Option Json) → ((w : Json) → o ≡ Some w → Fits k w)
      → is_some (content_at (option_and_then (λ w. Some (of_kind k, w)) o)) ≡ is_some o
  member-there k None fits = refl
  member-there k (Some w) fits = ap is_some (own-content (of_kind k) w (fits w refl)).is_own

  module _ (q : Place) (fs : Fields) (p : Path) (ms : Members)
      (like : (n : Text) → level q (object ms) (field n) ≡ member_level (λ m. kind_of m fs) ms (field n)) (is : at p ≡ Some (q, object ms)) (fits : FieldsFit fs ms) where
    reach : (n : Text) (k : Kind) → kind_of n fs ≡ Some k → at (p ++ field n ∷ []) ≡ option_and_then (λ w. Some (of_kind k, w)) (member_of n ms)
    reach n k own = next p q (object ms) (field n) is ∙ like n ∙ ap (λ o. option_and_then (λ w. option_map (λ j. (of_kind j, w)) o) (member_of n ms)) own

    fit : (n : Text) (k : Kind) (w : Json) → kind_of n fs ≡ Some k → member_of n ms ≡ Some w → Fits k w
    fit n k w own found = let f = found-field fs ms n w fits found in subst (λ j. Fits j w) (same_Some f.0 k (sym f.1.0 ∙ own)) f.1.1

    fields-are : members_rise ms ≡ true → OfEach IsShown fs → AreShown b p fs ms
    fields-are rise each = record {
      there = λ n k own. there-at (p ++ field n ∷ []) ∙ ap (λ o. is_some (content_at o)) (reach n k own) ∙ member-there k (member_of n ms) (λ w found. fit n k w own found);
      shows = λ n k w own found. each n k own (p ++ field n ∷ []) w (reach n k own ∙ ap (option_and_then (λ w. Some (of_kind k, w))) found) (fit n k w own found) (found-rises n w ms rise found);
      known = λ n some. let w = some_there (member_of n ms) some in ap is_some (found-field fs ms n w.0 fits w.1).1.0;
    }

  record-shown : (fs : Fields) → are_ordered fs ≡ true → OfEach IsShown fs → IsShown (record_of fs)
  record-shown fs ordered each p (object ms) is fits rise =
      ap object (fields-shown b p fs ms ordered rise (fields-are (of_kind (record_of fs)) fs p ms (λ n. refl) is fits rise each))
  record-shown fs ordered each p (scalar s) is fits rise = absurd (cons≢nil fits.1)
  record-shown fs ordered each p (list vs) is fits rise = absurd (cons≢nil fits.1)

  dict-shown : (k : Kind) → IsShown k → IsShown (dict_of k)
  dict-shown k each p (object ms) is fits rise =
      let entry : (n : Text) → at (p ++ field n ∷ []) ≡ option_and_then (λ w. Some (of_kind k, w)) (member_of n ms) = λ n. next p (of_kind (dict_of k)) (object ms) (field n) is in
      ap object (entries-shown (shown k b) p (names_below b p) ms (below-rise b p) rise
      (λ n. names-there b p n ∙ there-at (p ++ field n ∷ []) ∙ ap (λ o. is_some (content_at o)) (entry n)
      ∙ member-there k (member_of n ms) (λ w found. found-entry k ms n w fits found))
      (λ n w found. each (p ++ field n ∷ []) w (entry n ∙ ap (option_and_then (λ w. Some (of_kind k, w))) found) (found-entry k ms n w fits found) (found-rises n w ms rise found)))
  dict-shown k each p (scalar s) is fits rise = absurd (cons≢nil fits.1)
  dict-shown k each p (list vs) is fits rise = absurd (cons≢nil fits.1)

  -- ---- lists

  values-shown : (k : ScalarKind) (p : Path) (vs ws : Items) → at p ≡ Some (of_kind (kinds.set_of k), list vs) → ValuesFitAfter k ws
      → ((s : Scalar) → is_among (value s) (value_order ws) ≡ true → is_among (value s) (value_order vs) ≡ true)
      → shown_items (λ q. content_value (get b q)) p (value_order ws) ≡ ws
  values-shown k p vs no_items is fits all = refl
  values-shown k p vs (item (list us) ws) is fits all = absurd (cons≢nil fits.1.1)
  values-shown k p vs (item (object ms) ws) is fits all = absurd (cons≢nil fits.1.1)
  values-shown k p vs (item (scalar s) ws) is fits all =
      let among = all s (ap (λ t. t || is_among (value s) (value_order ws)) (element-itself (value s))) in
      let own = tells (p ++ value s ∷ []) ∙ ap content_at (next p (of_kind (kinds.set_of k)) (list vs) (value s) is
      ∙ ap (λ t. if t then Some (value_of s, scalar s) else None) among) in
      let rest = values-shown k p vs ws is (value-rest k (scalar s) ws fits) (λ t h. all t (or_true (same_element (value t) (value s)) (is_among (value t) (value_order ws)) h)) in
      λ i. item (content_value (own i)) (rest i)

  set-shown : (k : ScalarKind) → IsShown (kinds.set_of k)
  set-shown k p (list vs) is fits rise =
      ap (λ o. list (shown_items (λ q. content_value (get b q)) p (order_at o))) (tells p ∙ ap content_at is)
      ∙ ap list (values-shown k p vs vs is ([], fits) (λ s h. h))
  set-shown k p (scalar s) is fits rise = absurd (cons≢nil fits.1)
  set-shown k p (object ms) is fits rise = absurd (cons≢nil fits.1)

  module _ (ns : List Text) (fs : Fields) (ordered : are_ordered fs ≡ true) (each : OfEach IsShown fs) (p : Path) (vs : Items)
      (is : at p ≡ Some (of_kind (items_of ns fs), list vs)) where
    items-shown : (ws : Items) → ItemsFitAfter ns fs ws → items_have_rising_names ws ≡ true → AllFound ns vs ws
        → shown_items (λ q. object (shown_fields fs b q)) p (key_order ns ws) ≡ ws
    unfolding AllFound
    items-shown no_items fits rise found = refl
    items-shown (item (scalar s) ws) fits rise found = absurd (cons≢nil fits.1.1)
    items-shown (item (list us) ws) fits rise found = absurd (cons≢nil fits.1.1)
    items-shown (item (object ms) ws) fits rise found =
        let e = item_key ns ms in
        let up = first_so (members_rise ms) _ rise in
        let own : at (p ++ e ∷ []) ≡ Some (item_of ns fs, object ms) =
        next p (of_kind (items_of ns fs)) (list vs) e is ∙ ap (option_map (λ xs. (item_of ns fs, object xs))) found.0 in
        let first = fields-shown b (p ++ e ∷ []) fs ms ordered up
        (fields-are (item_of ns fs) fs (p ++ e ∷ []) ms (λ n. refl) own (object-fields ns fs ms (item-first ns fs (object ms) ws fits)) up each) in
        let rest = items-shown ws (item-rest ns fs (object ms) ws fits) (second_so (members_rise ms) _ rise) found.1 in
        λ i. item (object (first i)) (rest i)

  list-shown : (ns : List Text) (fs : Fields) → are_ordered fs ≡ true → OfEach IsShown fs → IsShown (items_of ns fs)
  list-shown ns fs ordered each p (list vs) is fits rise =
      ap (λ o. list (shown_items (λ q. object (shown_fields fs b q)) p (order_at o))) (tells p ∙ ap content_at is)
      ∙ ap list (items-shown ns fs ordered each p vs is vs ([], fits) rise (all-found ns fs vs ([], fits) (items-distinct ns fs vs fits)))
  list-shown ns fs ordered each p (scalar s) is fits rise = absurd (cons≢nil fits.1)
  list-shown ns fs ordered each p (object ms) is fits rise = absurd (cons≢nil fits.1)

  all-shown : OfParts IsShown
  all-shown = record {
    of_scalar = scalar-shown;
    of_atomic = atomic-shown;
    of_record = record-shown;
    of_dict = dict-shown;
    of_set = set-shown;
    of_items = λ ns fs names ordered each. list-shown ns fs ordered each;
  }

-- ---- the laws

-- names rise where an empty `metadata` is left out
left-below : (n : Text) (ms : Members) → is_below n ms ≡ true → members_rise ms ≡ true → is_below n (without_empty_metadata ms) ≡ true
left-below n no_members up rise = refl
left-below n (member m v ms) up rise =
    elim (is_left_out m v) as (λ t. is_below n (if t then ms else member m v (without_empty_metadata ms)) ≡ true)
    [ true ↦ below-on n m ms up (first_so (is_below m ms) _ rise) | false ↦ up ]

left-rise : (ms : Members) → members_rise ms ≡ true → members_rise (without_empty_metadata ms) ≡ true
left-rise no_members rise = refl
left-rise (member m v ms) rise =
    let up = first_so (is_below m ms) _ rise in
    let later = second_so (is_below m ms) _ rise in
    let behind = second_so (has_rising_names v) _ later in
    elim (is_left_out m v) as (λ t. members_rise (if t then ms else member m v (without_empty_metadata ms)) ≡ true) [
      | true ↦ behind
      | false ↦ (λ i. left-below m ms up behind i && (first_so (has_rising_names v) _ later i && left-rise ms behind i))
    ]

pub shown_of_flat : ShownOfFlat
shown_of_flat (record_of fs) (object ms) lawful rise fits =
    let kind = record_of fs in
    let ordered = first_so (is_ordered kind) _ (second_so (is_root_kind kind) _ lawful) in
    let keyed = second_so (is_record kind) (is_keyed kind) (first_so _ _ lawful) in
    let once = distinct-once kind (object ms) (rising_is_distinct (object ms) rise) in
    let left = object (without_empty_metadata ms) in
    each_kind (IsShown kind left (flat kind (object ms)) (flat-tells fs ms ([], fits) once)) (all-shown kind left (flat kind (object ms)) (flat-tells fs ms ([], fits) once))
    kind ordered keyed [] left refl (without-fits fs ms ([], fits)) (left-rise ms rise)
shown_of_flat (record_of fs) (scalar s) lawful rise fits = absurd (cons≢nil fits)
shown_of_flat (record_of fs) (list vs) lawful rise fits = absurd (cons≢nil fits)
shown_of_flat (scalar_kind s) v lawful rise fits = absurd (true≢false (sym lawful))
shown_of_flat (atomic_of s) v lawful rise fits = absurd (true≢false (sym lawful))
shown_of_flat (dict_of j) v lawful rise fits = absurd (true≢false (sym lawful))
shown_of_flat (kinds.set_of j) v lawful rise fits = absurd (true≢false (sym lawful))
shown_of_flat (items_of ns fs) v lawful rise fits = absurd (true≢false (sym lawful))

pub flat_tells_value : FlatTellsValue
flat_tells_value kind v w lawful rise others_rise fits others_fit same =
    sym (shown_of_flat kind v lawful rise fits) ∙ ap (λ b. shown kind b []) same ∙ shown_of_flat kind w lawful others_rise others_fit
