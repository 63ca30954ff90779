-- Each row of a fitting value stands where its kind has a place, and an item has the rows of its key fields.
use Rattle.std.proofs.Common.{◌≡◌, List, [], ◌∷◌, ◌++◌, inl, inr, Bool, true, false, Some, None, refl, sym, ap, subst, ◌∙◌}
use Rattle.std.specs.Prelude.{if◌then◌else◌, option_map}
use Rattle.std.specs.List.{AllByRecursion}
use Rattle.ssa_model.specs.definitions.Json.{Text, Scalar, Json, scalar, list, object, Items, no_items, item, Members, no_members, member, member_of, same_text}
use Rattle.ssa_model.specs.definitions.Path.{Element, field, value, Path}
use Rattle.ssa_model.specs.definitions.Kind as kinds
use Rattle.ssa_model.specs.definitions.Kind.{Kind, ScalarKind, Fields, scalar_kind, atomic_of, record_of, dict_of, items_of, kind_of, is_of, item_key, key_scalars, wrong_type}
use Rattle.ssa_model.specs.definitions.Body.{Content, leaf, atom, record_branch, dict_branch, list_branch, places, field_places, entry_places, value_places, item_places, value_order, key_order}
use Rattle.ssa_model.specs.definitions.Fitting.{Place, of_kind, item_of, value_of, place_below, place_at, content_fits, IsAt, scalar_of}
use Rattle.ssa_model.specs.definitions.Operations.{is_none}
use Rattle.ssa_model.proofs.Faults.{unless-true, shape-anywhere}
use Rattle.ssa_model.proofs.Places.{place-push}
use Rattle.ssa_model.proofs.Tables.{same_text-true}
use Rattle.ssa_model.proofs.Scalars.{same_scalar-itself}
use Rattle.ssa_typed.specs.Rows.{Row}
use Rattle.ssa_model.specs.laws.Faultless.{Fits, FieldsFit, EntriesFit, KeysFit}
use Rattle.ssa_typed.specs.Flats.{member_places}
use Rattle.ssa_model.proofs.FaultlessParts.{ValuesFitAfter, ItemsFitAfter, member-first, member-rest, entry-first, entry-rest, value-is_of, value-rest, item-parts, item-rest}
use Rattle.ssa_model.proofs.FaultlessKeys.{keys-fit, key-member}
use Rattle.ssa_typed.proofs.Laws.{none≢some}
use Rattle.ssa_typed.proofs.TreeRows.{IsRow, all-append, row-left, row-right}
use Rattle.ssa_typed.proofs.Trees.{known-places}
use Rattle.ssa_model.proofs.Basics.{some-same}
use Rattle.ssa_model.proofs.Reaching.{own_keys}

-- ---- the key that a path ends with

-- the key fields of the item at a path, none where no item of a map list stands there
abbrev pub last_keys : Path → List (Text × Scalar)
last_keys [] = []
last_keys (e ∷ []) = own_keys e
last_keys (e ∷ f ∷ p) = last_keys (f ∷ p)

-- with an element behind a path, the key fields are those of the element
pub last_keys-push : (p : Path) (e : Element) → last_keys (p ++ e ∷ []) ≡ own_keys e
last_keys-push [] e = refl
last_keys-push (f ∷ []) e = refl
last_keys-push (f ∷ g ∷ p) e = last_keys-push (g ∷ p) e

-- ---- the rows of a member

member-row-if : (b : Bool) (fs : Fields) (m : Text) (w : Json) (ms : Members) (p : Path) (n : Text) (v : Json) (k : Kind) (r : Row) → same_text n m ≡ b
    → kind_of n fs ≡ Some k → IsRow r (places k v (p ++ field n ∷ []))
    → (member_of n ms ≡ Some v → IsRow r (field_places fs ms p))
    → (if b then Some w else member_of n ms) ≡ Some v → IsRow r (member_places fs m w (p ++ field m ∷ []) ++ field_places fs ms p)
member-row-if true fs m w ms p n v k r same is row later found =
    let named = same_text-true n m same in
    let own = some-same w v found in
    let one : member_places fs m w (p ++ field m ∷ []) ≡ places k v (p ++ field n ∷ []) =
    (λ i. member_places fs (sym named i) (own i) (p ++ field (sym named i) ∷ [])) ∙ known-places n fs v k (p ++ field n ∷ []) is in
    row-left r (member_places fs m w (p ++ field m ∷ [])) (field_places fs ms p) (subst (IsRow r) (sym one) row)
member-row-if false fs m w ms p n v k r same is row later found = row-right r (member_places fs m w (p ++ field m ∷ [])) (field_places fs ms p) (later found)

-- a row of a member is a row of the object
pub member-row : (fs : Fields) (ms : Members) (p : Path) (n : Text) (v : Json) (k : Kind) (r : Row) → kind_of n fs ≡ Some k → member_of n ms ≡ Some v
    → IsRow r (places k v (p ++ field n ∷ [])) → IsRow r (field_places fs ms p)
member-row fs no_members p n v k r is found row = absurd (none≢some found)
member-row fs (member m w ms) p n v k r is found row = member-row-if (same_text n m) fs m w ms p n v k r refl is row
    (λ later. member-row fs ms p n v k r is later row) found

-- the row of a key field of an item
own-key : (ns : List Text) (fs : Fields) (ms : Members) (own : Path) (n : Text) (s : Scalar) → KeysFit ns fs ms → scalar_of n (key_scalars ns ms) ≡ Some s
    → IsRow (own ++ field n ∷ [], leaf s) (field_places fs ms own)
own-key ns fs ms own n s fits found = let is = key-member ns fs ms fits.0 n s fits.1 found in
    member-row fs ms own n (scalar s) (scalar_kind is.of_kind) (own ++ field n ∷ [], leaf s) is.is_kind is.is_own (inl refl)

-- ---- the rows of a value

-- the row stands at a place of the kind, and where it is an item's, the rows of its key fields are there
pub record IsKindRow (root : Kind) (total : List Row) (r : Row) : Type 0 where
  -- the kind has such a place, with such a content
  pub at : IsAt root r.0 r.1
  -- all the rows have the leaf of each key field of an item
  pub keys : (n : Text) (s : Scalar) → scalar_of n (last_keys r.0) ≡ Some s → IsRow (r.0 ++ field n ∷ [], leaf s) total

module _ (root : Kind) (total : List Row) where
  -- each of these rows stands at a place of the kind, with its key fields among all rows
  abbrev pub AllKindRows : List Row → Type 0
  AllKindRows rs = AllByRecursion (IsKindRow root total) rs

  abbrev AreIn : List Row → Type 0
  AreIn rs = (r : Row) → IsRow r rs → IsRow r total

  in-left : (xs ys : List Row) → AreIn (xs ++ ys) → AreIn xs
  in-left xs ys h r one = h r (row-left r xs ys one)

  in-right : (xs ys : List Row) → AreIn (xs ++ ys) → AreIn ys
  in-right xs ys h r one = h r (row-right r xs ys one)

  -- a row that is no item of a map list
  plain-row : (p : Path) (c : Content) (q : Place) → place_at (of_kind root) p ≡ Some q → content_fits q c ≡ true → last_keys p ≡ []
      → IsKindRow root total (p, c)
  plain-row p c q at fits none = record {
    at = record { place = q; there = at; fits = fits };
    keys = λ n s found. absurd (none≢some (sym (ap (scalar_of n) none) ∙ found));
  }

  set_rows : (k : ScalarKind) (vs : Items) (p : Path) → place_at (of_kind root) p ≡ Some (of_kind (kinds.set_of k)) → ValuesFitAfter k vs
      → AllKindRows (value_places vs p)
  set_rows k no_items p at fits = tt
  set_rows k (item (list ws) vs) p at fits = set_rows k vs p at (value-rest k (list ws) vs fits)
  set_rows k (item (object ms) vs) p at fits = set_rows k vs p at (value-rest k (object ms) vs fits)
  set_rows k (item (scalar s) vs) p at fits = (
    plain-row (p ++ value s ∷ []) (leaf s) (value_of s)
        (place-push p (of_kind root) (value s) (of_kind (kinds.set_of k))
        (value_of s) at (ap (λ b. if b then Some (value_of s) else None) (value-is_of k s vs fits)))
        (same_scalar-itself s) (last_keys-push p (value s)),
    set_rows k vs p at (value-rest k (scalar s) vs fits),
  )

  mutual
    -- the rows of a value that fits the kind at its place stand so, where they are among all
    pub value_rows : (k : Kind) (v : Json) (p : Path) → place_at (of_kind root) p ≡ Some (of_kind k) → last_keys p ≡ [] → Fits k v → AreIn (places k v p)
        → AllKindRows (places k v p)
    value_rows (scalar_kind k) (scalar s) p at none fits in_all =
        (plain-row p (leaf s) (of_kind (scalar_kind k)) at (unless-true (is_of k s) wrong_type fits.0 fits.1) none, tt)
    value_rows (atomic_of t) v p at none fits in_all = (
      plain-row p (atom v) (of_kind (atomic_of t)) at (ap is_none (shape-anywhere t v fits.0 [] fits.1))
          none,
      tt,
    )
    value_rows (record_of fs) (object ms) p at none fits in_all = (
      plain-row p record_branch (of_kind (record_of fs)) at refl none,
      field_rows (of_kind (record_of fs)) fs ms p at (λ n. refl) fits (λ r h. in_all r (inr h)),
    )
    value_rows (dict_of k) (object ms) p at none fits in_all =
        (plain-row p dict_branch (of_kind (dict_of k)) at refl none, entry_rows k ms p at fits (λ r h. in_all r (inr h)))
    value_rows (kinds.set_of k) (list vs) p at none fits in_all =
        (plain-row p (list_branch (value_order vs)) (of_kind (kinds.set_of k)) at refl none, set_rows k vs p at ([], fits))
    value_rows (items_of ns fs) (list vs) p at none fits in_all =
        (plain-row p (list_branch (key_order ns vs)) (of_kind (items_of ns fs)) at refl none, item_rows ns fs vs p at ([], fits) (λ r h. in_all r (inr h)))
    value_rows _ _ p at none fits in_all = tt

    field_rows : (q : Place) (fs : Fields) (ms : Members) (p : Path) → place_at (of_kind root) p ≡ Some q
        → ((n : Text) → place_below q (field n) ≡ option_map of_kind (kind_of n fs)) → FieldsFit fs ms
        → AreIn (field_places fs ms p) → AllKindRows (field_places fs ms p)
    field_rows q fs no_members p at below fits in_all = tt
    field_rows q fs (member n v ms) p at below fits in_all =
        let fit = member-first fs n v ms fits in
        let own = p ++ field n ∷ [] in
        let is : member_places fs n v own ≡ places fit.0 v own = known-places n fs v fit.0 own fit.1.0 in
        let there = place-push p (of_kind root) (field n) q (of_kind fit.0) at (below n ∙ ap (option_map of_kind) fit.1.0) in
        all-append (IsKindRow root total) (member_places fs n v own) (field_places fs ms p)
        (subst AllKindRows (sym is) (value_rows fit.0 v own there (last_keys-push p (field n)) fit.1.1
        (subst AreIn is (in-left (member_places fs n v own) (field_places fs ms p) in_all))))
        (field_rows q fs ms p at below (member-rest fs n v ms fits) (in-right (member_places fs n v own) (field_places fs ms p) in_all))

    entry_rows : (k : Kind) (ms : Members) (p : Path) → place_at (of_kind root) p ≡ Some (of_kind (dict_of k)) → EntriesFit k ms → AreIn (entry_places k ms p)
        → AllKindRows (entry_places k ms p)
    entry_rows k no_members p at fits in_all = tt
    entry_rows k (member n v ms) p at fits in_all =
        let own = p ++ field n ∷ [] in
        let there = place-push p (of_kind root) (field n) (of_kind (dict_of k)) (of_kind k) at refl in
        all-append (IsKindRow root total) (places k v own) (entry_places k ms p)
        (value_rows k v own there (last_keys-push p (field n)) (entry-first k n v ms fits) (in-left (places k v own) (entry_places k ms p) in_all))
        (entry_rows k ms p at (entry-rest k n v ms fits) (in-right (places k v own) (entry_places k ms p) in_all))

    item_rows : (ns : List Text) (fs : Fields) (vs : Items) (p : Path) → place_at (of_kind root) p ≡ Some (of_kind (items_of ns fs)) → ItemsFitAfter ns fs vs
        → AreIn (item_places ns fs vs p) → AllKindRows (item_places ns fs vs p)
    item_rows ns fs no_items p at fits in_all = tt
    item_rows ns fs (item (scalar s) vs) p at fits in_all = item_rows ns fs vs p at (item-rest ns fs (scalar s) vs fits) in_all
    item_rows ns fs (item (list ws) vs) p at fits in_all = item_rows ns fs vs p at (item-rest ns fs (list ws) vs fits) in_all
    item_rows ns fs (item (object ms) vs) p at fits in_all =
        let own = p ++ item_key ns ms ∷ [] in
        let parts = item-parts ns fs ms vs fits in
        let there = place-push p (of_kind root) (item_key ns ms) (of_kind (items_of ns fs))
        (item_of ns fs) at (ap (λ b. if b then Some (item_of ns fs) else None) (keys-fit ns fs ms parts.0.0 parts.0.1)) in
        let rest : AreIn (field_places fs ms own ++ item_places ns fs vs p) = (λ r h. in_all r (inr h)) in (
          record {
            at = record { place = item_of ns fs; there = there; fits = refl };
            keys = λ n s found. in-left (field_places fs ms own) (item_places ns fs vs p) rest _
                (own-key ns fs ms own n s parts.0 (sym (ap (scalar_of n) (last_keys-push p (item_key ns ms))) ∙ found));
          },
          all-append (IsKindRow root total) (field_places fs ms own) (item_places ns fs vs p)
              (field_rows (item_of ns fs) fs ms own there (λ n. refl) parts.1 (in-left (field_places fs ms own) (item_places ns fs vs p) rest))
              (item_rows ns fs vs p at (item-rest ns fs (object ms) vs fits) (in-right (field_places fs ms own) (item_places ns fs vs p) rest)),
        )
