-- The body of a fitting object without an empty `metadata` is rooted.
use Rattle.std.proofs.Common.{◌≡◌, List, [], ◌∷◌, ◌++◌, inl, inr, Bool, true, false, not, ◌&&◌, ◌||◌, Option, Some, None, refl, sym, ap, subst, ◌∙◌, true≢false}
use Rattle.std.specs.Prelude.{is_some, option_map, if◌then◌else◌, codes}
use Rattle.std.specs.List.{AllByRecursion, list_any}
use Rattle.ssa_model.specs.definitions.Json.{Text, Json, scalar, list, object, Items, no_items, item, Members, no_members, member, member_of, same_text}
use Rattle.ssa_model.specs.definitions.Path.{Element, field, Path, same_element}
use Rattle.ssa_model.specs.definitions.PathMap.{get, has, paths}
use Rattle.ssa_model.specs.definitions.Kind as kinds
use Rattle.ssa_model.specs.definitions.Kind.{Kind, Fields, scalar_kind, atomic_of, record_of, dict_of, items_of, kind_of, item_key}
use Rattle.ssa_model.specs.definitions.Body.{Body, Content, leaf, atom, record_branch, dict_branch, list_branch, is_leaf, is_dict, is_point, points, is_empty_object, strictly_under, places, field_places, entry_places, value_places, item_places, value_order, key_order}
use Rattle.ssa_model.specs.definitions.Fitting.{of_kind, content_fits}
use Rattle.ssa_model.specs.definitions.Lawful.{has_metadata}
use Rattle.ssa_model.specs.definitions.Valid.{IsRooted, metadata_path}
use Rattle.ssa_model.proofs.EmptyMetadata.{record-in}
use Rattle.ssa_model.proofs.Reaching.{found-field}
use Rattle.ssa_model.proofs.PathMaps.{has-paths, has-points}
use Rattle.ssa_model.proofs.Fitting.{some_there, same_element-true}
use Rattle.ssa_model.proofs.Pruned.{from_one}
use Rattle.ssa_model.proofs.Tables.{apart_by, element-itself as same_element-itself}
use Rattle.ssa_model.proofs.ValidStates.{leaf_place}
use Rattle.std.specs.Cmp.{first_so}
use Rattle.ssa_model.proofs.Tables.{text-itself as same_text-itself}
use Rattle.ssa_model.proofs.Faults.{cons≢nil}
use Rattle.ssa_model.proofs.Places.{place-push}
use Rattle.ssa_model.specs.laws.Faultless.{Fits, FieldsFit}
use Rattle.ssa_typed.specs.Flats.{member_places, IsTreeOf}
use Rattle.ssa_typed.specs.Reads.{is_empty_member, has_empty_metadata}
use Rattle.ssa_typed.specs.Rows.{Row, rows, body_of, content_at}
use Rattle.ssa_typed.specs.declared.node.Node.{Node}
use Rattle.ssa_typed.proofs.BodyFits.{body-fits, value-of-tree}
use Rattle.ssa_model.proofs.FaultlessParts.{member-first}
use Rattle.ssa_typed.proofs.KindRows.{member-row}
use Rattle.ssa_typed.proofs.Looks.{get-body}
use Rattle.ssa_typed.proofs.Trees.{known-is}
use Rattle.ssa_typed.proofs.TreeRows.{IsRow, all-append, each-row, row-found, row-of, row-split}
use Rattle.ssa_model.proofs.Basics.{some-same, yes_no}

-- ---- places begin as the place that they are below

abbrev begins : Element → Path → Bool
begins e [] = false
begins e (f ∷ p) = same_element e f

abbrev Begins : Element → Row → Type 0
Begins e r = begins e r.0 ≡ true

mutual
  value_begin : (k : Kind) (v : Json) (e : Element) (p : Path) → AllByRecursion (Begins e) (places k v (e ∷ p))
  value_begin (scalar_kind k) (scalar s) e p = (same_element-itself e, tt)
  value_begin (atomic_of t) v e p = (same_element-itself e, tt)
  value_begin (record_of fs) (object ms) e p = (same_element-itself e, field_begin fs ms e p)
  value_begin (dict_of k) (object ms) e p = (same_element-itself e, entry_begin k ms e p)
  value_begin (kinds.set_of k) (list vs) e p = (same_element-itself e, set_begin vs e p)
  value_begin (items_of ns fs) (list vs) e p = (same_element-itself e, item_begin ns fs vs e p)
  value_begin _ _ e p = tt

  field_begin : (fs : Fields) (ms : Members) (e : Element) (p : Path) → AllByRecursion (Begins e) (field_places fs ms (e ∷ p))
  field_begin fs no_members e p = tt
  field_begin fs (member n v ms) e p =
      all-append (Begins e) (member_places fs n v (e ∷ (p ++ field n ∷ []))) (field_places fs ms (e ∷ p))
      (elim (kind_of n fs) as (λ o. AllByRecursion (Begins e) (elim o [ None ↦ [] | Some k ↦ places k v (e ∷ (p ++ field n ∷ [])) ]))
      [ None ↦ tt | Some k ↦ value_begin k v e (p ++ field n ∷ []) ])
      (field_begin fs ms e p)

  entry_begin : (k : Kind) (ms : Members) (e : Element) (p : Path) → AllByRecursion (Begins e) (entry_places k ms (e ∷ p))
  entry_begin k no_members e p = tt
  entry_begin k (member n v ms) e p = all-append (Begins e) (places k v (e ∷ (p ++ field n ∷ []))) (entry_places k ms (e ∷ p))
      (value_begin k v e (p ++ field n ∷ [])) (entry_begin k ms e p)

  set_begin : (vs : Items) (e : Element) (p : Path) → AllByRecursion (Begins e) (value_places vs (e ∷ p))
  set_begin no_items e p = tt
  set_begin (item (scalar s) vs) e p = (same_element-itself e, set_begin vs e p)
  set_begin (item (list ws) vs) e p = set_begin vs e p
  set_begin (item (object ms) vs) e p = set_begin vs e p

  item_begin : (ns : List Text) (fs : Fields) (vs : Items) (e : Element) (p : Path) → AllByRecursion (Begins e) (item_places ns fs vs (e ∷ p))
  item_begin ns fs no_items e p = tt
  item_begin ns fs (item (scalar s) vs) e p = item_begin ns fs vs e p
  item_begin ns fs (item (list ws) vs) e p = item_begin ns fs vs e p
  item_begin ns fs (item (object ms) vs) e p =
      let at = p ++ item_key ns ms ∷ [] in (
        same_element-itself e,
        all-append (Begins e) (field_places fs ms (e ∷ at)) (item_places ns fs vs (e ∷ p)) (field_begin fs ms e at)
            (item_begin ns fs vs e p),
      )

-- ---- members

abbrev name_of : Element → Text
name_of (field n) = n
name_of _ = []

some_if : (b : Bool) (v : Json) (o : Option Json) → is_some o ≡ true → is_some (if b then Some v else o) ≡ true
some_if true v o h = refl
some_if false v o h = h

-- where a row begins with a name, there is a member of the name
named-row : (fs : Fields) (ms : Members) (n : Text) (p : Path) (c : Content) → IsRow (field n ∷ p, c) (field_places fs ms []) → is_some (member_of n ms) ≡ true
named-row fs no_members n p c h = absurd h
named-row fs (member m v ms) n p c h =
    elim (row-split (field n ∷ p, c) (member_places fs m v (field m ∷ [])) (field_places fs ms []) h) [
      | inl l ↦
          let same = same_element-true (field m) (field n) (each-row (Begins (field m)) (member_places fs m v (field m ∷ [])) (field n ∷ p, c) first l) in
          ap (λ b. is_some (if b then Some v else member_of n ms)) (ap (same_text n) (ap name_of same) ∙ same_text-itself n)
      | inr r ↦ some_if (same_text n m) v (member_of n ms) (named-row fs ms n p c r)
    ]
  where
    first : AllByRecursion (Begins (field m)) (member_places fs m v (field m ∷ []))
    first = elim (kind_of m fs) as (λ o. AllByRecursion (Begins (field m)) (elim o [ None ↦ [] | Some k ↦ places k v (field m ∷ []) ]))
        [ None ↦ tt | Some k ↦ value_begin k v (field m) [] ]

-- a fitting value has a place at its own path
own-row : (k : Kind) (v : Json) (p : Path) → Fits k v → (c : Content) × IsRow (p, c) (places k v p)
own-row (scalar_kind k) (scalar s) p h = (leaf s, inl refl)
own-row (atomic_of t) v p h = (atom v, inl refl)
own-row (record_of fs) (object ms) p h = (record_branch, inl refl)
own-row (dict_of k) (object ms) p h = (dict_branch, inl refl)
own-row (kinds.set_of k) (list vs) p h = (list_branch (value_order vs), inl refl)
own-row (items_of ns fs) (list vs) p h = (list_branch (key_order ns vs), inl refl)
own-row _ _ p h = absurd (cons≢nil h.1)

-- a fitting object that is not empty has a place below its path
below-row : (fs : Fields) (v : Json) (p : Path) → Fits (record_of fs) v → is_empty_object v ≡ false → (n : Text)
    × ((c : Content) × IsRow (p ++ field n ∷ [], c) (places (record_of fs) v p))
below-row fs (scalar s) p fits some = absurd (cons≢nil fits.1)
below-row fs (list vs) p fits some = absurd (cons≢nil fits.1)
below-row fs (object no_members) p fits some = absurd (true≢false some)
below-row fs (object (member n v ms)) p fits some =
    let fit = member-first fs n v ms fits in
    let row = own-row fit.0 v (p ++ field n ∷ []) fit.1.1 in (
      n,
      (
        row.0,
        inr (member-row fs (member n v ms) p n v fit.0 (
          p ++ field n ∷ [],
          row.0,
        ) fit.1.0 (ap (λ b. if b then Some v else member_of n ms) (same_text-itself n)) row.1),
      ),
    )

-- ---- the body

module _ (fs : Fields) (ms : Members) (n : Node) (lawful : has_metadata (record_of fs) ≡ true) (fits : FieldsFit fs ms) (kept : has_empty_metadata ms ≡ false)
    (made : IsTreeOf (record_of fs) (object ms) n) where
  abbrev body : Body
  body = body_of n

  own : (gs : Fields) × (kind_of (codes "metadata") fs ≡ Some (record_of gs))
  own = record-in (kind_of (codes "metadata") fs) lawful

  rows_are : rows n ≡ ([], record_branch) ∷ field_places fs ms []
  rows_are = value-of-tree (record_of fs) (object ms) n made

  root_is : get body [] ≡ Some record_branch
  root_is = get-body n [] ∙ ap (λ rs. content_at rs []) rows_are

  no_leaf : (c : Content) → get body metadata_path ≡ Some c → is_leaf (get body metadata_path) ≡ false
  no_leaf c is =
      let at = (body-fits (record_of fs) (object ms) n fits made).fits metadata_path c is in
      let there = place-push [] (of_kind (record_of fs)) (field (codes "metadata")) (of_kind (record_of fs)) (of_kind (record_of own.0)) refl
      (ap (option_map of_kind) own.1) in
      let place : at.place ≡ of_kind (record_of own.0) = some-same at.place (of_kind (record_of own.0)) (sym at.there ∙ there) in
      ap is_leaf is ∙ leaf_place (of_kind (record_of own.0)) c (ap (λ q. content_fits q c) (sym place) ∙ at.fits)

  -- the body has what the rows of the members have
  row_there : (p : Path) (c : Content) → IsRow (p, c) (field_places fs ms []) → get body p ≡ Some c
  row_there p c row = get-body n p ∙ row-found p c n made.tree (subst (IsRow (p, c)) (sym rows_are) (inr row))

  metadata_row : (c : Content) → IsRow (metadata_path, c) (([], record_branch) ∷ field_places fs ms []) → IsRow (metadata_path, c) (field_places fs ms [])
  metadata_row c (inl e) = absurd (cons≢nil (ap (λ (r : Row). r.0) e))
  metadata_row c (inr row) = row

  metadata_member : (c : Content) → get body metadata_path ≡ Some c → (v : Json) × (member_of (codes "metadata") ms ≡ Some v)
  metadata_member c is =
      let row = row-of (rows n) metadata_path c (sym (get-body n metadata_path) ∙ is) in
      some_there (member_of (codes "metadata") ms) (named-row fs ms (codes "metadata") [] c (metadata_row c (subst (IsRow (metadata_path, c)) rows_are row)))

  member_fits : (v : Json) → member_of (codes "metadata") ms ≡ Some v → Fits (record_of own.0) v
  member_fits v found = let fit = found-field fs ms (codes "metadata") v fits found in
      subst (λ k. Fits k v) (known-is (codes "metadata") fs fit.0 (record_of own.0) fit.1.0 own.1) fit.1.1

  something_below : (c : Content) → get body metadata_path ≡ Some c → list_any (strictly_under metadata_path) (paths body) ≡ true
  something_below c is =
      let v = metadata_member c is in
      let low = below-row own.0 v.0 metadata_path (member_fits v.0 v.1) (ap is_empty_member (sym v.1) ∙ kept) in
      let at : Path = field (codes "metadata") ∷ field low.0 ∷ [] in
      let found = row_there at low.1.0 (member-row fs ms [] (codes "metadata") v.0 (record_of own.0) (at, low.1.0) own.1 v.1 low.1.1) in
      from_one (strictly_under metadata_path) (paths body) at (sym (has-paths body at) ∙ ap is_some found) refl

  -- the body of a fitting object is rooted, where it has no empty `metadata`
  pub body-rooted : IsRooted body
  body-rooted = record {
    root = root_is;
    metadata = apart_by (has (points body) metadata_path) (λ t.
        let there = first_so (has body metadata_path) (is_point body metadata_path) (sym (has-points body metadata_path) ∙ t) in
        let c = some_there (get body metadata_path) there in
        let none : is_point body metadata_path ≡ false = λ i. no_leaf c.0 c.1 i || (is_dict (root_is i) || not (something_below c.0 c.1 i)) in
        yes_no (has (points body) metadata_path) t (has-points body metadata_path ∙ (λ i. there i && none i)));
  }
