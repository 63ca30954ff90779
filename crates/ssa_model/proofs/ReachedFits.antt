-- What stands below a value that fits its place fits the place there, and the order of a list names what stands below it.
use Rattle.std.proofs.Common.{◌≡◌, List, [], ◌∷◌, Bool, true, false, ◌&&◌, ◌||◌, Some, None, option_map, refl, sym, ap, subst, ◌∙◌}
use Rattle.std.proofs.lemmas.Option.{same_Some, none-some}
use Rattle.std.specs.Prelude.{if◌then◌else◌, is_some, option_and_then}
use Rattle.ssa_model.specs.definitions.Json.{Text, Scalar, Json, scalar, list, object, Items, no_items, item, Members}
use Rattle.ssa_model.specs.definitions.Path.{Element, field, key, value, Path, same_element, is_item_element}
use Rattle.ssa_model.specs.definitions.Kind as kinds
use Rattle.ssa_model.specs.definitions.Kind.{ScalarKind, Fields, scalar_kind, atomic_of, record_of, dict_of, items_of, is_of, is_among, item_key, wrong_type}
use Rattle.ssa_model.specs.definitions.Operations.{is_none}
use Rattle.ssa_model.specs.definitions.Body.{Content, leaf, atom, record_branch, dict_branch, list_branch, order_at, value_order, key_order}
use Rattle.ssa_model.specs.definitions.Fitting.{Place, of_kind, item_of, value_of, place_at, content_fits, are_keys, are_distinct, scalar_of}
use Rattle.ssa_model.specs.laws.Faultless.{KeysFit}
use Rattle.ssa_model.proofs.Faults.{cons≢nil, unless-true, shape-anywhere}
use Rattle.ssa_model.proofs.FaultlessParts.{values-distinct, items-distinct}
use Rattle.ssa_model.proofs.FaultlessKeys.{keys-fit, key-member}
use Rattle.ssa_model.proofs.Places.{if-some}
use Rattle.ssa_model.proofs.Reaching.{Standing, value_level, item_at, item_level, level, reached, content_of, content_at, FitsAt, FitsBelow, field-below, entry-below, among-is_of, some-item, object-fields}
use Rattle.ssa_model.proofs.Scalars.{same_scalar-itself}
use Rattle.ssa_model.proofs.Tables.{mapped_some}

-- ---- places

value-below : (k : ScalarKind) (vs : Items) (s : Scalar) (x : Standing) → FitsAt (of_kind (kinds.set_of k)) (list vs) → value_level vs (value s) ≡ Some x
    → FitsBelow (of_kind (kinds.set_of k)) (value s) x
value-below k vs s x fits h =
    let own = if-some (is_among (value s) (value_order vs)) (value_of s, scalar s) x h in
    subst (FitsBelow (of_kind (kinds.set_of k)) (value s)) own.1 (ap (λ t. if t then Some (value_of s) else None) (among-is_of k vs s ([], fits) own.0), refl)

item-below : (ns : List Text) (fs : Fields) (vs : Items) (ks : List (Text × Scalar)) (x : Standing) → FitsAt (of_kind (items_of ns fs)) (list vs)
    → item_level ns fs vs (key ks) ≡ Some x → FitsBelow (of_kind (items_of ns fs)) (key ks) x
item-below ns fs vs ks x fits h =
    let own = some-item ns fs vs ks x ([], fits) h in
    let fit : KeysFit ns fs own.own = own.keys in
    let are : are_keys ns fs ks ≡ true = ap (are_keys ns fs) (sym own.is_own.0) ∙ keys-fit ns fs own.own fit.0 fit.1 in
    subst (FitsBelow (of_kind (items_of ns fs)) (key ks)) own.is (ap (λ t. if t then Some (item_of ns fs) else None) are, own.is_own.1)

-- what stands under an element of a fitting value fits the place that the schema has there
pub fits-below : (q : Place) (v : Json) (e : Element) (x : Standing) → FitsAt q v → level q v e ≡ Some x → FitsBelow q e x
fits-below (of_kind (record_of fs)) (object ms) (field n) x fits h = field-below (of_kind (record_of fs)) fs ms n x refl fits h
fits-below (of_kind (dict_of k)) (object ms) (field n) x fits h = entry-below k ms n x fits h
fits-below (of_kind (kinds.set_of k)) (list vs) (value s) x fits h = value-below k vs s x fits h
fits-below (of_kind (items_of ns fs)) (list vs) (key ks) x fits h = item-below ns fs vs ks x fits h
fits-below (item_of ns fs) (object ms) (field n) x fits h = field-below (item_of ns fs) fs ms n x refl (object-fields ns fs ms fits) h
fits-below _ _ _ x fits h = absurd (none-some x h)

-- what stands at a path fits the place that the schema has there
pub fits-reached : (p : Path) (q : Place) (v : Json) (x : Standing) → FitsAt q v → reached q v p ≡ Some x → (place_at q p ≡ Some x.0) × FitsAt x.0 x.1
fits-reached [] q v x fits h = subst (λ y. (Some q ≡ Some y.0) × FitsAt y.0 y.1) (same_Some (q, v) x h) (refl, fits)
fits-reached (e ∷ p) q v x fits h =
    elim (level q v e) as (λ o. level q v e ≡ o → option_and_then (λ y. reached y.0 y.1 p) o ≡ Some x → (place_at q (e ∷ p) ≡ Some x.0) × FitsAt x.0 x.1) [
      | None ↦ λ _ h. absurd (none-some x h)
      | Some y ↦ λ there h.
          let below = fits-below q v e y fits there in
          let rest = fits-reached p y.0 y.1 x below.1 h in
          (ap (λ o. elim o [ None ↦ None | Some r ↦ place_at r p ]) below.0 ∙ rest.0, rest.1)
    ] refl h

-- ---- contents

-- a value that fits a place has a content that fits it
pub record HasContent (q : Place) (v : Json) : Type 0 where
  -- the content
  pub own : Content
  -- the value has it at the place
  pub is_own : content_of q v ≡ Some own
  -- the content fits the place
  pub fits : content_fits q own ≡ true

-- so has each value that fits its place
pub own-content : (q : Place) (v : Json) → FitsAt q v → HasContent q v
own-content (of_kind (scalar_kind k)) (scalar s) fits = record { own = leaf s; is_own = refl; fits = unless-true (is_of k s) wrong_type fits.0 fits.1 }
own-content (of_kind (atomic_of t)) v fits = record { own = atom v; is_own = refl; fits = ap is_none (shape-anywhere t v fits.0 [] fits.1) }
own-content (of_kind (record_of fs)) (object ms) fits = record { own = record_branch; is_own = refl; fits = refl }
own-content (of_kind (dict_of k)) (object ms) fits = record { own = dict_branch; is_own = refl; fits = refl }
own-content (of_kind (kinds.set_of k)) (list vs) fits = record { own = list_branch (value_order vs); is_own = refl; fits = refl }
own-content (of_kind (items_of ns fs)) (list vs) fits = record { own = list_branch (key_order ns vs); is_own = refl; fits = refl }
own-content (of_kind _) _ fits = absurd (cons≢nil fits.1)
own-content (item_of ns fs) v fits = subst (HasContent (item_of ns fs)) (sym fits.1.0) (record { own = record_branch; is_own = refl; fits = refl })
own-content (value_of s) v fits = subst (HasContent (value_of s)) (sym fits) (record { own = leaf s; is_own = refl; fits = same_scalar-itself s })

-- ---- orders

-- the order of a list that fits its place names no item twice
pub order-distinct : (q : Place) (v : Json) → FitsAt q v → are_distinct (order_at (content_of q v)) ≡ true
order-distinct (of_kind (kinds.set_of k)) (list vs) fits = values-distinct k vs fits
order-distinct (of_kind (items_of ns fs)) (list vs) fits = items-distinct ns fs vs fits
order-distinct (of_kind (scalar_kind k)) (scalar s) fits = refl
order-distinct (of_kind (atomic_of t)) v fits = refl
order-distinct (of_kind (record_of fs)) (object ms) fits = refl
order-distinct (of_kind (dict_of k)) (object ms) fits = refl
order-distinct (item_of ns fs) (object ms) fits = refl
order-distinct (value_of s) (scalar t) fits = refl
order-distinct _ _ fits = refl

-- no test passes together with one that fails
pub and-no : (b : Bool) → false ≡ (b && false)
and-no true = refl
and-no false = refl

some-if : {A : Type 0} (t : Bool) (x : A) → t ≡ is_some (if t then Some x else None)
some-if true x = refl
some-if false x = refl

no-field : (n : Text) (vs : Items) → is_among (field n) (value_order vs) ≡ false
no-field n no_items = refl
no-field n (item (scalar s) vs) = no-field n vs
no-field n (item (list ws) vs) = no-field n vs
no-field n (item (object ms) vs) = no-field n vs

no-key : (ks : List (Text × Scalar)) (vs : Items) → is_among (key ks) (value_order vs) ≡ false
no-key ks no_items = refl
no-key ks (item (scalar s) vs) = no-key ks vs
no-key ks (item (list ws) vs) = no-key ks vs
no-key ks (item (object ms) vs) = no-key ks vs

module _ (ns : List Text) where
  no-item-field : (n : Text) (vs : Items) → is_among (field n) (key_order ns vs) ≡ false
  no-item-field n no_items = refl
  no-item-field n (item (scalar s) vs) = no-item-field n vs
  no-item-field n (item (list ws) vs) = no-item-field n vs
  no-item-field n (item (object ms) vs) = no-item-field n vs

  no-item-value : (t : Scalar) (vs : Items) → is_among (value t) (key_order ns vs) ≡ false
  no-item-value t no_items = refl
  no-item-value t (item (scalar s) vs) = no-item-value t vs
  no-item-value t (item (list ws) vs) = no-item-value t vs
  no-item-value t (item (object ms) vs) = no-item-value t vs

  among-keys : (e : Element) (vs : Items) → is_among e (key_order ns vs) ≡ is_some (item_at ns e vs)
  among-keys e no_items = refl
  among-keys e (item (scalar s) vs) = among-keys e vs
  among-keys e (item (list ws) vs) = among-keys e vs
  among-keys e (item (object ms) vs) =
      elim (same_element e (item_key ns ms)) as (λ t. (t || is_among e (key_order ns vs)) ≡ is_some (if t then Some ms else item_at ns e vs))
      [ true ↦ refl | false ↦ among-keys e vs ]

-- the order names the items that stand below
pub order-level : (q : Place) (v : Json) (e : Element) → is_among e (order_at (content_of q v)) ≡ (is_item_element e && is_some (level q v e))
order-level (of_kind (kinds.set_of k)) (list vs) (value s) = some-if (is_among (value s) (value_order vs)) (value_of s, scalar s)
order-level (of_kind (kinds.set_of k)) (list vs) (field n) = no-field n vs
order-level (of_kind (kinds.set_of k)) (list vs) (key ks) = no-key ks vs
order-level (of_kind (items_of ns fs)) (list vs) (key ks) = among-keys ns (key ks) vs
    ∙ sym (mapped_some (λ (ms : Members). (item_of ns fs, object ms)) (item_at ns (key ks) vs))
order-level (of_kind (items_of ns fs)) (list vs) (field n) = no-item-field ns n vs
order-level (of_kind (items_of ns fs)) (list vs) (value s) = no-item-value ns s vs
order-level (of_kind (record_of fs)) (object ms) (field n) = refl
order-level (of_kind (record_of fs)) (object ms) (key ks) = refl
order-level (of_kind (record_of fs)) (object ms) (value s) = refl
order-level (of_kind (dict_of k)) (object ms) (field n) = refl
order-level (of_kind (dict_of k)) (object ms) (key ks) = refl
order-level (of_kind (dict_of k)) (object ms) (value s) = refl
order-level (item_of ns fs) (object ms) (field n) = refl
order-level (item_of ns fs) (object ms) (key ks) = refl
order-level (item_of ns fs) (object ms) (value s) = refl
order-level (of_kind (scalar_kind k)) (scalar s) e = and-no (is_item_element e)
order-level (of_kind (atomic_of t)) v e = and-no (is_item_element e)
order-level (value_of s) (scalar t) e = and-no (is_item_element e)
order-level _ _ e = and-no (is_item_element e)

-- ---- key fields

-- an item has the scalars of its key
pub key-leaf : (q : Place) (v : Json) (ks : List (Text × Scalar)) (x : Standing) (n : Text) (s : Scalar) → FitsAt q v → level q v (key ks) ≡ Some x
    → scalar_of n ks ≡ Some s → content_at (level x.0 x.1 (field n)) ≡ Some (leaf s)
key-leaf (of_kind (items_of ns fs)) (list vs) ks x n s fits h found =
    let own = some-item ns fs vs ks x ([], fits) h in
    let fit : KeysFit ns fs own.own = own.keys in
    let is = key-member ns fs own.own fit.0 n s fit.1 (ap (scalar_of n) own.is_own.0 ∙ found) in
    subst (λ y. content_at (level y.0 y.1 (field n)) ≡ Some (leaf s)) own.is
    (λ i. content_at (option_and_then (λ v. option_map (λ k. (of_kind k, v)) (is.is_kind i)) (is.is_own i)))
key-leaf (of_kind (record_of fs)) (object ms) ks x n s fits h found = absurd (none-some x h)
key-leaf (of_kind (dict_of k)) (object ms) ks x n s fits h found = absurd (none-some x h)
key-leaf (of_kind (kinds.set_of k)) (list vs) ks x n s fits h found = absurd (none-some x h)
key-leaf (item_of ns fs) (object ms) ks x n s fits h found = absurd (none-some x h)
key-leaf _ _ ks x n s fits h found = absurd (none-some x h)
