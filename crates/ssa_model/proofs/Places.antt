-- What stands at the places of a body of a kind.
use Rattle.std.proofs.Common.{◌≡◌, List, [], ◌∷◌, ◌++◌, Bool, true, false, Option, Some, None, refl, sym, ap, ◌∙◌, true≢false}
use Rattle.std.proofs.lemmas.Option.{same_Some, none-some}
use Rattle.std.specs.Prelude.{if◌then◌else◌, is_some, option_map}
use Rattle.std.specs.Cmp.{second_so}
use Rattle.ssa_model.specs.definitions.Json.{Text, Scalar}
use Rattle.ssa_model.specs.definitions.Path.{Element, field, key, value, Path, is_item_element}
use Rattle.ssa_model.specs.definitions.PathMap.{get, has}
use Rattle.ssa_model.specs.definitions.Kind as kinds
use Rattle.ssa_model.specs.definitions.Kind.{Kind, ScalarKind, Fields, record_of, dict_of, items_of, kind_of, is_of, is_among}
use Rattle.ssa_model.specs.definitions.Body.{Content, leaf, atom, record_branch, dict_branch, list_branch, Body, order_at}
use Rattle.ssa_model.specs.definitions.Fitting.{Place, of_kind, item_of, value_of, place_below, place_at, content_fits, are_keys, IsBodyOf}
use Rattle.ssa_model.proofs.Scalars.{same_scalar-true}

-- ---- places, one element further

abbrev then_at : Path → Option Place → Option Place
then_at p None = None
then_at p (Some q) = place_at q p

place-level : (q : Place) (e : Element) (p : Path) → place_at q (e ∷ p) ≡ then_at p (place_below q e)
place-level q e p = elim (place_below q e) as (λ o. ◌≡◌ {A = Option Place} (elim o [ None ↦ None | Some r ↦ place_at r p ]) (then_at p o))
    [ None ↦ refl | Some r ↦ refl ]

then_at-nil : (o : Option Place) → then_at [] o ≡ o
then_at-nil None = refl
then_at-nil (Some q) = refl

-- what the kind has one element further is what the place at the path has below it
pub place-after : (p : Path) (q : Place) (e : Element) (r : Place) → place_at q p ≡ Some r → place_at q (p ++ e ∷ []) ≡ place_below r e
place-after [] q e r at = place-level q e [] ∙ then_at-nil (place_below q e) ∙ ap (λ x. place_below x e) (same_Some q r at)
place-after (f ∷ p) q e r at =
    place-level q f (p ++ e ∷ [])
    ∙ elim (place_below q f) as (λ o. then_at p o ≡ Some r → then_at (p ++ e ∷ []) o ≡ place_below r e)
    [ None ↦ λ h. absurd (none-some r h) | Some x ↦ λ h. place-after p x e r h ]
    (sym (place-level q f p) ∙ at)

-- so where that place has one for the element, it is there
pub place-push : (p : Path) (q : Place) (e : Element) (r s : Place) → place_at q p ≡ Some r → place_below r e ≡ Some s → place_at q (p ++ e ∷ []) ≡ Some s
place-push p q e r s at below = place-after p q e r at ∙ below

-- ---- contents that fit a place

-- what fits an object with fields is the branch of one
pub record-branch : (fs : Fields) (c : Content) → content_fits (of_kind (record_of fs)) c ≡ true → c ≡ record_branch
record-branch fs (leaf s) h = absurd (true≢false (sym h))
record-branch fs (atom v) h = absurd (true≢false (sym h))
record-branch fs record_branch h = refl
record-branch fs dict_branch h = absurd (true≢false (sym h))
record-branch fs (list_branch es) h = absurd (true≢false (sym h))

-- what fits an item of a map list is the branch of an object with fields
pub item-branch : (ns : List Text) (fs : Fields) (c : Content) → content_fits (item_of ns fs) c ≡ true → c ≡ record_branch
item-branch ns fs (leaf s) h = absurd (true≢false (sym h))
item-branch ns fs (atom v) h = absurd (true≢false (sym h))
item-branch ns fs record_branch h = refl
item-branch ns fs dict_branch h = absurd (true≢false (sym h))
item-branch ns fs (list_branch es) h = absurd (true≢false (sym h))

-- what fits a map is the branch of one
pub dict-branch : (k : Kind) (c : Content) → content_fits (of_kind (dict_of k)) c ≡ true → c ≡ dict_branch
dict-branch k (leaf s) h = absurd (true≢false (sym h))
dict-branch k (atom v) h = absurd (true≢false (sym h))
dict-branch k record_branch h = absurd (true≢false (sym h))
dict-branch k dict_branch h = refl
dict-branch k (list_branch es) h = absurd (true≢false (sym h))

-- what fits an item of a set is its value
pub value-leaf : (s : Scalar) (c : Content) → content_fits (value_of s) c ≡ true → c ≡ leaf s
value-leaf s (leaf t) h = ap leaf (sym (same_scalar-true s t h))
value-leaf s _ h = absurd (true≢false (sym h))

-- what fits a set is a list, in its order
pub set-branch : (k : ScalarKind) (c : Content) → content_fits (of_kind (kinds.set_of k)) c ≡ true → c ≡ list_branch (order_at (Some c))
set-branch k (list_branch es) h = refl
set-branch k _ h = absurd (true≢false (sym h))

-- what fits a map list is a list, in its order
pub list-branch : (ns : List Text) (fs : Fields) (c : Content) → content_fits (of_kind (items_of ns fs)) c ≡ true → c ≡ list_branch (order_at (Some c))
list-branch ns fs (list_branch es) h = refl
list-branch ns fs _ h = absurd (true≢false (sym h))

-- ---- the elements below a place

-- where a place is given under a test, the test passes and the place is that one
pub if-some : {A : Type 0} (t : Bool) (r s : A) → (if t then Some r else None) ≡ Some s → (t ≡ true) × (r ≡ s)
if-some true r s h = (refl, same_Some r s h)
if-some false r s h = absurd (none-some s h)

-- a place that is made of a kind, where there is one, is made of this kind
pub kind-placed : (o : Option Kind) (s : Place) → option_map of_kind o ≡ Some s → (k : Kind) × ((o ≡ Some k) × (of_kind k ≡ s))
kind-placed None s h = absurd (none-some s h)
kind-placed (Some k) s h = (k, (refl, same_Some (of_kind k) s h))

-- a field of a place with fields
pub record IsFieldPlace (fs : Fields) (e : Element) : Type 0 where
  -- the name of the field
  pub own : Text
  -- the element is the field of this name
  pub is_own : e ≡ field own
  -- the kind of the field
  pub kind : Kind
  -- the field of this name has this kind
  pub is_kind : kind_of own fs ≡ Some kind

-- what has a place below an object with fields is one of the fields
pub record-place : (fs : Fields) (e : Element) (s : Place) → place_below (of_kind (record_of fs)) e ≡ Some s → IsFieldPlace fs e
record-place fs (field n) s h = let k = kind-placed (kind_of n fs) s h in record { own = n; is_own = refl; kind = k.0; is_kind = k.1.0 }
record-place fs (key ks) s h = absurd (none-some s h)
record-place fs (value t) s h = absurd (none-some s h)

-- what has a place below an item of a map list is one of its fields
pub item-place : (ns : List Text) (fs : Fields) (e : Element) (s : Place) → place_below (item_of ns fs) e ≡ Some s → IsFieldPlace fs e
item-place ns fs (field n) s h = let k = kind-placed (kind_of n fs) s h in record { own = n; is_own = refl; kind = k.0; is_kind = k.1.0 }
item-place ns fs (key ks) s h = absurd (none-some s h)
item-place ns fs (value t) s h = absurd (none-some s h)

-- what has a place below a map is a field, of any name
pub dict-place : (k : Kind) (e : Element) (s : Place) → place_below (of_kind (dict_of k)) e ≡ Some s → (n : Text) × (e ≡ field n)
dict-place k (field n) s h = (n, refl)
dict-place k (key ks) s h = absurd (none-some s h)
dict-place k (value t) s h = absurd (none-some s h)

-- an item of a set
pub record IsSetPlace (k : ScalarKind) (e : Element) (s : Place) : Type 0 where
  -- the scalar of the item
  pub own : Scalar
  -- the element is this value
  pub is_own : e ≡ value own
  -- the scalar is one of the set's
  pub fits : is_of k own ≡ true
  -- the place is that of this value
  pub place : value_of own ≡ s

-- what has a place below a set is an item of it
pub set-place : (k : ScalarKind) (e : Element) (s : Place) → place_below (of_kind (kinds.set_of k)) e ≡ Some s → IsSetPlace k e s
set-place k (field n) s h = absurd (none-some s h)
set-place k (key ks) s h = absurd (none-some s h)
set-place k (value t) s h = let parts = if-some (is_of k t) (value_of t) s h in record { own = t; is_own = refl; fits = parts.0; place = parts.1 }

-- an item of a map list
pub record IsListPlace (ns : List Text) (fs : Fields) (e : Element) (s : Place) : Type 0 where
  -- the key fields' names and scalars
  pub own : List (Text × Scalar)
  -- the element is the key of these
  pub is_own : e ≡ key own
  -- they are the list's key fields, each of its kind
  pub fits : are_keys ns fs own ≡ true
  -- the place is that of an item of the list
  pub place : item_of ns fs ≡ s

-- what has a place below a map list is an item of it
pub list-place : (ns : List Text) (fs : Fields) (e : Element) (s : Place) → place_below (of_kind (items_of ns fs)) e ≡ Some s → IsListPlace ns fs e s
list-place ns fs (field n) s h = absurd (none-some s h)
list-place ns fs (key ks) s h = let parts = if-some (are_keys ns fs ks) (item_of ns fs) s h in
    record { own = ks; is_own = refl; fits = parts.0; place = parts.1 }
list-place ns fs (value t) s h = absurd (none-some s h)

-- ---- what a body has

-- the body has a content that fits the place
pub record Stands (b : Body) (p : Path) (r : Place) : Type 0 where
  -- the content at the path
  pub content : Content
  -- the body has it there
  pub is_there : get b p ≡ Some content
  -- the content fits the place
  pub fits : content_fits r content ≡ true

-- an element below a place has a place too
pub record IsBelow (kind : Kind) (p : Path) (r : Place) (e : Element) : Type 0 where
  -- the place of the element
  pub place : Place
  -- it is the one that the place has below it
  pub below : place_below r e ≡ Some place
  -- and the kind has it at the path of the element
  pub there : place_at (of_kind kind) (p ++ e ∷ []) ≡ Some place

module _ (kind : Kind) (b : Body) (k : IsBodyOf kind b) where
  -- where a body of the kind has a path, it has there a content that fits the place
  pub stands : (p : Path) (r : Place) → place_at (of_kind kind) p ≡ Some r → has b p ≡ true → Stands b p r
  stands p r at one =
      elim (get b p) as (λ o. get b p ≡ o → is_some o ≡ true → Stands b p r) [
        | None ↦ λ h one. absurd (true≢false (sym one))
        | Some c ↦ λ h one.
            let own = k.fits p c h in
            record { content = c; is_there = h; fits = ap (λ q. content_fits q c) (same_Some r own.place (sym at ∙ own.there)) ∙ own.fits }
      ] refl one

  -- and each element that it has below a place has a place
  pub below : (p : Path) (r : Place) (e : Element) → place_at (of_kind kind) p ≡ Some r → has b (p ++ e ∷ []) ≡ true → IsBelow kind p r e
  below p r e at one =
      elim (get b (p ++ e ∷ [])) as (λ o. get b (p ++ e ∷ []) ≡ o → is_some o ≡ true → IsBelow kind p r e) [
        | None ↦ λ h one. absurd (true≢false (sym one))
        | Some c ↦ λ h one.
            let own = k.fits (p ++ e ∷ []) c h in
            record { place = own.place; below = sym (place-after p (of_kind kind) e r at) ∙ own.there; there = own.there }
      ] refl one

  -- each listed item is there
  pub listed : (p : Path) (e : Element) → is_among e (order_at (get b p)) ≡ true → has b (p ++ e ∷ []) ≡ true
  listed p e among = second_so (is_item_element e) (has b (p ++ e ∷ [])) (sym (k.items p e) ∙ among)
