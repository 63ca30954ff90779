-- The values that stand at and below a value of a kind, by their paths.
use Rattle.std.proofs.Common.{◌≡◌, List, [], ◌∷◌, ◌++◌, true, false, Option, Some, None, option_map, refl, sym, ap, subst, ◌∙◌, true≢false}
use Rattle.std.proofs.lemmas.Option.{same_Some, none-some}
use Rattle.std.specs.Prelude.{if◌then◌else◌, option_and_then}
use Rattle.ssa_model.specs.definitions.Json.{Text, Scalar, Json, scalar, list, object, Items, no_items, item, Members, no_members, member, member_of, same_text}
use Rattle.ssa_model.specs.definitions.Path.{Element, field, key, value, Path, same_element}
use Rattle.ssa_model.specs.definitions.Kind as kinds
use Rattle.ssa_model.specs.definitions.Kind.{Kind, ScalarKind, Fields, scalar_kind, atomic_of, record_of, dict_of, items_of, kind_of, is_of, is_among, item_key, key_scalars}
use Rattle.ssa_model.specs.definitions.Body.{Content, leaf, atom, record_branch, dict_branch, list_branch, value_order, key_order}
use Rattle.ssa_model.specs.definitions.Fitting.{Place, of_kind, item_of, value_of, place_below}
use Rattle.ssa_model.specs.laws.Faultless.{Fits, FieldsFit, EntriesFit, KeysFit, MemberFits, ItemFits}
use Rattle.ssa_model.specs.definitions.Objects.{members_of_value}
use Rattle.ssa_model.proofs.FaultlessParts.{member-first, member-rest, entry-first, entry-rest, ValuesFitAfter, value-is_of, value-rest, ItemsFitAfter, item-first, item-rest}
use Rattle.ssa_model.proofs.Fitting.{same_element-true}
use Rattle.ssa_model.proofs.Tables.{same_text-true, either}

-- ---- one element further

-- a value, and what its schema says of it
abbrev pub Standing : Type 0
Standing = Place × Json

-- what stands under each element
abbrev pub Level : Type 0
Level = Element → Option Standing

-- nothing stands under any element
abbrev pub nothing_below : Level
nothing_below e = None

-- under a field stands the member of its name, where the name has a kind
abbrev pub member_level : (Text → Option Kind) → Members → Level
member_level kinds_of ms (field n) = option_and_then (λ v. option_map (λ k. (of_kind k, v)) (kinds_of n)) (member_of n ms)
member_level kinds_of ms _ = None

-- under a value stands the item of a set that is this value
abbrev pub value_level : Items → Level
value_level vs (value s) = if is_among (value s) (value_order vs) then Some (value_of s, scalar s) else None
value_level vs _ = None

-- the item of a key
abbrev pub item_at : List Text → Element → Items → Option Members
item_at ns e no_items = None
item_at ns e (item (object ms) vs) = if same_element e (item_key ns ms) then Some ms else item_at ns e vs
item_at ns e (item _ vs) = item_at ns e vs

-- under a key stands the item of a map list that has this key
abbrev pub item_level : List Text → Fields → Items → Level
item_level ns fs vs (key ks) = option_map (λ ms. (item_of ns fs, object ms)) (item_at ns (key ks) vs)
item_level ns fs vs _ = None

-- what stands under each element of a value at a place
abbrev pub level : Place → Json → Level
level (of_kind (record_of fs)) (object ms) = member_level (λ n. kind_of n fs) ms
level (of_kind (dict_of k)) (object ms) = member_level (λ n. Some k) ms
level (of_kind (kinds.set_of k)) (list vs) = value_level vs
level (of_kind (items_of ns fs)) (list vs) = item_level ns fs vs
level (item_of ns fs) (object ms) = member_level (λ n. kind_of n fs) ms
level _ _ = nothing_below

-- what stands at a path
abbrev pub reached : Place → Json → Path → Option Standing
reached q v [] = Some (q, v)
reached q v (e ∷ p) = option_and_then (λ x. reached x.0 x.1 p) (level q v e)

-- the content that a value has at a place, if it may stand there
abbrev pub content_of : Place → Json → Option Content
content_of (of_kind (scalar_kind k)) (scalar s) = Some (leaf s)
content_of (of_kind (atomic_of t)) v = Some (atom v)
content_of (of_kind (record_of fs)) (object ms) = Some record_branch
content_of (of_kind (dict_of k)) (object ms) = Some dict_branch
content_of (of_kind (kinds.set_of k)) (list vs) = Some (list_branch (value_order vs))
content_of (of_kind (items_of ns fs)) (list vs) = Some (list_branch (key_order ns vs))
content_of (item_of ns fs) (object ms) = Some record_branch
content_of (value_of s) (scalar t) = Some (leaf t)
content_of _ _ = None

-- the content of what stands somewhere
abbrev pub content_at : Option Standing → Option Content
content_at = option_and_then (λ x. content_of x.0 x.1)

-- what stands somewhere is its place with its value
pub reached_one : (o : Option Standing) → option_and_then (λ x. Some (x.0, x.1)) o ≡ o
reached_one None = refl
reached_one (Some x) = refl

-- one element further stands what stands under the element where the path leads
pub reached-push : (p : Path) (q : Place) (v : Json) (e : Element) → reached q v (p ++ e ∷ []) ≡ option_and_then (λ x. level x.0 x.1 e) (reached q v p)
reached-push [] q v e = reached_one (level q v e)
reached-push (f ∷ p) q v e =
    elim (level q v f) as (λ o. ◌≡◌ {A = Option Standing} (option_and_then (λ x. reached x.0 x.1 (p ++ e ∷ [])) o)
    (option_and_then (λ x. level x.0 x.1 e) (option_and_then (λ x. reached x.0 x.1 p) o))) [ None ↦ refl | Some x ↦ reached-push p x.0 x.1 e ]

-- ---- values that fit their places

-- the value fits the place
abbrev pub FitsAt : Place → Json → Type 0
FitsAt (of_kind k) v = Fits k v
FitsAt (item_of ns fs) v = ItemFits ns fs v
FitsAt (value_of s) v = v ≡ scalar s

-- what stands one element further fits the place that the schema has there
abbrev pub FitsBelow : Place → Element → Standing → Type 0
FitsBelow q e x = (place_below q e ≡ Some x.0) × FitsAt x.0 x.1

-- ---- members

record IsMember (kinds_of : Text → Option Kind) (ms : Members) (n : Text) (x : Standing) : Type 0 where
  own : Json
  kind : Kind
  is_own : member_of n ms ≡ Some own
  is_kind : kinds_of n ≡ Some kind
  is : (of_kind kind, own) ≡ x

some-member : (kinds_of : Text → Option Kind) (ms : Members) (n : Text) (x : Standing) → member_level kinds_of ms (field n) ≡ Some x → IsMember kinds_of ms n x
some-member kinds_of ms n x h =
    elim (member_of n ms) as (λ o. member_of n ms ≡ o → option_and_then (λ v. option_map (λ k. (of_kind k, v)) (kinds_of n)) o ≡ Some x
    → IsMember kinds_of ms n x) [
      | None ↦ λ _ h. absurd (none-some x h)
      | Some v ↦ λ own h. elim (kinds_of n) as (λ o. kinds_of n ≡ o → option_map (λ k. (of_kind k, v)) o ≡ Some x → IsMember kinds_of ms n x) [
        | None ↦ λ _ h. absurd (none-some x h)
        | Some k ↦ λ is h. record { own = v; kind = k; is_own = own; is_kind = is; is = same_Some (of_kind k, v) x h }
      ] refl h
    ] refl h

-- the member that is found fits
pub found-field : (fs : Fields) (ms : Members) (n : Text) (v : Json) → FieldsFit fs ms → member_of n ms ≡ Some v → MemberFits fs n v
found-field fs no_members n v fits found = absurd (none-some v found)
found-field fs (member m w ms) n v fits found =
    elim (same_text n m) as (λ t. same_text n m ≡ t → (if t then Some w else member_of n ms) ≡ Some v → MemberFits fs n v) [
      | true ↦ λ t found. subst (MemberFits fs n) (same_Some w v found)
          (subst (λ x. MemberFits fs x w) (sym (same_text-true n m t)) (member-first fs m w ms fits))
      | false ↦ λ t found. found-field fs ms n v (member-rest fs m w ms fits) found
    ] refl found

pub found-entry : (k : Kind) (ms : Members) (n : Text) (v : Json) → EntriesFit k ms → member_of n ms ≡ Some v → Fits k v
found-entry k no_members n v fits found = absurd (none-some v found)
found-entry k (member m w ms) n v fits found =
    elim (same_text n m) as (λ t. (if t then Some w else member_of n ms) ≡ Some v → Fits k v) [
      | true ↦ λ found. subst (Fits k) (same_Some w v found) (entry-first k m w ms fits)
      | false ↦ λ found. found-entry k ms n v (entry-rest k m w ms fits) found
    ] found

-- where members fit the fields, a member under a field fits the place that the schema has there
pub field-below : (q : Place) (fs : Fields) (ms : Members) (n : Text) (x : Standing) → place_below q (field n) ≡ option_map of_kind (kind_of n fs)
    → FieldsFit fs ms → member_level (λ m. kind_of m fs) ms (field n) ≡ Some x → FitsBelow q (field n) x
field-below q fs ms n x like fits h =
    let own = some-member (λ m. kind_of m fs) ms n x h in
    let fit = found-field fs ms n own.own fits own.is_own in
    let same = same_Some fit.0 own.kind (sym fit.1.0 ∙ own.is_kind) in
    subst (FitsBelow q (field n)) own.is (like ∙ ap (option_map of_kind) own.is_kind, subst (λ k. Fits k own.own) same fit.1.1)

-- where the entries of a map fit, the entry under a field fits the place that the schema has there
pub entry-below : (k : Kind) (ms : Members) (n : Text) (x : Standing) → EntriesFit k ms → member_level (λ m. Some k) ms (field n) ≡ Some x
    → FitsBelow (of_kind (dict_of k)) (field n) x
entry-below k ms n x fits h =
    let own = some-member (λ m. Some k) ms n x h in
    let same = same_Some k own.kind own.is_kind in
    subst (FitsBelow (of_kind (dict_of k)) (field n)) own.is (
      ap (λ j. Some (of_kind j)) same,
      subst (λ j. Fits j own.own) same (found-entry k ms n own.own fits own.is_own),
    )

-- ---- items

-- the scalar of an element that is an item of a set
abbrev pub own_scalar : Element → Option Scalar
own_scalar (value s) = Some s
own_scalar _ = None

-- the key fields of an element that is an item of a map list
abbrev pub own_keys : Element → List (Text × Scalar)
own_keys (key ks) = ks
own_keys _ = []

-- an item of a set without faults is of the set's kind
pub among-is_of : (k : ScalarKind) (vs : Items) (s : Scalar) → ValuesFitAfter k vs → is_among (value s) (value_order vs) ≡ true → is_of k s ≡ true
among-is_of k no_items s fits h = absurd (true≢false (sym h))
among-is_of k (item (list ws) vs) s fits h = among-is_of k vs s (value-rest k (list ws) vs fits) h
among-is_of k (item (object ms) vs) s fits h = among-is_of k vs s (value-rest k (object ms) vs fits) h
among-is_of k (item (scalar t) vs) s fits h =
    either (same_element (value s) (value t)) (is_among (value s) (value_order vs)) h
    (λ same. ap (is_of k) (same_Some s t (ap own_scalar (same_element-true (value s) (value t) same))) ∙ value-is_of k t vs fits)
    (λ later. among-is_of k vs s (value-rest k (scalar t) vs fits) later)

-- the item that is found has the key, and fits
abbrev pub IsItem : List Text → Fields → List (Text × Scalar) → Members → Type 0
IsItem ns fs ks ms = (key_scalars ns ms ≡ ks) × ItemFits ns fs (object ms)

found-item : (ns : List Text) (fs : Fields) (ks : List (Text × Scalar)) (vs : Items) (ms : Members) → ItemsFitAfter ns fs vs
    → item_at ns (key ks) vs ≡ Some ms → IsItem ns fs ks ms
found-item ns fs ks no_items ms fits h = absurd (none-some ms h)
found-item ns fs ks (item (scalar s) vs) ms fits h = found-item ns fs ks vs ms (item-rest ns fs (scalar s) vs fits) h
found-item ns fs ks (item (list ws) vs) ms fits h = found-item ns fs ks vs ms (item-rest ns fs (list ws) vs fits) h
found-item ns fs ks (item (object xs) vs) ms fits h =
    elim (same_element (key ks) (item_key ns xs)) as (λ t. same_element (key ks) (item_key ns xs) ≡ t
    → (if t then Some xs else item_at ns (key ks) vs) ≡ Some ms → IsItem ns fs ks ms) [
      | true ↦ λ t h. subst (IsItem ns fs ks) (same_Some xs ms h) (
        sym (ap own_keys (same_element-true (key ks) (item_key ns xs) t)),
        item-first ns fs (object xs) vs fits,
      )
      | false ↦ λ t h. found-item ns fs ks vs ms (item-rest ns fs (object xs) vs fits) h
    ] refl h

-- the item at a key
pub record IsItemAt (ns : List Text) (fs : Fields) (vs : Items) (ks : List (Text × Scalar)) (x : Standing) : Type 0 where
  -- the members of the item
  pub own : Members
  -- the item has the key, and fits
  pub is_own : IsItem ns fs ks own
  -- the item has its key fields, without a fault
  pub keys : KeysFit ns fs own
  -- what stands there is this item
  pub is : (item_of ns fs, object own) ≡ x

inner : (ms ns : Members) → object ms ≡ object ns → ms ≡ ns
inner ms ns e = ap members_of_value e

-- an object that fits as an item has members that fit the fields
pub object-fields : (ns : List Text) (fs : Fields) (ms : Members) → ItemFits ns fs (object ms) → FieldsFit fs ms
object-fields ns fs ms h = subst (FieldsFit fs) (inner h.0 ms (sym h.1.0)) h.1.1.1

object-keys : (ns : List Text) (fs : Fields) (ms : Members) → ItemFits ns fs (object ms) → KeysFit ns fs ms
object-keys ns fs ms h = subst (KeysFit ns fs) (inner h.0 ms (sym h.1.0)) h.1.1.0

-- where the items of a map list fit, what stands under a key is such an item
pub some-item : (ns : List Text) (fs : Fields) (vs : Items) (ks : List (Text × Scalar)) (x : Standing) → ItemsFitAfter ns fs vs
    → item_level ns fs vs (key ks) ≡ Some x → IsItemAt ns fs vs ks x
some-item ns fs vs ks x fits h =
    elim (item_at ns (key ks) vs) as (λ o. item_at ns (key ks) vs ≡ o → option_map (λ ms. (item_of ns fs, object ms)) o ≡ Some x → IsItemAt ns fs vs ks x) [
      | None ↦ λ _ h. absurd (none-some x h)
      | Some ms ↦ λ found h.
          let own = found-item ns fs ks vs ms fits found in
          record { own = ms; is_own = own; keys = object-keys ns fs ms own.1; is = same_Some (item_of ns fs, object ms) x h }
    ] refl h
