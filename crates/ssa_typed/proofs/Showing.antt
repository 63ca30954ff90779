-- The value of a tree is the one that its body shows.
use Rattle.std.proofs.Common.{◌≡◌, List, [], ◌∷◌, ◌++◌, Bool, true, false, cond, Option, Some, None, option_map, refl, sym, ap, subst, ◌∙◌, append_assoc, append-nil, true≢false}
use Rattle.std.specs.Prelude.{is_some, if◌then◌else◌}
use Rattle.std.specs.List.{AllByRecursion}
use Rattle.ssa_model.specs.definitions.Json.{Text, Json, scalar, list, object, item, same_text}
use Rattle.ssa_model.specs.definitions.Path.{Element, field, key, value, Path, same_element}
use Rattle.ssa_model.specs.definitions.PathMap.{get, has, below as map_below}
use Rattle.ssa_model.specs.definitions.Kind as kinds
use Rattle.ssa_model.specs.definitions.Kind.{Kind, ScalarKind, Fields, scalar_kind, atomic_of, record_of, dict_of, items_of, no_fields, kind_field, kind_of, is_of}
use Rattle.ssa_model.specs.definitions.Body.{Body, Content, leaf, atom, record_branch, dict_branch, list_branch, is_leaf, order_at}
use Rattle.ssa_model.specs.definitions.Fitting as fitting
use Rattle.ssa_model.specs.definitions.Fitting.{Place, of_kind, item_of, place_below, place_at, content_fits, IsBodyOf}
use Rattle.ssa_model.specs.definitions.Objects.{shown, shown_fields, shown_items, entry_members, names_below, content_value}
use Rattle.ssa_model.specs.definitions.RecordText.{value_at_place}
use Rattle.ssa_model.proofs.PutParts.{get-below}
use Rattle.ssa_model.proofs.Places.{record-branch, item-branch, dict-branch, set-branch, list-branch, value-leaf, set-place, list-place, kind-placed}
use Rattle.ssa_path.specs.Children.{child_at, elements, rises}
use Rattle.ssa_path.specs.View.{element_view}
use Rattle.ssa_path.proofs.Orders.{both_first, both_second}
use Rattle.ssa_model.specs.definitions.Lawful.{is_before_all, is_ordered, are_ordered}
use Rattle.ssa_typed.specs.Points.{content_in}
use Rattle.ssa_typed.specs.Rows.{rows, below, below_of, body_of, content_at, content_of, own_content, leaf_content, is_tree, are_apart}
use Rattle.ssa_typed.specs.Values as values
use Rattle.ssa_typed.specs.Values.{leaf_value, members_of, value_of, values_of}
use Rattle.ssa_typed.specs.declared.node.Leaf.{Leaf}
use Rattle.ssa_typed.specs.declared.node.Leaf.TheVariants.{Scalar as ScalarLeaf, Atomic}
use Rattle.ssa_typed.specs.declared.node.Node.{Node}
use Rattle.ssa_typed.specs.declared.node.Node.TheOpen.{Node-F}
use Rattle.ssa_typed.specs.declared.node.Node.TheViews.{out-Node, roll-Node, roll-out-Node}
use Rattle.ssa_typed.proofs.Building.{Child}
use Rattle.ssa_typed.proofs.Levels.{level-below, tree-Branch, tree-Dict}
use Rattle.ssa_typed.proofs.Looks.{get-body}
use Rattle.ssa_typed.proofs.Lookups.{child_at-rest, content-level, content-root, tree-child}
use Rattle.ssa_typed.proofs.SameMembers.{same-members}
use Rattle.ssa_model.proofs.ShownNames.{member_of-fields}
use Rattle.ssa_typed.proofs.ShownMembers.{fields-rise, member_of-children, children-rise, member_of-entries, entries-rise}
use Rattle.ssa_typed.proofs.Values.{value-Leaf, value-Branch, value-Dict, value-List}
use Rattle.ssa_model.proofs.KindPlaces.{place-on as place-joined}
use Rattle.ssa_model.proofs.Tables.{element-itself as same_element-itself}

-- ---- one level

abbrev of_content : Content → List Child → Json
of_content (leaf s) cs = scalar s
of_content (atom v) cs = v
of_content record_branch cs = object (members_of (values_of cs))
of_content dict_branch cs = object (members_of (values_of cs))
of_content (list_branch es) cs = list (values.items_of (values_of cs))

abbrev is_object : Content → Bool
is_object record_branch = true
is_object dict_branch = true
is_object _ = false

abbrev is_list : Content → Bool
is_list (list_branch es) = true
is_list _ = false

record IsLevelOf (m : Node) (c : Content) (cs : List Child) : Type 0 where
  value_is : value_of m ≡ of_content c cs
  rise : is_tree m ≡ true → is_object c ≡ true → rises (elements cs) ≡ true
  order_is : is_list c ≡ true → order_at (Some c) ≡ elements cs

leaf-value : (l : Leaf) → leaf_value l ≡ of_content (leaf_content l) []
leaf-value (ScalarLeaf s) = refl
leaf-value (Atomic v) = refl

-- at a leaf there is no order of items
pub leaf-order : (l : Leaf) → order_at (Some (leaf_content l)) ≡ []
leaf-order (ScalarLeaf s) = refl
leaf-order (Atomic v) = refl

made : (x : Node-F Node) → IsLevelOf (roll-Node x) (content_of x) (below_of x)
unfolding roll-Node denote.Hole.Carrier.roll
made (Node-F.Leaf l) = record { value_is = value-Leaf l ∙ leaf-value l; rise = λ t h. refl; order_is = λ h. leaf-order l }
made (Node-F.Branch v) = record {
  value_is = value-Branch v;
  rise = λ t h. both_first _ _ (both_first _ _ (sym (tree-Branch v) ∙ t));
  order_is = λ h. absurd (true≢false (sym h));
}
made (Node-F.Dict v) = record {
  value_is = value-Dict v;
  rise = λ t h. both_first _ _ (both_first _ _ (sym (tree-Dict v) ∙ t));
  order_is = λ h. absurd (true≢false (sym h));
}
made (Node-F.List v) = record { value_is = value-List v; rise = λ t h. absurd (true≢false (sym h)); order_is = λ h. refl }

level-of : (m : Node) → IsLevelOf m (own_content m) (below m)
level-of m = subst (λ n. IsLevelOf n (own_content m) (below m)) (roll-out-Node m) (made (out-Node m))

leaf-shown : (c : Content) (cs : List Child) → is_leaf (Some c) ≡ true → content_value (Some c) ≡ of_content c cs
leaf-shown (leaf s) cs h = refl
leaf-shown (atom v) cs h = refl
leaf-shown record_branch cs h = absurd (true≢false (sym h))
leaf-shown dict_branch cs h = absurd (true≢false (sym h))
leaf-shown (list_branch es) cs h = absurd (true≢false (sym h))

list-shown : (c : Content) (cs : List Child) → is_list c ≡ true → of_content c cs ≡ list (values.items_of (values_of cs))
list-shown (leaf s) cs h = absurd (true≢false (sym h))
list-shown (atom v) cs h = absurd (true≢false (sym h))
list-shown record_branch cs h = absurd (true≢false (sym h))
list-shown dict_branch cs h = absurd (true≢false (sym h))
list-shown (list_branch es) cs h = refl

-- ---- a tree at a place of a body

record IsPlaced (r : Place) (q : Path) (c : Content) : Type 0 where
  place : Place
  there : place_at r q ≡ Some place
  fits : content_fits place c ≡ true

-- the body has at and below the path what the tree has, and all that fits the place
record IsShownAt (b : Body) (r : Place) (p : Path) (m : Node) : Type 0 where
  same : (q : Path) → get b (p ++ q) ≡ content_at (rows m) q
  tree : is_tree m ≡ true
  fits : (q : Path) (c : Content) → content_at (rows m) q ≡ Some c → IsPlaced r q c

record IsBelow (b : Body) (r : Place) (p : Path) (e : Element) (c : Node) : Type 0 where
  place : Place
  there : place_below r e ≡ Some place
  shows : IsShownAt b place (p ++ e ∷ []) c

some-is : {A : Type 0} (x y : A) → Some x ≡ Some y → x ≡ y
some-is x y e = ap (λ o. elim o [ None ↦ x | Some z ↦ z ]) e

none-some : {A : Type 0} (x : A) → None ≡ Some x → ⊥
none-some x e = true≢false (sym (ap is_some e))

below-found : (r : Place) (e : Element) (place : Place) → place_at r (e ∷ []) ≡ Some place → (s : Place) × (place_below r e ≡ Some s)
below-found r e place h = by (place_below r e) h
  where
    by : (o : Option Place) → ◌≡◌ {A = Option Place} (elim o [ None ↦ None | Some s ↦ Some s ]) (Some place) → (s : Place) × (o ≡ Some s)
    by None g = absurd (none-some place g)
    by (Some s) g = (s, refl)

module _ (b : Body) (r : Place) (p : Path) (m : Node) (h : IsShownAt b r p m) where
  own-fits : content_fits r (own_content m) ≡ true
  own-fits = let f = h.fits [] (own_content m) (content-root m) in ap (λ s. content_fits s (own_content m)) (some-is r f.place f.there) ∙ f.fits

  own-here : get b p ≡ Some (own_content m)
  own-here = ap (get b) (sym (append-nil p)) ∙ h.same [] ∙ content-root m

  has-child : (e : Element) → has b (p ++ e ∷ []) ≡ is_some (content_in (child_at e (below m)) [])
  has-child e = ap is_some (h.same (e ∷ []) ∙ content-level m e [] h.tree)

  at-child : (e : Element) (c : Node) → child_at e (below m) ≡ Some c → (q : Path) → content_at (rows m) (e ∷ q) ≡ content_at (rows c) q
  at-child e c found q = content-level m e q h.tree ∙ ap (λ x. content_in x q) found

  down : (e : Element) (c : Node) → child_at e (below m) ≡ Some c → IsBelow b r p e c
  down e c found =
      let own = h.fits (e ∷ []) (own_content c) (at-child e c found [] ∙ content-root c) in
      let s = below-found r e own.place own.there in
      record {
        place = s.0;
        there = s.1;
        shows = record {
          same = λ q. ap (get b) (append_assoc p (e ∷ []) q) ∙ h.same (e ∷ q) ∙ at-child e c found q;
          tree = tree-child m e c h.tree found;
          fits = λ q x is.
              let f = h.fits (e ∷ q) x (at-child e c found q ∙ is) in
              record { place = f.place; there = sym (ap (λ o. elim o [ None ↦ None | Some t ↦ place_at t q ]) s.1) ∙ f.there; fits = f.fits };
        };
      }

  leaf-at : is_leaf (Some (own_content m)) ≡ true → content_value (get b p) ≡ value_of m
  leaf-at is = ap content_value own-here ∙ leaf-shown (own_content m) (below m) is ∙ sym (level-of m).value_is

-- ---- records

abbrev Shows : Kind → Body → Type 0
Shows k b = (p : Path) (c : Node) → IsShownAt b (of_kind k) p c → shown k b p ≡ value_of c

abbrev EachShows : Fields → Body → Type 0
EachShows fs b = (n : Text) (k : Kind) → kind_of n fs ≡ Some k → Shows k b

module _ (b : Body) (r : Place) (p : Path) (m : Node) (h : IsShownAt b r p m) where
  alike-record : (fs : Fields) → ((n : Text) → place_below r (field n) ≡ option_map of_kind (kind_of n fs)) → EachShows fs b → (n : Text)
      → cond (has b (p ++ field n ∷ [])) (option_map (λ k. shown k b (p ++ field n ∷ [])) (kind_of n fs)) None
      ≡ option_map value_of (child_at (field n) (below m))
  alike-record fs like each n =
      let e = field n in
      let told = has-child b r p m h e in
      elim (child_at e (below m)) as (λ x. child_at e (below m) ≡ x
      → cond (has b (p ++ e ∷ [])) (option_map (λ k. shown k b (p ++ e ∷ [])) (kind_of n fs)) None ≡ option_map value_of x) [
        | None ↦ λ found. ap (λ t. cond t (option_map (λ k. shown k b (p ++ e ∷ [])) (kind_of n fs)) None) (told ∙ ap (λ x. is_some (content_in x [])) found)
        | Some c ↦ λ found.
            let d = down b r p m h e c found in
            let k = kind-placed (kind_of n fs) d.place (sym (like n) ∙ d.there) in
            ap (λ t. cond t (option_map (λ k. shown k b (p ++ e ∷ [])) (kind_of n fs)) None) (told ∙ ap (λ x. is_some (content_in x [])) found
            ∙ ap is_some (content-root c))
            ∙ ap (option_map (λ k. shown k b (p ++ e ∷ []))) k.1.0
            ∙ ap Some (each n k.0 k.1.0 (p ++ e ∷ []) c (subst (λ s. IsShownAt b s (p ++ e ∷ []) c) (sym k.1.1) d.shows))
      ] refl

  record-at : (fs : Fields) → ((n : Text) → place_below r (field n) ≡ option_map of_kind (kind_of n fs)) → are_ordered fs ≡ true
      → own_content m ≡ record_branch → EachShows fs b
      → object (shown_fields fs b p) ≡ value_of m
  record-at fs like ordered is each =
      let level = level-of m in
      ap object (same-members (shown_fields fs b p) (members_of (values_of (below m))) (fields-rise b p fs ordered)
      (children-rise (below m) (level.rise h.tree (ap is_object is)))
      (λ n. member_of-fields b p n fs ∙ alike-record fs like each n ∙ sym (member_of-children n (below m))))
      ∙ sym (level.value_is ∙ ap (λ c. of_content c (below m)) is)

  alike-dict : (k : Kind) → r ≡ of_kind (dict_of k) → Shows k b → (n : Text)
      → cond (has b (p ++ field n ∷ [])) (Some (shown k b (p ++ field n ∷ []))) None ≡ option_map value_of (child_at (field n) (below m))
  alike-dict k own each n =
      let e = field n in
      let told = has-child b r p m h e in
      elim (child_at e (below m)) as (λ x. child_at e (below m) ≡ x
      → cond (has b (p ++ e ∷ [])) (Some (shown k b (p ++ e ∷ []))) None ≡ option_map value_of x) [
        | None ↦ λ found. ap (λ t. cond t (Some (shown k b (p ++ e ∷ []))) None) (told ∙ ap (λ x. is_some (content_in x [])) found)
        | Some c ↦ λ found.
            let d = down b r p m h e c found in
            let place = some-is (of_kind k) d.place (sym (ap (λ s. place_below s e) own) ∙ d.there) in
            ap (λ t. cond t (Some (shown k b (p ++ e ∷ []))) None) (told ∙ ap (λ x. is_some (content_in x [])) found ∙ ap is_some (content-root c))
            ∙ ap Some (each (p ++ e ∷ []) c (subst (λ s. IsShownAt b s (p ++ e ∷ []) c) (sym place) d.shows))
      ] refl

  dict-at : (k : Kind) → r ≡ of_kind (dict_of k) → own_content m ≡ dict_branch → Shows k b → object (entry_members (shown k b) p (names_below b p)) ≡ value_of m
  dict-at k own is each =
      let level = level-of m in
      ap object (same-members (entry_members (shown k b) p (names_below b p)) (members_of (values_of (below m))) (entries-rise (shown k b) p b)
      (children-rise (below m) (level.rise h.tree (ap is_object is)))
      (λ n. member_of-entries (shown k b) b p n ∙ alike-dict k own each n ∙ sym (member_of-children n (below m))))
      ∙ sym (level.value_is ∙ ap (λ c. of_content c (below m)) is)

-- ---- lists

skip : (e : Element) (c : Child) (cs : List Child) (d : Node) → are_apart (elements (c ∷ cs)) ≡ true → child_at e cs ≡ Some d → child_at e (c ∷ cs) ≡ Some d
skip e c cs d apart found =
    elim (same_element e (element_view c.0)) as (λ t. same_element e (element_view c.0) ≡ t → (if t then Some c.1 else child_at e cs) ≡ Some d) [
      | true ↦ λ h. absurd (none-some d (sym (child_at-rest e c cs h apart) ∙ found))
      | false ↦ λ h. found
    ] refl

all-children : (P : Element → Node → Type 0) (cs : List Child) → are_apart (elements cs) ≡ true → ((e : Element) (c : Node) → child_at e cs ≡ Some c → P e c)
    → AllByRecursion (λ (c : Child). P (element_view c.0) c.1) cs
all-children P [] apart h = tt
all-children P (c ∷ cs) apart h = (
  h (element_view c.0) c.1 (ap (λ t. if t then Some c.1 else child_at (element_view c.0) cs) (same_element-itself (element_view c.0))),
  all-children P cs (both_second _ _ apart) (λ e d found. h e d (skip e c cs d apart found)),
)

items-shown : (shows : Path → Json) (p : Path) (cs : List Child) → AllByRecursion (λ (c : Child). shows (p ++ element_view c.0 ∷ []) ≡ value_of c.1) cs
    → shown_items shows p (elements cs) ≡ values.items_of (values_of cs)
items-shown shows p [] h = refl
items-shown shows p (c ∷ cs) h = λ i. item (h.0 i) (items-shown shows p cs h.1 i)

list-at : (b : Body) (r : Place) (p : Path) (m : Node) (shows : Path → Json) → IsShownAt b r p m → is_list (own_content m) ≡ true
    → ((e : Element) (c : Node) → IsBelow b r p e c → shows (p ++ e ∷ []) ≡ value_of c)
    → list (shown_items shows p (order_at (get b p))) ≡ value_of m
list-at b r p m shows h is each =
    let level = level-of m in
    ap list (ap (shown_items shows p) (ap order_at (own-here b r p m h) ∙ level.order_is is)
    ∙ items-shown shows p (below m) (all-children (λ e c. shows (p ++ e ∷ []) ≡ value_of c) (below m) ((level-below m).apart h.tree)
    (λ e c found. each e c (down b r p m h e c found))))
    ∙ sym (level.value_is ∙ list-shown (own_content m) (below m) is)

-- ---- what stands at a place of a kind

scalar-leaf : (k : ScalarKind) (c : Content) → content_fits (of_kind (scalar_kind k)) c ≡ true → is_leaf (Some c) ≡ true
scalar-leaf k (leaf s) h = refl
scalar-leaf k (atom v) h = refl
scalar-leaf k record_branch h = absurd (true≢false (sym h))
scalar-leaf k dict_branch h = absurd (true≢false (sym h))
scalar-leaf k (list_branch es) h = absurd (true≢false (sym h))

atomic-leaf : (s : kinds.Shape) (c : Content) → content_fits (of_kind (atomic_of s)) c ≡ true → is_leaf (Some c) ≡ true
atomic-leaf s (leaf t) h = refl
atomic-leaf s (atom v) h = refl
atomic-leaf s record_branch h = absurd (true≢false (sym h))
atomic-leaf s dict_branch h = absurd (true≢false (sym h))
atomic-leaf s (list_branch es) h = absurd (true≢false (sym h))

-- ---- any kind

set-child : (b : Body) (k : ScalarKind) (p : Path) (e : Element) (c : Node) → IsBelow b (of_kind (kinds.set_of k)) p e c
    → content_value (get b (p ++ e ∷ [])) ≡ value_of c
set-child b k p e c d =
    let fits = own-fits b d.place (p ++ e ∷ []) c d.shows in
    let x = set-place k e d.place d.there in
    leaf-at b d.place (p ++ e ∷ []) c d.shows (ap (λ o. is_leaf (Some o))
    (value-leaf x.own (own_content c) (ap (λ s. content_fits s (own_content c)) x.place ∙ fits)))

item-child : (b : Body) (ns : List Text) (fs : Fields) (p : Path) (e : Element) (c : Node) → are_ordered fs ≡ true → EachShows fs b
    → IsBelow b (of_kind (items_of ns fs)) p e c
    → object (shown_fields fs b (p ++ e ∷ [])) ≡ value_of c
item-child b ns fs p e c ordered each d =
    let h : IsShownAt b (item_of ns fs) (p ++ e ∷ []) c = subst (λ s. IsShownAt b s (p ++ e ∷ []) c) (sym (list-place ns fs e d.place d.there).place) d.shows in
    record-at b (item_of ns fs) (p ++ e ∷ []) c h fs (λ n. refl) ordered (item-branch ns fs (own_content c) (own-fits b (item_of ns fs) (p ++ e ∷ []) c h)) each

mutual
  kind-shown : (k : Kind) (b : Body) → is_ordered k ≡ true → Shows k b
  kind-shown (scalar_kind k) b o p m h = leaf-at b (of_kind (scalar_kind k)) p m h (scalar-leaf k (own_content m) (own-fits b (of_kind (scalar_kind k)) p m h))
  kind-shown (atomic_of s) b o p m h = leaf-at b (of_kind (atomic_of s)) p m h (atomic-leaf s (own_content m) (own-fits b (of_kind (atomic_of s)) p m h))
  kind-shown (record_of fs) b o p m h =
      let r = of_kind (record_of fs) in
      record-at b r p m h fs (λ n. refl) o (record-branch fs (own_content m) (own-fits b r p m h)) (fields-shown fs b o)
  kind-shown (dict_of k) b o p m h =
      let r = of_kind (dict_of k) in
      dict-at b r p m h k refl (dict-branch k (own_content m) (own-fits b r p m h)) (kind-shown k b o)
  kind-shown (kinds.set_of k) b o p m h =
      let r = of_kind (kinds.set_of k) in
      list-at b r p m (λ q. content_value (get b q)) h (ap is_list (set-branch k (own_content m) (own-fits b r p m h))) (λ e c d. set-child b k p e c d)
  kind-shown (items_of ns fs) b o p m h =
      let r = of_kind (items_of ns fs) in
      list-at b r p m (λ q. object (shown_fields fs b q)) h (ap is_list (list-branch ns fs (own_content m) (own-fits b r p m h)))
      (λ e c d. item-child b ns fs p e c o (fields-shown fs b o) d)

  fields-shown : (fs : Fields) (b : Body) → are_ordered fs ≡ true → EachShows fs b
  fields-shown no_fields b o n k is p m h = absurd (none-some k is)
  fields-shown (kind_field l j fs) b o n k is p m h =
      let later = both_second (is_before_all l fs) _ o in
      elim (same_text n l) as (λ t. (if t then Some j else kind_of n fs) ≡ Some k → shown k b p ≡ value_of m) [
        | true ↦ λ own.
            let same : j ≡ k = some-is j k own in
            ap (λ i. shown i b p) (sym same) ∙ kind-shown j b (both_first _ _ later) p m (subst (λ i. IsShownAt b (of_kind i) p m) (sym same) h)
        | false ↦ λ other. fields-shown fs b (both_second (is_ordered j) _ later) n k other p m h
      ] is

-- THE BRIDGE: the value of a tree is what its body shows
pub body-shown : (n : Node) (kind : Kind) → is_tree n ≡ true → is_ordered kind ≡ true → IsBodyOf kind (body_of n) → value_of n ≡ shown kind (body_of n) []
body-shown n kind tree ordered body =
    sym (kind-shown kind (body_of n) ordered [] n (record {
      same = get-body n;
      tree = tree;
      fits = λ q c is. let at = body.fits q c (get-body n q ∙ is) in record { place = at.place; there = at.there; fits = at.fits };
    }))

-- ---- a part of a body

-- the fields of each kind of the place rise
abbrev pub is_ordered_place : Place → Bool
is_ordered_place (of_kind k) = is_ordered k
is_ordered_place (item_of ns fs) = are_ordered fs
is_ordered_place (fitting.value_of s) = true

ordered-field : (fs : Fields) (n : Text) (k : Kind) → are_ordered fs ≡ true → kind_of n fs ≡ Some k → is_ordered k ≡ true
ordered-field no_fields n k o h = absurd (none-some k h)
ordered-field (kind_field l j fs) n k o h =
    let later = both_second (is_before_all l fs) _ o in
    elim (same_text n l) as (λ t. (if t then Some j else kind_of n fs) ≡ Some k → is_ordered k ≡ true) [
      | true ↦ λ own. ap is_ordered (sym (some-is j k own)) ∙ both_first _ _ later
      | false ↦ λ other. ordered-field fs n k (both_second (is_ordered j) _ later) other
    ] h

ordered-kind : (fs : Fields) (n : Text) (s : Place) → are_ordered fs ≡ true → option_map of_kind (kind_of n fs) ≡ Some s → is_ordered_place s ≡ true
ordered-kind fs n s o h =
    let k = kind-placed (kind_of n fs) s h in
    subst (λ x. is_ordered_place x ≡ true) k.1.1 (ordered-field fs n k.0 o k.1.0)

ordered-below : (r : Place) (e : Element) (s : Place) → is_ordered_place r ≡ true → place_below r e ≡ Some s → is_ordered_place s ≡ true
ordered-below (of_kind (scalar_kind k)) e s o h = absurd (none-some s h)
ordered-below (of_kind (atomic_of a)) e s o h = absurd (none-some s h)
ordered-below (of_kind (record_of fs)) (field n) s o h = ordered-kind fs n s o h
ordered-below (of_kind (record_of fs)) (key ks) s o h = absurd (none-some s h)
ordered-below (of_kind (record_of fs)) (value x) s o h = absurd (none-some s h)
ordered-below (of_kind (dict_of k)) (field n) s o h = subst (λ x. is_ordered_place x ≡ true) (some-is (of_kind k) s h) o
ordered-below (of_kind (dict_of k)) (key ks) s o h = absurd (none-some s h)
ordered-below (of_kind (dict_of k)) (value x) s o h = absurd (none-some s h)
ordered-below (of_kind (kinds.set_of k)) e s o h = subst (λ x. is_ordered_place x ≡ true) (set-place k e s h).place refl
ordered-below (of_kind (items_of ns fs)) e s o h = subst (λ x. is_ordered_place x ≡ true) (list-place ns fs e s h).place o
ordered-below (item_of ns fs) (field n) s o h = ordered-kind fs n s o h
ordered-below (item_of ns fs) (key ks) s o h = absurd (none-some s h)
ordered-below (item_of ns fs) (value x) s o h = absurd (none-some s h)
ordered-below (fitting.value_of t) e s o h = absurd (none-some s h)

-- so do those of the places below it
pub ordered-at : (p : Path) (q r : Place) → is_ordered_place q ≡ true → place_at q p ≡ Some r → is_ordered_place r ≡ true
ordered-at [] q r o h = subst (λ s. is_ordered_place s ≡ true) (some-is q r h) o
ordered-at (e ∷ p) q r o h =
    elim (place_below q e) as (λ b. place_below q e ≡ b → ◌≡◌ {A = Option Place} (elim b [ None ↦ None | Some s ↦ place_at s p ]) (Some r)
    → is_ordered_place r ≡ true) [
      | None ↦ λ is g. absurd (none-some r g)
      | Some s ↦ λ is g. ordered-at p s r (ordered-below q e s o is) g
    ] refl h

place-shown : (r : Place) (b : Body) (p : Path) (m : Node) → is_ordered_place r ≡ true → IsShownAt b r p m → value_at_place r b p ≡ value_of m
place-shown (of_kind k) b p m o h = kind-shown k b o p m h
place-shown (item_of ns fs) b p m o h =
    record-at b (item_of ns fs) p m h fs (λ n. refl) o (item-branch ns fs (own_content m) (own-fits b (item_of ns fs) p m h)) (fields-shown fs b o)
place-shown (fitting.value_of s) b p m o h =
    leaf-at b (fitting.value_of s) p m h (ap (λ c. is_leaf (Some c)) (value-leaf s (own_content m) (own-fits b (fitting.value_of s) p m h)))

-- what a body shows at a place is the value of the tree that stands there
pub shown-there : (n : Node) (kind : Kind) (r : Place) (p : Path) (w : Body) → is_tree n ≡ true → is_ordered kind ≡ true → IsBodyOf kind w
    → place_at (of_kind kind) p ≡ Some r → body_of n ≡ map_below w p → value_of n ≡ value_at_place r w p
shown-there n kind r p w tree ordered body at is =
    let here = λ (q : Path). sym (get-below w p q) ∙ ap (λ b. get b q) (sym is) ∙ get-body n q in
    sym (place-shown r w p n (ordered-at p (of_kind kind) r ordered at) (record {
      same = here;
      tree = tree;
      fits = λ q c there.
          let found = body.fits (p ++ q) c (here q ∙ there) in
          record { place = found.place; there = sym (place-joined p q (of_kind kind) r at) ∙ found.there; fits = found.fits };
    }))

-- the value of a tree whose body is what another body has at a place and below
pub part-shown : (n : Node) (kind : Kind) (r : Place) (p : Path) (w : Body) → is_tree n ≡ true → is_ordered kind ≡ true → IsBodyOf kind w
    → place_at (of_kind kind) p ≡ Some r → body_of n ≡ map_below w p → value_of n ≡ value_at_place r (body_of n) []
part-shown n kind r p w tree ordered body at is =
    sym (place-shown r (body_of n) [] n (ordered-at p (of_kind kind) r ordered at) (record {
      same = get-body n;
      tree = tree;
      fits = λ q c there.
          let found = body.fits (p ++ q) c (sym (get-below w p q) ∙ ap (λ b. get b q) (sym is) ∙ get-body n q ∙ there) in
          record { place = found.place; there = sym (place-joined p q (of_kind kind) r at) ∙ found.there; fits = found.fits };
    }))
