-- The way down to the place at and below which is all that a record touches.
use Rattle.std.proofs.Common.{◌≡◌, List, [], ◌∷◌, ◌++◌, Bool, true, false, Option, Some, None, refl, sym, ap, ◌∙◌, true≢false, append_assoc, arith}
use Rattle.std.proofs.lemmas.Option.{none-some}
use Rattle.std.specs.Prelude.{if◌then◌else◌, IfOk, Result, Ok, Err}
use Rattle.ssa_model.specs.definitions.Json.{Text, Scalar}
use Rattle.ssa_model.specs.definitions.Path.{Element, field, key, value, Path, same_element, same_path, is_key_field, names_key, under}
use Rattle.ssa_model.specs.definitions.PathMap.{get, has}
use Rattle.ssa_model.specs.definitions.Kind as kinds
use Rattle.ssa_model.specs.definitions.Kind.{Kind, Fields, scalar_kind, atomic_of, record_of, dict_of, items_of}
use Rattle.ssa_model.specs.definitions.Body.{Body}
use Rattle.ssa_model.specs.definitions.Fitting.{Place, of_kind, item_of, value_of, place_below, place_at, are_keys, IsBodyOf}
use Rattle.ssa_model.proofs.Fitting.{same_element-true}
use Rattle.ssa_model.proofs.Places.{if-some, place-after, place-push}
use Rattle.ssa_model.proofs.Pruned.{under-append, under-rest}
use Rattle.ssa_model.proofs.Tables.{element-itself}
use Rattle.ssa_model.proofs.Tests.{by_test}
use Rattle.ssa_path.specs.Children.{child_at}
use Rattle.ssa_path.specs.Keys.{members_view}
use Rattle.ssa_path.specs.Trie.{is_one_of, paths}
use Rattle.ssa_path.specs.View.{element_view}
use Rattle.ssa_path.specs.declared.element.Elem.{Elem}
use Rattle.ssa_path.specs.declared.trie.Trie.{Trie}
use Rattle.ssa_path.specs.declared.trie.Trie.TheViews.{out-Trie}
use Rattle.ssa_path.proofs.Levels.{any-paths, found, one-level-root, same_path-reading}
use Rattle.ssa_schema.specs.Kinds.{fields_view, kind_view}
use Rattle.ssa_typed.specs.Points.{content_in}
use Rattle.ssa_typed.specs.Rows.{below, body_of, is_tree, own_content}
use Rattle.ssa_typed.specs.declared.node.Node.{Node}
use Rattle.ssa_typed.proofs.Lookups.{content-level, content-root, tree-child}
use Rattle.ssa_typed.proofs.Looks.{get-body}
use Rattle.ssa_typed.proofs.Sizes.{smaller}
use Rattle.ssa_turn_body.specs.At.{HasTreeAt}
use Rattle.ssa_record.specs.Places.{IsTouchedBelow, ToldMaps}
use Rattle.ssa_record.specs.Spots.{IsFieldBelow, IsItemBelow, IsLower, IsOnlyChild, IsSpot, IsSpotBelow, LeadsDown}
use Rattle.ssa_record.specs.declared.spot.Item.{Item}
use Rattle.ssa_record.specs.declared.spot.Spot.{Spot}
use Rattle.ssa_record.proofs.LedChildren.{touched-child}
use Rattle.ssa_model.proofs.KindPlaces.{below-key}

-- ---- key fields

abbrev is_kind_place : Place → Bool
is_kind_place (of_kind k) = true
is_kind_place (item_of ns fs) = false
is_kind_place (value_of s) = false

-- what is right below a place of a kind is no key field
after-kind : (f e : Element) (q : Place) (k : Kind) → place_below q f ≡ Some (of_kind k) → is_key_field (f ∷ e ∷ []) ≡ false
after-kind (field n) e q k at = refl
after-kind (value s) e q k at = refl
after-kind (key ks) e q k at = absurd (below-key q ks k at)

abbrev then_at : Option Place → Path → Option Place
then_at None p = None
then_at (Some r) p = place_at r p

level : (q : Place) (e : Element) (p : Path) → place_at q (e ∷ p) ≡ then_at (place_below q e) p
level q e p = elim (place_below q e) as (λ o. ◌≡◌ {A = Option Place} (elim o [ None ↦ None | Some r ↦ place_at r p ]) (then_at o p))
    [ None ↦ refl | Some r ↦ refl ]

past : (o : Option Place) (p : Path) (r : Place) → then_at o p ≡ Some r → (q : Place) × ((o ≡ Some q) × (place_at q p ≡ Some r))
past None p r h = absurd (none-some r h)
past (Some q) p r h = (q, (refl, h))

last-step : (o : Option Place) (r : Place) → then_at o [] ≡ Some r → o ≡ Some r
last-step None r h = h
last-step (Some q) r h = h

no-key-field : (p : Path) (q : Place) (k : Kind) (e : Element) → place_at q p ≡ Some (of_kind k) → is_key_field (p ++ e ∷ []) ≡ false
no-key-field [] q k e at = refl
no-key-field (f ∷ []) q k e at = after-kind f e q k (last-step (place_below q f) (of_kind k) (sym (level q f []) ∙ at))
no-key-field (f ∷ g ∷ []) q k e at =
    let next = past (place_below q f) (g ∷ []) (of_kind k) (sym (level q f (g ∷ [])) ∙ at) in
    no-key-field (g ∷ []) next.0 k e next.1.1
no-key-field (f ∷ g ∷ h ∷ p) q k e at =
    let next = past (place_below q f) (g ∷ h ∷ p) (of_kind k) (sym (level q f (g ∷ h ∷ p)) ∙ at) in
    no-key-field (g ∷ h ∷ p) next.0 k e next.1.1

-- ---- what is touched

module _ (m : ToldMaps) (p : Path) (t c : Trie) (el : Elem) (h : IsTouchedBelow m p t) (only : IsOnlyChild t (el, c)) where
  abbrev e : Element
  e = element_view el

  child-there : child_at e (out-Trie t).below.items ≡ Some c
  child-there = ap (child_at e) only.one ∙ ap (λ b. if b then Some c else None) (element-itself e)

  -- only the child of the element leads on
  other-child : (f : Element) → same_element f e ≡ false → child_at f (out-Trie t).below.items ≡ None
  other-child f off = ap (child_at f) only.one ∙ ap (λ b. if b then Some c else None) off

  starts : (r : Path) → is_one_of (paths t) r ≡ true → (s : Path) × (r ≡ e ∷ s)
  starts [] one = absurd (true≢false (sym one ∙ one-level-root t ∙ only.untouched))
  starts (f ∷ s) one =
      by_test (same_element f e)
      (λ same. (s, ap (λ x. x ∷ s) (same_element-true f e same)))
      (λ off. absurd (true≢false (sym one ∙ any-paths same_path same_path-reading t f s h.0 ∙ ap (λ o. found same_path o s) (other-child f off))))

  within-child : ((q : Path) → has m.touched q ≡ true → under p q ≡ true) → (q : Path) → has m.touched q ≡ true → under (p ++ e ∷ []) q ≡ true
  within-child within q one =
      let rest = under-rest p q (within q one) in
      let s = starts rest.0 (h.1 rest.0 ∙ ap (has m.touched) (sym rest.1) ∙ one) in
      let longer : q ≡ (p ++ e ∷ []) ++ s.0 = rest.1 ∙ ap (λ r. p ++ r) s.1 ∙ sym (append_assoc p (e ∷ []) s.0) in
      ap (under (p ++ e ∷ [])) longer ∙ under-append (p ++ e ∷ []) s.0

-- ---- one step

-- the tree is what the body has at the path, where the schema has the place, and all that is touched is there
record IsThere (m : ToldMaps) (kind : Kind) (v : Body) (p : Path) (t : Trie) (n : Node) (q : Place) : Type 0 where
  -- the node with all below is a tree
  pub tree : is_tree n ≡ true
  -- it is what the body has at the path
  pub has_tree : HasTreeAt v p n
  -- the schema has this place at the path
  pub place : place_at (of_kind kind) p ≡ Some q
  -- the trie has what is touched from the path on
  pub touched : IsTouchedBelow m p t
  -- nothing is touched but at and below the path
  pub within : (r : Path) → has m.touched r ≡ true → under p r ≡ true

module _ (m : ToldMaps) (kind : Kind) (v : Body) where
  further : (p : Path) (t c : Trie) (n x : Node) (q r : Place) (el : Elem) → IsThere m kind v p t n q → IsOnlyChild t (el, c)
      → child_at (element_view el) (below n) ≡ Some x → place_below q (element_view el) ≡ Some r → IsThere m kind v (p ++ element_view el ∷ []) c x r
  further p t c n x q r el h only found place =
      let e = element_view el in
      record {
        tree = tree-child n e x h.tree found;
        has_tree = λ s.
            ap (get v) (append_assoc p (e ∷ []) s) ∙ h.has_tree (e ∷ s) ∙ get-body n (e ∷ s) ∙ content-level n e s h.tree ∙ ap (λ o. content_in o s) found
            ∙ sym (get-body x s);
        place = place-push p (of_kind kind) e q r h.place place;
        touched = touched-child m p t c e h.touched (child-there m p t c el h.touched only);
        within = within-child m p t c el h.touched only h.within;
      }

  starting : (p : Path) (s : Spot) → IsSpot m kind v p s → IsThere m kind v p s.touched.now s.node.now (of_kind (kind_view s.kind.now))
  starting p s h = record { tree = h.tree; has_tree = h.has_tree; place = h.place; touched = h.touched; within = h.within }

  ending : (p : Path) (s : Spot) → IsThere m kind v p s.touched.now s.node.now (of_kind (kind_view s.kind.now)) → is_key_field p ≡ false
      → has m.cut p ≡ false → has m.put p ≡ false → IsSpot m kind v p s
  ending p s h free uncut unput = record {
    tree = h.tree;
    has_tree = h.has_tree;
    place = h.place;
    free = free;
    touched = h.touched;
    within = h.within;
    uncut = λ _. uncut;
    unput = λ _. unput;
  }

-- into a field or an entry
pub field-lower : (m : ToldMaps) (p : Path) (s r : Spot) (el : Elem) → is_tree s.node.now ≡ true → IsSpotBelow m p s el r
    → IsLower m p s (p ++ element_view el ∷ []) r
field-lower m p s r el tree b =
    let e = element_view el in
    record {
      tree = tree-child s.node.now e r.node.now tree b.node;
      fewer = smaller s.node.now e r.node.now b.node;
      leads = λ kind v fits h.
          let k = kind_view s.kind.now in
          let next = further m kind v p s.touched.now r.touched.now s.node.now r.node.now (of_kind k) (of_kind (kind_view r.kind.now)) el
          (starting m kind v p s h) b.touched b.node b.place in
          ending m kind v (p ++ e ∷ []) r next (no-key-field p (of_kind kind) k e h.place) b.uncut b.unput;
    }

-- ---- into a field of an item

-- the last two elements tell whether a path is that of a key field
last-two : (p : Path) (e f : Element) → is_key_field ((p ++ e ∷ []) ++ f ∷ []) ≡ names_key e f
last-two [] e f = refl
last-two (x ∷ []) e f = refl
last-two (x ∷ y ∷ []) e f = last-two (y ∷ []) e f
last-two (x ∷ y ∷ z ∷ p) e f = last-two (y ∷ z ∷ p) e f

-- what stands below a map list has its item's place
item-place : (q : Place) (e : Element) (ns : List Text) (fs : Fields) (ks : List (Text × Scalar)) (r : Place) → q ≡ of_kind (items_of ns fs) → e ≡ key ks
    → place_below q e ≡ Some r → place_below q e ≡ Some (item_of ns fs)
item-place q e ns fs ks r list item is =
    is ∙ ap (λ x. Some x) (sym (if-some (are_keys ns fs ks) (item_of ns fs) r ((λ i. place_below (sym list i) (sym item i)) ∙ is)).1)

module _ (m : ToldMaps) (p : Path) (s r : Spot) (i : Item) (el fl : Elem) (tree : is_tree s.node.now ≡ true) (a : IsItemBelow s el i)
    (b : IsFieldBelow m (p ++ element_view el ∷ []) i fl r) where
  abbrev outer : Element
  outer = element_view el

  abbrev inner : Element
  inner = element_view fl

  abbrev fs : Fields
  fs = fields_view i.fields.now.entries

  abbrev q : Place
  q = of_kind (kind_view s.kind.now)

  place-there : (kind : Kind) (v : Body) → IsBodyOf kind v → IsSpot m kind v p s → place_below q outer ≡ Some (item_of a.names fs)
  place-there kind v fits h =
      let own : get v (p ++ outer ∷ []) ≡ Some (own_content i.node.now) =
      h.has_tree (outer ∷ []) ∙ get-body s.node.now (outer ∷ []) ∙ content-level s.node.now outer [] h.tree ∙ ap (λ o. content_in o []) a.node
      ∙ content-root i.node.now in
      let at = fits.fits (p ++ outer ∷ []) (own_content i.node.now) own in
      item-place q outer a.names fs (members_view i.keys.now) at.place (ap of_kind a.kind) a.keys (sym (place-after p (of_kind kind) outer q h.place)
      ∙ at.there)

  leads-down : LeadsDown m p s ((p ++ outer ∷ []) ++ inner ∷ []) r
  leads-down kind v fits h =
      let item = further m kind v p s.touched.now i.touched.now s.node.now i.node.now q (item_of a.names fs) el (starting m kind v p s h) a.touched a.node
      (place-there kind v fits h) in
      let next = further m kind v (p ++ outer ∷ []) i.touched.now r.touched.now i.node.now r.node.now (item_of a.names fs) (of_kind (kind_view r.kind.now)) fl
      item b.touched b.node (b.place a.names) in
      ending m kind v ((p ++ outer ∷ []) ++ inner ∷ []) r next (last-two p outer inner ∙ ap (λ x. names_key x inner) a.keys ∙ b.free) b.uncut b.unput

  -- the item with all below is a tree
  pub item-tree : is_tree i.node.now ≡ true
  item-tree = tree-child s.node.now outer i.node.now tree a.node

  -- the field's place lies lower than the list's, and all that is touched leads down to it
  pub item-lower : IsLower m p s ((p ++ outer ∷ []) ++ inner ∷ []) r
  item-lower = record {
    tree = tree-child i.node.now inner r.node.now item-tree b.node;
    fewer = let first = smaller s.node.now outer i.node.now a.node in let second = smaller i.node.now inner r.node.now b.node in omega (arith, first, second);
    leads = leads-down;
  }

-- what leads on from a lower place leads down from the first
pub from-lower : {E : Type 0} (m : ToldMaps) (p g q : Path) (s b : Spot) (res : Result Spot E) → IsLower m p s g b → IfOk res (λ r. LeadsDown m g b q r)
    → IfOk res (λ r. LeadsDown m p s q r)
from-lower m p g q s b (Ok r) lower leads = λ kind v fits h. leads kind v fits (lower.leads kind v fits h)
from-lower m p g q s b (Err e) lower leads = leads

-- the root, at and below which is everything
pub root-spot : (m : ToldMaps) (kind : Kind) (v : Body) (s : Spot) → is_tree s.node.now ≡ true → body_of s.node.now ≡ v → kind_view s.kind.now ≡ kind
    → IsTouchedBelow m [] s.touched.now → IsSpot m kind v [] s
root-spot m kind v s tree seen same touched = record {
  tree = tree;
  has_tree = λ q. ap (λ b. get b q) (sym seen);
  place = ap (λ k. Some (of_kind k)) (sym same);
  free = refl;
  touched = touched;
  within = λ q _. refl;
  uncut = λ h. absurd (true≢false h);
  unput = λ h. absurd (true≢false h);
}
