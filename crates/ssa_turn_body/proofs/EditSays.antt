-- What an edit of the children of a place says: what the two places say of each path below.
use Rattle.std.proofs.Common.{◌≡◌, ℕ, ◌+◌, List, [], ◌∷◌, ◌++◌, length, map, Bool, true, false, ◌&&◌, ◌||◌, cond, not, Option, Some, None, option_map, refl, sym, ap, ◌∙◌, arith, true≢false}
use Rattle.std.specs.FinMap.Entries.{find}
use Rattle.std.specs.List.{list_any, position_from}
use Rattle.std.specs.Ordering.{is_eq, ordering_then}
use Rattle.std.specs.Prelude.{is_some, if◌then◌else◌}
use Rattle.std.proofs.lemmas.Option.{none-some, same_Some}
use Rattle.ssa_model.specs.definitions.Body.{Content, leaf, atom, record_branch, dict_branch, list_branch, order_at}
use Rattle.ssa_model.specs.definitions.Kind.{is_among}
use Rattle.ssa_model.specs.definitions.Path.{Element, Path, element_cmp, path_cmp, same_element, same_path, is_item_element}
use Rattle.ssa_model.specs.definitions.Record.{are_in_one_order, common, new_order}
use Rattle.ssa_path.specs.View.{element_view}
use Rattle.ssa_path.proofs.Orders.{both_first, both_second}
use Rattle.ssa_typed.specs.Rows.{are_fields, are_items, are_trees, body_of, is_tree}
use Rattle.ssa_turn_body.specs.Edits.{told_unless}
use Rattle.ssa_turn_body.specs.Found.{AreKnown, fresh, nones}
use Rattle.ssa_turn_body.specs.Marks.{Child, Kids, Marks, kids, marks, marks_in, may_stand, names, with_order}
use Rattle.ssa_turn_body.specs.Orders.{is_none}
use Rattle.ssa_turn_body.specs.Records.{are_some_items, parts_of, place_after, told_order}
use Rattle.ssa_turn_body.specs.Said.{Contents, between, contents, shown, silent, stands_in, swapped}
use Rattle.ssa_turn_body.specs.Told.{content_told, named}
use Rattle.ssa_turn_body.proofs.Saying.{between-itself}
use Rattle.ssa_turn_body.proofs.Telling.{marks-tell}
use Rattle.ssa_model.proofs.Fitting.{same_element-true}
use Rattle.ssa_model.proofs.Basics.{then_equal, then_greater}

abbrev Found : Type 0
Found = List (Option ℕ)

-- ---- paths of one element

-- two paths of one element are the same where the elements are
pub same-one : (e x : Element) → same_path (e ∷ []) (x ∷ []) ≡ same_element e x
same-one e x = then_equal (element_cmp e x)

longer : (e f x : Element) (q : Path) → same_path (e ∷ f ∷ q) (x ∷ []) ≡ false
longer e f x q = then_greater (element_cmp e x)

-- ---- those that go

-- the paths of one element each, as a set tells them
abbrev pub singles : List Element → List (Path × Unit {0})
singles es = map (λ e. (e ∷ [], tt)) es

either-found : (a b : Bool) → ◌≡◌ {A = Option (Unit {0})} (cond a (Some tt) (if b then Some tt else None)) (if a || b then Some tt else None)
either-found true b = refl
either-found false b = refl

-- of children that go, a path of one element is told where the element is among them
pub cut-found : (es : List Element) (e : Element) → find path_cmp (e ∷ []) (singles es) ≡ (if is_among e es then Some tt else None)
cut-found [] e = refl
cut-found (x ∷ es) e = (λ i. cond (same-one e x i) (Some tt) (cut-found es e i)) ∙ either-found (same_element e x) (is_among e es)

-- of children that go, the place itself is not told
pub cut-root : (es : List Element) → find path_cmp [] (singles es) ≡ None
cut-root [] = refl
cut-root (x ∷ es) = cut-root es

-- of children that go, nothing below them is told
pub cut-deeper : (es : List Element) (e f : Element) (q : Path) → find path_cmp (e ∷ f ∷ q) (singles es) ≡ None
cut-deeper [] e f q = refl
cut-deeper (x ∷ es) e f q = λ i. cond (longer e f x q i) (Some tt) (cut-deeper es e f q i)

-- ---- those that come

-- of children that come, the place itself is not told
pub part-root : (order : List Element) (ks : List ℕ) (hs : List Child) → find path_cmp [] (parts_of order ks hs) ≡ None
part-root order [] hs = refl
part-root order (k ∷ ks) [] = refl
part-root order (k ∷ ks) (h ∷ hs) = part-root order ks hs

-- of children that come, nothing below them is told
pub part-deeper : (order : List Element) (ks : List ℕ) (hs : List Child) (e f : Element) (q : Path) → find path_cmp (e ∷ f ∷ q) (parts_of order ks hs) ≡ None
part-deeper order [] hs e f q = refl
part-deeper order (k ∷ ks) [] e f q = refl
part-deeper order (k ∷ ks) (h ∷ hs) e f q =
    λ i. cond (longer e f (element_view h.0) q i) (Some (record { below = body_of h.1; place = place_after order (element_view h.0) k }))
    (part-deeper order ks hs e f q i)

parts-nothing : (order : List Element) (ks : List ℕ) → parts_of order ks [] ≡ []
parts-nothing order [] = refl
parts-nothing order (k ∷ ks) = refl

-- the first of this element among those that come, and where it stands afterwards
abbrev pub come_first : List Element → Found → ℕ → Kids → Element → Option (Contents × Option ℕ)
come_first order [] j ks e = None
come_first order (f ∷ fs) j [] e = None
come_first order (None ∷ fs) j (k ∷ ks) e = cond (same_element e k.0) (Some (contents k.1, place_after order k.0 j)) (come_first order fs (j + 1) ks e)
come_first order (Some i ∷ fs) j (k ∷ ks) e = come_first order fs (j + 1) ks e

map-cond : {A B : Type 0} (f : A → B) (b : Bool) (x : A) (o : Option A) → option_map f (cond b (Some x) o) ≡ cond b (Some (f x)) (option_map f o)
map-cond f true x o = refl
map-cond f false x o = refl

-- the first of a list, or another where it is empty
abbrev pub head_or : {X : Type 0} → X → List X → X
head_or d [] = d
head_or d (x ∷ xs) = x

-- the list without its first
abbrev pub rest_after : {X : Type 0} → List X → List X
rest_after [] = []
rest_after (x ∷ xs) = xs

-- of children that come, what is told under an element is the first of that element, with its place
pub parts-come : (order : List Element) (fs : Found) (j : ℕ) (ks : Kids) (hs : List Child) (e : Element) → kids hs ≡ fresh fs ks → are_trees hs ≡ true
    → option_map shown (find path_cmp (e ∷ []) (parts_of order (nones j fs) hs)) ≡ come_first order fs j ks e
parts-come order [] j ks hs e is trees = refl
parts-come order (f ∷ fs) j [] [] e is trees = ap (λ ps. option_map shown (find path_cmp (e ∷ []) ps)) (parts-nothing order (nones j (f ∷ fs)))
parts-come order (f ∷ fs) j [] (h ∷ hs) e is trees = absurd (omega (arith, ap length is))
parts-come order (None ∷ fs) j (k ∷ ks) [] e is trees = absurd (omega (arith, ap length is))
parts-come order (None ∷ fs) j (k ∷ ks) (h ∷ hs) e is trees =
    let tree = both_first (is_tree h.1) (are_trees hs) trees in
    let head : (element_view h.0, marks h.1) ≡ k = ap (head_or k) is in
    let rest = parts-come order fs (j + 1) ks hs e (ap rest_after is) (both_second (is_tree h.1) (are_trees hs) trees) in
    map-cond shown (same_path (e ∷ []) (element_view h.0 ∷ [])) (record { below = body_of h.1; place = place_after order (element_view h.0) j })
    (find path_cmp (e ∷ []) (parts_of order (nones (j + 1) fs) hs))
    ∙ (λ i. cond (same-one e (element_view h.0) i) (Some ((λ q. marks-tell h.1 q tree i), place_after order (element_view h.0) j)) (rest i))
    ∙ ap (λ (x : Element × Marks). cond (same_element e x.0) (Some (contents x.1, place_after order x.0 j)) (come_first order fs (j + 1) ks e)) head
parts-come order (Some i ∷ fs) j (k ∷ ks) hs e is trees = parts-come order fs (j + 1) ks hs e is trees

-- what both have does not come
pub come-both : (order : List Element) (fs : Found) (j : ℕ) (ks : Kids) (os : List Element) (e : Element) → AreKnown fs (names ks) os → is_among e os ≡ true
    → come_first order fs j ks e ≡ None
come-both order [] j ks os e known both = refl
come-both order (f ∷ fs) j [] os e known both = refl
come-both order (None ∷ fs) j (k ∷ ks) os e known both =
    elim (same_element e k.0) as (λ b. same_element e k.0 ≡ b
    → cond b (Some (contents k.1, place_after order k.0 j)) (come_first order fs (j + 1) ks e) ≡ None) [
      | true ↦ λ t. absurd (true≢false (sym both ∙ ap (λ x. is_among x os) (same_element-true e k.0 t) ∙ sym known.0))
      | false ↦ λ t. come-both order fs (j + 1) ks os e known.1 both
    ] refl
come-both order (Some i ∷ fs) j (k ∷ ks) os e known both = come-both order fs (j + 1) ks os e known.1 both

-- nor what is not there
pub come-absent : (order : List Element) (fs : Found) (j : ℕ) (ks : Kids) (e : Element) → named ks e ≡ None → come_first order fs j ks e ≡ None
come-absent order [] j ks e none = refl
come-absent order (f ∷ fs) j [] e none = refl
come-absent order (None ∷ fs) j (k ∷ ks) e none =
    elim (same_element e k.0) as (λ b. cond b (Some k.1) (named ks e) ≡ None
    → cond b (Some (contents k.1, place_after order k.0 j)) (come_first order fs (j + 1) ks e) ≡ None) [
      | true ↦ λ t. absurd (none-some k.1 (sym t))
      | false ↦ λ t. come-absent order fs (j + 1) ks e t
    ] none
come-absent order (Some i ∷ fs) j (k ∷ ks) e none =
    elim (same_element e k.0) as (λ b. cond b (Some k.1) (named ks e) ≡ None → come_first order fs (j + 1) ks e ≡ None) [
      | true ↦ λ t. absurd (none-some k.1 (sym t))
      | false ↦ λ t. come-absent order fs (j + 1) ks e t
    ] none

-- what only the second has comes, to where it stands there
pub come-new : (order : List Element) (fs : Found) (j : ℕ) (ks : Kids) (os : List Element) (e : Element) (f : Marks) (m : ℕ) → AreKnown fs (names ks) os
    → is_among e os ≡ false → named ks e ≡ Some f → position_from (same_element e) j (names ks) ≡ Some m
    → come_first order fs j ks e ≡ Some (contents f, place_after order e m)
come-new order fs j [] os e f m known new is at = absurd (none-some f is)
come-new order [] j (k ∷ ks) os e f m known new is at = absurd known
come-new order (None ∷ fs) j (k ∷ ks) os e f m known new is at =
    elim (same_element e k.0) as (λ b. same_element e k.0 ≡ b → cond b (Some k.1) (named ks e) ≡ Some f
    → cond b (Some j) (position_from (same_element e) (j + 1) (names ks)) ≡ Some m
    → cond b (Some (contents k.1, place_after order k.0 j)) (come_first order fs (j + 1) ks e) ≡ Some (contents f, place_after order e m)) [
      | true ↦ λ t u v i. Some (contents (same_Some k.1 f u i), place_after order (sym (same_element-true e k.0 t) i) (same_Some j m v i))
      | false ↦ λ t u v. come-new order fs (j + 1) ks os e f m known.1 new u v
    ] refl is at
come-new order (Some n ∷ fs) j (k ∷ ks) os e f m known new is at =
    elim (same_element e k.0) as (λ b. same_element e k.0 ≡ b → cond b (Some k.1) (named ks e) ≡ Some f
    → cond b (Some j) (position_from (same_element e) (j + 1) (names ks)) ≡ Some m
    → come_first order fs (j + 1) ks e ≡ Some (contents f, place_after order e m)) [
      | true ↦ λ t u v. absurd (true≢false (known.0 ∙ ap (λ x. is_among x os) (sym (same_element-true e k.0 t)) ∙ new))
      | false ↦ λ t u v. come-new order fs (j + 1) ks os e f m known.1 new u v
    ] refl is at

-- the element stands in the list, counted from a number
pub record IsPlace (e : Element) (j : ℕ) (es : List Element) : Type 0 where
  -- the place at which it stands
  pub place : ℕ
  -- it is the first at which it stands
  pub is : position_from (same_element e) j es ≡ Some place

-- a child that has a name stands in the list of the names
pub place-of : (ks : Kids) (j : ℕ) (e : Element) (f : Marks) → named ks e ≡ Some f → IsPlace e j (names ks)
place-of [] j e f is = absurd (none-some f is)
place-of (k ∷ ks) j e f is =
    elim (same_element e k.0) as (λ b. same_element e k.0 ≡ b → cond b (Some k.1) (named ks e) ≡ Some f → IsPlace e j (names (k ∷ ks))) [
      | true ↦ λ t u. record { place = j; is = ap (λ b. cond b (Some j) (position_from (same_element e) (j + 1) (names ks))) t }
      | false ↦ λ t u.
          let rest = place-of ks (j + 1) e f u in
          record { place = rest.place; is = ap (λ b. cond b (Some j) (position_from (same_element e) (j + 1) (names ks))) t ∙ rest.is }
    ] refl is

-- an element is among the names where a child has it
pub named-among : (ks : Kids) (e : Element) → is_among e (names ks) ≡ is_some (named ks e)
named-among [] e = refl
named-among (k ∷ ks) e =
    elim (same_element e k.0) as (λ b. (b || is_among e (names ks)) ≡ is_some (cond b (Some k.1) (named ks e))) [
      | true ↦ refl
      | false ↦ named-among ks e
    ]

-- ---- the order of the items

-- no order is told below the place
pub order-below : (before after : List Element) (e : Element) (q : Path) → find path_cmp (e ∷ q) (told_order before after) ≡ None
order-below before after e q =
    elim (are_some_items before && are_some_items after) as (λ b. find path_cmp (e ∷ q) (if b then ([], after) ∷ [] else []) ≡ None) [
      | true ↦ refl
      | false ↦ refl
    ]

no-order : (before after : List Element) → are_some_items after ≡ false → find path_cmp [] (told_order before after) ≡ None
no-order before after h =
    ap (λ b. find path_cmp [] (if b then ([], after) ∷ [] else [])) (ap (λ b. are_some_items before && b) h ∙ and-false (are_some_items before))
  where
    and-false : (b : Bool) → (b && false) ≡ false
    and-false true = refl
    and-false false = refl

fields-no-items : (es : List Element) → are_fields es ≡ true → are_some_items es ≡ false
fields-no-items [] h = refl
fields-no-items (e ∷ es) h = no (is_item_element e) (both_first (not (is_item_element e)) (are_fields es) h)
  where
    no : (b : Bool) → not b ≡ true → b ≡ false
    no true k = absurd (true≢false (sym k))
    no false k = refl

told-fields : (n : Bool) (es : List Element) → are_fields es ≡ true → are_some_items (told_unless n es) ≡ false
told-fields true es h = refl
told-fields false es h = fields-no-items es h

some-items : (e : Element) (es : List Element) → are_items (e ∷ es) ≡ true → are_some_items (e ∷ es) ≡ true
some-items e es h = both_first (is_item_element e) (are_items es) h

nothing-common : (es : List Element) → common es [] ≡ []
nothing-common [] = refl
nothing-common (e ∷ es) = nothing-common es

-- items of lists that are not in one order are there
pub both-items : (es fs : List Element) → are_items es ≡ true → are_items fs ≡ true → are_in_one_order es fs ≡ false
    → (are_some_items es && are_some_items fs) ≡ true
both-items [] fs h k n = absurd (true≢false (sym (ap (λ xs. Rattle.std.specs.Cmp.Lexicographic.pointwise same_element [] xs) (nothing-common fs)) ∙ n))
both-items (e ∷ es) [] h k n =
    absurd (true≢false (sym (ap (λ xs. Rattle.std.specs.Cmp.Lexicographic.pointwise same_element xs []) (nothing-common (e ∷ es))) ∙ n))
both-items (e ∷ es) (f ∷ fs) h k n = λ i. some-items e es h i && some-items f fs k i

list-order : (n : Bool) (es fs : List Element) → are_items es ≡ true → are_items fs ≡ true → n ≡ are_in_one_order es fs
    → find path_cmp [] (told_order (told_unless n es) (told_unless n fs)) ≡ (if not n then Some fs else None)
list-order true es fs h k is = refl
list-order false es fs h k is = ap (λ b. find path_cmp [] (if b then ([], fs) ∷ [] else [])) (both-items es fs h k (sym is))

-- the order that is told is the new one of the second content, where there is one
pub order-said : (o : Content) (n : Bool) (es fs : List Element) → may_stand o es ≡ true → may_stand o fs ≡ true → n ≡ are_in_one_order es fs
    → find path_cmp [] (told_order (told_unless n es) (told_unless n fs)) ≡ new_order (Some (with_order o es)) (Some (with_order o fs))
order-said (leaf s) n es fs h k is = absurd (true≢false (sym h))
order-said (atom v) n es fs h k is = absurd (true≢false (sym h))
order-said record_branch n es fs h k is = no-order (told_unless n es) (told_unless n fs) (told-fields n fs (both_second _ (are_fields fs) k))
order-said dict_branch n es fs h k is = no-order (told_unless n es) (told_unless n fs) (told-fields n fs (both_second _ (are_fields fs) k))
order-said (list_branch os) n es fs h k is =
    list-order n es fs (both_second _ (are_items es) h) (both_second _ (are_items fs) k) is ∙ ap (λ b. if not b then Some fs else None) is

-- where children may stand, no other leaf is told
pub no-swap : (o : Content) (es fs : List Element) → may_stand o es ≡ true → swapped (Some (with_order o es)) (Some (with_order o fs)) ≡ None
no-swap (leaf s) es fs h = absurd (true≢false (sym h))
no-swap (atom v) es fs h = absurd (true≢false (sym h))
no-swap record_branch es fs h = refl
no-swap dict_branch es fs h = refl
no-swap (list_branch os) es fs h = refl

-- ---- where an item stands

item-among : (e : Element) (es : List Element) (m j : ℕ) → are_items es ≡ true → position_from (same_element e) j es ≡ Some m → is_item_element e ≡ true
item-among e [] m j h at = absurd (none-some m at)
item-among e (x ∷ es) m j h at =
    elim (same_element e x) as (λ b. same_element e x ≡ b → cond b (Some j) (position_from (same_element e) (j + 1) es) ≡ Some m → is_item_element e ≡ true) [
      | true ↦ λ t u. ap is_item_element (same_element-true e x t) ∙ both_first (is_item_element x) (are_items es) h
      | false ↦ λ t u. item-among e es m (j + 1) (both_second (is_item_element x) (are_items es) h) u
    ] refl at

field-among : (e : Element) (es : List Element) (m j : ℕ) → are_fields es ≡ true → position_from (same_element e) j es ≡ Some m → is_item_element e ≡ false
field-among e [] m j h at = absurd (none-some m at)
field-among e (x ∷ es) m j h at =
    elim (same_element e x) as (λ b. same_element e x ≡ b → cond b (Some j) (position_from (same_element e) (j + 1) es) ≡ Some m → is_item_element e ≡ false) [
      | true ↦ λ t u. ap is_item_element (same_element-true e x t) ∙ no (is_item_element x) (both_first (not (is_item_element x)) (are_fields es) h)
      | false ↦ λ t u. field-among e es m (j + 1) (both_second (not (is_item_element x)) (are_fields es) h) u
    ] refl at
  where
    no : (b : Bool) → not b ≡ true → b ≡ false
    no true k = absurd (true≢false (sym k))
    no false k = refl

either-place : (b : Bool) (m : ℕ) (o : Option ℕ) → o ≡ Some m → (if b then Some m else o) ≡ Some m
either-place true m o h = refl
either-place false m o h = h

list-place : (n : Bool) (es : List Element) (e : Element) (m : ℕ) → are_items es ≡ true → position_from (same_element e) 0 es ≡ Some m
    → place_after (told_unless n es) e m ≡ Some m
list-place true es e m h at = ap (λ b. if b then Some m else None) (item-among e es m 0 h at)
list-place false es e m h at =
    ap (λ b. if b then (if is_none es then Some m else position_from (same_element e) 0 es) else None) (item-among e es m 0 h at)
    ∙ either-place (is_none es) m (position_from (same_element e) 0 es) at

field-place : (order es : List Element) (e : Element) (m : ℕ) → are_fields es ≡ true → position_from (same_element e) 0 es ≡ Some m
    → place_after order e m ≡ None
field-place order es e m h at =
    ap (λ b. if b then (if is_none order then Some m else position_from (same_element e) 0 order) else None) (field-among e es m 0 h at)

-- the place at which a child stands afterwards, as told, is that in the order of the content
pub place-said : (o : Content) (n : Bool) (es : List Element) (e : Element) (m : ℕ) → may_stand o es ≡ true → position_from (same_element e) 0 es ≡ Some m
    → place_after (told_unless n es) e m ≡ position_from (same_element e) 0 (order_at (Some (with_order o es)))
place-said (leaf s) n es e m h at = absurd (true≢false (sym h))
place-said (atom v) n es e m h at = absurd (true≢false (sym h))
place-said record_branch n es e m h at = field-place (told_unless n es) es e m (both_second _ (are_fields es) h) at
place-said dict_branch n es e m h at = field-place (told_unless n es) es e m (both_second _ (are_fields es) h) at
place-said (list_branch os) n es e m h at = list-place n es e m (both_second _ (are_items es) h) at ∙ sym at

-- ---- what two places say of a child

-- where nothing stands afterwards, no leaf is told
pub no-leaf : (c : Option Content) → swapped c None ≡ None
no-leaf None = refl
no-leaf (Some c) = refl

-- where nothing stands afterwards, no order is told
pub no-list : (c : Option Content) → new_order c None ≡ None
no-list None = refl
no-list (Some (leaf s)) = refl
no-list (Some (atom v)) = refl
no-list (Some record_branch) = refl
no-list (Some dict_branch) = refl
no-list (Some (list_branch es)) = refl

no-cut : (a : Bool) → (a && (true && false)) ≡ false
no-cut true = refl
no-cut false = refl

nothing : Contents
nothing q = None

-- the content that is told at a path of a child, if there is the child
abbrev pub told_in : Option Marks → Contents
told_in x q = content_told (marks_in x q)

-- what is below a child of one of them alone is not told
pub deep-said : (x y : Option Marks) (g : Element) (q : Path) → ((f h : Marks) → x ≡ Some f → y ≡ Some h → (r : Path) → f r ≡ h r)
    → between (told_in x) (told_in y) (g ∷ q) ≡ silent
deep-said None None g q same = refl
deep-said (Some f) (Some h) g q same =
    ap (λ (n : Contents). between (contents f) n (g ∷ q)) (λ i r. content_told (sym (same f h refl refl r) i)) ∙ between-itself (contents f) (g ∷ q)
deep-said (Some f) None g q same = λ i. record {
  cut = if no-cut (is_some (content_told (f (g ∷ q)))) i then Some tt else None;
  leaf = no-leaf (content_told (f (g ∷ q))) i;
  order = no-list (content_told (f (g ∷ q))) i;
  put = None;
}
deep-said None (Some h) g q same = λ i. record {
  cut = None;
  leaf = None;
  order = None;
  put = if no-cut (is_some (content_told (h (g ∷ q)))) i then Some (λ r. content_told (h ((g ∷ q) ++ r)), stands_in (contents h) (g ∷ q)) else None;
}
