-- The values of trees, child by child.
use Rattle.std.proofs.Common.{◌≡◌, ℕ, zero, suc, ◌+◌, ◌<◌, length, take, drop, get_or, List, [], ◌∷◌, ◌++◌, true, Global, String, string_bytes, string_cmp, nat_cmp, Less, Equal, Greater, refl, sym, ap, ◌∙◌, arith, rules}
use Rattle.std.proofs.lemmas.List.{drop_more, take-append-drop}
use Rattle.std.specs.Cmp.Lexicographic.{slice_cmp, nat_list_cmp_total}
use Rattle.std.specs.FinMap.{slice_cmp-IsAntisymmetric, nat_cmp-IsAntisymmetric}
use Rattle.std.specs.BTreeMap.{insert_entry}
use Rattle.std.specs.Ordering.{is_lt, ordering_reverse, match_ordering}
use Rattle.ssa_model.specs.definitions.Json.{Json, list, object, Items, no_items, item, Members, member}
use Rattle.ssa_model.specs.definitions.Path.{Element, field, key, value, element_cmp}
use Rattle.ssa_model.specs.definitions.Objects.{with_member}
use Rattle.ssa_json.specs.View.{view, items_view, members_view}
use Rattle.ssa_json.proofs.Converting.{Found}
use Rattle.ssa_json.specs.declared.value.Json as program
use Rattle.ssa_path.proofs.Lists.{taken-at}
use Rattle.ssa_path.specs.Children.{elements, is_below, rises}
use Rattle.ssa_path.specs.View.{element_view}
use Rattle.ssa_path.proofs.Orders.{both_first, both_second}
use Rattle.ssa_typed.specs.Rows.{is_tree, are_trees}
use Rattle.ssa_typed.specs.Values.{items_of, leaf_value, members_of, member_under, with_member_under, value_of, values_of}
use Rattle.ssa_typed.specs.declared.node.Leaf.{Leaf}
use Rattle.ssa_typed.specs.declared.node.Node.{Leaf as LeafOf, Branch, Dict, List as ListOf, the_lemmas}
use Rattle.ssa_typed.proofs.Building.{Child}
use Rattle.ssa_typed.proofs.Levels.{Children}
use Rattle.ssa_model.proofs.Basics.{lower}

-- ---- one level

-- the value of a leaf is what it holds
pub value-Leaf : (l : Leaf) → value_of (LeafOf l) ≡ leaf_value l
value-Leaf l = search (rules, the_lemmas)

-- the value of a record is an object of its fields' values
pub value-Branch : (v : Children) → value_of (Branch v) ≡ object (members_of (values_of v.items))
value-Branch v = search (rules, the_lemmas)

-- the value of a Dict is an object of its entries' values
pub value-Dict : (v : Children) → value_of (Dict v) ≡ object (members_of (values_of v.items))
value-Dict v = search (rules, the_lemmas)

-- the value of a list is a list of its items' values
pub value-List : (v : Children) → value_of (ListOf v) ≡ list (items_of (values_of v.items))
value-List v = search (rules, the_lemmas)

-- one item more, behind the others
abbrev pub items_after : Items → Json → Items
items_after no_items v = item v no_items
items_after (item w vs) v = item w (items_after vs v)

-- ---- members put into a map

-- a value put into a map is a member in its place among the others
pub inserted : (k : String Global) (v : program.Json) (es : List Found)
    → members_view (insert_entry string_cmp es k v) ≡ with_member (string_bytes k) (view v) (members_view es)
inserted k v [] = refl
inserted k v (e ∷ es) =
    let n = string_bytes k in
    let m = string_bytes e.0 in
    elim (slice_cmp nat_cmp n m) as (λ o. slice_cmp nat_cmp n m ≡ o
    → members_view (match_ordering o ((k, v) ∷ e ∷ es) ((e.0, v) ∷ es) (e ∷ insert_entry string_cmp es k v))
    ≡ elim o [
      | Less ↦ member n (view v) (member m (view e.1) (members_view es))
      | Equal ↦ member n (view v) (members_view es)
      | Greater ↦ member m (view e.1)
          (with_member n (view v) (members_view es))
    ]) [
      | Less ↦ λ h. refl
      | Equal ↦ λ h. ap (λ t. member t (view v) (members_view es)) (sym (slice_cmp-IsAntisymmetric nat_cmp-IsAntisymmetric n m h))
      | Greater ↦ λ h. ap (member m (view e.1)) (inserted k v es)
    ] refl

-- ---- elements that rise

put-behind : (d e : Element) (w v : Json) (ms : Members) → is_lt (element_cmp d e) ≡ true
    → member_under d w (with_member_under e v ms) ≡ with_member_under e v (member_under d w ms)
put-behind (field m) (field n) w v ms h =
    let above : slice_cmp nat_cmp n m ≡ Greater = nat_list_cmp_total.antisymm n m ∙ ap ordering_reverse (lower _ h) in
    sym (ap (λ o. elim o [ Less ↦ member n v (member m w ms) | Equal ↦ member n v ms | Greater ↦ member m w (with_member n v ms) ]) above)
put-behind (field m) (key ks) w v ms h = refl
put-behind (field m) (value s) w v ms h = refl
put-behind (key ks) e w v ms h = refl
put-behind (value s) e w v ms h = refl

put-alone : (e : Element) (v : Json) → member_under e v (members_of []) ≡ with_member_under e v (members_of [])
put-alone (field n) v = refl
put-alone (key ks) v = refl
put-alone (value s) v = refl

below-middle : (e : Element) (cs : List Child) (c : Child) (ds : List Child) → is_below e (elements (cs ++ c ∷ ds)) ≡ true
    → is_lt (element_cmp e (element_view c.0)) ≡ true
below-middle e [] c ds h = both_first _ _ h
below-middle e (d ∷ cs) c ds h = below-middle e cs c ds (both_second (is_lt (element_cmp e (element_view d.0))) _ h)

-- the next child goes last
members-last : (cs : List Child) (c : Child) (ds : List Child) → rises (elements (cs ++ c ∷ ds)) ≡ true
    → members_of (values_of (cs ++ c ∷ [])) ≡ with_member_under (element_view c.0) (value_of c.1) (members_of (values_of cs))
members-last [] c ds h = put-alone (element_view c.0) (value_of c.1)
members-last (d ∷ cs) c ds h =
    ap (member_under (element_view d.0) (value_of d.1)) (members-last cs c ds (both_second (is_below (element_view d.0) (elements (cs ++ c ∷ ds))) _ h))
    ∙ put-behind (element_view d.0) (element_view c.0) (value_of d.1) (value_of c.1) (members_of (values_of cs))
    (below-middle (element_view d.0) cs c ds (both_first _ _ h))

-- the value of the next child stands in its place among the members so far
pub members-more : (cs : List Child) (i : ℕ) (c : Child) → i < length cs → c ≡ get_or cs i c → rises (elements cs) ≡ true
    → members_of (values_of (take (i + 1) cs)) ≡ with_member_under (element_view c.0) (value_of c.1) (members_of (values_of (take i cs)))
members-more cs i c lt is rise =
    let split : take i cs ++ c ∷ drop (i + 1) cs ≡ cs = ap (λ xs. take i cs ++ xs) (ap (λ y. y ∷ drop (i + 1) cs) is ∙ sym (drop_more cs i c lt))
    ∙ take-append-drop i cs in
    let one_more : take (i + 1) cs ≡ take i cs ++ c ∷ [] = taken-at cs i c lt is in
    ap (λ xs. members_of (values_of xs)) one_more ∙ members-last (take i cs) c (drop (i + 1) cs) (ap (λ xs. rises (elements xs)) split ∙ rise)

items-last : (cs : List Child) (c : Child) → items_of (values_of (cs ++ c ∷ [])) ≡ items_after (items_of (values_of cs)) (value_of c.1)
items-last [] c = refl
items-last (d ∷ cs) c = ap (item (value_of d.1)) (items-last cs c)

-- the value of the next child is the last of the items so far
pub items-more : (cs : List Child) (i : ℕ) (c : Child) → i < length cs → c ≡ get_or cs i c
    → items_of (values_of (take (i + 1) cs)) ≡ items_after (items_of (values_of (take i cs))) (value_of c.1)
items-more cs i c lt is = ap (λ xs. items_of (values_of xs)) (taken-at cs i c lt is) ∙ items-last (take i cs) c

-- ---- items pushed

-- a value pushed behind others is the last item
pub items_view-push : (vs : List program.Json) (v : program.Json) → items_view (vs ++ v ∷ []) ≡ items_after (items_view vs) (view v)
items_view-push [] v = refl
items_view-push (w ∷ vs) v = ap (item (view w)) (items_view-push vs v)

-- ---- children that are trees

-- the child at a place among trees is a tree
pub tree-at : (cs : List Child) (i : ℕ) (c : Child) → i < length cs → c ≡ get_or cs i c → are_trees cs ≡ true → is_tree c.1 ≡ true
tree-at [] i c lt is h = absurd (omega arith)
tree-at (d ∷ cs) zero c lt is h = ap (λ (x : Child). is_tree x.1) is ∙ both_first _ _ h
tree-at (d ∷ cs) (suc i) c lt is h = tree-at cs i c (omega arith) is (both_second (is_tree d.1) _ h)
