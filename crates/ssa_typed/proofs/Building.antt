-- Trees that are built child by child.
use Rattle.std.proofs.Common.{◌≡◌, List, [], ◌∷◌, ◌++◌, map, true, String, Global, Less, string_bytes, string_cmp, refl, sym, ap, ◌∙◌, subst, append_assoc, append-nil}
use Rattle.std.proofs.lemmas.List.{map-append}
use Rattle.std.specs.List.{AllByRecursion}
use Rattle.std.specs.List.Sorted.{IsStrictlySortedBy}
use Rattle.std.specs.Map.{keys_of}
use Rattle.std.specs.Ordering.{is_lt}
use Rattle.ssa_model.specs.definitions.Json.{Text}
use Rattle.ssa_model.specs.definitions.Path.{Element, field, Path, is_item_element}
use Rattle.ssa_json.proofs.Ordered.{Named, names}
use Rattle.ssa_path.specs.Children.{elements, is_below, rises}
use Rattle.ssa_path.specs.declared.element.Elem.{Elem}
use Rattle.ssa_path.specs.View.{element_view}
use Rattle.ssa_path.proofs.Orders.{both_first, both_second}
use Rattle.ssa_typed.specs.Rows.{Row, rows, rows_below, under_element, is_tree, are_trees, are_items, are_fields}
use Rattle.ssa_typed.specs.Flats.{rows_at, AreNamed, IsChild}
use Rattle.ssa_typed.specs.declared.node.Node.{Node}
use Rattle.ssa_model.proofs.Basics.{both-true as both}

-- a node under its element
abbrev pub Child : Type 0
Child = Elem × Node

-- ---- paths in front

-- two lists of rows at a path are each at the path, one behind the other
pub rows_at-append : (p : Path) (xs ys : List Row) → rows_at p (xs ++ ys) ≡ rows_at p xs ++ rows_at p ys
rows_at-append p xs ys = map-append (λ (r : Row). (p ++ r.0, r.1)) xs ys

-- rows under an element at a path are rows at the path with the element behind it
pub rows_at-under : (p : Path) (e : Element) (rs : List Row) → rows_at p (under_element e rs) ≡ rows_at (p ++ e ∷ []) rs
rows_at-under p e [] = refl
rows_at-under p e (r ∷ rs) = λ i. (sym (append_assoc p (e ∷ []) r.0) i, r.1) ∷ rows_at-under p e rs i

-- ---- one child more

-- one child more brings its element, at the end
pub elements-push : (cs : List Child) (c : Child) → elements (cs ++ c ∷ []) ≡ elements cs ++ element_view c.0 ∷ []
elements-push [] c = refl
elements-push (d ∷ cs) c = ap (λ es. element_view d.0 ∷ es) (elements-push cs c)

rows_below-push : (cs : List Child) (c : Child) → rows_below (cs ++ c ∷ []) ≡ rows_below cs ++ under_element (element_view c.0) (rows c.1)
rows_below-push [] c = append-nil (under_element (element_view c.0) (rows c.1))
rows_below-push (d ∷ cs) c =
    ap (λ rs. under_element (element_view d.0) (rows d.1) ++ rs) (rows_below-push cs c)
    ∙ sym (append_assoc (under_element (element_view d.0) (rows d.1)) (rows_below cs) (under_element (element_view c.0) (rows c.1)))

-- one child more brings its rows, at the end and under its element
pub placed-push : (p : Path) (cs : List Child) (c : Child) → rows_at p (rows_below (cs ++ c ∷ [])) ≡ rows_at p (rows_below cs)
    ++ rows_at (p ++ element_view c.0 ∷ []) (rows c.1)
placed-push p cs c =
    ap (rows_at p) (rows_below-push cs c)
    ∙ rows_at-append p (rows_below cs) (under_element (element_view c.0) (rows c.1))
    ∙ ap (λ rs. rows_at p (rows_below cs) ++ rs) (rows_at-under p (element_view c.0) (rows c.1))

-- trees and one more are trees
pub are_trees-push : (cs : List Child) (c : Child) → are_trees cs ≡ true → is_tree c.1 ≡ true → are_trees (cs ++ c ∷ []) ≡ true
are_trees-push [] c h t = both _ _ t refl
are_trees-push (d ∷ cs) c h t = both _ _ (both_first (is_tree d.1) _ h) (are_trees-push cs c (both_second (is_tree d.1) _ h) t)

-- items and one more are items
pub are_items-push : (cs : List Child) (c : Child) → are_items (elements cs) ≡ true → is_item_element (element_view c.0) ≡ true
    → are_items (elements (cs ++ c ∷ [])) ≡ true
are_items-push [] c h t = both _ _ t refl
are_items-push (d ∷ cs) c h t = both _ _ (both_first _ _ h) (are_items-push cs c (both_second _ _ h) t)

-- ---- loops that make children

-- the items so far, where these are left of all
pub record IsListing (order_left : List Element) (rows_left : Path → List Row) (order : List Element)
    (rows_all : Path → List Row) (cs : List Child) : Type 0 where
  -- their rows and those that are left are all the rows
  pub placed : (p : Path) → rows_at p (rows_below cs) ++ rows_left p ≡ rows_all p
  -- their elements and those that are left are the whole order
  pub order_is : elements cs ++ order_left ≡ order
  -- all of them are items
  pub items : are_items (elements cs) ≡ true
  -- all of them are trees
  pub trees : are_trees cs ≡ true

-- before the first item all is left
pub listing-none : (order : List Element) (rows_all : Path → List Row) (cs : List Child) → cs ≡ [] → IsListing order rows_all order rows_all cs
listing-none order rows_all cs none = subst (IsListing order rows_all order rows_all) (sym none)
    (record { placed = λ p. refl; order_is = refl; items = refl; trees = refl })

-- the rows so far, with those of one child more
placed-step : (e : Element) (rows_from : Path → List Row) (c : Child) (cs : List Child) (p : Path) (left more total : List Row) → IsChild e rows_from c
    → left ≡ rows_from (p ++ e ∷ []) ++ more
    → rows_at p (rows_below cs) ++ left ≡ total → rows_at p (rows_below (cs ++ c ∷ [])) ++ more ≡ total
placed-step e rows_from c cs p left more total child split all =
    ap (λ rs. rs ++ more) (placed-push p cs c ∙ ap (λ rs. rows_at p (rows_below cs) ++ rs) (ap (λ f. rows_at (p ++ f ∷ []) (rows c.1)) child.element
    ∙ child.placed (p ++ e ∷ [])))
    ∙ append_assoc (rows_at p (rows_below cs)) (rows_from (p ++ e ∷ [])) more
    ∙ ap (λ rs. rows_at p (rows_below cs) ++ rs) (sym split)
    ∙ all

-- one item more is made of the first that is left
pub listing-step : (e : Element) (rows_from : Path → List Row) (c : Child) (cs ds : List Child) (left more order : List Element)
    (rows_left rows_more rows_all : Path → List Row)
    → IsChild e rows_from c → is_item_element e ≡ true → ((p : Path) → rows_left p ≡ rows_from (p ++ e ∷ []) ++ rows_more p) → left ≡ e ∷ more
    → ds ≡ cs ++ c ∷ []
    → IsListing left rows_left order rows_all cs → IsListing more rows_more order rows_all ds
listing-step e rows_from c cs ds left more order rows_left rows_more rows_all child item split next pushed h =
    subst (IsListing more rows_more order rows_all) (sym pushed) (record {
      placed = λ p. placed-step e rows_from c cs p (rows_left p) (rows_more p) (rows_all p) child (split p) (h.placed p);
      order_is =
          ap (λ es. es ++ more) (elements-push cs c ∙ ap (λ f. elements cs ++ f ∷ []) child.element)
          ∙ append_assoc (elements cs) (e ∷ []) more ∙ ap (λ es. elements cs ++ es) (sym next) ∙ h.order_is;
      items = are_items-push cs c h.items (ap is_item_element child.element ∙ item);
      trees = are_trees-push cs c h.trees child.tree;
    })

-- the fields or entries so far, where these rows are left of all
pub record IsNaming (done : List Text) (rows_left rows_all : Path → List Row) (cs : List Child) : Type 0 where
  -- their rows and those that are left are all the rows
  pub placed : (p : Path) → rows_at p (rows_below cs) ++ rows_left p ≡ rows_all p
  -- they stand under the names that are done, in this order
  pub named : elements cs ≡ map field done
  -- all of them are trees
  pub trees : are_trees cs ≡ true

-- before any is made, all the rows are left
pub naming-none : (rows_left rows_all : Path → List Row) (cs : List Child) → cs ≡ [] → ((p : Path) → rows_left p ≡ rows_all p) → IsNaming [] rows_left rows_all cs
naming-none rows_left rows_all cs none same = subst (IsNaming [] rows_left rows_all) (sym none) (record { placed = same; named = refl; trees = refl })

-- one field or entry more is made, and its name is done
pub naming-step : (n : Text) (rows_from : Path → List Row) (c : Child) (cs ds : List Child) (done after : List Text)
    (rows_left rows_more rows_all : Path → List Row)
    → IsChild (field n) rows_from c → ((p : Path) → rows_left p ≡ rows_from (p ++ field n ∷ []) ++ rows_more p) → after ≡ done ++ n ∷ [] → ds ≡ cs ++ c ∷ []
    → IsNaming done rows_left rows_all cs → IsNaming after rows_more rows_all ds
naming-step n rows_from c cs ds done after rows_left rows_more rows_all child split next pushed h =
    subst (IsNaming after rows_more rows_all) (sym pushed) (record {
      placed = λ p. placed-step (field n) rows_from c cs p (rows_left p) (rows_more p) (rows_all p) child (split p) (h.placed p);
      named = elements-push cs c ∙ (λ i. h.named i ++ child.element i ∷ []) ∙ sym (map-append field done (n ∷ [])) ∙ ap (map field) (sym next);
      trees = are_trees-push cs c h.trees child.tree;
    })

-- ---- names that rise

fields-named : (ns : List Text) → are_fields (map field ns) ≡ true
fields-named [] = refl
fields-named (n ∷ ns) = fields-named ns

below-named : (n : String Global) (ms : List (String Global)) → AllByRecursion (λ m. string_cmp n m ≡ Less) ms
    → is_below (field (string_bytes n)) (map field (map string_bytes ms)) ≡ true
below-named n [] h = refl
below-named n (m ∷ ms) h = both _ _ (ap is_lt h.0) (below-named n ms h.1)

rises-named : (ns : List (String Global)) → IsStrictlySortedBy string_cmp ns → rises (map field (map string_bytes ns)) ≡ true
unfolding IsStrictlySortedBy
rises-named [] h = refl
rises-named (n ∷ ns) h = both _ _ (below-named n ns h.0) (rises-named ns h.1)

names-keys : {V : Type 0} (es : List (Named V)) → names es ≡ map string_bytes (keys_of es)
names-keys [] = refl
names-keys (e ∷ es) = ap (λ ns. string_bytes e.0 ∷ ns) (names-keys es)

-- where all names of a map are done and no rows are left, the children stand under rising names and have all the rows
pub naming-end : {V : Type 0} (es : List (Named V)) (done : List Text) (rows_left rows_all : Path → List Row) (cs : List Child)
    → IsStrictlySortedBy string_cmp (keys_of es) → done ≡ names es → ((p : Path) → rows_left p ≡ [])
    → IsNaming done rows_left rows_all cs → AreNamed rows_all cs
naming-end es done rows_left rows_all cs sorted whole no_rows h =
    let named : elements cs ≡ map field (map string_bytes (keys_of es)) = h.named ∙ ap (map field) (whole ∙ names-keys es) in
    record {
      placed = λ p. sym (ap (λ rs. rows_at p (rows_below cs) ++ rs) (no_rows p) ∙ append-nil (rows_at p (rows_below cs))) ∙ h.placed p;
      risen = ap rises named ∙ rises-named (keys_of es) sorted;
      fields = ap are_fields named ∙ fields-named (map string_bytes (keys_of es));
      trees = h.trees;
    }
