-- What a look at a place of a tree shows, and what the body has there.
use Rattle.std.proofs.Common.{◌≡◌, ℕ, suc, ◌+◌, List, [], ◌∷◌, ◌++◌, length, map, Bool, true, false, ◌&&◌, ◌||◌, cond, Option, Some, None, option_map, refl, sym, ap, ◌∙◌, append-nil, true≢false, arith}
use Rattle.std.specs.Prelude.{is_some}
use Rattle.std.specs.List.{list_any}
use Rattle.std.specs.Ordering.{is_eq, ordering_then}
use Rattle.std.specs.Cmp.{tied_itself}
use Rattle.std.specs.FinMap.Entries.{find, length-put}
use Rattle.ssa_model.specs.definitions.Path.{Element, Path, element_cmp, path_cmp, path_cmp_total, same_element, same_path}
use Rattle.ssa_model.specs.definitions.PathMap.{from_entries, get, has, paths, size}
use Rattle.ssa_model.specs.definitions.Body.{Content}
use Rattle.ssa_model.proofs.PathMaps.{get-from_entries, has-paths, has-set_of, same_sets, same_path-true}
use Rattle.ssa_path.specs.declared.element.Elem.{Elem}
use Rattle.ssa_path.specs.View.{element_view}
use Rattle.ssa_path.specs.Children.{elements}
use Rattle.ssa_path.proofs.Orders.{element_cmp_total, both_first, both_second}
use Rattle.ssa_typed.specs.Rows.{rows, rows_below, under_element, below, content_at, own_content, body_of, are_apart, is_tree}
use Rattle.ssa_typed.specs.Look.{Shown, shown, look_at, children, is_child}
use Rattle.ssa_typed.specs.declared.node.Node.{Node}
use Rattle.ssa_path.proofs.Lists.{length-elements}
use Rattle.ssa_typed.proofs.Levels.{level-below}
use Rattle.ssa_typed.proofs.Lookups.{or_else, content_at-append, content_at-under, content-root}
use Rattle.ssa_model.proofs.Tables.{element-itself as same_element-itself}
use Rattle.ssa_model.proofs.Fitting.{same_element-true}
use Rattle.ssa_model.proofs.Basics.{and-true as and_true, and-false as and_false, not_true, some_or as some_unit, then_equal}

-- THE BRIDGE: the body has at a path what is found in the rows
pub get-body : (n : Node) (p : Path) → get (body_of n) p ≡ content_at (rows n) p
get-body n p = get-from_entries (rows n) p

-- ---- the children of a place

some_own : (b : Bool) (x : Content) (y : Option Content) → is_some (or_else (cond b (Some x) None) y) ≡ (b || is_some y)
some_own true x y = refl
some_own false x y = refl

-- among the rows of children something stands at the elements of these, and at no other
pub some-below : (e : Element) (cs : List (Elem × Node)) → is_some (content_at (rows_below cs) (e ∷ [])) ≡ list_any (same_element e) (elements cs)
some-below e [] = refl
some-below e (c ∷ cs) =
    let s = element_view c.0 in
    let y = content_at (rows_below cs) (e ∷ []) in
    ap is_some (content_at-append (under_element s (rows c.1)) (rows_below cs) (e ∷ []))
    ∙ ap (λ x. is_some (or_else x y)) (content_at-under e s (rows c.1) [] ∙ ap (λ x. cond (same_element e s) x None) (content-root c.1))
    ∙ some_own (same_element e s) (own_content c.1) y
    ∙ ap (λ b. same_element e s || b) (some-below e cs)

-- one step below a node something stands at the elements of its children, and at no other
pub some-child : (n : Node) (e : Element) → is_some (content_at (rows n) (e ∷ [])) ≡ list_any (same_element e) (elements (below n))
some-child n e = ap (λ rs. is_some (content_at rs (e ∷ []))) (level-below n).rows_are ∙ some-below e (below n)

-- ---- paths with one element more

abbrev singles : Path → List Element → List (Path × Unit {0})
singles p es = map (λ e. (p ++ e ∷ [], tt)) es

same_path-after : (p : Path) (e f : Element) → same_path (p ++ e ∷ []) (p ++ f ∷ []) ≡ same_element e f
same_path-after [] e f = then_equal (element_cmp e f)
same_path-after (x ∷ p) e f = ap (λ o. is_eq (ordering_then o (path_cmp (p ++ e ∷ []) (p ++ f ∷ [])))) (tied_itself element_cmp_total x) ∙ same_path-after p e f

is_child-after : (p : Path) (e : Element) → is_child p (p ++ e ∷ []) ≡ true
is_child-after [] e = refl
is_child-after (x ∷ p) e = λ i. same_element-itself x i && is_child-after p e i

abbrev IsAfter : Path → Path → Type 0
IsAfter p q = (e : Element) × (q ≡ p ++ e ∷ [])

is_child-true : (p q : Path) → is_child p q ≡ true → IsAfter p q
is_child-true [] [] h = absurd (true≢false (sym h))
is_child-true [] (e ∷ []) h = (e, refl)
is_child-true [] (e ∷ f ∷ q) h = absurd (true≢false (sym h))
is_child-true (x ∷ p) [] h = absurd (true≢false (sym h))
is_child-true (x ∷ p) (y ∷ q) h =
    let rest = is_child-true p q (both_second (same_element x y) _ h) in
    (rest.0, λ i. sym (same_element-true x y (both_first _ (is_child p q) h)) i ∷ rest.1 i)

find-single : (p : Path) (e : Element) (es : List Element) → is_some (find path_cmp (p ++ e ∷ []) (singles p es)) ≡ list_any (same_element e) es
find-single p e [] = refl
find-single p e (f ∷ es) = some_unit (same_path (p ++ e ∷ []) (p ++ f ∷ [])) (find path_cmp (p ++ e ∷ []) (singles p es))
    ∙ (λ i. same_path-after p e f i || find-single p e es i)

not_same : (p q : Path) (e : Element) → is_child p q ≡ false → (b : Bool) → same_path q (p ++ e ∷ []) ≡ b → b ≡ false
not_same p q e h true s = absurd (true≢false (sym (ap (is_child p) (same_path-true q (p ++ e ∷ []) s) ∙ is_child-after p e) ∙ h))
not_same p q e h false s = refl

find-other : (p q : Path) (es : List Element) → is_child p q ≡ false → is_some (find path_cmp q (singles p es)) ≡ false
find-other p q [] h = refl
find-other p q (e ∷ es) h = some_unit (same_path q (p ++ e ∷ [])) (find path_cmp q (singles p es))
    ∙ (λ i. not_same p q e h (same_path q (p ++ e ∷ [])) refl i || find-other p q es h i)

has-singles : (p q : Path) (es : List Element) → has (from_entries (singles p es)) q ≡ is_some (find path_cmp q (singles p es))
has-singles p q es = ap is_some (get-from_entries (singles p es) q)

size-singles : (p : Path) (es : List Element) → are_apart es ≡ true → size (from_entries (singles p es)) ≡ length es
size-singles p [] h = refl
size-singles p (e ∷ es) h =
    let rest = from_entries (singles p es) in
    let absent : has rest (p ++ e ∷ []) ≡ false = has-singles p (p ++ e ∷ []) es ∙ find-single p e es ∙ not_true _ (both_first _ (are_apart es) h) in
    length-put path_cmp path_cmp_total (p ++ e ∷ []) tt rest.entries rest.in_order
    ∙ ap (λ b. cond b (size rest) (size rest + 1)) absent
    ∙ ap (λ n. n + 1) (size-singles p es (both_second _ _ h))
    ∙ more (length es)
  where
    more : (n : ℕ) → n + 1 ≡ suc n
    more n = omega arith

-- ---- what a look shows

module _ (n m : Node) (p : Path) (same : (q : Path) → content_at (rows n) (p ++ q) ≡ content_at (rows m) q) where
  has-child : (e : Element) → has (body_of n) (p ++ e ∷ []) ≡ list_any (same_element e) (elements (below m))
  has-child e = ap is_some (get-body n (p ++ e ∷ []) ∙ same (e ∷ [])) ∙ some-child m e

  at_child : (q : Path) → IsAfter p q → has (body_of n) q ≡ has (from_entries (singles p (elements (below m)))) q
  at_child q a =
      ap (has (body_of n)) a.1 ∙ has-child a.0
      ∙ sym (ap (has (from_entries (singles p (elements (below m))))) a.1 ∙ has-singles p (p ++ a.0 ∷ []) (elements (below m))
      ∙ find-single p a.0 (elements (below m)))

  children_are : children (body_of n) p ≡ from_entries (singles p (elements (below m)))
  children_are =
      same_sets _ _ (λ q.
      has-set_of (paths (body_of n)) (is_child p) q ∙ ap (λ b. b && is_child p q) (sym (has-paths (body_of n) q))
      ∙ elim (is_child p q) as (λ b. is_child p q ≡ b → (has (body_of n) q && b) ≡ has (from_entries (singles p (elements (below m)))) q) [
        | true ↦ λ h. and_true _ ∙ at_child q (is_child-true p q h)
        | false ↦ λ h. and_false _ ∙ sym (has-singles p q (elements (below m)) ∙ find-other p q (elements (below m)) h)
      ] refl)

  -- the content of the node at a path, with the number of its children, is what the body shows there
  pub looked : is_tree m ≡ true → Some (shown (length (below m)) (own_content m)) ≡ look_at (body_of n) p
  looked tree =
      let apart = (level-below m).apart tree in
      let count : size (children (body_of n) p) ≡ length (below m) = ap (λ s. size s) children_are ∙ size-singles p (elements (below m)) apart
      ∙ length-elements (below m) in
      let found : get (body_of n) p ≡ Some (own_content m) = get-body n p ∙ ap (content_at (rows n)) (sym (append-nil p)) ∙ same [] ∙ content-root m in
      sym (λ i. option_map (shown (count i)) (found i))

-- where the tree has nothing from a path on, the body shows nothing there
pub looked-nowhere : (n : Node) (p : Path) → ((q : Path) → content_at (rows n) (p ++ q) ≡ None) → ◌≡◌ {A = Option Shown} None (look_at (body_of n) p)
looked-nowhere n p none = sym (ap (option_map (shown (size (children (body_of n) p)))) (get-body n p ∙ ap (content_at (rows n)) (sym (append-nil p)) ∙ none []))
