-- As much as the record of a body holds, its changes say.
use Rattle.std.proofs.Common.{◌≡◌, ℕ, ◌+◌, ◌-◌, ◌^◌, ◌<◌, ◌≤◌, min, get_or, take, List, [], ◌∷◌, ◌++◌, length, true, false, not, ◌&&◌, cond, Some, None, Less, Equal, Greater, refl, sym, ap, ◌∙◌, arith, append-nil}
use Rattle.std.proofs.lemmas.List.{length-map}
use Rattle.std.proofs.lemmas.List.Sums.{sum_by_push}
use Rattle.std.proofs.lemmas.Option.{none-some}
use Rattle.std.specs.FinMap.Entries.{by_order, find, put}
use Rattle.std.specs.List.{list_any, sum_by}
use Rattle.std.specs.Ordering.{is_eq}
use Rattle.std.specs.Prelude.{if◌then◌else◌}
use Rattle.ssa_model.specs.definitions.Facts.{body_size, one_if}
use Rattle.ssa_model.specs.definitions.Path.{Element, Path, path_cmp, parent, same_element, same_path}
use Rattle.ssa_model.specs.definitions.PathMap.{from_entries, size}
use Rattle.ssa_model.specs.definitions.Record.{Part}
use Rattle.ssa_model.proofs.Beginnings.{parent-push}
use Rattle.ssa_model.proofs.PathMaps.{get-from_entries, same_path-itself, same_path-true}
use Rattle.ssa_model.proofs.Sums.{total, sum-total, length-total}
use Rattle.ssa_path.specs.Children.{elements}
use Rattle.ssa_path.specs.View.{element_view, path_view}
use Rattle.ssa_path.proofs.Lists.{taken-at}
use Rattle.ssa_path.proofs.Orders.{both_first, both_second}
use Rattle.ssa_typed.specs.Rows.{are_apart, are_trees, is_tree, leaf_content, rows}
use Rattle.ssa_typed.proofs.Sizes.{size-body}
use Rattle.ssa_turn_body.specs.Edits.{named_in}
use Rattle.ssa_turn_body.specs.Marks.{Child}
use Rattle.ssa_turn_body.specs.Once.{AllNameOnce, AreOnce, ChangeNamesOnce, changes_at}
use Rattle.ssa_turn_body.specs.Records.{are_some_items, at_place, body_told, cuts_in, leaves_in, orders_in, parts_in, parts_of, told_by}
use Rattle.ssa_turn_body.specs.Sizes.{change_size, steps_size}
use Rattle.ssa_turn_body.specs.declared.change.PlaceChange.{PlaceChange}
use Rattle.ssa_turn_body.specs.declared.change.PlaceChange.TheVariants.{Leaf, Children}
use Rattle.ssa_turn_body.specs.declared.steps.BodySteps.{BodySteps}
use Rattle.ssa_turn_body.specs.declared.steps.Step.{Step}
use Rattle.ssa_turn_body.proofs.EditSays.{same-one, singles}
use Rattle.ssa_model.proofs.PartValues.{same-below}
use Rattle.ssa_model.proofs.Basics.{not_true, first_false as neither_first, second_false as neither_second}

-- ---- entries of which no two are at one path

module _ {X : Type 0} where
  -- how many of the entries are at a path
  abbrev entries_at : Path → List (Path × X) → ℕ
  entries_at q [] = 0
  entries_at q (e ∷ es) = one_if (same_path q e.0) + entries_at q es

  entries-append : (q : Path) (xs ys : List (Path × X)) → entries_at q (xs ++ ys) ≡ entries_at q xs + entries_at q ys
  entries-append q [] ys = omega arith
  entries-append q (x ∷ xs) ys = let rest = entries-append q xs ys in omega arith

  none-found : (q : Path) (es : List (Path × X)) → entries_at q es ≡ 0 → find path_cmp q es ≡ None
  none-found q [] h = refl
  none-found q (e ∷ es) h =
      elim (same_path q e.0) as (λ b. one_if b + entries_at q es ≡ 0 → cond b (Some e.1) (find path_cmp q es) ≡ None) [
        | true ↦ λ k. absurd (omega (arith, k))
        | false ↦ λ k. none-found q es (omega (arith, k))
      ] h

  total-put : (f : Path × X → ℕ) (p : Path) (x : X) (es : List (Path × X)) → find path_cmp p es ≡ None
      → total f (put path_cmp p x es) ≡ f (p, x) + total f es
  total-put f p x [] h = refl
  total-put f p x (e ∷ es) h =
      elim (path_cmp p e.0) as (λ o. cond (is_eq o) (Some e.1) (find path_cmp p es) ≡ None
      → total f (by_order o ((p, x) ∷ e ∷ es) ((e.0, x) ∷ es) (e ∷ put path_cmp p x es)) ≡ f (p, x) + (f e + total f es)) [
        | Less ↦ λ k. refl
        | Equal ↦ λ k. absurd (none-some e.1 (sym k))
        | Greater ↦ λ k. let rest = total-put f p x es k in omega arith
      ] h

  -- a sum over the map of such entries is the sum over them
  total-entries : (f : Path × X → ℕ) (es : List (Path × X)) → ((q : Path) → entries_at q es ≤ 1) → total f (from_entries es).entries ≡ total f es
  total-entries f [] h = refl
  total-entries f (e ∷ es) h =
      let own : one_if (same_path e.0 e.0) ≡ 1 = ap one_if (same_path-itself e.0) in
      let all = h e.0 in
      let none : entries_at e.0 es ≡ 0 = omega arith in
      total-put f e.0 e.1 (from_entries es).entries (get-from_entries es e.0 ∙ none-found e.0 es none)
      ∙ ap (λ n. f e + n) (total-entries f es (λ q. let m = h q in omega arith))

  total-append : (f : Path × X → ℕ) (xs ys : List (Path × X)) → total f (xs ++ ys) ≡ total f xs + total f ys
  total-append f [] ys = omega arith
  total-append f (x ∷ xs) ys = let rest = total-append f xs ys in omega arith

  -- what does not ask for the path counts the same at each place
  total-placed : (f : X → ℕ) (p : Path) (es : List (Path × X)) → total (λ e. f e.1) (at_place p es) ≡ total (λ e. f e.1) es
  total-placed f p [] = refl
  total-placed f p (e ∷ es) = ap (λ n. f e.1 + n) (total-placed f p es)

  module _ (g : PlaceChange → List (Path × X)) where
    -- where each change tells at most one entry of a path, all tell no more than there are changes there
    told-at : (front : Path → Path)
        → ((p q : Path) (c : PlaceChange) → ChangeNamesOnce c → entries_at q (at_place p (g c)) ≤ one_if (same_path (front q) p))
        → (q : Path) (ss : List Step) → AllNameOnce ss → entries_at q (told_by g ss) ≤ changes_at (front q) ss
    told-at front each q [] names = omega arith
    told-at front each q (s ∷ ss) names =
        let whole = entries-append q (at_place (path_view s.path.items) (g s.change)) (told_by g ss) in
        let one = each (path_view s.path.items) q s.change names.0 in
        let rest = told-at front each q ss names.1 in
        omega arith

    total-told : (f : X → ℕ) (s : Step) (ss : List Step)
        → total (λ e. f e.1) (told_by g (s ∷ ss)) ≡ total (λ e. f e.1) (g s.change) + total (λ e. f e.1) (told_by g ss)
    total-told f s ss =
        total-append (λ e. f e.1) (at_place (path_view s.path.items) (g s.change)) (told_by g ss)
        ∙ ap (λ n. n + total (λ e. f e.1) (told_by g ss)) (total-placed f (path_view s.path.items) (g s.change))

-- ---- the place itself

one-root : {X : Type 0} (p q : Path) (x : X) → entries_at q (at_place p (([], x) ∷ [])) ≤ one_if (same_path q p)
one-root p q x = let e : one_if (same_path q (p ++ [])) ≡ one_if (same_path q p) = ap (λ r. one_if (same_path q r)) (append-nil p) in omega arith

leaf-once : (p q : Path) (c : PlaceChange) → ChangeNamesOnce c → entries_at q (at_place p (leaves_in c)) ≤ one_if (same_path q p)
leaf-once p q (Leaf s) h = one-root p q (leaf_content s.leaf)
leaf-once p q (Children s) h = omega arith

order-once : (p q : Path) (c : PlaceChange) → ChangeNamesOnce c → entries_at q (at_place p (orders_in c)) ≤ one_if (same_path q p)
order-once p q (Leaf s) h = omega arith
order-once p q (Children s) h =
    let after = path_view s.value.order.after.items in
    elim (are_some_items (path_view s.value.order.before.items) && are_some_items after) as (λ b.
    entries_at q (at_place p (if b then ([], after) ∷ [] else [])) ≤ one_if (same_path q p)) [
      | true ↦ one-root p q after
      | false ↦ omega arith
    ]

-- ---- children

-- how many of the elements lead from the place to a path
abbrev named_at : Path → Path → List Element → ℕ
named_at p q [] = 0
named_at p q (e ∷ es) = one_if (same_path q (p ++ e ∷ [])) + named_at p q es

cuts-at : (p q : Path) (es : List Element) → entries_at q (at_place p (singles es)) ≡ named_at p q es
cuts-at p q [] = refl
cuts-at p q (e ∷ es) = ap (λ n. one_if (same_path q (p ++ e ∷ [])) + n) (cuts-at p q es)

parts-at : (p q : Path) (order : List Element) (ks : List ℕ) (hs : List Child) → length hs ≡ length ks
    → entries_at q (at_place p (parts_of order ks hs)) ≡ named_at p q (elements hs)
parts-at p q order [] [] long = refl
parts-at p q order [] (h ∷ hs) long = absurd (omega (arith, long))
parts-at p q order (k ∷ ks) [] long = absurd (omega (arith, long))
parts-at p q order (k ∷ ks) (h ∷ hs) long =
    ap (λ n. one_if (same_path q (p ++ element_view h.0 ∷ [])) + n) (parts-at p q order ks hs (omega (arith, long)))

here-parent : (p q : Path) (e : Element) → same_path q (p ++ e ∷ []) ≡ true → same_path (parent q) p ≡ true
here-parent p q e t =
    ap (λ r. same_path (parent r) p) (same_path-true q (p ++ e ∷ []) t) ∙ ap (λ r. same_path r p) (parent-push p e) ∙ same_path-itself p

-- the other elements do not lead there
named-others : (p q : Path) (e : Element) (es : List Element) → same_path q (p ++ e ∷ []) ≡ true → list_any (same_element e) es ≡ false → named_at p q es ≡ 0
named-others p q e [] t h = refl
named-others p q e (x ∷ es) t h =
    let other : same_path q (p ++ x ∷ []) ≡ false =
    ap (λ r. same_path r (p ++ x ∷ [])) (same_path-true q (p ++ e ∷ []) t) ∙ same-below p (e ∷ []) (x ∷ []) ∙ same-one e x
    ∙ neither_first (same_element e x) (list_any (same_element e) es) h in
    let none : one_if (same_path q (p ++ x ∷ [])) ≡ 0 = ap one_if other in
    let rest = named-others p q e es t (neither_second (same_element e x) (list_any (same_element e) es) h) in
    omega arith

named-once : (p q : Path) (es : List Element) → are_apart es ≡ true → named_at p q es ≤ one_if (same_path (parent q) p)
named-once p q [] h = omega arith
named-once p q (e ∷ es) h =
    elim (same_path q (p ++ e ∷ [])) as (λ b. same_path q (p ++ e ∷ []) ≡ b → one_if b + named_at p q es ≤ one_if (same_path (parent q) p)) [
      | true ↦ λ t.
          let here : one_if (same_path (parent q) p) ≡ 1 = ap one_if (here-parent p q e t) in
          let none = named-others p q e es t (not_true _ (both_first (not (list_any (same_element e) es)) (are_apart es) h)) in
          omega arith
      | false ↦ λ t. let rest = named-once p q es (both_second (not (list_any (same_element e) es)) (are_apart es) h) in omega arith
    ] refl

cut-once : (p q : Path) (c : PlaceChange) → ChangeNamesOnce c → entries_at q (at_place p (cuts_in c)) ≤ one_if (same_path (parent q) p)
cut-once p q (Leaf s) h = omega arith
cut-once p q (Children s) h =
    let same = cuts-at p q (named_in s.value.gone) in
    let once = named-once p q (named_in s.value.gone) h.gone in
    omega arith

part-once : (p q : Path) (c : PlaceChange) → ChangeNamesOnce c → entries_at q (at_place p (parts_in c)) ≤ one_if (same_path (parent q) p)
part-once p q (Leaf s) h = omega arith
part-once p q (Children s) h =
    let same = parts-at p q (path_view s.value.order.after.items) s.value.come.places.items s.value.held.items h.held in
    let once = named-once p q (elements s.value.held.items) h.come in
    omega arith

-- ---- what one change says

total-parts : (order : List Element) (ks : List ℕ) (hs : List Child) → length hs ≡ length ks → are_trees hs ≡ true
    → total (λ e. size e.1.below) (parts_of order ks hs) ≡ total (λ h. length (rows h.1)) hs
total-parts order [] [] long trees = refl
total-parts order [] (h ∷ hs) long trees = absurd (omega (arith, long))
total-parts order (k ∷ ks) [] long trees = absurd (omega (arith, long))
total-parts order (k ∷ ks) (h ∷ hs) long trees =
    λ i. size-body h.1 (both_first (is_tree h.1) (are_trees hs) trees) i
    + total-parts order ks hs (omega (arith, long)) (both_second (is_tree h.1) (are_trees hs) trees) i

total-cuts : (es : List Element) → total (λ e. 1) (singles es) ≡ length es
total-cuts es = sym (length-total (singles es)) ∙ length-map es _

abbrev part_size : Part → ℕ
part_size x = size x.below

change-total : (c : PlaceChange) → ChangeNamesOnce c
    → total (λ e. part_size e.1) (parts_in c)
    + (total (λ e. 1) (cuts_in c) + (total (λ e. 1) (leaves_in c) + total (λ e. length e.1) (orders_in c))) ≡ change_size c
change-total (Leaf s) h = omega arith
change-total (Children s) h =
    let parts = total-parts (path_view s.value.order.after.items) s.value.come.places.items s.value.held.items h.held h.trees in
    let trees = sum-total (λ (x : Child). length (rows x.1)) s.value.held.items in
    let cuts = total-cuts (named_in s.value.gone) in
    let order = sum-total (λ (e : Path × List Element). length e.1) (orders_in (Children s)) in
    omega arith

changes-total : (ss : List Step) → AllNameOnce ss
    → total (λ e. part_size e.1) (told_by parts_in ss)
    + (total (λ e. 1) (told_by cuts_in ss) + (total (λ e. 1) (told_by leaves_in ss) + total (λ e. length e.1) (told_by orders_in ss)))
    ≡ total (λ s. change_size s.change) ss
changes-total [] names = refl
changes-total (s ∷ ss) names =
    let parts = total-told parts_in part_size s ss in
    let cuts = total-told cuts_in (λ x. 1) s ss in
    let leaves = total-told leaves_in (λ x. 1) s ss in
    let orders = total-told orders_in (λ es. length es) s ss in
    let one = change-total s.change names.0 in
    let rest = changes-total ss names.1 in
    omega arith

-- THE BRIDGE: changes that say nothing twice say as much as their record holds
pub size-told : (s : BodySteps) → AreOnce s.steps.items → body_size (body_told s) ≡ steps_size s.steps.items
size-told s once =
    let ss = s.steps.items in
    let d = body_told s in
    let below : (q : Path) → changes_at q ss ≤ 1 = once.places in
    let parts = sum-total (λ (e : Path × Part). size e.1.below) d.put.entries
    ∙ total-entries (λ e. part_size e.1) (told_by parts_in ss)
    (λ q. let a = told-at parts_in parent part-once q ss once.names in let b = below (parent q) in omega arith) in
    let cuts = length-total d.cut.entries ∙ total-entries (λ e. 1) (told_by cuts_in ss)
    (λ q. let a = told-at cuts_in parent cut-once q ss once.names in let b = below (parent q) in omega arith) in
    let leaves = length-total d.leaves.entries ∙ total-entries (λ e. 1) (told_by leaves_in ss)
    (λ q. let a = told-at leaves_in (λ r. r) leaf-once q ss once.names in let b = below q in omega arith) in
    let orders = sum-total (λ (e : Path × List Element). length e.1) d.order.entries
    ∙ total-entries (λ e. length e.1) (told_by orders_in ss)
    (λ q. let a = told-at orders_in (λ r. r) order-once q ss once.names in let b = below q in omega arith) in
    let all = changes-total ss once.names in
    let said = sum-total (λ (x : Step). change_size x.change) ss in
    omega arith

-- ---- sums so far

-- one more adds its number to a sum that stops at the largest number
pub sum-more : {X : Type 0} (f : X → ℕ) (xs : List X) (i : ℕ) (x : X) (so_far more sum : ℕ) → i < length xs → x ≡ get_or xs i x
    → so_far ≡ min (sum_by f (take i xs)) (2 ^ 64 - 1) → more ≡ min (f x) (2 ^ 64 - 1) → sum ≡ min (so_far + more) (2 ^ 64 - 1)
    → sum ≡ min (sum_by f (take (i + 1) xs)) (2 ^ 64 - 1)
sum-more f xs i x so_far more sum lt is h m s =
    let longer : sum_by f (take (i + 1) xs) ≡ sum_by f (take i xs) + f x = ap (sum_by f) (taken-at xs i x lt is) ∙ sum_by_push f (take i xs) x in
    capped so_far (sum_by f (take i xs)) more (f x) sum h m s ∙ ap (λ n. min n (2 ^ 64 - 1)) (sym longer)
  where
    capped : (a b c d e : ℕ) → a ≡ min b (2 ^ 64 - 1) → c ≡ min d (2 ^ 64 - 1) → e ≡ min (a + c) (2 ^ 64 - 1) → e ≡ min (b + d) (2 ^ 64 - 1)
    capped a b c d e f g h = omega arith
