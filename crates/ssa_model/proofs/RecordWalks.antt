-- The members of a record as filters, and below a path.
use Rattle.std.proofs.Common.{◌≡◌, List, [], ◌∷◌, ◌++◌, map, Bool, true, false, cond, not, ◌&&◌, Some, None, refl, sym, ap, ◌∙◌, append_assoc, append-nil}
use Rattle.std.specs.List.{cons_option, position_from}
use Rattle.std.specs.Prelude.{is_some, if◌then◌else◌, filter, option_map}
use Rattle.ssa_model.specs.definitions.Path.{Element, Path, same_element, parent, last_element}
use Rattle.ssa_model.specs.definitions.PathMap.{get, has, paths, below}
use Rattle.ssa_model.specs.definitions.Body.{Body, order_at}
use Rattle.ssa_model.specs.definitions.Record.{is_top, item_place, part_at, cuts, puts, new_leaf, new_leaves, new_order, new_orders}
use Rattle.ssa_model.specs.laws.RecordWalks.{found, CutsAreFiltered, LeavesAreFiltered, OrdersAreFiltered, PutsAreFiltered, RecordBelow}
use Rattle.ssa_model.proofs.PathMaps.{same_map, same_sets, get-over_paths}
use Rattle.ssa_model.proofs.PutParts.{get-below, has-below}
use Rattle.ssa_model.proofs.BodyLeads.{get-cuts}
use Rattle.ssa_model.proofs.MapEntries.{map-entries}
use Rattle.ssa_model.proofs.PartValues.{parent-prefixed}

-- ---- filters

found-tested : (test : Path → Bool) (ps : List Path) → map (λ (e : Path × Unit {0}). e.0) (found (λ p. cond (test p) (Some tt) None) ps) ≡ filter test ps
found-tested test [] = refl
found-tested test (p ∷ ps) =
    elim (test p) as (λ b. map (λ (e : Path × Unit {0}). e.0)
    (cons_option (option_map (λ x. (p, x)) (cond b (Some tt) None)) (found (λ p. cond (test p) (Some tt) None) ps))
    ≡ cond b (p ∷ filter test ps) (filter test ps)) [
      | true ↦ ap (λ qs. p ∷ qs) (found-tested test ps)
      | false ↦ found-tested test ps
    ]

-- what is cut are those of the first body's paths that pass a test, in their order
pub cuts_are_filtered : CutsAreFiltered
cuts_are_filtered v w = ap (map (λ (e : Path × Unit {0}). e.0)) (map-entries (λ p. cond (is_top w p) (Some tt) None) v) ∙ found-tested (is_top w) (paths v)

-- the new leaves are answers along the first body's paths, in their order
pub leaves_are_filtered : LeavesAreFiltered
leaves_are_filtered v w = map-entries (λ p. new_leaf (get v p) (get w p)) v

-- so are the new orders
pub orders_are_filtered : OrdersAreFiltered
orders_are_filtered v w = map-entries (λ p. new_order (get v p) (get w p)) v

-- what is put are answers along the second body's paths, in their order
pub puts_are_filtered : PutsAreFiltered
puts_are_filtered v w = map-entries (λ p. if is_top v p then Some (part_at w p) else None) w

-- ---- below a path

nothing-top : (h k : Bool) → h ≡ true → (not h && k) ≡ false
nothing-top h k e = ap (λ b. not b && k) e

at-root : (v : Body) (p : Path) → has v p ≡ true → has v (p ++ []) ≡ true
at-root v p h = ap (has v) (append-nil p) ∙ h

top-below : (v : Body) (p q : Path) → has v p ≡ true → is_top (below v p) q ≡ is_top v (p ++ q)
top-below v p [] h =
    nothing-top (has (below v p) []) (has (below v p) []) (has-below v p [] ∙ at-root v p h)
    ∙ sym (nothing-top (has v (p ++ [])) (has v (parent (p ++ []))) (at-root v p h))
top-below v p (x ∷ s) h =
    λ i. not (has-below v p (x ∷ s) i) && (has-below v p (parent (x ∷ s)) ∙ ap (has v) (sym (parent-prefixed p x s))) i

last-prefixed : (p : Path) (x : Element) (s : Path) → last_element (p ++ x ∷ s) ≡ last_element (x ∷ s)
last-prefixed [] x s = refl
last-prefixed (e ∷ []) x s = refl
last-prefixed (e ∷ f ∷ p) x s = last-prefixed (f ∷ p) x s

below-below : (w : Body) (p q : Path) → below (below w p) q ≡ below w (p ++ q)
below-below w p q =
    same_map (below (below w p) q) (below w (p ++ q)) (λ r.
    get-below (below w p) q r ∙ get-below w p (q ++ r) ∙ ap (get w) (sym (append_assoc p q r)) ∙ sym (get-below w (p ++ q) r))

part-below : (w : Body) (p : Path) (x : Element) (s : Path) → part_at (below w p) (x ∷ s) ≡ part_at w (p ++ x ∷ s)
part-below w p x s =
    let place : item_place (below w p) (x ∷ s) ≡ item_place w (p ++ x ∷ s) =
    λ i. elim (sym (last-prefixed p x s) i) [
      | None ↦ None
      | Some e ↦ position_from (same_element e) 0
          (order_at ((get-below w p (parent (x ∷ s)) ∙ ap (get w) (sym (parent-prefixed p x s))) i))
    ] in
    λ i. record { below = below-below w p (x ∷ s) i; place = place i }

put-below : (v w : Body) (p q : Path) → has v p ≡ true
    → cond (has w (p ++ q)) (if is_top v (p ++ q) then Some (part_at w (p ++ q)) else None) None
    ≡ cond (has (below w p) q) (if is_top (below v p) q then Some (part_at (below w p) q) else None) None
put-below v w p [] h =
    (λ i. cond (sym (has-below w p []) i) (if nothing-top (has v (p ++ [])) (has v (parent (p ++ []))) (at-root v p h) i then Some
    (part_at w (p ++ [])) else None) None)
    ∙ sym (λ i. cond (has (below w p) []) (if nothing-top (has (below v p) []) (has (below v p) []) (has-below v p []
    ∙ at-root v p h) i then Some (part_at (below w p) []) else None) None)
put-below v w p (x ∷ s) h =
    λ i. cond (sym (has-below w p (x ∷ s)) i) (if sym (top-below v p (x ∷ s) h) i then Some (sym (part-below w p x s) i) else None) None

-- what a record has below a path of both bodies is the record of what they have there
pub record_below_is : RecordBelow
record_below_is v w p a b =
    let cut = same_sets (below (cuts v w) p) (cuts (below v p) (below w p)) (λ q.
    ap is_some (get-below (cuts v w) p q) ∙ get-cuts v w (p ++ q) ∙ (λ i. sym (has-below v p q) i && sym (top-below w p q b) i)
    ∙ sym (get-cuts (below v p) (below w p) q)) in
    let leaves = same_map (below (new_leaves v w) p) (new_leaves (below v p) (below w p)) (λ q.
    get-below (new_leaves v w) p q ∙ get-over_paths v (λ r. new_leaf (get v r) (get w r)) (p ++ q)
    ∙ (λ i. cond (is_some (sym (get-below v p q) i)) (new_leaf (sym (get-below v p q) i) (sym (get-below w p q) i)) None)
    ∙ sym (get-over_paths (below v p) (λ r. new_leaf (get (below v p) r) (get (below w p) r)) q)) in
    let order = same_map (below (new_orders v w) p) (new_orders (below v p) (below w p)) (λ q.
    get-below (new_orders v w) p q ∙ get-over_paths v (λ r. new_order (get v r) (get w r)) (p ++ q)
    ∙ (λ i. cond (is_some (sym (get-below v p q) i)) (new_order (sym (get-below v p q) i) (sym (get-below w p q) i)) None)
    ∙ sym (get-over_paths (below v p) (λ r. new_order (get (below v p) r) (get (below w p) r)) q)) in
    let put = same_map (below (puts v w) p) (puts (below v p) (below w p)) (λ q.
    get-below (puts v w) p q ∙ get-over_paths w (λ r. if is_top v r then Some (part_at w r) else None) (p ++ q)
    ∙ put-below v w p q a
    ∙ sym (get-over_paths (below w p) (λ r. if is_top (below v p) r then Some (part_at (below w p) r) else None) q)) in
    λ i. record { cut = cut i; leaves = leaves i; order = order i; put = put i }
