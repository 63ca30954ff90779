-- What a record tells of a body is told where the body has something.
use Rattle.std.proofs.Common.{◌≡◌, ℕ, suc, ◌-◌, List, [], ◌∷◌, map, take, length, Bool, true, false, not, ◌&&◌, cond, Option, Some, None, refl, sym, ap, ◌∙◌, arith, true≢false}
use Rattle.std.proofs.Common.{◌++◌}
use Rattle.std.specs.Prelude.{is_some, if◌then◌else◌, nat_le, ◌≤◌, ◌+◌, IfNone, IfSome}
use Rattle.std.specs.Borrow.{Bor}
use Rattle.std.proofs.lemmas.List.{append-nil, length-map}
use Rattle.std.specs.Cmp.{second_so, first_so}
use Rattle.std.specs.FinMap.Entries.{find}
use Rattle.std.specs.List.{list_all}
use Rattle.std.proofs.lemmas.Bool.{and_from, le-leb}
use Rattle.std.proofs.lemmas.List.Folds.{list_all-map}
use Rattle.ssa_model.specs.definitions.Body.{Body}
use Rattle.ssa_model.specs.definitions.Fitting.{IsBodyOf}
use Rattle.ssa_model.proofs.MapEntries.{counted, size-map}
use Rattle.ssa_model.proofs.Sums.{total}
use Rattle.ssa_model.specs.definitions.Kind.{Kind}
use Rattle.ssa_model.specs.definitions.Limits.{most_places}
use Rattle.ssa_model.specs.definitions.Path.{Path, parent, path_cmp, same_element, under}
use Rattle.ssa_model.specs.definitions.PathMap.{PathMap, get, has, map_of, paths, size}
use Rattle.ssa_model.specs.definitions.Record.{BodyRecord, body_record, cuts, is_top, new_leaf, new_leaves, new_order, new_orders, part_at, puts}
use Rattle.ssa_model.specs.definitions.Takes.{BodyTakes}
use Rattle.ssa_model.proofs.BodyLeads.{get-cuts}
use Rattle.ssa_model.proofs.PathMaps.{get-over_paths, same_path-itself}
use Rattle.ssa_model.proofs.Pruned.{above}
use Rattle.ssa_path.specs.View.{element_view, path_view}
use Rattle.ssa_path.specs.declared.element.Elem.{Elem}
use Rattle.ssa_typed.specs.Rows.{body_of, content_at, rows}
use Rattle.ssa_typed.specs.declared.node.Node.{Node}
use Rattle.ssa_typed.proofs.Lookups.{content-root}
use Rattle.ssa_typed.proofs.Looks.{get-body}
use Rattle.ssa_record.specs.Standing.{are_few, stand, stands}
use Rattle.ssa_told.specs.Told.{leaf_of, put_of, told_body, told_leaf, told_of, told_order, told_put}
use Rattle.ssa_told.specs.declared.told.ToldBody.{ToldBody}
use Rattle.ssa_model.proofs.FittingTells.{parent_above as under-parent}
use Rattle.ssa_model.proofs.Tables.{element-itself as same_element-itself}

-- ---- a body has what stands above its paths

stands-there : (kind : Kind) (v : Body) → IsBodyOf kind v → (p : Path) → has v p ≡ true → stands v p ≡ true
stands-there kind v k p there = above kind v k (parent p) p there (under-parent p)

-- ---- what holds of each path of a map

some-later : {X : Type 0} (b : Bool) (x : X) (o : Option X) → is_some o ≡ true → is_some (cond b (Some x) o) ≡ true
some-later true x o h = refl
some-later false x o h = h

all-by : {X : Type 0} (test : Path → Bool) (es : List (Path × X)) → ((p : Path) → is_some (find path_cmp p es) ≡ true → test p ≡ true)
    → list_all (λ e. test e.0) es ≡ true
all-by test [] h = refl
all-by test (e ∷ es) h =
    and_from (test e.0) (list_all (λ x. test x.0) es)
    (h e.0 (ap (λ b. is_some (cond b (Some e.1) (find path_cmp e.0 es))) (same_path-itself e.0)))
    (all-by test es (λ p there. h p (some-later _ e.1 (find path_cmp p es) there)))

all-paths : {X : Type 0} (test : Path → Bool) (m : PathMap X) → ((p : Path) → has m p ≡ true → test p ≡ true) → list_all (λ e. test e.0) m.entries ≡ true
all-paths test m = all-by test m.entries

-- ---- the parts of a record

some-there : {X : Type 0} (b : Bool) (o : Option X) → is_some (cond b o None) ≡ true → b ≡ true
some-there true o h = refl
some-there false o h = h

some-top : {X : Type 0} (b t : Bool) (x : X) → is_some (cond b (if t then Some x else None) None) ≡ true → t ≡ true
some-top true true x h = refl
some-top true false x h = h
some-top false true x h = refl
some-top false false x h = h

over-there : {X Y : Type 0} (v : PathMap X) (f : Path → Option Y) (p : Path) → has (map_of (paths v) f) p ≡ true → has v p ≡ true
over-there v f p h = some-there (has v p) (f p) (sym (ap is_some (get-over_paths v f p)) ∙ h)

put-stands : (v w : Body) (p : Path) → has (puts v w) p ≡ true → stands v p ≡ true
put-stands v w p h =
    second_so (not (has v p)) (has v (parent p))
    (some-top (has w p) (is_top v p) (part_at w p) (sym (ap is_some (get-over_paths w (λ q. if is_top v q then Some (part_at w q) else None) p)) ∙ h))

-- what is told as the record of two bodies is told where the first has something
pub told-stands : (kind : Kind) (d : BodyRecord) (v w : Body) → BodyTakes kind d v w → stand v (told_of kind d) ≡ true
told-stands kind d v w h =
    let here = stands-there kind v h.from in
    let r = body_record v w in
    let cut = list_all-map (stands v) (λ e. e.0) r.cut.entries
    ∙ all-paths (stands v) r.cut (λ p there. here p (first_so (has v p) (is_top w p) (sym (get-cuts v w p) ∙ there))) in
    let leaves = list_all-map (λ e. stands v e.0) leaf_of r.leaves.entries
    ∙ all-paths (stands v) r.leaves (λ p there. here p (over-there v (λ q. new_leaf (get v q) (get w q)) p there)) in
    let order = all-paths (stands v) r.order (λ p there. here p (over-there v (λ q. new_order (get v q) (get w q)) p there)) in
    let put = list_all-map (λ e. stands v e.0) (put_of kind) r.put.entries ∙ all-paths (stands v) r.put (put-stands v w) in
    ap (λ x. stand v (told_of kind x)) h.is ∙ and_from _ _ cut (and_from _ _ leaves (and_from _ _ order put))

-- ---- the parent of a path that is kept as elements

parent-taken : (es : List Elem) (k : ℕ) → k ≡ length es - 1 → path_view (take k es) ≡ parent (path_view es)
parent-taken [] k is = let none : k ≡ 0 = omega arith in ap (λ n. path_view (take n [])) none
parent-taken (e ∷ []) k is = let none : k ≡ 0 = omega arith in ap (λ n. path_view (take n (e ∷ []))) none
parent-taken (e ∷ f ∷ es) k is =
    let more : k ≡ suc (length es) = omega arith in
    ap (λ n. path_view (take n (e ∷ f ∷ es))) more ∙ ap (λ p. element_view e ∷ p) (parent-taken (f ∷ es) (length es) (omega arith))

-- where a walk from a tree's root along elements ends tells whether its body has their path
pub walked : (n : Node) (es : List Elem) (r : Option (Bor Node)) → IfNone r ((q : Path) → content_at (rows n) (path_view es ++ q) ≡ None)
    → IfSome r (λ m. (q : Path) → content_at (rows n) (path_view es ++ q) ≡ content_at (rows m.now) q) → is_some r ≡ has (body_of n) (path_view es)
walked n es None none some = sym (ap is_some (get-body n (path_view es) ∙ ap (content_at (rows n)) (sym (append-nil (path_view es))) ∙ none []))
walked n es (Some m) none some =
    sym (ap is_some (get-body n (path_view es) ∙ ap (content_at (rows n)) (sym (append-nil (path_view es))) ∙ some [] ∙ content-root m.now))

-- the parent of a path is in the body where the walk to it, along all elements but the last, ends at something
pub parent-walked : (n : Node) (v : Body) (p : Path) (es : List Elem) (k : ℕ) (r : Option (Bor Node)) → body_of n ≡ v → path_view es ≡ p → k ≡ length es - 1
    → IfNone r ((q : Path) → content_at (rows n) (path_view (take k es) ++ q) ≡ None)
    → IfSome r (λ m. (q : Path) → content_at (rows n) (path_view (take k es) ++ q) ≡ content_at (rows m.now) q) → is_some r ≡ stands v p
parent-walked n v p es k r body path few none some =
    walked n (take k es) r none some ∙ (λ i. has (body i) ((parent-taken es k few ∙ ap parent path) i))

-- ---- what is told, list by list

-- what is told list by list stands in the body where each list of it does
pub told-parts : (v : Body) (t : ToldBody) (a b c d : Bool) → a ≡ list_all (stands v) t.cut.items → b ≡ list_all (λ e. stands v e.path) t.leaves.items
    → c ≡ list_all (λ e. stands v e.path) t.order.items
    → d ≡ list_all (λ e. stands v e.path) t.put.items → (a && (b && (c && d))) ≡ stand v (told_body t)
told-parts v t a b c d cut leaves order put =
    let map_leaves = leaves ∙ sym (list_all-map (λ e. stands v e.0) told_leaf t.leaves.items) in
    let map_order = order ∙ sym (list_all-map (λ e. stands v e.0) told_order t.order.items) in
    let map_put = put ∙ sym (list_all-map (λ e. stands v e.0) told_put t.put.items) in
    λ i. cut i && (map_leaves i && (map_order i && map_put i))

-- ---- how much is told

counted-one : {Y : Type 0} (o : Option Y) → counted (λ (y : Y). 1) o ≤ 1
counted-one None = omega arith
counted-one (Some y) = omega arith

total-most : {Y : Type 0} (f : Path → Option Y) (ps : List Path) → total (λ p. counted (λ (y : Y). 1) (f p)) ps ≤ length ps
total-most f [] = omega arith
total-most f (p ∷ ps) = let one = counted-one (f p) in let rest = total-most f ps in omega arith

-- a map over a body's paths has no more than the body
few-over : {X Y : Type 0} (m : PathMap X) (f : Path → Option Y) → size m ≤ most_places → nat_le (size (map_of (paths m) f)) most_places ≡ true
few-over m f few =
    let most = total-most f (paths m) in
    let is = size-map m f in
    let many = length-map m.entries (λ e. e.0) in
    le-leb _ _ (omega arith)

few-map : {X Y : Type 0} (f : X → Y) (xs : List X) → nat_le (length xs) most_places ≡ true → nat_le (length (map f xs)) most_places ≡ true
few-map f xs h = ap (λ n. nat_le n most_places) (length-map xs f) ∙ h

-- what is told as the record of two valid bodies is no more than a body may have
pub told-few : (kind : Kind) (d : BodyRecord) (v w : Body) → BodyTakes kind d v w → size v ≤ most_places → size w ≤ most_places
    → are_few (told_of kind d) ≡ true
told-few kind d v w h before after =
    let r = body_record v w in
    let cut = few-map (λ e. e.0) r.cut.entries (few-over v (λ p. cond (is_top w p) (Some tt) None) before) in
    let leaves = few-map leaf_of r.leaves.entries (few-over v (λ p. new_leaf (get v p) (get w p)) before) in
    let order = few-over v (λ p. new_order (get v p) (get w p)) before in
    let put = few-map (put_of kind) r.put.entries (few-over w (λ p. if is_top v p then Some (part_at w p) else None) after) in
    ap (λ x. are_few (told_of kind x)) h.is ∙ and_from _ _ cut (and_from _ _ leaves (and_from _ _ order put))
