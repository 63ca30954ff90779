-- The record of two states leads from the body of the first to that of the second.
use Rattle.std.proofs.Common.{◌≡◌, inl, inr, ℕ, List, ◌++◌, true, false, cond, not, ◌&&◌, Some, None, refl, sym, ap, ◌∙◌, true≢false, arith}
use Rattle.std.proofs.lemmas.List.Folds.{list_any-append}
use Rattle.std.specs.Cmp.{first_so, second_so}
use Rattle.std.specs.Option.{unwrap_or}
use Rattle.std.specs.Prelude.{is_some, if◌then◌else◌}
use Rattle.ssa_model.specs.definitions.Json.{Scalar, Json, same_scalar, same_json}
use Rattle.ssa_model.specs.definitions.Path.{Path, same_element, same_path, under, parent}
use Rattle.ssa_model.specs.definitions.PathMap.{get, has, paths, has_at_or_above}
use Rattle.ssa_model.specs.definitions.Kind as kinds
use Rattle.ssa_model.specs.definitions.Kind.{Kind, scalar_kind, atomic_of, record_of as record_kind, dict_of, items_of}
use Rattle.ssa_model.specs.definitions.Body.{Content, leaf, atom, record_branch, dict_branch, list_branch, Body}
use Rattle.ssa_model.specs.definitions.Fitting.{Place, of_kind, item_of, value_of, content_fits, IsAt, IsBodyOf}
use Rattle.ssa_model.specs.definitions.Record.{Part, is_top, part_at, cuts, puts, new_leaf, common, are_in_one_order, new_order, new_orders, BodyRecord, body_record}
use Rattle.ssa_model.specs.definitions.Carry.{refilled, put_content, put_paths, carried_order, carried_content, kept_content, or_kept, carried_at, carry_body}
use Rattle.ssa_model.specs.laws.RecordLeads.{CarryAnswers, BodyLeads}
use Rattle.ssa_model.specs.laws.RecordWalks.{class_of, IsTree, AreAlike, BodiesAreTrees, TreeLeads}
use Rattle.ssa_model.proofs.Fitting.{same_element-true, some_place, some_there}
use Rattle.ssa_model.proofs.PathMaps.{is_one_of, get-map_of, has-paths, has-set_of, same_map, get-over_paths}
use Rattle.ssa_model.proofs.Pruned.{some_one, from_one, closed-above}
use Rattle.ssa_model.proofs.Scalars.{same_scalar-true}
use Rattle.ssa_model.proofs.SameValues.{same_json-true}
use Rattle.ssa_model.proofs.Tests.{by_test, pointwise-true}
use Rattle.ssa_model.proofs.Beginnings.{departs, rest_of-under}
use Rattle.ssa_model.proofs.PutParts.{all-puts, get-puts, put_case, put_missed, put_nothing}
use Rattle.ssa_model.proofs.PutItems.{refilled-is}
use Rattle.ssa_model.proofs.Basics.{not_true as no, first_false, second_false, none-there as nothing_there, yes_no}

-- ---- two contents that fit one place are of one kind

abbrev place_class : Place → ℕ
place_class (of_kind (scalar_kind k)) = 0
place_class (of_kind (atomic_of s)) = 1
place_class (of_kind (record_kind fs)) = 2
place_class (of_kind (dict_of k)) = 3
place_class (of_kind (kinds.set_of k)) = 4
place_class (of_kind (items_of ns fs)) = 4
place_class (item_of ns fs) = 2
place_class (value_of s) = 0

fits-class : (p : Place) (c : Content) → content_fits p c ≡ true → class_of c ≡ place_class p
fits-class (of_kind (scalar_kind k)) (leaf s) h = refl
fits-class (of_kind (atomic_of s)) (atom v) h = refl
fits-class (of_kind (record_kind fs)) record_branch h = refl
fits-class (of_kind (dict_of k)) dict_branch h = refl
fits-class (of_kind (kinds.set_of k)) (list_branch es) h = refl
fits-class (of_kind (items_of ns fs)) (list_branch es) h = refl
fits-class (item_of ns fs) record_branch h = refl
fits-class (value_of s) (leaf t) h = refl
fits-class _ _ h = absurd (true≢false (sym h))

one-class : (kind : Kind) (p : Path) (c d : Content) → IsAt kind p c → IsAt kind p d → class_of c ≡ class_of d
one-class kind p c d a b =
    fits-class a.place c a.fits ∙ ap place_class (some_place a.place b.place (sym a.there ∙ b.there)) ∙ sym (fits-class b.place d b.fits)

-- ---- a leaf

leaf-leads : (s t : Scalar) → unwrap_or (new_leaf (Some (leaf s)) (Some (leaf t))) (leaf s) ≡ leaf t
leaf-leads s t =
    by_test (same_scalar s t)
    (λ same. ap (λ b. unwrap_or (if not b then Some (leaf t) else None) (leaf s)) same ∙ ap leaf (same_scalar-true s t same))
    (λ off. ap (λ b. unwrap_or (if not b then Some (leaf t) else None) (leaf s)) off)

atom-leads : (a b : Json) → unwrap_or (new_leaf (Some (atom a)) (Some (atom b))) (atom a) ≡ atom b
atom-leads a b =
    by_test (same_json a b)
    (λ same. ap (λ t. unwrap_or (if not t then Some (atom b) else None) (atom a)) same ∙ ap atom (same_json-true a b same))
    (λ off. ap (λ t. unwrap_or (if not t then Some (atom b) else None) (atom a)) off)

-- cut are the paths of the first body that are topmost among those that the second has not
pub get-cuts : (v w : Body) (p : Path) → has (cuts v w) p ≡ (has v p && is_top w p)
get-cuts v w p = has-set_of (paths v) (is_top w) p ∙ ap (λ b. b && is_top w p) (sym (has-paths v p))

-- the topmost of the beginnings of a path that a body has not
abbrev Topmost : Body → Body → Path → Type 0
Topmost v w q = (g : Path) × (under g q ≡ true) × (has v g ≡ true) × (is_top w g ≡ true)

topmost : (v w : Body) → IsTree v → IsTree w → (q : Path) → has v q ≡ true → has w q ≡ false → Topmost v w q
topmost v w a b q there off =
    let d = departs (has w) q b.root off in
    (d.0, d.1, closed-above v a.closed d.0 q there d.1, (λ i. not (d.2 i) && d.3 i))

-- ---- what is carried

-- nothing is carried to a path that is neither the body's nor one of what is put
carried-none : (d : BodyRecord) (v : Body) (q : Path) → is_one_of (paths v ++ put_paths d.put.entries) q ≡ false → carried_at d v q ≡ None
carried-none d v q off =
    let apart = sym (list_any-append (same_path q) (paths v) (put_paths d.put.entries)) ∙ off in
    let here = nothing_there (get v q) (has-paths v q ∙ first_false (is_one_of (paths v) q) (is_one_of (put_paths d.put.entries) q) apart) in
    elim (put_nothing d.put.entries q (second_false (is_one_of (paths v) q) (is_one_of (put_paths d.put.entries) q) apart)) [
      | inl e ↦ (λ i. or_kept (e i) (kept_content d q (here i)))
      | inr e ↦ ap (λ o. or_kept o (kept_content d q (get v q))) e
    ]

-- what a record leads to from a body, path by path, whatever record and body
pub carry_answers : CarryAnswers
carry_answers d v q =
    get-map_of (paths v ++ put_paths d.put.entries) (carried_at d v) q
    ∙ by_test (is_one_of (paths v ++ put_paths d.put.entries) q)
    (λ t. ap (λ s. cond s (carried_at d v q) None) t)
    (λ f. ap (λ s. cond s (carried_at d v q) None) f ∙ sym (carried-none d v q f))

module _ (v w : Body) (a : IsTree v) (b : IsTree w) (alike : AreAlike v w) where
  abbrev d : BodyRecord
  d = body_record v w

  abbrev puts_of : List (Path × Part)
  puts_of = (puts v w).entries

  -- a content of the first body is carried to the second's, where both are of one class
  pub content_is : (q : Path) (c e : Content) → get v q ≡ Some c → get w q ≡ Some e → class_of c ≡ class_of e → carried_content d q c ≡ e
  content_is q (leaf s) (leaf t) is_v is_w same =
      ap (λ o. unwrap_or o (leaf s)) (get-over_paths v (λ p. new_leaf (get v p) (get w p)) q
      ∙ (λ i. cond (is_some (is_v i)) (new_leaf (is_v i) (is_w i)) None)) ∙ leaf-leads s t
  content_is q (atom s) (atom t) is_v is_w same =
      ap (λ o. unwrap_or o (atom s)) (get-over_paths v (λ p. new_leaf (get v p) (get w p)) q
      ∙ (λ i. cond (is_some (is_v i)) (new_leaf (is_v i) (is_w i)) None)) ∙ atom-leads s t
  content_is q record_branch record_branch is_v is_w same = refl
  content_is q dict_branch dict_branch is_v is_w same = refl
  content_is q (list_branch es) (list_branch fs) is_v is_w same =
      let order : get (new_orders v w) q ≡ new_order (Some (list_branch es)) (Some (list_branch fs)) =
      get-over_paths v (λ p. new_order (get v p) (get w p)) q ∙ (λ i. cond (is_some (is_v i)) (new_order (is_v i) (is_w i)) None) in
      ap list_branch (by_test (are_in_one_order es fs)
      (λ t. ap (λ o. carried_order o (refilled d q es)) (order ∙ ap (λ b. if not b then Some fs else None) t)
      ∙ refilled-is v w a b q es fs is_v is_w (pointwise-true same_element same_element-true (common es fs) (common fs es) t))
      (λ f. ap (λ o. carried_order o (refilled d q es)) (order ∙ ap (λ b. if not b then Some fs else None) f)))
  content_is q _ _ is_v is_w same = absurd (omega arith)

  -- nothing new is at a path where nothing is put
  no_new : (q : Path) → has v q ≡ false → has w q ≡ true → put_content puts_of q ≡ None → ⊥
  no_new q off there none =
      let top = topmost w v b a q there off in
      let r = rest_of-under top.0 q top.1 in
      put_missed puts_of top.0 (part_at w top.0) q r.0 (get-puts v w top.0 top.2 top.3) r.1 none

  -- the second body has nothing at or below what is cut
  pub lost : (q : Path) → has_at_or_above (cuts v w) q ≡ true → has w q ≡ false
  lost q cut =
      let x = some_one (λ g. under g q) (paths (cuts v w)) cut in
      let top = sym (get-cuts v w x.0) ∙ has-paths (cuts v w) x.0 ∙ x.1 in
      let off = no (has w x.0) (first_so (not (has w x.0)) (has w (parent x.0)) (second_so (has v x.0) (is_top w x.0) top)) in
      by_test (has w q) (λ t. yes_no (has w x.0) (closed-above w b.closed x.0 q t x.2) off) (λ f. f)

  -- and it has what is not cut
  pub left : (q : Path) → has v q ≡ true → has_at_or_above (cuts v w) q ≡ false → has w q ≡ true
  left q there uncut =
      by_test (has w q)
      (λ t. t)
      (λ off.
      let top = topmost v w a b q there off in
      let one = sym (has-paths (cuts v w) top.0) ∙ get-cuts v w top.0 ∙ (λ i. top.2 i && top.3 i) in
      yes_no (has_at_or_above (cuts v w) q) (from_one (λ g. under g q) (paths (cuts v w)) top.0 one top.1) uncut)

  kept-is : (q : Path) → put_content puts_of q ≡ None → kept_content d q (get v q) ≡ get w q
  kept-is q none =
      elim (get v q) as (λ o. get v q ≡ o → kept_content d q o ≡ get w q) [
        | None ↦ λ off. sym (nothing_there (get w q) (by_test (has w q) (λ t. absurd (no_new q (ap is_some off) t none)) (λ f. f)))
        | Some c ↦ λ is. by_test (has_at_or_above (cuts v w) q)
            (λ cut. ap (λ t. if t then None else Some (carried_content d q c)) cut ∙ sym (nothing_there (get w q) (lost q cut)))
            (λ uncut.
            let e = some_there (get w q) (left q (ap is_some is) uncut) in
            ap (λ t. if t then None else Some (carried_content d q c)) uncut
            ∙ ap (λ x. Some x) (content_is q c e.0 is e.1 (alike q c e.0 is e.1)) ∙ sym e.1)
      ] refl

  carried-is : (q : Path) → carried_at d v q ≡ get w q
  carried-is q =
      elim (put_case v w puts_of q (all-puts v w)) [
        | inl e ↦ ap (λ o. or_kept o (kept_content d q (get v q))) e
        | inr e ↦ ap (λ o. or_kept o (kept_content d q (get v q))) e ∙ kept-is q e
      ]

  body_is : carry_body d v ≡ w
  body_is = same_map (carry_body d v) w (λ q. carry_answers d v q ∙ carried-is q)

-- the record of two trees that are alike leads from the first to the second
pub tree_leads : TreeLeads
tree_leads v w a b alike = body_is v w a b alike

tree : (kind : Kind) (v : Body) → IsBodyOf kind v → IsTree v
tree kind v a = record { root = a.root; closed = a.closed; once = a.once; items = a.items }

-- two bodies of one kind are trees, and alike
pub bodies_are_trees : BodiesAreTrees
bodies_are_trees kind v w a b = (tree kind v a, tree kind w b, λ p c e is_v is_w. one-class kind p c e (a.fits p c is_v) (b.fits p e is_w))

-- the record of two bodies of one kind leads from the first to the second
pub body_leads : BodyLeads
body_leads kind v w a b = let h = bodies_are_trees kind v w a b in tree_leads v w h.0 h.1 h.2
