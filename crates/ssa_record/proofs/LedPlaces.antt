-- A tree of the first of two bodies beside what is told: its children, what of them the second body has, and what is put beside them.
use Rattle.std.proofs.Common.{◌≡◌, ℕ, List, [], ◌∷◌, ◌++◌, true, false, not, ◌&&◌, cond, Option, Some, None, refl, sym, ap, subst, ◌∙◌, true≢false, append_assoc, append-nil}
use Rattle.std.proofs.lemmas.Option.{none-some, same_Some}
use Rattle.std.specs.Cmp.{first_so, second_so}
use Rattle.std.specs.FinMap.Entries.{find}
use Rattle.std.specs.List.{position_from}
use Rattle.std.specs.Prelude.{is_some, option_map, if◌then◌else◌}
use Rattle.ssa_model.specs.definitions.Json.{Json}
use Rattle.ssa_model.specs.definitions.Path.{Element, Path, path_cmp, same_element, same_path, parent}
use Rattle.ssa_model.specs.definitions.PathMap.{get, has}
use Rattle.ssa_model.specs.definitions.Kind.{Kind}
use Rattle.ssa_model.specs.definitions.Body.{Body, order_at}
use Rattle.ssa_model.specs.definitions.Carry.{carry_body}
use Rattle.ssa_model.specs.definitions.Fitting.{Place, of_kind, place_below, place_at}
use Rattle.ssa_model.specs.definitions.Record.{Part, is_top, part_at, puts, body_record}
use Rattle.ssa_model.specs.definitions.RecordText.{part_value, value_at_place}
use Rattle.ssa_model.specs.definitions.Takes.{BodyTakes}
use Rattle.ssa_model.specs.laws.FittingRecords.{BodyFits}
use Rattle.ssa_model.proofs.Beginnings.{parent-push, last-push}
use Rattle.ssa_model.proofs.BodyLeads.{body_leads, get-cuts}
use Rattle.ssa_model.proofs.Fitting.{some_there}
use Rattle.ssa_model.proofs.PartValues.{part_is_value}
use Rattle.ssa_model.proofs.PathMaps.{get-over_paths, same_path-true}
use Rattle.ssa_model.proofs.Places.{place-after}
use Rattle.ssa_model.proofs.PutParts.{AllAt, IsPut, all-puts, get-puts}
use Rattle.ssa_model.proofs.RecordTurns.{some-put}
use Rattle.ssa_model.proofs.TakenBodies.{taken_body_fits}
use Rattle.ssa_model.proofs.Tests.{by_test}
use Rattle.ssa_path.specs.Children.{child_at}
use Rattle.ssa_typed.specs.Points.{content_in}
use Rattle.ssa_typed.specs.Rows.{below, is_tree, own_content}
use Rattle.ssa_typed.specs.declared.node.Node.{Node}
use Rattle.ssa_typed.proofs.Lookups.{content-level, content-root}
use Rattle.ssa_record.specs.LedValues.{told_part, value_below, IsHere, IsToldFor}
use Rattle.ssa_record.specs.Places.{ToldMaps}
use Rattle.ssa_model.proofs.Basics.{not_true as no}

-- what holds of all entries holds of what is found
all-found : {X : Type 0} (P : Path → X → Type 0) (es : List (Path × X)) (p : Path) (x : X) → AllAt P es → find path_cmp p es ≡ Some x → P p x
all-found P [] p x h is = absurd (none-some x is)
all-found P (e ∷ es) p x h is =
    elim (same_path p e.0) as (λ t. same_path p e.0 ≡ t → cond t (Some e.1) (find path_cmp p es) ≡ Some x → P p x) [
      | true ↦ λ same found. subst (λ q. P q x) (sym (same_path-true p e.0 same)) (subst (P e.0) (same_Some e.1 x found) h.0)
      | false ↦ λ other found. all-found P es p x h.1 found
    ] refl is

module _ (m : ToldMaps) (kind : Kind) (v w : Body) (f : IsToldFor m kind v w) where
  -- the record of the two bodies takes the first to the second
  pub takes : BodyTakes kind (body_record v w) v w
  takes = record { from = f.from; to = f.to; is = refl }

  -- the record fits the first body, and leads to the second
  pub fits : BodyFits kind (body_record v w) v
  fits = taken_body_fits kind (body_record v w) v w takes

  -- it leads the first body to the second
  pub leads : carry_body (body_record v w) v ≡ w
  leads = body_leads kind v w f.from f.to

  -- what is told to be put is the second body's value there, which the first body has not
  pub record IsComing (p : Path) (q : Place) (e : Element) (x : Json × Option ℕ) : Type 0 where
    -- the second body has it
    pub there : has w (p ++ e ∷ []) ≡ true
    -- the first has not
    pub new : has v (p ++ e ∷ []) ≡ false
    -- its place in the schema
    pub place : Place
    -- that place is the one below, by its element
    pub below : place_below q e ≡ Some place
    -- the value that is put is the second body's there
    pub value : value_at_place place w (p ++ e ∷ []) ≡ x.0
    -- it has a position where it is an item, the one in the second body's order
    pub position : x.1 ≡ position_from (same_element e) 0 (order_at (get w p))

  -- the place of a child that the second body has
  pub place-of : (p : Path) (q : Place) (e : Element) → place_at (of_kind kind) p ≡ Some q → has w (p ++ e ∷ []) ≡ true → (s : Place)
      × (place_below q e ≡ Some s)
  place-of p q e at there =
      let c = some_there (get w (p ++ e ∷ [])) there in
      let found = f.to.fits (p ++ e ∷ []) c.0 c.1 in
      (found.place, sym (place-after p (of_kind kind) e q at) ∙ found.there)

  -- its value
  pub value-is : (p : Path) (q : Place) (e : Element) (s : Place) → has w (p ++ e ∷ []) ≡ true → place_below q e ≡ Some s
      → value_below q w p e ≡ Some (value_at_place s w (p ++ e ∷ []))
  value-is p q e s there below = (λ i. if there i then option_map (λ s. value_at_place s w (p ++ e ∷ [])) (below i) else None)

  -- where the second body has no child, there is no value of it
  pub no-value : (p : Path) (q : Place) (e : Element) → has w (p ++ e ∷ []) ≡ false → value_below q w p e ≡ None
  no-value p q e off = ap (λ t. if t then option_map (λ s. value_at_place s w (p ++ e ∷ [])) (place_below q e) else None) off

  -- what is put
  pub coming : (p : Path) (q : Place) (e : Element) (x : Json × Option ℕ) → place_at (of_kind kind) p ≡ Some q → get m.put (p ++ e ∷ []) ≡ Some x
      → IsComing p q e x
  coming p q e x at is = by (get (puts v w) (p ++ e ∷ [])) refl
    where
      g : Path
      g = p ++ e ∷ []

      by : (o : Option Part) → get (puts v w) g ≡ o → IsComing p q e x
      by None none = absurd (none-some x (sym (f.put g ∙ ap (option_map (told_part kind g)) none) ∙ is))
      by (Some y) some =
          let put = all-found (IsPut v w) (puts v w).entries g y (all-puts v w) some in
          let told : told_part kind g y ≡ x = same_Some (told_part kind g y) x (sym (f.put g ∙ ap (option_map (told_part kind g)) some) ∙ is) in
          let both = sym (some-put (has w g) (is_top v g) (part_at w g))
          ∙ sym (ap is_some (get-over_paths w (λ p. if is_top v p then Some (part_at w p) else None) g)) ∙ ap is_some some in
          let there : has w g ≡ true = first_so (has w g) (is_top v g) both in
          let s = place-of p q e at there in
          let at_g : place_at (of_kind kind) g ≡ Some s.0 = place-after p (of_kind kind) e q at ∙ s.1 in
          record {
            there = there;
            new = no (has v g) (first_so (not (has v g)) (has v (parent g)) put.1);
            place = s.0;
            below = s.1;
            value =
                sym (part_is_value s.0 w g) ∙ ap (λ (z : Part). part_value (Some s.0) z.below) (sym put.0)
                ∙ ap (λ o. part_value o y.below) (sym at_g) ∙ ap (λ z. z.0) told;
            position =
                ap (λ z. z.1) (sym told) ∙ ap (λ (z : Part). z.place) put.0
                ∙ (λ i. elim (last-push p e i) [ None ↦ None | Some d ↦ position_from (same_element d) 0 (order_at (get w (parent-push p e i))) ]);
          }

  -- what the second body alone has right below a path of both is told to be put
  pub none-missed : (p : Path) (e : Element) → has v p ≡ true → has v (p ++ e ∷ []) ≡ false → get m.put (p ++ e ∷ []) ≡ None → has w (p ++ e ∷ []) ≡ false
  none-missed p e here off none =
      let g = p ++ e ∷ [] in
      by_test (has w g)
      (λ t.
      let top : is_top v g ≡ true = (λ i. not (off i) && has v (parent-push p e i)) ∙ here in
      absurd (none-some (told_part kind g (part_at w g)) (sym none ∙ f.put g ∙ ap (option_map (told_part kind g)) (get-puts v w g t top))))
      (λ k. k)

  -- of two bodies that have a path, the second has a child of the first exactly where it is not told to be cut
  pub kept-there : (p : Path) (e : Element) → has w p ≡ true → has v (p ++ e ∷ []) ≡ true → has m.cut (p ++ e ∷ []) ≡ false → has w (p ++ e ∷ []) ≡ true
  kept-there p e here there uncut =
      let g = p ++ e ∷ [] in
      by_test (has w g)
      (λ t. t)
      (λ off. absurd (true≢false (sym ((λ i. there i && (not (off i) && has w (parent-push p e i))) ∙ here) ∙ sym (get-cuts v w g) ∙ sym (f.cut g) ∙ uncut)))

  -- a child that is told to be cut is none of the second body's
  pub cut-gone : (p : Path) (e : Element) → has m.cut (p ++ e ∷ []) ≡ true → has w (p ++ e ∷ []) ≡ false
  cut-gone p e cut =
      let g = p ++ e ∷ [] in
      no (has w g) (first_so (not (has w g)) (has w (parent g)) (second_so (has v g) (is_top w g) (sym (get-cuts v w g) ∙ sym (f.cut g) ∙ cut)))

  -- ---- the children of a tree

  module _ (p : Path) (q : Place) (n : Node) (h : IsHere kind v w p q n) (tree : is_tree n ≡ true) where
    -- the content of the tree is what the first body has at the path
    pub own-here : get v p ≡ Some (own_content n)
    own-here = ap (get v) (sym (append-nil p)) ∙ h.tells [] ∙ content-root n

    -- below the path the first body has what the tree's children have
    pub child-told : (e : Element) (r : Path) → get v (p ++ e ∷ r) ≡ content_in (child_at e (below n)) r
    child-told e r = h.tells (e ∷ r) ∙ content-level n e r tree

    -- a child of the tree stands in the first body
    pub child-is : (e : Element) (c : Node) → child_at e (below n) ≡ Some c → has v (p ++ e ∷ []) ≡ true
    child-is e c found = ap is_some (child-told e [] ∙ ap (λ x. content_in x []) found ∙ content-root c)

    -- where the tree has no child, the first body has nothing
    pub no-child : (e : Element) → child_at e (below n) ≡ None → has v (p ++ e ∷ []) ≡ false
    no-child e none = ap is_some (child-told e [] ∙ ap (λ x. content_in x []) none)

    -- a child that the second body has too is a tree of its own
    pub here-below : (e : Element) (c : Node) (s : Place) → child_at e (below n) ≡ Some c → has w (p ++ e ∷ []) ≡ true → place_below q e ≡ Some s
        → IsHere kind v w (p ++ e ∷ []) s c
    here-below e c s found there at = record {
      tells = λ r. ap (get v) (append_assoc p (e ∷ []) r) ∙ child-told e r ∙ ap (λ x. content_in x r) found;
      there = there;
      place = place-after p (of_kind kind) e q h.place ∙ at;
    }
