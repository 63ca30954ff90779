-- A list of which a record cuts, puts and tells nothing stays as it is, and fits.
use Rattle.std.proofs.Common.{◌≡◌, List, [], ◌∷◌, ◌++◌, true, false, not, ◌||◌, map, Some, None, refl, sym, ap, ◌∙◌}
use Rattle.std.proofs.lemmas.Option.{none-some}
use Rattle.std.specs.List.{cons_option, list_any}
use Rattle.std.specs.Prelude.{is_some, if◌then◌else◌, filter_map}
use Rattle.ssa_model.specs.definitions.Path.{Element, Path, same_element, same_path, parent}
use Rattle.ssa_model.specs.definitions.PathMap.{PathMap, get, has, paths}
use Rattle.ssa_model.specs.definitions.Kind.{Kind, is_among}
use Rattle.ssa_model.specs.definitions.Body.{Body, list_branch, order_at}
use Rattle.ssa_model.specs.definitions.Fitting.{are_distinct, IsBodyOf}
use Rattle.ssa_model.specs.definitions.Record.{Part, BodyRecord, are_in_one_order, common}
use Rattle.ssa_model.specs.definitions.Carry.{filled, end_of, place_in, put_item, staying_items, refilled, carried_order}
use Rattle.ssa_model.specs.laws.FittingRecords.{has_below, is_touched, order_after, ListFits}
use Rattle.ssa_model.proofs.PathMaps.{has-paths, same_path-itself}
use Rattle.ssa_model.proofs.Pruned.{from_one}
use Rattle.ssa_model.proofs.Tables.{element-itself}
use Rattle.ssa_model.proofs.Tests.{by_test, pointwise-itself, filter-all}
use Rattle.ssa_model.proofs.Beginnings.{parent-push}
use Rattle.ssa_model.proofs.Basics.{or-false, first_false, second_false, none-there as nothing_there, yes_no}

-- a map with nothing right below a path has no path right below it
none-below : {X : Type 0} (m : PathMap X) (p : Path) (e : Element) → has_below m p ≡ false → has m (p ++ e ∷ []) ≡ false
none-below m p e off =
    by_test (has m (p ++ e ∷ []))
    (λ t.
    let up : same_path (parent (p ++ e ∷ [])) p ≡ true = ap (λ q. same_path q p) (parent-push p e) ∙ same_path-itself p in
    yes_no (has_below m p) (from_one (λ q. same_path (parent q) p) (paths m) (p ++ e ∷ []) (sym (has-paths m (p ++ e ∷ [])) ∙ t) up) off)
    (λ k. k)

-- no place is told in its list
no-places : (p : Path) (es : List (Path × Part)) → list_any (λ q. same_path (parent q) p) (map (λ e. e.0) es) ≡ false → filter_map (place_in p) es ≡ []
no-places p [] off = refl
no-places p (e ∷ es) off =
    let rest = list_any (λ q. same_path (parent q) p) (map (λ e. e.0) es) in
    let here = first_false (same_path (parent e.0) p) rest off in
    ap (λ b. cons_option (if b then e.1.place else None) (filter_map (place_in p) es)) here ∙ no-places p es (second_false (same_path (parent e.0) p) rest off)

module _ (kind : Kind) (d : BodyRecord) (v : Body) (a : IsBodyOf kind v) (p : Path) (es : List Element) (is : get v p ≡ Some (list_branch es))
    (off : is_touched d p ≡ false) where
  untold : get d.order p ≡ None
  untold = nothing_there (get d.order p) (first_false (has d.order p) (has_below d.cut p || has_below d.put p) off)

  below : (has_below d.cut p || has_below d.put p) ≡ false
  below = second_false (has d.order p) (has_below d.cut p || has_below d.put p) off

  uncut : (e : Element) → has d.cut (p ++ e ∷ []) ≡ false
  uncut e = none-below d.cut p e (first_false (has_below d.cut p) (has_below d.put p) below)

  unput : (e : Element) → has d.put (p ++ e ∷ []) ≡ false
  unput e = none-below d.put p e (second_false (has_below d.cut p) (has_below d.put p) below)

  all-stay : staying_items d p es ≡ es
  all-stay = filter-all (λ e. not (has d.cut (p ++ e ∷ []))) (λ e. ap not (uncut e)) es

  -- the record leads to the list's own order
  pub order-stays : order_after d p es ≡ es
  order-stays =
      ap (λ o. carried_order o (refilled d p es)) untold
      ∙ ap (λ is. filled (put_item d.put.entries p) 0 (end_of is) (staying_items d p es))
      (no-places p d.put.entries (second_false (has_below d.cut p) (has_below d.put p) below))
      ∙ all-stay

  -- the list fits
  pub untouched-fits : ListFits d p es
  untouched-fits = record {
    once = ap are_distinct order-stays ∙ ap (λ o. are_distinct (order_at o)) (sym is) ∙ a.once p;
    items = λ e. ap (is_among e) order-stays ∙ sym ((λ i. is_among e (all-stay i) || unput e i) ∙ or-false (is_among e es));
    places = λ e x found. absurd (none-some x (sym (nothing_there (get d.put (p ++ e ∷ [])) (unput e)) ∙ found));
    order = ap is_some untold ∙ sym (ap (λ fs. not (are_in_one_order es fs)) order-stays
        ∙ ap not (pointwise-itself same_element element-itself (common es es)));
  }
