-- What is told of a path, and what stands there: where nothing is told at and below it, both bodies have the same.
use Rattle.std.proofs.Common.{◌≡◌, List, [], ◌∷◌, ◌++◌, Bool, true, false, not, ◌&&◌, cond, filter, Option, Some, None, refl, sym, ap, ◌∙◌, append_assoc, append-nil}
use Rattle.std.proofs.lemmas.Option.{none-some}
use Rattle.std.specs.Cmp.{first_so, second_so}
use Rattle.std.specs.Option.{unwrap_or}
use Rattle.std.specs.Prelude.{is_some, option_map, if◌then◌else◌}
use Rattle.ssa_model.specs.definitions.Path.{Element, Path, same_element, is_item_element}
use Rattle.ssa_model.specs.definitions.PathMap.{get, has, below as map_below}
use Rattle.ssa_model.specs.definitions.Kind.{Kind, is_among}
use Rattle.ssa_model.specs.definitions.Body.{Body, Content, leaf, atom, record_branch, dict_branch, list_branch, order_at}
use Rattle.ssa_model.specs.definitions.Carry.{carried_content}
use Rattle.ssa_model.specs.definitions.Fitting.{Place}
use Rattle.ssa_model.specs.definitions.Record.{body_record, common, are_in_one_order, new_leaves, new_order, new_orders}
use Rattle.ssa_model.specs.definitions.RecordText.{value_at_place}
use Rattle.ssa_model.specs.laws.RecordWalks.{AreAlike}
use Rattle.ssa_model.proofs.BodyLeads.{bodies_are_trees, content_is}
use Rattle.ssa_model.proofs.Fitting.{some_there}
use Rattle.ssa_model.proofs.PartValues.{part_is_value}
use Rattle.ssa_model.proofs.PathMaps.{get-over_paths, same_map}
use Rattle.ssa_model.proofs.Pruned.{closed-above, under-append}
use Rattle.ssa_model.proofs.PutParts.{get-below}
use Rattle.ssa_model.proofs.Tables.{element-itself, true_or}
use Rattle.ssa_model.proofs.Tests.{by_test, pointwise-true}
use Rattle.ssa_model.proofs.Fitting.{same_element-true}
use Rattle.ssa_typed.specs.Rows.{body_of, is_tree}
use Rattle.ssa_typed.specs.Values.{value_of}
use Rattle.ssa_typed.specs.declared.node.Node.{Node}
use Rattle.ssa_typed.proofs.Looks.{get-body}
use Rattle.ssa_typed.proofs.Showing.{part-shown}
use Rattle.ssa_record.specs.LedValues.{told_leaf, IsHere, IsToldFor}
use Rattle.ssa_record.specs.Places.{ToldMaps}
use Rattle.ssa_record.proofs.LedPlaces.{kept-there, none-missed}
use Rattle.ssa_model.proofs.PutItems.{filter-members as filter-alike}
use Rattle.ssa_typed.proofs.Reached.{all-pass as filter-whole}
use Rattle.ssa_model.proofs.Basics.{or_true, none-there as nothing_there, yes_no}

-- ---- lists

all-left : (es : List Element) → filter (λ e. true) es ≡ es
all-left [] = refl
all-left (e ∷ es) = ap (λ xs. e ∷ xs) (all-left es)

module _ (m : ToldMaps) (kind : Kind) (v w : Body) (f : IsToldFor m kind v w) where
  alike : AreAlike v w
  alike = (bodies_are_trees kind v w f.from f.to).2

  -- what is carried to a path of both is what the second has there
  pub is-content : (q : Path) (c e : Content) → get v q ≡ Some c → get w q ≡ Some e → carried_content (body_record v w) q c ≡ e
  is-content q c e is_v is_w = let h = bodies_are_trees kind v w f.from f.to in content_is v w h.0 h.1 h.2 q c e is_v is_w (h.2 q c e is_v is_w)

  -- where no order is told, the common items stand in one order
  pub one-order : (q : Path) (es fs : List Element) → get v q ≡ Some (list_branch es) → get w q ≡ Some (list_branch fs) → get m.order q ≡ None
      → common es fs ≡ common fs es
  one-order q es fs is_v is_w none =
      let order : get (new_orders v w) q ≡ new_order (Some (list_branch es)) (Some (list_branch fs)) =
      get-over_paths v (λ p. new_order (get v p) (get w p)) q ∙ (λ i. cond (is_some (is_v i)) (new_order (is_v i) (is_w i)) None) in
      by_test (are_in_one_order es fs)
      (λ t. pointwise-true same_element same_element-true (common es fs) (common fs es) t)
      (λ k. absurd (none-some fs (sym none ∙ f.order q ∙ order ∙ ap (λ b. if not b then Some fs else None) k)))

  -- an item of the first body is one of the second exactly where it is not told to be cut
  pub among-second : (q : Path) (es fs : List Element) → get v q ≡ Some (list_branch es) → get w q ≡ Some (list_branch fs) → (e : Element)
      → is_among e es ≡ true
      → has m.cut (q ++ e ∷ []) ≡ false → is_among e fs ≡ true
  among-second q es fs is_v is_w e among uncut =
      let both : (is_item_element e && has v (q ++ e ∷ [])) ≡ true = sym (f.from.items q e) ∙ ap (λ o. is_among e (order_at o)) is_v ∙ among in
      let there = kept-there m kind v w f q e (ap is_some is_w) (second_so (is_item_element e) (has v (q ++ e ∷ [])) both) uncut in
      sym (ap (λ o. is_among e (order_at o)) is_w) ∙ f.to.items q e ∙ (λ i. first_so (is_item_element e) (has v (q ++ e ∷ [])) both i && there i)

  -- and an item of the second is one of the first exactly where it is not told to be put
  pub among-first : (q : Path) (es fs : List Element) → get v q ≡ Some (list_branch es) → get w q ≡ Some (list_branch fs) → (e : Element) → is_among e fs ≡ true
      → has m.put (q ++ e ∷ []) ≡ false → is_among e es ≡ true
  among-first q es fs is_v is_w e among unput =
      let both : (is_item_element e && has w (q ++ e ∷ [])) ≡ true = sym (f.to.items q e) ∙ ap (λ o. is_among e (order_at o)) is_w ∙ among in
      let there : has v (q ++ e ∷ []) ≡ true =
      by_test (has v (q ++ e ∷ []))
      (λ t. t)
      (λ off. yes_no (has w (q ++ e ∷ [])) (second_so (is_item_element e) (has w (q ++ e ∷ [])) both)
      (none-missed m kind v w f q e (ap is_some is_v) off (nothing_there (get m.put (q ++ e ∷ [])) unput))) in
      sym (ap (λ o. is_among e (order_at o)) is_v) ∙ f.from.items q e ∙ (λ i. first_so (is_item_element e) (has w (q ++ e ∷ [])) both i && there i)

  -- ---- nothing told at a path and right below it

  record IsQuiet (p : Path) : Type 0 where
    leaves : get m.leaves p ≡ None
    order : get m.order p ≡ None
    cut : (e : Element) → has m.cut (p ++ e ∷ []) ≡ false
    put : (e : Element) → has m.put (p ++ e ∷ []) ≡ false

  no-leaf : (p : Path) → get m.leaves p ≡ None → get (new_leaves v w) p ≡ None
  no-leaf p none = by (get (new_leaves v w) p) refl
    where
      by : (o : Option Content) → get (new_leaves v w) p ≡ o → o ≡ None
      by None is = refl
      by (Some c) is = absurd (none-some (told_leaf c) (sym none ∙ f.leaves p ∙ ap (option_map told_leaf) is))

  same-content : (p : Path) (c e : Content) → IsQuiet p → get v p ≡ Some c → get w p ≡ Some e → e ≡ c
  same-content p (leaf s) e quiet is_v is_w = sym (is-content p (leaf s) e is_v is_w) ∙ ap (λ o. unwrap_or o (leaf s)) (no-leaf p quiet.leaves)
  same-content p (atom j) e quiet is_v is_w = sym (is-content p (atom j) e is_v is_w) ∙ ap (λ o. unwrap_or o (atom j)) (no-leaf p quiet.leaves)
  same-content p record_branch e quiet is_v is_w = sym (is-content p record_branch e is_v is_w)
  same-content p dict_branch e quiet is_v is_w = sym (is-content p dict_branch e is_v is_w)
  same-content p (list_branch es) e quiet is_v is_w =
      let fs = order_at (Some e) in
      let list : e ≡ list_branch fs = ap (λ x. x) (sym (is-content p (list_branch es) e is_v is_w))
      ∙ ap (λ x. list_branch (order_at (Some x))) (is-content p (list_branch es) e is_v is_w) in
      let is_list : get w p ≡ Some (list_branch fs) = is_w ∙ ap (λ x. Some x) list in
      list
      ∙ ap list_branch
      (sym (filter-whole (λ x. is_among x es) fs (λ x among. among-first p es fs is_v is_list x among (quiet.put x)))
      ∙ sym (one-order p es fs is_v is_list quiet.order)
      ∙ filter-whole (λ x. is_among x fs) es (λ x among. among-second p es fs is_v is_list x among (quiet.cut x)))

  -- ---- nothing told at and below a path

  abbrev IsUntouched : Path → Type 0
  IsUntouched p = (r : Path) → has m.touched (p ++ r) ≡ false

  quiet-at : (p : Path) → IsUntouched p → IsQuiet p
  quiet-at p off = record {
    leaves = nothing_there (get m.leaves p) (by_test (has m.leaves p) (λ t. absurd (yes_no (has m.touched p) (f.touched.leaves p t) here)) (λ k. k));
    order = nothing_there (get m.order p) (by_test (has m.order p) (λ t. absurd (yes_no (has m.touched p) (f.touched.order p t) here)) (λ k. k));
    cut = λ e. by_test (has m.cut (p ++ e ∷ [])) (λ t. absurd (yes_no (has m.touched (p ++ e ∷ [])) (f.touched.cut (p ++ e ∷ []) t) (off (e ∷ [])))) (λ k. k);
    put = λ e. by_test (has m.put (p ++ e ∷ [])) (λ t. absurd (yes_no (has m.touched (p ++ e ∷ [])) (f.touched.put (p ++ e ∷ []) t) (off (e ∷ [])))) (λ k. k);
  }
    where
      here : has m.touched p ≡ false
      here = ap (has m.touched) (sym (append-nil p)) ∙ off []

  closed-none : (b : Body) → ((p : Path) (e : Element) → has b (p ++ e ∷ []) ≡ true → has b p ≡ true) → (p r : Path) → has b p ≡ false → get b (p ++ r) ≡ None
  closed-none b closed p r off =
      nothing_there (get b (p ++ r)) (by_test (has b (p ++ r)) (λ t. yes_no (has b p) (closed-above b closed p (p ++ r) t (under-append p r)) off) (λ k. k))

  -- both bodies have the same there
  pub untouched-same : (r p : Path) → has v p ≡ true → has w p ≡ true → IsUntouched p → get w (p ++ r) ≡ get v (p ++ r)
  untouched-same [] p here there off =
      let c = some_there (get v p) here in
      let e = some_there (get w p) there in
      ap (get w) (append-nil p) ∙ e.1 ∙ ap (λ x. Some x) (same-content p c.0 e.0 (quiet-at p off) c.1 e.1) ∙ sym c.1 ∙ ap (get v) (sym (append-nil p))
  untouched-same (e ∷ r) p here there off =
      let g = p ++ e ∷ [] in
      let quiet = quiet-at p off in
      let longer : g ++ r ≡ p ++ e ∷ r = append_assoc p (e ∷ []) r in
      by_test (has v g)
      (λ t.
      let same = untouched-same r g t (kept-there m kind v w f p e there t (quiet.cut e)) (λ s. ap (has m.touched) (append_assoc p (e ∷ []) s) ∙ off (e ∷ s)) in
      ap (get w) (sym longer) ∙ same ∙ ap (get v) longer)
      (λ k.
      let none = none-missed m kind v w f p e here k (nothing_there (get m.put g) (quiet.put e)) in
      ap (get w) (sym longer) ∙ closed-none w f.to.closed g r none ∙ sym (closed-none v f.from.closed g r k) ∙ ap (get v) longer)

  -- the value of a tree that nothing is told of is the second body's
  pub untouched-value : (p : Path) (q : Place) (n : Node) → is_tree n ≡ true → IsHere kind v w p q n → has v p ≡ true → IsUntouched p
      → value_of n ≡ value_at_place q w p
  untouched-value p q n tree h here off =
      let same : body_of n ≡ map_below w p = same_map (body_of n) (map_below w p) (λ r. get-body n r ∙ sym (h.tells r)
      ∙ sym (untouched-same r p here h.there off) ∙ sym (get-below w p r)) in
      part-shown n kind q p w tree f.ordered f.to h.place same ∙ ap (λ b. value_at_place q b []) same ∙ part_is_value q w p
