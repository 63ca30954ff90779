-- The value of a leaf after a record.
use Rattle.std.proofs.Common.{◌≡◌, true, Option, Some, None, refl, sym, ap, ◌∙◌, true≢false}
use Rattle.std.proofs.lemmas.Option.{same_Some}
use Rattle.std.specs.Option.{unwrap_or}
use Rattle.std.specs.Prelude.{option_map}
use Rattle.ssa_model.specs.definitions.Path.{Path}
use Rattle.ssa_model.specs.definitions.PathMap.{get}
use Rattle.ssa_model.specs.definitions.Kind as kinds
use Rattle.ssa_model.specs.definitions.Kind.{Kind, scalar_kind, atomic_of, record_of, dict_of, items_of}
use Rattle.ssa_model.specs.definitions.Body.{Body, Content, leaf, atom, record_branch, dict_branch, list_branch, is_leaf}
use Rattle.ssa_model.specs.definitions.Carry.{carried_content}
use Rattle.ssa_model.specs.definitions.Fitting.{Place, of_kind, item_of, value_of, content_fits}
use Rattle.ssa_model.specs.definitions.Objects.{content_value}
use Rattle.ssa_model.specs.definitions.Record.{body_record, new_leaves}
use Rattle.ssa_model.specs.definitions.RecordText.{value_at_place}
use Rattle.ssa_model.proofs.Fitting.{some_there}
use Rattle.ssa_typed.specs.Rows.{is_tree, leaf_content, own_content}
use Rattle.ssa_typed.specs.Values.{leaf_value}
use Rattle.ssa_typed.specs.declared.node.Leaf.{Leaf}
use Rattle.ssa_typed.specs.declared.node.Leaf.TheVariants.{Scalar, Atomic}
use Rattle.ssa_typed.specs.declared.node.Node.{Node}
use Rattle.ssa_record.specs.LedValues.{told_leaf, IsHere, IsToldFor}
use Rattle.ssa_record.specs.Places.{ToldMaps}
use Rattle.ssa_record.proofs.LedPlaces.{own-here}
use Rattle.ssa_record.proofs.LedUntouched.{is-content}
use Rattle.ssa_typed.proofs.OverNodes.{leaf-there as leaf-is}

-- a leaf stands where the value is the content's
leaf-place : (q : Place) (w : Body) (p : Path) (c : Content) → content_fits q c ≡ true → is_leaf (Some c) ≡ true
    → value_at_place q w p ≡ content_value (get w p)
leaf-place (of_kind (scalar_kind k)) w p c fits is = refl
leaf-place (of_kind (atomic_of s)) w p c fits is = refl
leaf-place (value_of s) w p c fits is = refl
leaf-place (of_kind (record_of fs)) w p (leaf s) fits is = absurd (true≢false (sym fits))
leaf-place (of_kind (record_of fs)) w p (atom s) fits is = absurd (true≢false (sym fits))
leaf-place (of_kind (record_of fs)) w p record_branch fits is = absurd (true≢false (sym is))
leaf-place (of_kind (record_of fs)) w p dict_branch fits is = absurd (true≢false (sym is))
leaf-place (of_kind (record_of fs)) w p (list_branch es) fits is = absurd (true≢false (sym is))
leaf-place (of_kind (dict_of k)) w p (leaf s) fits is = absurd (true≢false (sym fits))
leaf-place (of_kind (dict_of k)) w p (atom s) fits is = absurd (true≢false (sym fits))
leaf-place (of_kind (dict_of k)) w p record_branch fits is = absurd (true≢false (sym is))
leaf-place (of_kind (dict_of k)) w p dict_branch fits is = absurd (true≢false (sym is))
leaf-place (of_kind (dict_of k)) w p (list_branch es) fits is = absurd (true≢false (sym is))
leaf-place (of_kind (kinds.set_of k)) w p (leaf s) fits is = absurd (true≢false (sym fits))
leaf-place (of_kind (kinds.set_of k)) w p (atom s) fits is = absurd (true≢false (sym fits))
leaf-place (of_kind (kinds.set_of k)) w p record_branch fits is = absurd (true≢false (sym is))
leaf-place (of_kind (kinds.set_of k)) w p dict_branch fits is = absurd (true≢false (sym is))
leaf-place (of_kind (kinds.set_of k)) w p (list_branch es) fits is = absurd (true≢false (sym is))
leaf-place (of_kind (items_of ns fs)) w p (leaf s) fits is = absurd (true≢false (sym fits))
leaf-place (of_kind (items_of ns fs)) w p (atom s) fits is = absurd (true≢false (sym fits))
leaf-place (of_kind (items_of ns fs)) w p record_branch fits is = absurd (true≢false (sym is))
leaf-place (of_kind (items_of ns fs)) w p dict_branch fits is = absurd (true≢false (sym is))
leaf-place (of_kind (items_of ns fs)) w p (list_branch es) fits is = absurd (true≢false (sym is))
leaf-place (item_of ns fs) w p (leaf s) fits is = absurd (true≢false (sym fits))
leaf-place (item_of ns fs) w p (atom s) fits is = absurd (true≢false (sym fits))
leaf-place (item_of ns fs) w p record_branch fits is = absurd (true≢false (sym is))
leaf-place (item_of ns fs) w p dict_branch fits is = absurd (true≢false (sym is))
leaf-place (item_of ns fs) w p (list_branch es) fits is = absurd (true≢false (sym is))

-- the value of a leaf is told as its content is
leaf-said : (l : Leaf) (o : Option Content) → unwrap_or (option_map told_leaf o) (leaf_value l) ≡ told_leaf (unwrap_or o (leaf_content l))
leaf-said (Scalar s) None = refl
leaf-said (Scalar s) (Some c) = refl
leaf-said (Atomic v) None = refl
leaf-said (Atomic v) (Some c) = refl

leaf-carried : (l : Leaf) (v w : Body) (p : Path) → unwrap_or (get (new_leaves v w) p) (leaf_content l) ≡ carried_content (body_record v w) p (leaf_content l)
leaf-carried (Scalar s) v w p = refl
leaf-carried (Atomic j) v w p = refl

module _ (m : ToldMaps) (kind : Kind) (v w : Body) (f : IsToldFor m kind v w) (p : Path) (q : Place) (n : Node) (h : IsHere kind v w p q n)
    (tree : is_tree n ≡ true) where
  -- what stands at the place fits it
  pub own-fits : content_fits q (own_content n) ≡ true
  own-fits =
      let at = f.from.fits p (own_content n) (own-here m kind v w f p q n h tree) in
      ap (λ s. content_fits s (own_content n)) (same_Some q at.place (sym h.place ∙ at.there)) ∙ at.fits

  -- the leaf that is told, or the one that stands there, has the second body's value
  pub leaf-led : (l : Leaf) → own_content n ≡ leaf_content l → unwrap_or (get m.leaves p) (leaf_value l) ≡ value_at_place q w p
  leaf-led l is =
      let here : get v p ≡ Some (leaf_content l) = own-here m kind v w f p q n h tree ∙ ap (λ c. Some c) is in
      let e = some_there (get w p) h.there in
      let place = leaf-place q w p (leaf_content l) (ap (content_fits q) (sym is) ∙ own-fits) (leaf-is l) in
      ap (λ o. unwrap_or o (leaf_value l)) (f.leaves p) ∙ leaf-said l (get (new_leaves v w) p)
      ∙ ap told_leaf (leaf-carried l v w p ∙ is-content m kind v w f p (leaf_content l) e.0 here e.1)
      ∙ ap content_value (sym e.1) ∙ sym place
