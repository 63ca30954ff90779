-- The value of a record or a Dict after a record: its members are those that the second body shows.
use Rattle.std.proofs.Common.{◌≡◌, [], ◌∷◌, ◌++◌, true, cond, Some, None, refl, sym, ap, ◌∙◌, true≢false}
use Rattle.std.specs.FinMap.Entries.{is_sorted}
use Rattle.std.specs.Prelude.{option_map, if◌then◌else◌}
use Rattle.ssa_model.specs.definitions.Json.{Text, Members, no_members, member, member_of, object}
use Rattle.ssa_model.specs.definitions.Path.{field, Path}
use Rattle.ssa_model.specs.definitions.PathMap.{has}
use Rattle.ssa_model.specs.definitions.Kind as kinds
use Rattle.ssa_model.specs.definitions.Kind.{Kind, Fields, scalar_kind, atomic_of, record_of, dict_of, items_of, kind_of}
use Rattle.ssa_model.specs.definitions.Body.{Body, Content, leaf, atom, record_branch, dict_branch, list_branch}
use Rattle.ssa_model.specs.definitions.Fitting.{Place, of_kind, item_of, value_of, place_below, content_fits}
use Rattle.ssa_model.specs.definitions.Lawful.{are_ordered}
use Rattle.ssa_model.specs.definitions.Objects.{shown, shown_fields, entry_members, names_below}
use Rattle.ssa_model.specs.definitions.RecordText.{value_at_place}
use Rattle.ssa_model.proofs.ShownNames.{member_of-fields}
use Rattle.ssa_typed.specs.Rows.{is_tree, own_content}
use Rattle.ssa_typed.specs.declared.node.Node.{Node}
use Rattle.ssa_typed.proofs.SameMembers.{named, same-members, text_cmp}
use Rattle.ssa_typed.proofs.Showing.{is_ordered_place, ordered-at}
use Rattle.ssa_typed.proofs.ShownMembers.{entries-rise, fields-rise, member_of-entries}
use Rattle.ssa_record.specs.LedValues.{has_members, named_values, names_rise, value_below, IsHere, IsToldFor}
use Rattle.ssa_record.specs.Places.{ToldMaps}
use Rattle.ssa_record.proofs.LedLeaves.{own-fits}

named-is : (ms : Members) → named_values ms ≡ named ms
named-is no_members = refl
named-is (member n v ms) = ap (λ es. (n, v) ∷ es) (named-is ms)

sorted-is : (ms : Members) → names_rise ms ≡ true → is_sorted text_cmp (named ms) ≡ true
sorted-is ms h = ap (is_sorted text_cmp) (sym (named-is ms)) ∙ h

-- ---- the members of a place

-- what stands under a field's name is shown there
field-below : (w : Body) (p : Path) (fs : Fields) (q : Place) (t : Text) → place_below q (field t) ≡ option_map of_kind (kind_of t fs)
    → value_below q w p (field t) ≡ cond (has w (p ++ field t ∷ [])) (option_map (λ k. shown k w (p ++ field t ∷ [])) (kind_of t fs)) None
field-below w p fs q t is =
    let g = p ++ field t ∷ [] in
    ap (λ o. if has w g then option_map (λ s. value_at_place s w g) o else None) is
    ∙ elim (kind_of t fs) as (λ o. (if has w g then option_map (λ s. value_at_place s w g) (option_map of_kind o) else None)
    ≡ cond (has w g) (option_map (λ k. shown k w g) o) None) [ None ↦ refl | Some k ↦ refl ]

module _ (w : Body) (p : Path) (ms : Members) (rise : names_rise ms ≡ true) where
  fields-led : (fs : Fields) (q : Place) → are_ordered fs ≡ true → ((t : Text) → place_below q (field t) ≡ option_map of_kind (kind_of t fs))
      → ((t : Text) → member_of t ms ≡ value_below q w p (field t))
      → ms ≡ shown_fields fs w p
  fields-led fs q ordered like met =
      same-members ms (shown_fields fs w p) (sorted-is ms rise) (fields-rise w p fs ordered)
      (λ t. met t ∙ field-below w p fs q t (like t) ∙ sym (member_of-fields w p t fs))

  entries-led : (k : Kind) → ((t : Text) → member_of t ms ≡ value_below (of_kind (dict_of k)) w p (field t))
      → ms ≡ entry_members (shown k w) p (names_below w p)
  entries-led k met =
      same-members ms (entry_members (shown k w) p (names_below w p)) (sorted-is ms rise) (entries-rise (shown k w) p w)
      (λ t. met t ∙ sym (member_of-entries (shown k w) w p t))

  -- by the place
  members-at : (q : Place) (c : Content) → content_fits q c ≡ true → has_members c ≡ true → is_ordered_place q ≡ true
      → ((t : Text) → member_of t ms ≡ value_below q w p (field t))
      → object ms ≡ value_at_place q w p
  members-at (of_kind (record_of fs)) c fits is ordered met = ap object (fields-led fs (of_kind (record_of fs)) ordered (λ t. refl) met)
  members-at (of_kind (dict_of k)) c fits is ordered met = ap object (entries-led k met)
  members-at (item_of ns fs) c fits is ordered met = ap object (fields-led fs (item_of ns fs) ordered (λ t. refl) met)
  members-at (of_kind (scalar_kind k)) record_branch fits is ordered met = absurd (true≢false (sym fits))
  members-at (of_kind (scalar_kind k)) dict_branch fits is ordered met = absurd (true≢false (sym fits))
  members-at (of_kind (atomic_of s)) record_branch fits is ordered met = absurd (true≢false (sym fits))
  members-at (of_kind (atomic_of s)) dict_branch fits is ordered met = absurd (true≢false (sym fits))
  members-at (of_kind (kinds.set_of k)) record_branch fits is ordered met = absurd (true≢false (sym fits))
  members-at (of_kind (kinds.set_of k)) dict_branch fits is ordered met = absurd (true≢false (sym fits))
  members-at (of_kind (items_of ns fs)) record_branch fits is ordered met = absurd (true≢false (sym fits))
  members-at (of_kind (items_of ns fs)) dict_branch fits is ordered met = absurd (true≢false (sym fits))
  members-at (value_of s) record_branch fits is ordered met = absurd (true≢false (sym fits))
  members-at (value_of s) dict_branch fits is ordered met = absurd (true≢false (sym fits))
  members-at q (leaf s) fits is ordered met = absurd (true≢false (sym is))
  members-at q (atom j) fits is ordered met = absurd (true≢false (sym is))
  members-at q (list_branch es) fits is ordered met = absurd (true≢false (sym is))

-- members that rise and are the second body's at the place are its value there
pub members-led : (m : ToldMaps) (kind : Kind) (v w : Body) (f : IsToldFor m kind v w) (p : Path) (q : Place) (n : Node) (h : IsHere kind v w p q n)
    → is_tree n ≡ true → has_members (own_content n) ≡ true
    → (ms : Members) → names_rise ms ≡ true → ((t : Text) → member_of t ms ≡ value_below q w p (field t)) → object ms ≡ value_at_place q w p
members-led m kind v w f p q n h tree is ms rise met =
    members-at w p ms rise q (own_content n) (own-fits m kind v w f p q n h tree) is (ordered-at p (of_kind kind) q f.ordered h.place) met
