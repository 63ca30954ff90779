-- The `metadata` that a rooted body shows is not empty.
use Rattle.std.proofs.Common.{◌≡◌, [], ◌∷◌, ◌++◌, Bool, true, false, cond, not, ◌&&◌, Option, Some, None, option_map, refl, sym, ap, ◌∙◌, true≢false, append_assoc, append-nil}
use Rattle.std.proofs.lemmas.Option.{same_Some, none-some}
use Rattle.std.specs.Prelude.{if◌then◌else◌, codes}
use Rattle.std.specs.List.{list_any}
use Rattle.std.specs.Cmp.{first_so, second_so}
use Rattle.ssa_model.specs.definitions.Json.{Text, Json, object, Members, no_members, member, member_of, same_text}
use Rattle.ssa_model.specs.definitions.Path.{field, Path, under, is_item, parent}
use Rattle.ssa_model.specs.definitions.PathMap.{get, has, paths}
use Rattle.ssa_model.specs.definitions.Kind.{Kind, Fields, record_of, no_fields, kind_field, kind_of}
use Rattle.ssa_model.specs.definitions.Body.{Body, is_empty_object, without_empty_metadata, is_leaf, is_dict, is_bare, is_point, points, strictly_under}
use Rattle.ssa_model.specs.definitions.Fitting.{of_kind, place_at, IsBodyOf}
use Rattle.ssa_model.specs.definitions.Lawful.{are_ordered, has_metadata, is_some_record}
use Rattle.ssa_model.specs.definitions.Objects.{shown, shown_fields}
use Rattle.ssa_model.specs.definitions.Valid.{IsRooted, metadata_path}
use Rattle.ssa_model.proofs.KindParts.{EachField, each_field}
use Rattle.ssa_model.proofs.PathMaps.{has-paths, has-points}
use Rattle.ssa_model.proofs.Places.{below, record-place}
use Rattle.ssa_model.proofs.Pruned.{some_one, under-rest, beginning}
use Rattle.ssa_model.proofs.ShownNames.{member_of-fields}
use Rattle.ssa_model.proofs.Tables.{same_text-true, under-itself}
use Rattle.ssa_model.proofs.Basics.{or_true, not_true as no, yes_no}

-- ---- a record that shows nothing is bare

no-member : (n : Text) (ms : Members) → is_empty_object (object ms) ≡ true → member_of n ms ≡ None
no-member n no_members h = refl
no-member n (member m v ms) h = absurd (true≢false (sym h))

not_shown : (t : Bool) (v : Json) → cond t (Some v) None ≡ None → t ≡ false
not_shown true v h = absurd (none-some v (sym h))
not_shown false v h = refl

module _ (kind : Kind) (b : Body) (k : IsBodyOf kind b) where
  no-field : (hs : Fields) (p : Path) (n : Text) (j : Kind) → is_empty_object (object (shown_fields hs b p)) ≡ true → kind_of n hs ≡ Some j
      → has b (p ++ field n ∷ []) ≡ false
  no-field hs p n j empty is =
      not_shown (has b (p ++ field n ∷ [])) (shown j b (p ++ field n ∷ []))
      (ap (λ o. cond (has b (p ++ field n ∷ [])) (option_map (λ i. shown i b (p ++ field n ∷ [])) o) None) (sym is) ∙ sym (member_of-fields b p n hs)
      ∙ no-member n (shown_fields hs b p) empty)

  nothing_below : (hs : Fields) (p x : Path) → place_at (of_kind kind) p ≡ Some (of_kind (record_of hs))
      → is_empty_object (object (shown_fields hs b p)) ≡ true → has b x ≡ true → strictly_under p x ≡ true → ⊥
  nothing_below hs p x at empty one u =
      let r = under-rest p x (first_so (under p x) _ u) in
      by r.0 r.1
    where
      by : (r : Path) → x ≡ p ++ r → ⊥
      by [] is = yes_no (under x p) (ap (λ y. under y p) (is ∙ append-nil p) ∙ under-itself p) (no (under x p) (second_so (under p x) _ u))
      by (e ∷ r) is =
          let there = beginning kind b k r (p ++ e ∷ []) (ap (has b) (append_assoc p (e ∷ []) r ∙ sym is) ∙ one) in
          let s = below kind b k p (of_kind (record_of hs)) e at there in
          let f = record-place hs e s.place s.below in
          yes_no (has b (p ++ e ∷ [])) there (ap (λ y. has b (p ++ y ∷ [])) f.is_own ∙ no-field hs p f.own f.kind empty f.is_kind)

  bare : (hs : Fields) (p : Path) → place_at (of_kind kind) p ≡ Some (of_kind (record_of hs)) → is_empty_object (object (shown_fields hs b p)) ≡ true
      → is_bare b p ≡ true
  bare hs p at empty =
      elim (list_any (strictly_under p) (paths b)) as (λ t. list_any (strictly_under p) (paths b) ≡ t → not t ≡ true) [
        | true ↦ λ t. let x = some_one (strictly_under p) (paths b) t in absurd (nothing_below hs p x.0 at empty (has-paths b x.0 ∙ x.1) x.2)
        | false ↦ λ t. refl
      ] refl

-- ---- the root's members

-- the field is not an empty `metadata`, where it is there
abbrev IsKept : Body → Text → Kind → Type 0
IsKept b n j = has b (field n ∷ []) ≡ true → (same_text n (codes "metadata") && is_empty_object (shown j b (field n ∷ []))) ≡ false

all-kept : (b : Body) (gs : Fields) → EachField (IsKept b) gs → without_empty_metadata (shown_fields gs b []) ≡ shown_fields gs b []
all-kept b no_fields h = refl
all-kept b (kind_field n j gs) h =
    let v = shown j b (field n ∷ []) in
    let ms = shown_fields gs b [] in
    elim (has b (field n ∷ [])) as (λ t. has b (field n ∷ []) ≡ t
    → without_empty_metadata (if t then member n (shown j b (field n ∷ [])) (shown_fields gs b []) else shown_fields gs b [])
    ≡ (if t then member n (shown j b (field n ∷ [])) (shown_fields gs b []) else shown_fields gs b [])) [
      | true ↦ λ t. ap (λ s. if s then ms else member n v (without_empty_metadata ms)) (h.0 t) ∙ ap (member n v) (all-kept b gs h.1)
      | false ↦ λ t. all-kept b gs h.1
    ] refl

-- where there is a kind, and it is that of an object with fields, there are its fields
pub record-in : (o : Option Kind) → is_some_record o ≡ true → (hs : Fields) × (o ≡ Some (record_of hs))
record-in (Some (record_of hs)) h = (hs, refl)
record-in _ h = absurd (true≢false (sym h))

module _ (fs : Fields) (b : Body) (k : IsBodyOf (record_of fs) b) (rooted : IsRooted b) where
  bare-point : is_bare b metadata_path ≡ true → is_point b metadata_path ≡ true
  bare-point h =
      or_true (is_leaf (get b metadata_path)) _ (or_true (is_item metadata_path) _
      (or_true (is_dict (get b (parent metadata_path))) (is_bare b metadata_path) h))

  not_empty : (hs : Fields) → kind_of (codes "metadata") fs ≡ Some (record_of hs) → has b metadata_path ≡ true
      → is_empty_object (object (shown_fields hs b metadata_path)) ≡ true → ⊥
  not_empty hs is one empty =
      let point = bare-point (bare (record_of fs) b k hs metadata_path (ap (λ o. elim (option_map of_kind o) [ None ↦ None | Some r ↦ Some r ]) is) empty) in
      yes_no (has (points b) metadata_path) (has-points b metadata_path ∙ (λ i. one i && point i)) rooted.metadata

  kept : (hs : Fields) → kind_of (codes "metadata") fs ≡ Some (record_of hs) → (n : Text) (j : Kind) → kind_of n fs ≡ Some j → IsKept b n j
  kept hs is n j own one =
      elim (same_text n (codes "metadata")) as (λ t. same_text n (codes "metadata") ≡ t → (t && is_empty_object (shown j b (field n ∷ []))) ≡ false) [
        | true ↦ λ t.
            let name = same_text-true n (codes "metadata") t in
            let same : j ≡ record_of hs = same_Some j (record_of hs) (sym own ∙ ap (λ m. kind_of m fs) name ∙ is) in
            let value_is : shown j b (field n ∷ []) ≡ object (shown_fields hs b metadata_path) = (λ i. shown (same i) b (field (name i) ∷ [])) in
            ap is_empty_object value_is ∙ by hs is (ap (λ m. has b (field m ∷ [])) (sym name)
            ∙ one) (is_empty_object (object (shown_fields hs b metadata_path))) refl
        | false ↦ λ t. refl
      ] refl
    where
      by : (hs : Fields) → kind_of (codes "metadata") fs ≡ Some (record_of hs) → has b metadata_path ≡ true → (t : Bool)
          → is_empty_object (object (shown_fields hs b metadata_path)) ≡ t → t ≡ false
      by hs is one true h = absurd (not_empty hs is one h)
      by hs is one false h = refl

-- no member that a rooted body shows is an empty `metadata`
pub metadata_stays : (fs : Fields) (b : Body) → IsBodyOf (record_of fs) b → are_ordered fs ≡ true → has_metadata (record_of fs) ≡ true → IsRooted b
    → without_empty_metadata (shown_fields fs b []) ≡ shown_fields fs b []
metadata_stays fs b k ordered has_one rooted =
    let x = record-in (kind_of (codes "metadata") fs) has_one in
    all-kept b fs (each_field (IsKept b) fs ordered (kept fs b k rooted x.0 x.1))
