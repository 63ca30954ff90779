-- The flattening of a value without faults that names no member of a place twice is rooted.
use Rattle.std.proofs.Common.{◌≡◌, [], ◌∷◌, true, false, not, ◌&&◌, ◌||◌, Option, Some, None, option_map, refl, sym, ap, subst, ◌∙◌, true≢false}
use Rattle.std.proofs.lemmas.Option.{same_Some, none-some}
use Rattle.std.specs.Prelude.{is_some, if◌then◌else◌, option_and_then, codes}
use Rattle.std.specs.List.{list_any}
use Rattle.std.specs.Cmp.{first_so, second_so}
use Rattle.ssa_model.specs.definitions.Json.{Text, Json, scalar, list, object, Members, no_members, member, member_of, same_text}
use Rattle.ssa_model.specs.definitions.Path.{field, Path}
use Rattle.ssa_model.specs.definitions.PathMap.{get, has, paths}
use Rattle.ssa_model.specs.definitions.Kind.{Kind, Fields, record_of, kind_of, faults}
use Rattle.ssa_model.specs.definitions.Body.{Body, Content, record_branch, is_empty_object, without_empty_metadata, is_leaf, is_dict, is_point, points, strictly_under, flat}
use Rattle.ssa_model.specs.definitions.Fitting.{of_kind}
use Rattle.ssa_model.specs.definitions.Lawful.{is_root_kind, is_ordered, has_metadata, is_lawful}
use Rattle.ssa_model.specs.definitions.Objects.{is_missing}
use Rattle.ssa_model.specs.definitions.Valid.{IsRooted, metadata_path}
use Rattle.ssa_model.specs.laws.Faultless.{Fits, FieldsFit}
use Rattle.ssa_model.specs.laws.FlatBodies.{FlatIsRooted}
use Rattle.ssa_model.proofs.EmptyMetadata.{record-in}
use Rattle.ssa_model.proofs.Faults.{cons≢nil}
use Rattle.ssa_model.proofs.FaultlessParts.{member-first}
use Rattle.ssa_model.proofs.FlatFits.{is_left_out, without-fits, flat-tells}
use Rattle.ssa_model.proofs.NamesOnce.{names_once, fields_once, field_once, distinct-once}
use Rattle.ssa_model.proofs.PathMaps.{has-paths, has-points}
use Rattle.ssa_model.proofs.Pruned.{from_one}
use Rattle.ssa_model.proofs.Reaching.{Standing, level, reached, content_of, content_at, reached_one, found-field}
use Rattle.ssa_model.proofs.ReachedFits.{own-content}
use Rattle.ssa_model.proofs.ReachedPlaces.{missing}
use Rattle.ssa_model.proofs.Tables.{apart_by, same_text-true, text-itself}
use Rattle.ssa_model.proofs.Basics.{yes_no}

abbrev metadata : Text
metadata = codes "metadata"

-- ---- the `metadata` that is left is not empty

left_whole : (n : Text) (v w : Json) (ms : Members) → is_left_out n v ≡ false → same_text metadata n ≡ true → v ≡ w → is_empty_object w ≡ false
left_whole n v w ms kept same is =
    ap is_empty_object (sym is) ∙ ap (λ t. t && is_empty_object v)
    (sym (ap (λ m. same_text m metadata) (sym (same_text-true metadata n same)) ∙ text-itself metadata)) ∙ kept

left-some : (fs : Fields) (ms : Members) (w : Json) → fields_once fs ms ≡ true
    → member_of metadata (without_empty_metadata ms) ≡ Some w → is_empty_object w ≡ false
left-some fs no_members w once found = absurd (none-some w found)
left-some fs (member n v ms) w once found =
    elim (is_left_out n v) as (λ b. is_left_out n v ≡ b → member_of metadata (if b then ms else member n v (without_empty_metadata ms)) ≡ Some w
    → is_empty_object w ≡ false) [
      | true ↦ λ out found.
          let name = same_text-true n metadata (first_so (same_text n metadata) (is_empty_object v) out) in
          absurd (none-some w (sym (ap (λ m. member_of m ms) (sym name) ∙ missing (member_of n ms) (first_so _ _ once)) ∙ found))
      | false ↦ λ kept found.
          elim (same_text metadata n) as (λ t. same_text metadata n ≡ t → (if t then Some v else member_of metadata (without_empty_metadata ms)) ≡ Some w
          → is_empty_object w ≡ false) [
            | true ↦ λ same found. left_whole n v w ms kept same (same_Some v w found)
            | false ↦ λ same found. left-some fs ms w (second_so (field_once (kind_of n fs) v) _ (second_so (is_missing (member_of n ms)) _ once)) found
          ] refl found
    ] refl found

-- ---- something stands below it

-- a value with fields, and something below it
record HasField (fs : Fields) (v : Json) : Type 0 where
  name : Text
  here : content_of (of_kind (record_of fs)) v ≡ Some record_branch
  below : is_some (content_at (level (of_kind (record_of fs)) v (field name))) ≡ true

has-field : (fs : Fields) (v : Json) → Fits (record_of fs) v → is_empty_object v ≡ false → HasField fs v
has-field fs (scalar s) fits some = absurd (cons≢nil fits.1)
has-field fs (list vs) fits some = absurd (cons≢nil fits.1)
has-field fs (object no_members) fits some = absurd (true≢false some)
has-field fs (object (member n v ms)) fits some =
    let fit = member-first fs n v ms fits in
    let there : level (of_kind (record_of fs)) (object (member n v ms)) (field n) ≡ Some (of_kind fit.0, v) =
    ap (λ t. option_and_then (λ w. option_map (λ k. (of_kind k, w)) (kind_of n fs)) (if t then Some v else member_of n ms)) (text-itself n)
    ∙ ap (option_map (λ k. (of_kind k, v))) fit.1.0 in
    record { name = n; here = refl; below = ap (λ o. is_some (content_at o)) there ∙ ap is_some (own-content (of_kind fit.0) v fit.1.1).is_own }

-- the member of a field
abbrev standing_member : Option Kind → Option Json → Option Standing
standing_member k v = option_and_then (λ w. option_map (λ j. (of_kind j, w)) k) v

abbrev content_from : Path → Option Standing → Option Content
content_from p o = content_at (option_and_then (λ (x : Standing). reached x.0 x.1 p) o)

module _ (fs : Fields) (ms : Members) (fits : FieldsFit fs ms) (once : fields_once fs ms ≡ true)
    (hs : Fields) (is : kind_of (codes "metadata") fs ≡ Some (record_of hs)) where
  abbrev body : Body
  body = flat (record_of fs) (object ms)

  abbrev left : Members
  left = without_empty_metadata ms

  root_is : get body [] ≡ Some record_branch
  root_is = flat-tells fs ms fits once []

  metadata_member : has body metadata_path ≡ true → (v : Json) × (member_of (codes "metadata") left ≡ Some v)
  metadata_member one =
      elim (member_of (codes "metadata") left) as (λ o. is_some (content_from [] (standing_member (kind_of (codes "metadata") fs) o)) ≡ true → (v : Json)
      × (o ≡ Some v)) [
        | None ↦ λ one. absurd (true≢false (sym one))
        | Some v ↦ λ _. (v, refl)
      ] (sym (ap is_some (flat-tells fs ms fits once metadata_path)) ∙ one)

  -- what stands from the member on
  from_member : (v : Json) (p : Path) → member_of (codes "metadata") left ≡ Some v
      → get body (field (codes "metadata") ∷ p) ≡ content_at (reached (of_kind (record_of hs)) v p)
  from_member v p found =
      flat-tells fs ms fits once (field (codes "metadata") ∷ p) ∙ (λ i. content_from p (standing_member (is i) (found i)))

  member_fits : (v : Json) → member_of (codes "metadata") left ≡ Some v → HasField hs v
  member_fits v found =
      let fit = found-field fs left (codes "metadata") v (without-fits fs ms fits) found in
      has-field hs v (subst (λ k. Fits k v) (same_Some fit.0 (record_of hs) (sym fit.1.0 ∙ is)) fit.1.1) (left-some fs ms v once found)

  no_point : has body metadata_path ≡ true → is_point body metadata_path ≡ false
  no_point one =
      let v = metadata_member one in
      let own = member_fits v.0 v.1 in
      let low : Path = field (codes "metadata") ∷ field own.name ∷ [] in
      let there : has body low ≡ true = ap is_some (from_member v.0 (field own.name ∷ []) v.1
      ∙ ap content_at (reached_one (level (of_kind (record_of hs)) v.0 (field own.name)))) ∙ own.below in
      let some : list_any (strictly_under metadata_path) (paths body) ≡ true =
      from_one (strictly_under metadata_path) (paths body) low (sym (has-paths body low) ∙ there) refl in
      let here : get body metadata_path ≡ Some record_branch = from_member v.0 [] v.1 ∙ own.here in
      λ i. is_leaf (here i) || (is_dict (root_is i) || not (some i))

  body_rooted : IsRooted body
  body_rooted = record {
    root = root_is;
    metadata = apart_by (has (points body) metadata_path) (λ t.
        let both = sym (has-points body metadata_path) ∙ t in
        yes_no (is_point body metadata_path) (second_so (has body metadata_path) _ both) (no_point (first_so _ (is_point body metadata_path) both)));
  }

-- no member of a place is named twice
pub once_is_rooted : (kind : Kind) (v : Json) → is_lawful kind ≡ true → names_once kind v ≡ true → faults kind v [] ≡ [] → IsRooted (flat kind v)
once_is_rooted (record_of fs) (object ms) lawful once fits =
    let own = record-in (kind_of (codes "metadata") fs) (second_so (is_ordered (record_of fs)) (has_metadata (record_of fs))
    (second_so (is_root_kind (record_of fs)) _ lawful)) in
    body_rooted fs ms ([], fits) once own.0 own.1
once_is_rooted (record_of fs) (scalar s) lawful once fits = absurd (cons≢nil fits)
once_is_rooted (record_of fs) (list vs) lawful once fits = absurd (cons≢nil fits)
once_is_rooted _ v lawful once fits = absurd (true≢false (sym lawful))

-- under a lawful kind, the flattening of a value without faults that names no member twice is rooted
pub flat_is_rooted : FlatIsRooted
flat_is_rooted kind v lawful apart fits = once_is_rooted kind v lawful (distinct-once kind v apart) fits
