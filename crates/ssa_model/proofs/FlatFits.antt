-- The flattening of a value without faults that names no member of a place twice fits its kind place by place.
use Rattle.std.proofs.Common.{◌≡◌, List, [], ◌∷◌, ◌++◌, Bool, true, false, ◌&&◌, Option, Some, None, refl, sym, ap, ◌∙◌, true≢false}
use Rattle.std.proofs.lemmas.Option.{same_Some, none-some}
use Rattle.std.specs.Prelude.{is_some, if◌then◌else◌, option_and_then, codes}
use Rattle.std.specs.Cmp.{first_so, second_so}
use Rattle.ssa_model.specs.definitions.Json.{Text, Scalar, Json, scalar, list, object, Members, no_members, member, member_of, same_text}
use Rattle.ssa_model.specs.definitions.Path.{Element, field, key, Path, is_item_element}
use Rattle.ssa_model.specs.definitions.PathMap.{get, has}
use Rattle.ssa_model.specs.definitions.Kind.{Kind, Fields, record_of, is_among, kind_of, faults, field_faults}
use Rattle.ssa_model.specs.definitions.Body.{Content, leaf, Body, order_at, places, is_empty_object, without_empty_metadata, flat}
use Rattle.ssa_model.specs.definitions.Fitting.{Place, of_kind, content_fits, IsAt, are_distinct, scalar_of, IsBodyOf}
use Rattle.ssa_model.specs.definitions.Objects.{is_missing}
use Rattle.ssa_model.specs.definitions.Lawful.{is_lawful}
use Rattle.ssa_model.specs.laws.Faultless.{Fits, FieldsFit}
use Rattle.ssa_model.specs.definitions.MemberNames.{has_distinct_names, are_distinct_members}
use Rattle.ssa_model.specs.laws.FlatBodies.{FlatFits}
use Rattle.ssa_model.proofs.Faults.{cons≢nil}
use Rattle.ssa_model.proofs.FaultlessParts.{member-join}
use Rattle.ssa_model.proofs.NamesOnce.{names_once, fields_once, field_once, distinct-once}
use Rattle.ssa_model.proofs.PathMaps.{get-from_entries}
use Rattle.ssa_model.proofs.Reaching.{Standing, level, reached, reached-push, content_at, FitsAt}
use Rattle.ssa_model.proofs.ReachedFits.{fits-below, fits-reached, HasContent, own-content, order-distinct, order-level, key-leaf, and-no}
use Rattle.ssa_model.proofs.ReachedPlaces.{value-told}

-- ---- bodies that have what is reached

-- what stands above what stands
above-one : (o : Option Standing) (e : Element) (x : Standing) → option_and_then (λ y. level y.0 y.1 e) o ≡ Some x → (y : Standing)
    × ((o ≡ Some y) × (level y.0 y.1 e ≡ Some x))
above-one None e x h = absurd (none-some x h)
above-one (Some y) e x h = (y, (refl, h))

-- what has a content stands
standing : (o : Option Standing) → is_some (content_at o) ≡ true → (x : Standing) × (o ≡ Some x)
standing None h = absurd (true≢false (sym h))
standing (Some x) h = (x, refl)

module _ (kind : Kind) (v : Json) (fits : Fits kind v) (b : Body) (tells : (p : Path) → get b p ≡ content_at (reached (of_kind kind) v p)) where
  abbrev at : Path → Option Standing
  at p = reached (of_kind kind) v p

  has-at : (p : Path) → has b p ≡ is_some (content_at (at p))
  has-at p = ap is_some (tells p)

  stands-at : (p : Path) → has b p ≡ true → (x : Standing) × (at p ≡ Some x)
  stands-at p one = standing (at p) (sym (has-at p) ∙ one)

  content-there : (p : Path) (x : Standing) → at p ≡ Some x → HasContent x.0 x.1
  content-there p x there = own-content x.0 x.1 (fits-reached p (of_kind kind) v x fits there).1

  there-has : (p : Path) (x : Standing) → at p ≡ Some x → has b p ≡ true
  there-has p x there = has-at p ∙ ap (λ o. is_some (content_at o)) there ∙ ap is_some (content-there p x there).is_own

  parent-at : (p : Path) (e : Element) → has b (p ++ e ∷ []) ≡ true → (y : Standing) × (at p ≡ Some y)
  parent-at p e one =
      let x = stands-at (p ++ e ∷ []) one in
      let y = above-one (at p) e x.0 (sym (reached-push p (of_kind kind) v e) ∙ x.1) in
      (y.0, y.1.0)

  at-place : (p : Path) (c : Content) → get b p ≡ Some c → IsAt kind p c
  at-place p c is =
      let x = stands-at p (ap is_some is) in
      let own = content-there p x.0 x.1 in
      let same = same_Some own.own c (sym own.is_own ∙ ap content_at (sym x.1) ∙ sym (tells p) ∙ is) in
      record { place = x.0.0; there = (fits-reached p (of_kind kind) v x.0 fits x.1).0; fits = ap (content_fits x.0.0) (sym same) ∙ own.fits }

  once-at : (p : Path) → are_distinct (order_at (get b p)) ≡ true
  once-at p =
      ap (λ o. are_distinct (order_at o)) (tells p)
      ∙ elim (at p) as (λ o. at p ≡ o → are_distinct (order_at (content_at o)) ≡ true)
      [ None ↦ λ _. refl | Some x ↦ λ there. order-distinct x.0 x.1 (fits-reached p (of_kind kind) v x fits there).1 ] refl

  key-at : (p : Path) (ks : List (Text × Scalar)) (n : Text) (s : Scalar) → scalar_of n ks ≡ Some s → has b (p ++ key ks ∷ []) ≡ true
      → get b ((p ++ key ks ∷ []) ++ field n ∷ []) ≡ Some (leaf s)
  key-at p ks n s found one =
      let x = stands-at (p ++ key ks ∷ []) one in
      let y = above-one (at p) (key ks) x.0 (sym (reached-push p (of_kind kind) v (key ks)) ∙ x.1) in
      let fit = (fits-reached p (of_kind kind) v y.0 fits y.1.0).1 in
      tells ((p ++ key ks ∷ []) ++ field n ∷ [])
      ∙ ap content_at (reached-push (p ++ key ks ∷ []) (of_kind kind) v (field n) ∙ ap (option_and_then (λ z. level z.0 z.1 (field n))) x.1)
      ∙ key-leaf y.0.0 y.0.1 ks x.0 n s fit y.1.1 found

  has-content : (q : Place) (w : Json) (e : Element) → FitsAt q w → is_some (level q w e) ≡ is_some (content_at (level q w e))
  has-content q w e fit =
      elim (level q w e) as (λ o. level q w e ≡ o → is_some o ≡ is_some (content_at o))
      [ None ↦ λ _. refl | Some x ↦ λ there. sym (ap is_some (own-content x.0 x.1 (fits-below q w e x fit there).1).is_own) ] refl

  items-at : (p : Path) (e : Element) → is_among e (order_at (get b p)) ≡ (is_item_element e && has b (p ++ e ∷ []))
  items-at p e =
      ap (λ o. is_among e (order_at o)) (tells p)
      ∙ elim (at p) as (λ o. at p ≡ o → is_among e (order_at (content_at o))
      ≡ (is_item_element e && is_some (content_at (option_and_then (λ y. level y.0 y.1 e) o)))) [
        | None ↦ λ _. and-no (is_item_element e)
        | Some x ↦ λ there. order-level x.0 x.1 e ∙ ap (λ t. is_item_element e && t) (has-content x.0 x.1 e (fits-reached p (of_kind kind) v x fits there).1)
      ] refl
      ∙ ap (λ t. is_item_element e && t) (sym (has-at (p ++ e ∷ []) ∙ ap (λ o. is_some (content_at o)) (reached-push p (of_kind kind) v e)))

  -- a body that has just what is reached in a fitting value is a body of the kind
  pub body-reached : IsBodyOf kind b
  body-reached = record {
    root = there-has [] (of_kind kind, v) refl;
    closed = λ p e one. let y = parent-at p e one in there-has p y.0 y.1;
    fits = at-place;
    once = once-at;
    keys = key-at;
    items = items-at;
  }

-- ---- without an empty `metadata`

-- the member is an empty `metadata`, which the flattening leaves out
abbrev pub is_left_out : Text → Json → Bool
is_left_out n v = same_text n (codes "metadata") && is_empty_object v

if-fits : (b : Bool) (fs : Fields) (p : Path) (ms ns : Members) → field_faults fs ms p ≡ [] → field_faults fs ns p ≡ []
    → field_faults fs (if b then ms else ns) p ≡ []
if-fits true fs p ms ns e f = e
if-fits false fs p ms ns e f = f

left-fits : (fs : Fields) (ms : Members) (p : Path) → field_faults fs ms p ≡ [] → field_faults fs (without_empty_metadata ms) p ≡ []
left-fits fs no_members p e = refl
left-fits fs (member n v ms) p e =
    let others = member-join fs n v ms p e in
    if-fits (is_left_out n v) fs p ms (member n v (without_empty_metadata ms)) others.0 (others.1 (without_empty_metadata ms) (left-fits fs ms p others.0))

-- members without faults have none where an empty `metadata` is left out
pub without-fits : (fs : Fields) (ms : Members) → FieldsFit fs ms → FieldsFit fs (without_empty_metadata ms)
without-fits fs ms h = (h.0, left-fits fs ms h.0 h.1)

-- a name that is missing stays so
pub left-missing : (n : Text) (ms : Members) → is_missing (member_of n ms) ≡ true → is_missing (member_of n (without_empty_metadata ms)) ≡ true
left-missing n no_members h = refl
left-missing n (member m v ms) h =
    elim (same_text n m) as (λ t. same_text n m ≡ t → is_missing (if t then Some v else member_of n ms) ≡ true
    → is_missing (member_of n (if is_left_out m v then ms else member m v (without_empty_metadata ms))) ≡ true) [
      | true ↦ λ t h. absurd (true≢false (sym h))
      | false ↦ λ t h. by t h (left-missing n ms h) (is_left_out m v)
    ] refl h
  where
    by : same_text n m ≡ false → is_missing (member_of n ms) ≡ true → is_missing (member_of n (without_empty_metadata ms)) ≡ true → (b : Bool)
        → is_missing (member_of n (if b then ms else member m v (without_empty_metadata ms))) ≡ true
    by t h later true = h
    by t h later false = ap (λ s. is_missing (if s then Some v else member_of n (without_empty_metadata ms))) t ∙ later

-- members that name none twice name none twice where an empty `metadata` is left out
pub left-distinct : (ms : Members) → are_distinct_members ms ≡ true → are_distinct_members (without_empty_metadata ms) ≡ true
left-distinct no_members h = refl
left-distinct (member n v ms) h =
    elim (is_left_out n v) as (λ b. are_distinct_members (if b then ms else member n v (without_empty_metadata ms)) ≡ true) [
      | true ↦ second_so (has_distinct_names v) _ later
      | false ↦ (λ i. left-missing n ms (first_so _ _ h) i && (first_so (has_distinct_names v) _ later i
          && left-distinct ms (second_so (has_distinct_names v) _ later) i))
    ]
  where
    later : (has_distinct_names v && are_distinct_members ms) ≡ true
    later = second_so (is_missing (member_of n ms)) _ h

-- and so it is where the fields alone are asked, which have places for members
pub left-once : (fs : Fields) (ms : Members) → fields_once fs ms ≡ true → fields_once fs (without_empty_metadata ms) ≡ true
left-once fs no_members h = refl
left-once fs (member n v ms) h =
    elim (is_left_out n v) as (λ b. fields_once fs (if b then ms else member n v (without_empty_metadata ms)) ≡ true) [
      | true ↦ second_so (field_once (kind_of n fs) v) _ later
      | false ↦ (λ i. left-missing n ms (first_so _ _ h) i
          && (first_so (field_once (kind_of n fs) v) _ later i && left-once fs ms (second_so (field_once (kind_of n fs) v) _ later) i))
    ]
  where
    later : (field_once (kind_of n fs) v && fields_once fs ms) ≡ true
    later = second_so (is_missing (member_of n ms)) _ h

-- ---- the law

-- the body of an object has what is reached in what is left of it
pub flat-tells : (fs : Fields) (ms : Members) → FieldsFit fs ms → fields_once fs ms ≡ true
    → (p : Path) → get (flat (record_of fs) (object ms)) p ≡ content_at (reached (of_kind (record_of fs)) (object (without_empty_metadata ms)) p)
flat-tells fs ms fits once p =
    get-from_entries (places (record_of fs) (object (without_empty_metadata ms)) []) p
    ∙ value-told (record_of fs) (object (without_empty_metadata ms)) [] (without-fits fs ms fits) (left-once fs ms once) p

-- no member of a place is named twice
pub once_fits : (kind : Kind) (v : Json) → is_lawful kind ≡ true → names_once kind v ≡ true → faults kind v [] ≡ [] → IsBodyOf kind (flat kind v)
once_fits (record_of fs) (object ms) lawful once fits =
    body-reached (record_of fs) (object (without_empty_metadata ms)) (without-fits fs ms ([], fits)) (flat (record_of fs) (object ms))
    (flat-tells fs ms ([], fits) once)
once_fits (record_of fs) (scalar s) lawful once fits = absurd (cons≢nil fits)
once_fits (record_of fs) (list vs) lawful once fits = absurd (cons≢nil fits)
once_fits _ v lawful once fits = absurd (true≢false (sym lawful))

-- under a lawful kind, the flattening of a value without faults that names no member twice is a body of the kind
pub flat_fits : FlatFits
flat_fits kind v lawful apart fits = once_fits kind v lawful (distinct-once kind v apart) fits
