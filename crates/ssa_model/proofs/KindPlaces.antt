-- At a place of a kind: what may stand there, that a valid body stays valid, and what is read of the value there.
use Rattle.std.proofs.Common.{◌≡◌, inl, inr, List, [], ◌∷◌, ◌++◌, Bool, true, false, Option, Some, None, refl, sym, ap, ◌∙◌, true≢false, append_assoc, append-nil}
use Rattle.std.proofs.lemmas.Option.{none-some, same_Some}
use Rattle.ssa_model.specs.definitions.Json.{Text, Scalar}
use Rattle.ssa_model.specs.definitions.Path.{field, key, Path, last_element}
use Rattle.ssa_model.specs.definitions.PathMap.{get, has, from_entries}
use Rattle.ssa_model.specs.definitions.Kind.{Kind, items_of}
use Rattle.ssa_model.specs.definitions.Body.{leaf, Body, places}
use Rattle.ssa_model.specs.definitions.Fitting.{Place, of_kind, item_of, value_of, place_below, place_at, are_keys, scalar_of, IsBodyOf}
use Rattle.ssa_model.specs.laws.FittingRecords.{IsPartOf}
use Rattle.ssa_model.specs.laws.RecordPlaces.{KindsFit, PlaceIsValid, PlaceIsRead}
use Rattle.ssa_model.proofs.Beginnings.{last-push}
use Rattle.ssa_model.proofs.FittingTells.{split_last}
use Rattle.ssa_model.proofs.KindParts.{each_kind}
use Rattle.ssa_model.proofs.PartsBack.{lawful-at, lawful-kind, part-back}
use Rattle.ssa_model.proofs.PartValues.{part_is_value}
use Rattle.ssa_model.proofs.Places.{if-some}
use Rattle.ssa_model.proofs.ReplacedParts.{replaced_fits, replaced_is_rooted}
use Rattle.ssa_model.proofs.ShownFits.{Fits, all_fit}

-- ---- places

-- the place at a path behind another
pub place-on : (p s : Path) (q r : Place) → place_at q p ≡ Some r → place_at q (p ++ s) ≡ place_at r s
place-on [] s q r is = ap (λ x. place_at x s) (same_Some q r is)
place-on (e ∷ p) s q r is =
    elim (place_below q e) as (λ o. ◌≡◌ {A = Option Place} (elim o [ None ↦ None | Some x ↦ place_at x p ]) (Some r)
    → ◌≡◌ {A = Option Place} (elim o [ None ↦ None | Some x ↦ place_at x (p ++ s) ]) (place_at r s)) [
      | None ↦ λ none. absurd (none-some r none)
      | Some x ↦ λ found. place-on p s x r found
    ] is

abbrev is_kind_place : Place → Bool
is_kind_place (of_kind k) = true
is_kind_place (item_of ns fs) = false
is_kind_place (value_of s) = false

-- an item of a map list is at no place of a kind
pub below-key : (q : Place) (ks : List (Text × Scalar)) (k : Kind) → place_below q (key ks) ≡ Some (of_kind k) → ⊥
below-key (of_kind (items_of ns fs)) ks k h = true≢false (sym (ap is_kind_place (if-some (are_keys ns fs ks) (item_of ns fs) (of_kind k) h).1))
below-key _ ks k h = none-some (of_kind k) h

no-key : (g : Path) (q : Place) (ks : List (Text × Scalar)) (k : Kind) → place_at q (g ++ key ks ∷ []) ≡ Some (of_kind k) → ⊥
no-key [] q ks k h =
    elim (place_below q (key ks)) as (λ o. place_below q (key ks) ≡ o
    → ◌≡◌ {A = Option Place} (elim o [ None ↦ None | Some x ↦ Some x ]) (Some (of_kind k)) → ⊥) [
      | None ↦ λ is none. none-some (of_kind k) none
      | Some x ↦ λ is found. below-key q ks k (is ∙ found)
    ] refl h
no-key (e ∷ g) q ks k h =
    elim (place_below q e) as (λ o. ◌≡◌ {A = Option Place} (elim o [ None ↦ None | Some x ↦ place_at x (g ++ key ks ∷ []) ]) (Some (of_kind k)) → ⊥) [
      | None ↦ λ none. none-some (of_kind k) none
      | Some x ↦ λ found. no-key g x ks k found
    ] h

-- ---- what may stand there

module _ (kind k : Kind) (p : Path) (b : Body) (at : place_at (of_kind kind) p ≡ Some (of_kind k)) (h : IsBodyOf k b) where
  keys-there : (q g : Path) (ks : List (Text × Scalar)) (n : Text) (s : Scalar) → p ++ q ≡ g ++ key ks ∷ [] → scalar_of n ks ≡ Some s → has b q ≡ true
      → get b (q ++ field n ∷ []) ≡ Some (leaf s)
  keys-there q g ks n s path found one =
      elim (split_last q) [
        | inl root ↦ absurd (no-key g (of_kind kind) ks k (ap (place_at (of_kind kind)) (sym path ∙ ap (λ r. p ++ r) root ∙ append-nil p) ∙ at))
        | inr x ↦
            let longer : (p ++ x.0) ++ x.1.0 ∷ [] ≡ g ++ key ks ∷ [] = append_assoc p x.0 (x.1.0 ∷ []) ∙ ap (λ r. p ++ r) (sym x.1.1) ∙ path in
            let last : x.1.0 ≡ key ks = same_Some x.1.0 (key ks) (sym (last-push (p ++ x.0) x.1.0) ∙ ap last_element longer ∙ last-push g (key ks)) in
            let item : q ≡ x.0 ++ key ks ∷ [] = x.1.1 ∙ ap (λ e. x.0 ++ e ∷ []) last in
            ap (λ r. get b (r ++ field n ∷ [])) item ∙ h.keys x.0 ks n s found (ap (has b) (sym item) ∙ one)
      ]

  -- a body of the kind of this place may stand there
  pub part-there : IsPartOf kind p b
  part-there = record {
    root = h.root;
    closed = h.closed;
    fits = λ q c is. let own = h.fits q c is in record { place = own.place; there = place-on p q (of_kind kind) (of_kind k) at ∙ own.there; fits = own.fits };
    once = h.once;
    keys = keys-there;
    items = h.items;
  }

-- so wherever a kind has a place of a kind: a body of that kind may stand there
pub kinds_fit : KindsFit
kinds_fit kind k p b at h = part-there kind k p b at h

-- with a body of its kind at a place off the root, `metadata` and key fields, a valid body that stays small is valid again
pub place_is_valid : PlaceIsValid
place_is_valid kind k v b p valid at here free off h few = record {
  fits = replaced_fits kind v p b valid.fits here free (part-there kind k p b at h);
  rooted = replaced_is_rooted v p b valid.rooted here h.root off;
  few = few;
}

-- ---- what is read there

-- the value that a body has at a place of a kind has no fault under that kind, and its places are what the body has there
pub place_is_read : PlaceIsRead
place_is_read kind k w p lawful h at here =
    let own = lawful-at p (of_kind kind) (of_kind k) (lawful-kind kind lawful) at in (
      each_kind (Fits kind w h) (all_fit kind w h) k own.0 own.1 p [] at here,
      ap (λ v. from_entries (places k v [])) (sym (part_is_value (of_kind k) w p)) ∙ part-back kind w h (of_kind k) p own at here,
    )
