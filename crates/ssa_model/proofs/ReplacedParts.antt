-- A body with a part in place of what it has at and below a path: what it answers, that it fits and is rooted.
use Rattle.std.proofs.Common.{◌≡◌, inl, inr, List, [], ◌∷◌, ◌++◌, map, Bool, true, false, not, ◌&&◌, ◌||◌, Option, Some, None, refl, sym, ap, subst, ◌∙◌, append_assoc, append-nil}
use Rattle.std.specs.Cmp.{first_so}
use Rattle.std.specs.List.{list_any}
use Rattle.std.specs.Prelude.{is_some}
use Rattle.ssa_model.specs.definitions.Json.{Text, Scalar}
use Rattle.ssa_model.specs.definitions.Path.{Element, field, key, Path, same_element, parent, rest_of, under, is_item_element, is_key_field}
use Rattle.ssa_model.specs.definitions.PathMap.{get, has, paths}
use Rattle.ssa_model.specs.definitions.Kind.{Kind, is_among}
use Rattle.ssa_model.specs.definitions.Body.{Content, leaf, Body, order_at, points, is_point, is_dict, is_leaf, strictly_under}
use Rattle.ssa_model.specs.definitions.Fitting.{IsAt, are_distinct, scalar_of, IsBodyOf}
use Rattle.ssa_model.specs.definitions.Valid.{IsRooted, metadata_path}
use Rattle.ssa_model.specs.laws.FittingRecords.{IsPartOf}
use Rattle.ssa_model.specs.laws.RecordPlaces.{replaced, ReplacedAnswers, PartsFit, ReplacedFits, ReplacedIsRooted}
use Rattle.ssa_model.proofs.PathMaps.{get-map_of, has-paths, has-points, is_one_of}
use Rattle.ssa_model.proofs.PutParts.{where_true, prefixed, one-append, one-later}
use Rattle.ssa_model.proofs.Pruned.{IsClosed, closed-above, from_one, some_one, under-append, under-push, under-rest, under-trans}
use Rattle.ssa_model.proofs.RecordSizes.{begins_parent, rest-under}
use Rattle.ssa_model.proofs.Tests.{by_test}
use Rattle.ssa_model.proofs.FittingBodies.{key-named}
use Rattle.ssa_model.proofs.FittingTells.{parent_above}
use Rattle.ssa_model.proofs.Beginnings.{rest_of-append, rest_of-is}
use Rattle.ssa_model.proofs.TakenBodies.{part-of}
use Rattle.ssa_model.proofs.ValidStates.{in_no_dict, no_leaf, something_below}
use Rattle.ssa_model.proofs.Basics.{none-there as nothing_there, yes_no}

-- ---- answers

module _ (v : Body) (p : Path) (b : Body) where
  abbrev told : Path → Option Content
  told r = elim (rest_of p r) [ None ↦ get v r | Some q ↦ get b q ]

  abbrev within : List Path
  within = paths v ++ map (λ q. p ++ q) (paths b)

  told-within : (r : Path) → is_some (told r) ≡ true → is_one_of within r ≡ true
  told-within r =
      elim (rest_of p r) as (λ o. rest_of p r ≡ o → is_some (elim o [ None ↦ get v r | Some q ↦ get b q ]) ≡ true → is_one_of within r ≡ true) [
        | None ↦ λ none there. one-append (paths v) (map (λ q. p ++ q) (paths b)) r (sym (has-paths v r) ∙ there)
        | Some q ↦ λ is there. one-later (paths v) (map (λ q. p ++ q) (paths b)) r
            (ap (is_one_of (map (λ s. p ++ s) (paths b))) (sym (rest_of-is p r q is)) ∙ prefixed p q (paths b) (sym (has-paths b q) ∙ there))
      ] refl

  get-told : (r : Path) → get (replaced v p b) r ≡ told r
  get-told r =
      get-map_of within told r
      ∙ where_true (is_one_of within r) (told r)
      (λ off. nothing_there (told r) (by_test (is_some (told r)) (λ t. yes_no (is_one_of within r) (told-within r t) off) (λ k. k)))

  -- at and below the path the body with the part has what the part has
  pub get-inside : (q : Path) → get (replaced v p b) (p ++ q) ≡ get b q
  get-inside q = get-told (p ++ q) ∙ ap (λ o. elim o [ None ↦ get v (p ++ q) | Some s ↦ get b s ]) (rest_of-append p q)

  -- elsewhere it has what it had
  pub get-outside : (r : Path) → under p r ≡ false → get (replaced v p b) r ≡ get v r
  get-outside r off = get-told r ∙ ap (λ o. elim o [ None ↦ get v r | Some s ↦ get b s ]) (nothing_there (rest_of p r) (rest-under p r ∙ off))

-- so it answers, path by path
pub replaced_answers : ReplacedAnswers
replaced_answers v p b = (get-inside v p b, get-outside v p b)

-- what a body of the kind has at and below a path may stand there
pub parts_fit : PartsFit
parts_fit kind w p fits there = part-of kind w w fits fits p there

-- ---- the body fits

-- no path is under one that is longer
pub longer : (g : Path) (e : Element) → under (g ++ e ∷ []) g ≡ false
longer [] e = refl
longer (x ∷ g) e = ap (λ t. same_element x x && t) (longer g e) ∙ and-false (same_element x x)
  where
    and-false : (t : Bool) → (t && false) ≡ false
    and-false true = refl
    and-false false = refl

-- a path is outside where one with an element more is
off-parent : (p g : Path) (e : Element) → under p (g ++ e ∷ []) ≡ false → under p g ≡ false
off-parent p g e off = by_test (under p g) (λ t. yes_no (under p (g ++ e ∷ [])) (under-trans p g (g ++ e ∷ []) t (under-append g (e ∷ []))) off) (λ k. k)

-- where the body and the part are closed, so is the body with the part
pub closed-replaced : (v : Body) (p : Path) (b : Body) → IsClosed v → has v p ≡ true → has b [] ≡ true → IsClosed b → IsClosed (replaced v p b)
closed-replaced v p b closed here root part g e one =
    by_test (under p (g ++ e ∷ []))
    (λ u. elim (under-push p g e u) [
      | inl same ↦
          let off : under p g ≡ false = ap (λ q. under q g) same ∙ longer g e in
          ap is_some (get-outside v p b g off) ∙ closed g e (ap (has v) (sym same) ∙ here)
      | inr above ↦
          let rest = under-rest p g above in
          let path : g ++ e ∷ [] ≡ p ++ (rest.0 ++ e ∷ []) = ap (λ s. s ++ e ∷ []) rest.1 ∙ append_assoc p rest.0 (e ∷ []) in
          let child = part rest.0 e (sym (ap is_some (get-inside v p b (rest.0 ++ e ∷ []))) ∙ ap (has (replaced v p b)) (sym path) ∙ one) in
          ap (has (replaced v p b)) rest.1 ∙ ap is_some (get-inside v p b rest.0) ∙ child
    ])
    (λ off. ap is_some (get-outside v p b g (off-parent p g e off)) ∙ closed g e (sym (ap is_some (get-outside v p b (g ++ e ∷ []) off)) ∙ one))

module _ (kind : Kind) (v : Body) (p : Path) (b : Body) (a : IsBodyOf kind v) (here : has v p ≡ true)
    (free : is_key_field p ≡ false) (f : IsPartOf kind p b) where
  abbrev w : Body
  w = replaced v p b

  inside : (r q : Path) → r ≡ p ++ q → get w r ≡ get b q
  inside r q is = ap (get w) is ∙ get-inside v p b q

  outside : (r : Path) → under p r ≡ false → get w r ≡ get v r
  outside r off = get-outside v p b r off

  here-too : has w p ≡ true
  here-too = ap is_some (inside p [] (sym (append-nil p))) ∙ f.root

  closed-there : (g : Path) (e : Element) → has w (g ++ e ∷ []) ≡ true → has w g ≡ true
  closed-there g e one = closed-replaced v p b a.closed here f.root f.closed g e one

  fits-there : (g : Path) (c : Content) → get w g ≡ Some c → IsAt kind g c
  fits-there g c is =
      by_test (under p g)
      (λ u. let rest = under-rest p g u in subst (λ r. IsAt kind r c) (sym rest.1) (f.fits rest.0 c (sym (inside g rest.0 rest.1) ∙ is)))
      (λ off. a.fits g c (sym (outside g off) ∙ is))

  once-there : (g : Path) → are_distinct (order_at (get w g)) ≡ true
  once-there g =
      by_test (under p g)
      (λ u. let rest = under-rest p g u in ap (λ o. are_distinct (order_at o)) (inside g rest.0 rest.1) ∙ f.once rest.0)
      (λ off. ap (λ o. are_distinct (order_at o)) (outside g off) ∙ a.once g)

  keys-there : (g : Path) (ks : List (Text × Scalar)) (n : Text) (s : Scalar) → scalar_of n ks ≡ Some s → has w (g ++ key ks ∷ []) ≡ true
      → get w ((g ++ key ks ∷ []) ++ field n ∷ []) ≡ Some (leaf s)
  keys-there g ks n s found one =
      let item = g ++ key ks ∷ [] in
      let at = item ++ field n ∷ [] in
      by_test (under p at)
      (λ u. elim (under-push p item (field n) u) [
        | inl same ↦ absurd (key-named p g ks n s same found free)
        | inr above ↦
            let rest = under-rest p item above in
            let path : at ≡ p ++ (rest.0 ++ field n ∷ []) = ap (λ q. q ++ field n ∷ []) rest.1 ∙ append_assoc p rest.0 (field n ∷ []) in
            inside at (rest.0 ++ field n ∷ []) path ∙ f.keys rest.0 g ks n s (sym rest.1) found (sym (ap is_some (inside item rest.0 rest.1)) ∙ one)
      ])
      (λ off. outside at off ∙ a.keys g ks n s found (sym (ap is_some (outside item (off-parent p item (field n) off))) ∙ one))

  -- outside, the children of a path are those that it had
  child-there : (g : Path) (e : Element) → under p g ≡ false → has w (g ++ e ∷ []) ≡ has v (g ++ e ∷ [])
  child-there g e off =
      by_test (under p (g ++ e ∷ []))
      (λ u. elim (under-push p g e u) [
        | inl same ↦ ap (has w) (sym same) ∙ here-too ∙ sym here ∙ ap (has v) same
        | inr above ↦ yes_no (under p g) above off
      ])
      (λ k. ap is_some (outside (g ++ e ∷ []) k))

  items-there : (g : Path) (e : Element) → is_among e (order_at (get w g)) ≡ (is_item_element e && has w (g ++ e ∷ []))
  items-there g e =
      by_test (under p g)
      (λ u.
      let rest = under-rest p g u in
      let path : g ++ e ∷ [] ≡ p ++ (rest.0 ++ e ∷ []) = ap (λ s. s ++ e ∷ []) rest.1 ∙ append_assoc p rest.0 (e ∷ []) in
      ap (λ o. is_among e (order_at o)) (inside g rest.0 rest.1) ∙ f.items rest.0 e
      ∙ ap (λ t. is_item_element e && t) (sym (ap is_some (inside (g ++ e ∷ []) (rest.0 ++ e ∷ []) path))))
      (λ off.
      ap (λ o. is_among e (order_at o)) (outside g off) ∙ a.items g e ∙ ap (λ t. is_item_element e && t) (sym (child-there g e off)))

  -- the body with the part is a body of the kind
  pub fits-replaced : IsBodyOf kind w
  fits-replaced = record {
    root = closed-above w closed-there [] p here-too refl;
    closed = closed-there;
    fits = fits-there;
    once = once-there;
    keys = keys-there;
    items = items-there;
  }

-- with what may stand at a path of it, but at no key field, a body of the kind is one again
pub replaced_fits : ReplacedFits
replaced_fits kind v p b a here free f = fits-replaced kind v p b a here free f

-- ---- the body is rooted

module _ (v : Body) (p : Path) (b : Body) (rooted : IsRooted v) (here : has v p ≡ true) (part : has b [] ≡ true) (off : under p metadata_path ≡ false) where
  abbrev new : Body
  new = replaced v p b

  off-root : under p [] ≡ false
  off-root = by_test (under p []) (λ t. yes_no (under p metadata_path) (under-trans p [] metadata_path t refl) off) (λ k. k)

  new-here : has new p ≡ true
  new-here = ap (has new) (sym (append-nil p)) ∙ ap is_some (get-inside v p b []) ∙ part

  -- where something was strictly under `metadata`, something is
  still-below : (x : Path) → has v x ≡ true → strictly_under metadata_path x ≡ true → list_any (strictly_under metadata_path) (paths new) ≡ true
  still-below x there strict =
      let below = first_so (under metadata_path x) (not (under x metadata_path)) strict in
      by_test (under p x)
      (λ u. elim (begins_parent p metadata_path x u below) [
        | inl same ↦ yes_no (under p metadata_path) (ap (under p) (sym same) ∙ itself p) off
        | inr z ↦ elim z [
          | inl up ↦ yes_no (under p []) up off-root
          | inr up ↦
              let above = under-trans metadata_path (parent p) p up (parent_above p) in
              from_one (strictly_under metadata_path) (paths new) p (sym (has-paths new p) ∙ new-here) (λ i. above i && not (off i))
        ]
      ])
      (λ k. from_one (strictly_under metadata_path) (paths new) x (sym (has-paths new x) ∙ ap is_some (get-outside v p b x k) ∙ there) strict)
    where
      itself : (q : Path) → under q q ≡ true
      itself q = ap (under q) (sym (append-nil q)) ∙ under-append q []

  no-point : has (points new) metadata_path ≡ false
  no-point =
      let same = get-outside v p b metadata_path off in
      by_test (has v metadata_path)
      (λ t.
      let x = some_one (strictly_under metadata_path) (paths v) (something_below v rooted t) in
      let below = still-below x.0 (has-paths v x.0 ∙ x.1) x.2 in
      let leaf_no = ap is_leaf same ∙ no_leaf v rooted in
      let dict_no = ap is_dict (get-outside v p b [] off-root) ∙ in_no_dict v rooted t in
      has-points new metadata_path ∙ (λ i. (ap is_some same ∙ t) i && (leaf_no i || (dict_no i || not (below i)))))
      (λ k. has-points new metadata_path ∙ (λ i. (ap is_some same ∙ k) i && is_point new metadata_path))

  -- the body with the part is rooted
  pub rooted-replaced : IsRooted new
  rooted-replaced = record { root = get-outside v p b [] off-root ∙ rooted.root; metadata = no-point }

-- a rooted body is rooted again with a part that has a root, at a path that is neither the root nor `metadata`
pub replaced_is_rooted : ReplacedIsRooted
replaced_is_rooted v p b rooted here part off = rooted-replaced v p b rooted here part off
