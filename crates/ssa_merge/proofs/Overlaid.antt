-- A body over another: its places and its parts are told by its places, as those of the two are.
use Rattle.std.proofs.Common.{◌≡◌, List, [], ◌∷◌, ◌++◌, Bool, true, false, not, ◌&&◌, ◌||◌, inl, inr, refl, sym, ap, ◌∙◌, true≢false}
use Rattle.std.specs.Cmp.{both_ways, first_so}
use Rattle.std.specs.Prelude.{option_map, is_some, if◌then◌else◌, Option, Some, None}
use Rattle.ssa_model.specs.definitions.Path.{Element, Path, is_root, same_element, same_path, under}
use Rattle.ssa_model.specs.definitions.PathMap.{PathSet, empty, get, has, has_at_or_below, insert}
use Rattle.ssa_model.specs.definitions.Kind.{is_among}
use Rattle.ssa_model.specs.definitions.Body as model
use Rattle.ssa_model.specs.definitions.Body.{Content, leaf, atom, record_branch, dict_branch, list_branch, is_point, joined, order_at, over, over_content, points, restricted, restricted_content}
use Rattle.ssa_model.proofs.Basics.{or_true, yes_no}
use Rattle.ssa_model.proofs.Fitting.{among-filter, among-joined}
use Rattle.ssa_model.proofs.PathMaps.{get-over, get-restricted, has-insert, has-points, same_map, same_path-itself, same_path-true}
use Rattle.ssa_model.proofs.Pruned.{not_root, order-restricted, under-push}
use Rattle.ssa_model.proofs.Tables.{either, has-over, true_or, under-itself}
use Rattle.ssa_model.proofs.Tests.{same_tests}
use Rattle.ssa_typed.specs.Reached.{PartsAreOfPlaces, PointsTellPlaces}
use Rattle.ssa_typed.proofs.Reached.{reached, same-content}
use Rattle.ssa_typed.proofs.LostPlaces.{below-one}
use Rattle.ssa_merge.proofs.HeldAbove.{one-below}
use Rattle.ssa_merge.proofs.ToldApart.{place-above}

-- the items of each list of the body are places of it
abbrev pub ItemsAreThere : model.Body → Type 0
ItemsAreThere b = (p : Path) (e : Element) → is_among e (order_at (get b p)) ≡ true → has b (p ++ e ∷ []) ≡ true

-- ---- items of lists

not-above : (p : Path) (e : Element) → under (p ++ e ∷ []) p ≡ true → ⊥
not-above [] e u = true≢false (sym u)
not-above (f ∷ p) e u = not-above p e (second f (under (p ++ e ∷ []) p) u)
  where
    second : (f : Element) (b : Bool) → (same_element f f && b) ≡ true → b ≡ true
    second f b h = elim (same_element f f) as (λ s. (s && b) ≡ true → b ≡ true) [ true ↦ λ k. k | false ↦ λ k. absurd (true≢false (sym k)) ] h

-- an item is left where its list and it stay
among-part : (b : model.Body) (stays : Path → Bool) (p : Path) (e : Element) → stays p ≡ true
    → is_among e (order_at (get (restricted b stays) p)) ≡ (is_among e (order_at (get b p)) && stays (p ++ e ∷ []))
among-part b stays p e here =
    ap (λ o. is_among e (order_at o)) (get-restricted b stays p ∙ ap (λ t. if t then option_map (restricted_content stays p) (get b p) else None) here)
    ∙ ap (is_among e) (order-restricted stays p (get b p))
    ∙ among-filter (λ d. stays (p ++ d ∷ [])) (order_at (get b p)) e

module _ (b : model.Body) (law : PartsAreOfPlaces b) (p : Path) (e : Element) where
  abbrev none : PathSet
  none = empty

  abbrev here : PathSet
  here = insert p tt none

  abbrev with_item : PathSet
  with_item = insert (p ++ e ∷ []) tt here

  has-here : has here p ≡ true
  has-here = has-insert p none p ∙ true_or (same_path p p) (has none p) (same_path-itself p)

  here-with : (x : Path) → has here x ≡ true → has with_item x ≡ true
  here-with x h = has-insert (p ++ e ∷ []) here x ∙ or_true (same_path x (p ++ e ∷ [])) (has here x) h

  only-here : (x : Path) → has here x ≡ true → x ≡ p
  only-here x h = either (same_path x p) (has none x) (sym (has-insert p none x) ∙ h) (same_path-true x p) (λ k. absurd (true≢false (sym k)))

  -- an item that is no place is not at or below another place than its list
  alike : has b (p ++ e ∷ []) ≡ false → (q : Path) → has b q ≡ true → has_at_or_below with_item q ≡ has_at_or_below here q
  alike off q there =
      both_ways (has_at_or_below with_item q) (has_at_or_below here q)
      (λ h.
      let x = one-below with_item q h in
      either (same_path x.0 (p ++ e ∷ [])) (has here x.0) (sym (has-insert (p ++ e ∷ []) here x.0) ∙ x.1)
      (λ same. elim (under-push q p e (ap (under q) (sym (same_path-true x.0 (p ++ e ∷ []) same)) ∙ x.2)) [
        | inl is ↦ yes_no (has b q) there (ap (has b) is ∙ off)
        | inr u ↦ below-one here q p has-here u
      ])
      (λ one. below-one here q x.0 one x.2))
      (λ h. let x = one-below here q h in below-one with_item q x.0 (here-with x.0 x.1) x.2)

  abbrev stays : PathSet → Path → Bool
  stays s q = is_root q || has_at_or_below s q

  list-stays : (s : PathSet) → has s p ≡ true → stays s p ≡ true
  list-stays s h = or_true (is_root p) (has_at_or_below s p) (below-one s p p h (under-itself p))

  item-goes : stays here (p ++ e ∷ []) ≡ false
  item-goes =
      elim (stays here (p ++ e ∷ [])) as (λ t. stays here (p ++ e ∷ []) ≡ t → t ≡ false) [
        | true ↦ λ h.
            either (is_root (p ++ e ∷ [])) (has_at_or_below here (p ++ e ∷ [])) h
            (λ r. absurd (yes_no (is_root (p ++ e ∷ [])) r (not_root p e)))
            (λ k. let x = one-below here (p ++ e ∷ []) k in absurd (not-above p e (ap (under (p ++ e ∷ [])) (sym (only-here x.0 x.1)) ∙ x.2)))
        | false ↦ λ h. refl
      ] refl

  item-stays : stays with_item (p ++ e ∷ []) ≡ true
  item-stays =
      or_true (is_root (p ++ e ∷ [])) (has_at_or_below with_item (p ++ e ∷ []))
      (below-one with_item (p ++ e ∷ []) (p ++ e ∷ [])
      (has-insert (p ++ e ∷ []) here (p ++ e ∷ []) ∙ true_or (same_path (p ++ e ∷ []) (p ++ e ∷ [])) (has here (p ++ e ∷ [])) (same_path-itself (p ++ e ∷ [])))
      (under-itself (p ++ e ∷ [])))

  -- with the item or without it the same stays
  not-among : has b (p ++ e ∷ []) ≡ false → is_among e (order_at (get b p)) ≡ true → ⊥
  not-among off among =
      yes_no (is_among e (order_at (get (restricted b (stays here)) p)))
      (ap (λ m. is_among e (order_at (get m p))) (sym (law with_item here (alike off)))
      ∙ among-part b (stays with_item) p e (list-stays with_item (here-with p has-here)) ∙ (λ i. among i && item-stays i))
      (among-part b (stays here) p e (list-stays here has-here) ∙ (λ i. among i && item-goes i))

-- where a part is told by the places, the items of lists are places
pub items-there : (b : model.Body) → PartsAreOfPlaces b → ItemsAreThere b
items-there b law p e among =
    elim (has b (p ++ e ∷ [])) as (λ t. has b (p ++ e ∷ []) ≡ t → t ≡ true)
    [ true ↦ λ h. refl | false ↦ λ off. absurd (not-among b law p e off among) ] refl

-- ---- parts told by places

module _ (b : model.Body) (items : ItemsAreThere b) (f g : Path → Bool) (agree : (p : Path) → has b p ≡ true → f p ≡ g p) where
  none-either : (b c : Bool) → ◌≡◌ {A = Option Content} (if b then None else None) (if c then None else None)
  none-either true true = refl
  none-either true false = refl
  none-either false true = refl
  none-either false false = refl

  same-at : (p : Path) (o : Option Content) → get b p ≡ o
      → (if f p then option_map (restricted_content f p) o else None) ≡ (if g p then option_map (restricted_content g p) o else None)
  same-at p None is = none-either (f p) (g p)
  same-at p (Some c) is =
      let same = same-content f g p c (λ e among. agree (p ++ e ∷ []) (items p e (ap (λ o. is_among e (order_at o)) is ∙ among))) in
      let test = agree p (ap is_some is) in
      λ i. if test i then Some (same i) else None

  -- where tests agree at each place of a body, the same part of it passes them
  pub same-parts : restricted b f ≡ restricted b g
  same-parts =
      same_map (restricted b f) (restricted b g) (λ p. get-restricted b f p ∙ same-at p (get b p) refl ∙ sym (get-restricted b g p))

-- ---- one over another

among-either : (xs es : List Element) (e : Element) → is_among e (joined xs es) ≡ true → (is_among e xs || is_among e es) ≡ true
among-either xs es e h = sym (among-joined xs es e) ∙ h

-- what is in a list of one over another is in a list of one of the two
among-over : (l c : Option Content) (e : Element) → is_among e (order_at (over_content l c)) ≡ true
    → (is_among e (order_at l) || is_among e (order_at c)) ≡ true
among-over l None e h = true_or (is_among e (order_at l)) false h
among-over l (Some (leaf s)) e h = absurd (true≢false (sym h))
among-over l (Some (atom v)) e h = absurd (true≢false (sym h))
among-over l (Some record_branch) e h = absurd (true≢false (sym h))
among-over l (Some dict_branch) e h = absurd (true≢false (sym h))
among-over l (Some (list_branch es)) e h = among-either (order_at l) es e h

module _ (live config : model.Body) where
  -- the items of lists are places where those of the two are
  pub over-items : ItemsAreThere live → ItemsAreThere config → ItemsAreThere (over live config)
  over-items own given p e among =
      has-over live config (p ++ e ∷ [])
      ∙ either (is_among e (order_at (get live p))) (is_among e (order_at (get config p)))
      (among-over (get live p) (get config p) e (ap (λ o. is_among e (order_at o)) (sym (get-over live config p)) ∙ among))
      (λ h. true_or (has live (p ++ e ∷ [])) (has config (p ++ e ∷ [])) (own p e h))
      (λ h. or_true (has live (p ++ e ∷ [])) (has config (p ++ e ∷ [])) (given p e h))

  -- a part is told by the places where one of either of the two is
  pub over-parts : PartsAreOfPlaces live → PartsAreOfPlaces config → PartsAreOfPlaces (over live config)
  over-parts own given s t alike =
      same-parts (over live config) (over-items (items-there live own) (items-there config given))
      (λ p. is_root p || has_at_or_below s p) (λ p. is_root p || has_at_or_below t p) (λ p there. ap (λ b. is_root p || b) (alike p there))

  -- the points tell the places where they do in both
  pub over-told : PointsTellPlaces live → PointsTellPlaces config → PointsTellPlaces (over live config)
  over-told own given p =
      same_tests (has (over live config) p) (is_root p || has_at_or_below (points (over live config)) p) (reached (over live config) p)
      (λ h. either (is_root p) (has_at_or_below (points (over live config)) p) h at-root above)
    where
      at-root : is_root p ≡ true → has (over live config) p ≡ true
      at-root r = has-over live config p ∙ true_or (has live p) (has config p) (own p ∙ true_or (is_root p) (has_at_or_below (points live) p) r)

      above : has_at_or_below (points (over live config)) p ≡ true → has (over live config) p ≡ true
      above h =
          let x = one-below (points (over live config)) p h in
          let there = first_so (has (over live config) x.0) (is_point (over live config) x.0) (sym (has-points (over live config) x.0) ∙ x.1) in
          has-over live config p
          ∙ either (has live x.0) (has config x.0) (sym (has-over live config x.0) ∙ there)
          (λ k. true_or (has live p) (has config p) (place-above live own p x.0 x.2 k))
          (λ k. or_true (has live p) (has config p) (place-above config given p x.0 x.2 k))
