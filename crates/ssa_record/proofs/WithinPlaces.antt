-- A record that tells only of what is at and below one path, which it neither cuts nor puts, leads to the body with something else there.
use Rattle.std.proofs.Common.{◌≡◌, ◌⊎◌, inl, inr, [], ◌∷◌, ◌++◌, true, false, ◌||◌, Some, None, refl, sym, ap, ◌∙◌, true≢false}
use Rattle.std.proofs.lemmas.Option.{none-some}
use Rattle.std.specs.Cmp.{first_so, second_so}
use Rattle.std.specs.Option.{unwrap_or}
use Rattle.std.specs.Prelude.{is_some}
use Rattle.ssa_model.specs.definitions.Path.{Path, same_element, same_path, parent, under}
use Rattle.ssa_model.specs.definitions.PathMap.{PathMap, get, has, paths, below, has_at_or_above}
use Rattle.ssa_model.specs.definitions.Kind.{Kind}
use Rattle.ssa_model.specs.definitions.Body.{Content, leaf, atom, record_branch, dict_branch, list_branch, Body}
use Rattle.ssa_model.specs.definitions.Carry.{carried_content, carry_body}
use Rattle.ssa_model.specs.definitions.Record.{BodyRecord}
use Rattle.ssa_model.specs.definitions.Takes.{BodyTakes}
use Rattle.ssa_model.specs.laws.FittingRecords.{BodyFits, has_below, is_touched}
use Rattle.ssa_model.specs.laws.RecordPlaces.{replaced}
use Rattle.ssa_model.proofs.Beginnings.{parent-push}
use Rattle.ssa_model.proofs.BodyLeads.{body_leads}
use Rattle.ssa_model.proofs.CarriedPaths.{stayed, came, away, source, at_stay}
use Rattle.ssa_model.proofs.Fitting.{same_element-true, some_there}
use Rattle.ssa_model.proofs.FittingBodies.{stay-there}
use Rattle.ssa_model.proofs.FittingTells.{split_last}
use Rattle.ssa_model.proofs.PathMaps.{has-paths, same_map, same_path-true}
use Rattle.ssa_model.proofs.Pruned.{some_one, under-append, under-push, under-rest, under-trans}
use Rattle.ssa_model.proofs.PutParts.{get-below}
use Rattle.ssa_model.proofs.ReplacedParts.{get-inside, get-outside}
use Rattle.ssa_model.proofs.TakenBodies.{taken_body_fits}
use Rattle.ssa_model.proofs.Tests.{by_test}
use Rattle.ssa_model.proofs.UntouchedLists.{order-stays}
use Rattle.ssa_record.specs.Spots.{IsWithin}
use Rattle.ssa_model.proofs.Basics.{none-there as nothing_there, yes_no}

-- two paths each of which is under the other
under-both : (g p : Path) → under g p ≡ true → under p g ≡ true → g ≡ p
under-both [] [] h k = refl
under-both [] (e ∷ p) h k = absurd (true≢false (sym k))
under-both (e ∷ g) [] h k = absurd (true≢false (sym h))
under-both (e ∷ g) (f ∷ p) h k =
    let first = same_element-true e f (first_so (same_element e f) (under g p) h) in
    let rest = under-both g p (second_so (same_element e f) (under g p) h) (second_so (same_element f e) (under p g) k) in
    λ i. first i ∷ rest i

-- what is under a path is the path, or its parent is under the path too
below-parent : (p q : Path) → under p q ≡ true → (p ≡ q) ⊎ (under p (parent q) ≡ true)
below-parent p q u =
    elim (split_last q) [
      | inl root ↦ inr (ap (λ x. under p (parent x)) root ∙ sym (ap (under p) root) ∙ u)
      | inr x ↦ pushed x.0 x.1.0 x.1.1
    ]
  where
    pushed : (g : Path) (e : _) → q ≡ g ++ e ∷ [] → (p ≡ q) ⊎ (under p (parent q) ≡ true)
    pushed g e is =
        elim (under-push p g e (ap (under p) (sym is) ∙ u)) [
          | inl whole ↦ inl (whole ∙ sym is)
          | inr above ↦ inr (ap (λ y. under p (parent y)) is ∙ ap (under p) (parent-push g e) ∙ above)
        ]

module _ (kind : Kind) (d : BodyRecord) (v w : Body) (p : Path) (takes : BodyTakes kind d v w) (all : IsWithin p d) where
  fits : BodyFits kind d v
  fits = taken_body_fits kind d v w takes

  led : carry_body d v ≡ w
  led = ap (λ x. carry_body x v) takes.is ∙ body_leads kind v w takes.from takes.to

  -- ---- outside the path nothing changes

  module _ (r : Path) (off : under p r ≡ false) where
    no-leaf : get d.leaves r ≡ None
    no-leaf = nothing_there (get d.leaves r) (by_test (has d.leaves r) (λ t. yes_no (under p r) (all.leaves r t) off) (λ k. k))

    none-below : {X : Type 0} (m : PathMap X) → ((q : Path) → has m q ≡ true → under p q ≡ true) → has m p ≡ false → has_below m r ≡ false
    none-below m within itself =
        by_test (has_below m r)
        (λ t.
        let x = some_one (λ q. same_path (parent q) r) (paths m) t in
        let there : has m x.0 ≡ true = has-paths m x.0 ∙ x.1 in
        let above : parent x.0 ≡ r = same_path-true (parent x.0) r x.2 in
        elim (below-parent p x.0 (within x.0 there)) [
          | inl is ↦ yes_no (has m p) (ap (has m) is ∙ there) itself
          | inr u ↦ yes_no (under p r) (ap (under p) (sym above) ∙ u) off
        ])
        (λ k. k)

    untouched : is_touched d r ≡ false
    untouched =
        let order : has d.order r ≡ false = by_test (has d.order r) (λ t. yes_no (under p r) (all.order r t) off) (λ k. k) in
        λ i. order i || (none-below d.cut all.cut all.uncut i || none-below d.put all.put all.unput i)

    carried-same : (c : Content) → get v r ≡ Some c → carried_content d r c ≡ c
    carried-same (leaf s) is = ap (λ o. unwrap_or o (leaf s)) no-leaf
    carried-same (atom s) is = ap (λ o. unwrap_or o (atom s)) no-leaf
    carried-same record_branch is = refl
    carried-same dict_branch is = refl
    carried-same (list_branch es) is = ap (λ fs. list_branch fs) (order-stays kind d v takes.from r es is untouched)

    uncut : has_at_or_above d.cut r ≡ false
    uncut =
        by_test (has_at_or_above d.cut r)
        (λ t.
        let x = some_one (λ g. under g r) (paths d.cut) t in
        yes_no (under p r) (under-trans p x.0 r (all.cut x.0 (has-paths d.cut x.0 ∙ x.1)) x.2) off)
        (λ k. k)

    same-outside : get (carry_body d v) r ≡ get v r
    same-outside =
        elim (source kind d v takes.from fits r) [
          | stayed c is _ says ↦ says ∙ ap (λ x. Some x) (carried-same c is) ∙ sym is
          | came g s x found is says ↦ absurd (yes_no (under p r)
              (under-trans p g r (all.put g (ap is_some found)) (ap (under g) (sym is) ∙ under-append g s)) off)
          | away none ↦ none
              ∙ sym (nothing_there (get v r) (by_test (has v r)
              (λ t. let c = some_there (get v r) t in absurd
              (none-some (carried_content d r c.0) (sym none ∙ at_stay kind d v takes.from fits r c.0 c.1 uncut)))
              (λ k. k)))
        ]

  -- the second body is the first, with what the second has at and below the path
  pub changes-within : w ≡ replaced v p (below w p)
  changes-within =
      same_map w (replaced v p (below w p)) (λ r.
      by_test (under p r)
      (λ u.
      let rest = under-rest p r u in
      ap (get w) rest.1 ∙ sym (get-below w p rest.0) ∙ sym (get-inside v p (below w p) rest.0) ∙ ap (get (replaced v p (below w p))) (sym rest.1))
      (λ off. ap (λ x. get x r) (sym led) ∙ same-outside r off ∙ sym (get-outside v p (below w p) r off)))

  -- ---- the path stays

  uncut-above : has_at_or_above d.cut p ≡ false
  uncut-above =
      by_test (has_at_or_above d.cut p)
      (λ t.
      let x = some_one (λ g. under g p) (paths d.cut) t in
      let cut : has d.cut x.0 ≡ true = has-paths d.cut x.0 ∙ x.1 in
      yes_no (has d.cut p) (ap (has d.cut) (sym (under-both x.0 p x.2 (all.cut x.0 cut))) ∙ cut) all.uncut)
      (λ k. k)

  -- where the first body has the path, the second has it too
  pub place-stays : has v p ≡ true → has w p ≡ true
  place-stays here = ap (λ x. has x p) (sym led) ∙ stay-there kind d v takes.from fits p here uncut-above
