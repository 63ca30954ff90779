-- A record that changes a body at and below one path alone leads to the body with something else there.
use Rattle.std.proofs.Common.{◌≡◌, true, false, ◌||◌, Some, None, refl, sym, ap, ◌∙◌}
use Rattle.std.proofs.lemmas.Option.{none-some}
use Rattle.std.specs.Option.{unwrap_or}
use Rattle.std.specs.Prelude.{is_some}
use Rattle.ssa_model.specs.definitions.Path.{Path, same_path, parent, under}
use Rattle.ssa_model.specs.definitions.PathMap.{PathMap, get, has, paths, below, has_at_or_above}
use Rattle.ssa_model.specs.definitions.Kind.{Kind}
use Rattle.ssa_model.specs.definitions.Body.{Content, leaf, atom, record_branch, dict_branch, list_branch, Body}
use Rattle.ssa_model.specs.definitions.Fitting.{IsBodyOf}
use Rattle.ssa_model.specs.definitions.Record.{BodyRecord}
use Rattle.ssa_model.specs.definitions.Carry.{carried_content, carry_body}
use Rattle.ssa_model.specs.definitions.Takes.{BodyTakes}
use Rattle.ssa_model.specs.laws.FittingRecords.{BodyFits, has_below, is_touched}
use Rattle.ssa_model.specs.laws.RecordPlaces.{replaced, tells_of, TellsBelow, ChangesThere, PlaceStays}
use Rattle.ssa_model.proofs.PathMaps.{has-paths, same_map, same_path-true}
use Rattle.ssa_model.proofs.PutParts.{get-below}
use Rattle.ssa_model.proofs.Pruned.{from_one, some_one, under-append, under-rest, under-trans}
use Rattle.ssa_model.proofs.Tables.{true_or}
use Rattle.ssa_model.proofs.Tests.{by_test}
use Rattle.ssa_model.proofs.Fitting.{some_there}
use Rattle.ssa_model.proofs.FittingBodies.{stay-there}
use Rattle.ssa_model.proofs.FittingTells.{parent_above}
use Rattle.ssa_model.proofs.CarriedPaths.{stayed, came, away, source, at_stay}
use Rattle.ssa_model.proofs.UntouchedLists.{order-stays}
use Rattle.ssa_model.proofs.BodyLeads.{body_leads}
use Rattle.ssa_model.proofs.TakenBodies.{taken_body_fits}
use Rattle.ssa_model.proofs.ReplacedParts.{get-inside, get-outside}
use Rattle.ssa_model.proofs.Basics.{or_true, none-there as nothing_there, yes_no}

-- ---- what a record tells of

module _ (d : BodyRecord) (q : Path) where
  tells-cut : has d.cut q ≡ true → tells_of d q ≡ true
  tells-cut h = true_or (has d.cut q) (has d.leaves q || (has d.order q || has d.put q)) h

  tells-leaf : has d.leaves q ≡ true → tells_of d q ≡ true
  tells-leaf h = or_true (has d.cut q) (has d.leaves q || (has d.order q || has d.put q)) (true_or (has d.leaves q) (has d.order q || has d.put q) h)

  tells-order : has d.order q ≡ true → tells_of d q ≡ true
  tells-order h =
      or_true (has d.cut q) (has d.leaves q || (has d.order q || has d.put q))
      (or_true (has d.leaves q) (has d.order q || has d.put q) (true_or (has d.order q) (has d.put q) h))

  tells-put : has d.put q ≡ true → tells_of d q ≡ true
  tells-put h =
      or_true (has d.cut q) (has d.leaves q || (has d.order q || has d.put q))
      (or_true (has d.leaves q) (has d.order q || has d.put q) (or_true (has d.order q) (has d.put q) h))

-- ---- outside the path nothing changes

module _ (kind : Kind) (d : BodyRecord) (v : Body) (p : Path) (a : IsBodyOf kind v) (f : BodyFits kind d v)
    (all : TellsBelow p d) (r : Path) (off : under p r ≡ false) where
  abbrev w : Body
  w = carry_body d v

  -- nothing is told of a path at or above it
  untold-above : (g : Path) → tells_of d g ≡ true → under g r ≡ true → ⊥
  untold-above g told above = yes_no (under p r) (under-trans p g r (under-trans p (parent g) g (all g told) (parent_above g)) above) off

  untold : tells_of d r ≡ false
  untold = by_test (tells_of d r) (λ t. yes_no (under p r) (under-trans p (parent r) r (all r t) (parent_above r)) off) (λ k. k)

  no-leaf : get d.leaves r ≡ None
  no-leaf = nothing_there (get d.leaves r) (by_test (has d.leaves r) (λ t. yes_no (tells_of d r) (tells-leaf d r t) untold) (λ k. k))

  none-below : {X : Type 0} (m : PathMap X) → ((q : Path) → has m q ≡ true → tells_of d q ≡ true) → has_below m r ≡ false
  none-below m tells =
      by_test (has_below m r)
      (λ t.
      let x = some_one (λ q. same_path (parent q) r) (paths m) t in
      yes_no (under p r) (ap (under p) (sym (same_path-true (parent x.0) r x.2)) ∙ all x.0 (tells x.0 (has-paths m x.0 ∙ x.1))) off)
      (λ k. k)

  untouched : is_touched d r ≡ false
  untouched =
      let order : has d.order r ≡ false = by_test (has d.order r) (λ t. yes_no (tells_of d r) (tells-order d r t) untold) (λ k. k) in
      λ i. order i || (none-below d.cut (tells-cut d) i || none-below d.put (tells-put d) i)

  carried-same : (c : Content) → get v r ≡ Some c → carried_content d r c ≡ c
  carried-same (leaf s) is = ap (λ o. unwrap_or o (leaf s)) no-leaf
  carried-same (atom s) is = ap (λ o. unwrap_or o (atom s)) no-leaf
  carried-same record_branch is = refl
  carried-same dict_branch is = refl
  carried-same (list_branch es) is = ap (λ fs. list_branch fs) (order-stays kind d v a r es is untouched)

  uncut : has_at_or_above d.cut r ≡ false
  uncut =
      by_test (has_at_or_above d.cut r)
      (λ t. let x = some_one (λ g. under g r) (paths d.cut) t in absurd (untold-above x.0 (tells-cut d x.0 (has-paths d.cut x.0 ∙ x.1)) x.2))
      (λ k. k)

  -- at a path that is not under it, the body after has what the body had
  pub same-outside : get w r ≡ get v r
  same-outside =
      elim (source kind d v a f r) [
        | stayed c is _ says ↦ says ∙ ap (λ x. Some x) (carried-same c is) ∙ sym is
        | came g s x found is says ↦ absurd (untold-above g (tells-put d g (ap is_some found)) (ap (under g) (sym is) ∙ under-append g s))
        | away none ↦ none
            ∙ sym (nothing_there (get v r) (by_test (has v r)
            (λ t. let c = some_there (get v r) t in absurd (none-some (carried_content d r c.0) (sym none ∙ at_stay kind d v a f r c.0 c.1 uncut)))
            (λ k. k)))
      ]

-- what a record of two bodies leads to
pub led : (kind : Kind) (d : BodyRecord) (v w : Body) → BodyTakes kind d v w → carry_body d v ≡ w
led kind d v w takes = ap (λ x. carry_body x v) takes.is ∙ body_leads kind v w takes.from takes.to

-- a record that tells of paths below one alone leads to the body with something else at this one
pub changes_there : ChangesThere
changes_there kind d v w p takes all =
    same_map w (replaced v p (below w p)) (λ r.
    by_test (under p r)
    (λ u.
    let rest = under-rest p r u in
    ap (get w) rest.1 ∙ sym (get-below w p rest.0) ∙ sym (get-inside v p (below w p) rest.0) ∙ ap (get (replaced v p (below w p))) (sym rest.1))
    (λ off.
    ap (λ x. get x r) (sym (led kind d v w takes)) ∙ same-outside kind d v p takes.from (taken_body_fits kind d v w takes) all r off
    ∙ sym (get-outside v p (below w p) r off)))

-- ---- the path stays

-- and where the first body has this path, so has the second
pub place_stays : PlaceStays
place_stays kind d v w p takes all here =
    let f = taken_body_fits kind d v w takes in
    let uncut : has_at_or_above d.cut p ≡ false =
    by_test (has_at_or_above d.cut p)
    (λ t.
    let x = some_one (λ g. under g p) (paths d.cut) t in
    let cut = has-paths d.cut x.0 ∙ x.1 in
    let above = under-trans x.0 p (parent x.0) x.2 (all x.0 (tells-cut d x.0 cut)) in
    yes_no (has_at_or_above d.cut (parent x.0)) (from_one (λ g. under g (parent x.0)) (paths d.cut) x.0 x.1 above) (f.cut x.0 cut).top)
    (λ k. k) in
    ap (λ x. has x p) (sym (led kind d v w takes)) ∙ stay-there kind d v takes.from f p here uncut
