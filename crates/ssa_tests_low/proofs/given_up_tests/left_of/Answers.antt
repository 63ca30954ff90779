use Rattle.std.proofs.Common.{◌≡◌, [], true, false, not, ◌&&◌, ◌||◌, ap, subst, sym, ◌∙◌}
use Rattle.std.specs.Cmp.{second_so}
use Rattle.std.specs.Prelude.{is_some}
use Rattle.ssa_model.specs.definitions.Body.{Body, over, removed}
use Rattle.ssa_model.specs.definitions.Path.{Path, under}
use Rattle.ssa_model.specs.definitions.PathMap.{PathSet, get, has, has_at_or_below, paths}
use Rattle.ssa_model.specs.definitions.Valid.{metadata_path}
use Rattle.ssa_model.proofs.Basics.{first_false, second_false, not_true, yes_no}
use Rattle.ssa_model.proofs.Pruned.{IsClosed, closed-above, from_one, some_one, under-trans}
use Rattle.ssa_model.proofs.Tables.{apart_by, either, has-over, mapped_some}
use Rattle.ssa_typed.specs.Alike.{AreAlike}
use Rattle.ssa_typed.specs.Cut.{uncut}
use Rattle.ssa_typed.specs.Look.{look_at, look_of}
use Rattle.ssa_typed.specs.LostWith.{left_with, AreFree}
use Rattle.ssa_typed.proofs.AnyTree.{tree-closed, tree-root}
use Rattle.ssa_typed.proofs.LostPlaces.{places-go}
use Rattle.ssa_typed.proofs.RootedBodies.{part-rooted}
use Rattle.ssa_tests_low.proofs.given_up_tests.left_of.Goals as goal

module _ (live config : Body) (gone held lost : PathSet) (alike : AreAlike live config) (live_closed : IsClosed live) (config_closed : IsClosed config)
    (rooted : has config [] ≡ true) (free : AreFree config gone held) (lost_is : lost ≡ removed live (left_with live config gone held)) where
  abbrev own : PathSet
  own = uncut live gone held

  lost-has : (p : Path) → has lost p ≡ (has live p && not (has config p || has_at_or_below own p))
  lost-has p = ap (λ s. has s p) lost_is ∙ places-go live config alike live_closed config_closed gone held free rooted p

  -- the configuration lacks what is lost, and nothing at or below it stays by itself
  nothing-kept : (p : Path) → has lost p ≡ true → (has config p || has_at_or_below own p) ≡ false
  nothing-kept p goes =
      not_true (has config p || has_at_or_below own p)
      (second_so (has live p) (not (has config p || has_at_or_below own p)) (sym (lost-has p) ∙ goes))

  root-stays : has lost [] ≡ false
  root-stays =
      apart_by (has lost []) (λ goes. yes_no (has config []) rooted (first_false (has config []) (has_at_or_below own []) (nothing-kept [] goes)))

  -- with what is lost goes all that is below it
  all-goes : (p q : Path) → has lost p ≡ true → under p q ≡ true → has (over live config) q ≡ true → has lost q ≡ true
  all-goes p q goes u there =
      let none = nothing-kept p goes in
      let away : has config q ≡ false =
      apart_by (has config q) (λ k.
      yes_no (has config p) (closed-above config config_closed p q k u) (first_false (has config p) (has_at_or_below own p) none)) in
      let here : has live q ≡ true =
      either (has live q) (has config q) (sym (has-over live config q) ∙ there) (λ k. k) (λ k. absurd (yes_no (has config q) k away)) in
      let bare : has_at_or_below own q ≡ false =
      apart_by (has_at_or_below own q) (λ k.
      let x = some_one (under q) (paths own) k in
      yes_no (has_at_or_below own p) (from_one (under p) (paths own) x.0 x.1 (under-trans p q x.0 u x.2))
      (second_false (has config p) (has_at_or_below own p) none)) in
      lost-has q ∙ (λ i. here i && not (away i || bare i))

pub without-requires-clause-inner : goal.without-requires-clause-inner
without-requires-clause-inner c =
    root-stays c.args.live.now c.args.config c.args.gone.now c.args.held.now c.in_ok-lost.lost c.requires
    (subst IsClosed c.root-live.ensures.seen (tree-closed c.root-live.result.now c.root-live.ensures.tree))
    (subst IsClosed c.root-config.ensures.seen (tree-closed c.root-config.result.now c.root-config.ensures.tree))
    (sym (ap (λ b. has b []) c.root-config.ensures.seen) ∙ tree-root c.root-config.result.now)
    c.in_ok-lost.ensures.free c.in_ok-lost.ensures.lost

pub without-requires-clause-whole : goal.without-requires-clause-whole
without-requires-clause-whole c = λ p q goes u there.
    all-goes c.args.live.now c.args.config c.args.gone.now c.args.held.now c.in_ok-lost.lost c.requires
    (subst IsClosed c.root-live.ensures.seen (tree-closed c.root-live.result.now c.root-live.ensures.tree))
    (subst IsClosed c.root-config.ensures.seen (tree-closed c.root-config.result.now c.root-config.ensures.tree))
    (sym (ap (λ b. has b []) c.root-config.ensures.seen) ∙ tree-root c.root-config.result.now)
    c.in_ok-lost.ensures.free c.in_ok-lost.ensures.lost p q goes u (sym (ap (λ b. has b q) c.in_ok-merged.ensures) ∙ there)

pub without-requires-clause-rooted : goal.without-requires-clause-rooted
without-requires-clause-rooted c =
    let b = c.in_ok-merged.merged in
    part-rooted b (λ p. not (has c.in_ok-lost.lost p)) c.stands_rooted.ensures
    (sym (mapped_some _ (get b metadata_path)) ∙ ap (λ p. is_some (look_at b p)) (sym c.in_ok-metadata.ensures) ∙ ap is_some (sym c.get-2.ensures)
    ∙ mapped_some look_of c.get-2.result ∙ sym c.is_some.ensures ∙ c.if-is_some.false)
    (ap not (without-requires-clause-inner c))
