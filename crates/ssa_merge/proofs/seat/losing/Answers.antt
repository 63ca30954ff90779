use Rattle.std.proofs.Common.{◌≡◌, ◌∷◌, [], filter, IfOk, ap, ◌∙◌, subst, sym}
use Rattle.ssa_model.specs.definitions.PathMap.{is_empty, minus}
use Rattle.ssa_model.proofs.Basics.{not_false}
use Rattle.ssa_path.specs.Meet.{meet}
use Rattle.ssa_path.proofs.Sets.{meet-comm}
use Rattle.ssa_merge.specs.Managers.{entry_view}
use Rattle.ssa_merge.specs.TableChanges.{changed_entry}
use Rattle.ssa_merge.specs.Tables.{less, owns}
use Rattle.ssa_merge.proofs.GivenUp.{meet-none}
use Rattle.ssa_merge.proofs.TableChanges.{less-none}
use Rattle.ssa_merge.proofs.seat.losing.Goals as goal

pub losing_all-requires : goal.losing_all-requires
losing_all-requires c =
    ap (λ s. is_empty (minus s c.args.entry.now.set)) c.is_within.ensures.same ∙ sym c.is_within.ensures.answer ∙ c.if-is_within.true

pub returns-then-is_within-clause-change : goal.returns-then-is_within-clause-change
returns-then-is_within-clause-change c =
    let e = entry_view c.args.entry.now in
    subst (λ s. IfOk c.losing_all.result (λ k. changed_entry k e ≡ filter owns (less e s ∷ []))) c.is_within.ensures.same c.losing_all.ensures.change

pub returns-then-is_empty-clause-change : goal.returns-then-is_empty-clause-change
returns-then-is_empty-clause-change c =
    let e = entry_view c.args.entry.now in
    let none = ap is_empty (sym c.paths-paths.ensures) ∙ sym c.is_empty.ensures ∙ c.if-is_empty.true in
    c.untouched.ensures ∙ less-none e c.args.lost.now (meet-none e.owned c.args.lost.now none)

pub returns-then-not-meets-clause-change : goal.returns-then-not-meets-clause-change
returns-then-not-meets-clause-change c =
    let e = entry_view c.args.entry.now in
    let none = not_false _ (sym c.meets.ensures ∙ c.if-not-meets.true) in
    c.untouched-then-not-meets.ensures
    ∙ less-none e c.args.lost.now (ap is_empty (meet-comm e.owned c.args.lost.now) ∙ ap (λ s. is_empty (meet s e.owned)) (sym c.paths-paths.ensures) ∙ none)

pub returns-clause-change : goal.returns-clause-change
returns-clause-change c =
    let e = entry_view c.args.entry.now in
    subst (λ s. IfOk c.losing_some.result (λ k. changed_entry k e ≡ filter owns (less e s ∷ []))) c.paths-paths.ensures c.losing_some.ensures
