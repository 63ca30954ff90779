use Rattle.std.proofs.Common.{◌∷◌, [], not, cond, ap, ◌∙◌, sym}
use Rattle.ssa_model.specs.definitions.PathMap.{same_set}
use Rattle.ssa_merge.specs.Managers.{entry_view}
use Rattle.ssa_merge.specs.Tables.{less}
use Rattle.ssa_merge.proofs.GivenUp.{meet-within, minus-all}
use Rattle.ssa_merge.proofs.TableChanges.{less-taken}
use Rattle.ssa_merge.proofs.seat.losing_all.Goals as goal

pub returns-then-is_same-clause-change : goal.returns-then-is_same-clause-change
returns-then-is_same-clause-change c =
    let e = entry_view c.args.entry.now in
    let lost = c.args.lost.now in
    let all = minus-all e.owned lost lost (meet-within e.owned lost c.requires) in
    let same = ap (λ s. same_set s e.owned) (sym c.paths.ensures) ∙ sym c.is_same.ensures ∙ c.if-is_same.true in
    sym (ap (λ b. cond (not b) (less e lost ∷ []) []) (sym all ∙ same))

pub returns-clause-change : goal.returns-clause-change
returns-clause-change c =
    let e = entry_view c.args.entry.now in
    let lost = c.args.lost.now in
    let is = meet-within e.owned lost c.requires in
    let other = ap (λ s. same_set s e.owned) (sym c.paths.ensures) ∙ sym c.is_same.ensures ∙ c.if-is_same.false in
    less-taken e lost c.in_ok-all.all (c.in_ok-all.ensures.set ∙ is) (sym (minus-all e.owned lost lost is) ∙ other)
