use Rattle.std.proofs.Common.{◌∷◌, [], not, cond, ap, ◌∙◌, sym}
use Rattle.ssa_model.specs.definitions.PathMap.{is_empty}
use Rattle.ssa_path.proofs.Sets.{meet-comm}
use Rattle.ssa_merge.specs.Managers.{entry_view}
use Rattle.ssa_merge.specs.Tables.{less}
use Rattle.ssa_merge.proofs.GivenUp.{minus-all}
use Rattle.ssa_merge.proofs.TableChanges.{less-none, less-taken}
use Rattle.ssa_merge.proofs.seat.losing_some.Goals as goal

pub returns-then-is_empty : goal.returns-then-is_empty
returns-then-is_empty c =
    let e = entry_view c.args.entry.now in
    let met = c.in_ok-met.ensures ∙ meet-comm c.args.lost.now e.owned in
    c.untouched.ensures ∙ less-none e c.args.lost.now (ap is_empty (sym met) ∙ sym c.is_empty.ensures ∙ c.if-is_empty.true)

pub returns-then-is_same : goal.returns-then-is_same
returns-then-is_same c =
    let e = entry_view c.args.entry.now in
    let all = minus-all e.owned c.args.lost.now c.in_ok-met.met (c.in_ok-met.ensures ∙ meet-comm c.args.lost.now e.owned) in
    sym (ap (λ b. cond (not b) (less e c.args.lost.now ∷ []) []) (sym all ∙ sym c.is_same.ensures ∙ c.if-is_same.true))

pub returns : goal.returns
returns c =
    let e = entry_view c.args.entry.now in
    let met = c.in_ok-met.ensures ∙ meet-comm c.args.lost.now e.owned in
    let all = minus-all e.owned c.args.lost.now c.in_ok-met.met met in
    less-taken e c.args.lost.now c.in_ok-taken.taken (c.in_ok-taken.ensures ∙ c.in_ok-copy.ensures ∙ met)
    (sym all ∙ sym c.is_same.ensures ∙ c.if-is_same.false)
