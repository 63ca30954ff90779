use Rattle.std.proofs.Common.{◌≡◌, ◌∷◌, [], filter, ap, ◌∙◌, sym}
use Rattle.std.specs.Prelude.{unwrap_or}
use Rattle.ssa_model.proofs.PathMaps.{same_set-true}
use Rattle.ssa_merge.specs.Managers.{entry_view}
use Rattle.ssa_merge.specs.Tables.{acted, owns}
use Rattle.ssa_merge.proofs.TableChanges.{acted-other}
use Rattle.ssa_merge.proofs.seat.acting.Goals as goal

pub returns-then-is_same : goal.returns-then-is_same
returns-then-is_same c =
    let own = c.args.entry.now.set in
    let is : unwrap_or c.args.owned own ≡ own = ap (λ o. unwrap_or o own) c.in-Some.is
    ∙ same_set-true c.in-Some.set own (sym c.is_same.ensures ∙ c.if-is_same.true) in
    c.keeping-then-is_same.ensures ∙ ap (λ s. filter owns (acted (entry_view c.args.entry.now) s c.args.changed c.args.at ∷ [])) (sym is)

pub returns : goal.returns
returns c =
    let own = c.args.entry.now.set in
    let is : unwrap_or c.args.owned own ≡ c.in-Some.set = ap (λ o. unwrap_or o own) c.in-Some.is in
    acted-other (entry_view c.args.entry.now) c.in-Some.set c.args.changed c.args.at (sym c.is_empty.ensures ∙ c.if-is_empty.false)
    (sym c.is_same.ensures ∙ c.if-is_same.false)
    ∙ ap (λ s. filter owns (acted (entry_view c.args.entry.now) s c.args.changed c.args.at ∷ [])) (sym is)
