use Rattle.std.proofs.Common.{[], ◌∷◌, ap, ◌∙◌}
use Rattle.ssa_model.specs.definitions.PathMap.{from_entries}
use Rattle.ssa_typed.specs.Rows.{body_of, rows_below}
use Rattle.ssa_typed.proofs.Levels.{own-Branch, level-Branch}
use Rattle.ssa_typed.proofs.body.Body.take_root.Goals as goal

pub returns-clause-left : goal.returns-clause-left
returns-clause-left c =
    let cs = c.new.result in
    ap body_of c.replace.ensures.after ∙ ap from_entries ((level-Branch cs).rows_are ∙ (λ i. ([], own-Branch cs i) ∷ rows_below (c.new.ensures.items i)))
