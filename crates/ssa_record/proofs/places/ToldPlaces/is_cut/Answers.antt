use Rattle.std.proofs.Common.{[], ◌∷◌, ◌++◌, ap, ◌∙◌}
use Rattle.std.specs.Prelude.{is_some}
use Rattle.ssa_path.specs.View.{element_view, path_view}
use Rattle.ssa_record.proofs.ByPaths.{copied-some, mapped-some, value-shown}
use Rattle.ssa_record.proofs.places.ToldPlaces.is_cut.Goals as goal

pub returns : goal.returns
returns c =
    let p = path_view c.args.place.now ++ element_view c.args.last.now ∷ [] in
    c.is_some.ensures ∙ copied-some c.get.result ∙ ap is_some c.get.ensures ∙ mapped-some (λ (u : Unit {0}). tt) _
    ∙ ap is_some (value-shown (λ (u : Unit {0}). tt) p c.args.self.now.cut.entries.items)
