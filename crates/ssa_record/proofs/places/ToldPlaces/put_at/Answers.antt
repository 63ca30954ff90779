use Rattle.std.proofs.Common.{ℕ, [], ◌∷◌, ◌++◌, Option, ap, ◌∙◌}
use Rattle.std.specs.Borrow.{Bor}
use Rattle.std.specs.Prelude.{option_map}
use Rattle.ssa_model.specs.definitions.Json.{Json}
use Rattle.ssa_json.specs.View.{view}
use Rattle.ssa_path.specs.View.{element_view, path_view}
use Rattle.ssa_told.specs.declared.told.ToldPut.{ToldPut}
use Rattle.ssa_record.proofs.ByPaths.{value-shown}
use Rattle.ssa_record.proofs.places.ToldPlaces.put_at.Goals as goal

pub returns : goal.returns
returns c =
    let shows : Bor ToldPut → Json × Option ℕ = λ x. (view x.now.value, x.now.place) in
    ap (option_map shows) (c.copied.ensures ∙ c.get.ensures)
    ∙ value-shown shows (path_view c.args.place.now ++ element_view c.args.last.now ∷ []) c.args.self.now.put.entries.items
