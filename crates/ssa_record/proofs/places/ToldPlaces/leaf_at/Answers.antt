use Rattle.std.proofs.Common.{[], ◌++◌, ap, append-nil, ◌∙◌}
use Rattle.std.specs.Borrow.{Bor}
use Rattle.std.specs.Prelude.{option_map}
use Rattle.ssa_model.specs.definitions.PathMap.{from_entries, get}
use Rattle.ssa_json.specs.View.{view}
use Rattle.ssa_json.specs.declared.value.Json.{Json}
use Rattle.ssa_path.specs.View.{path_view}
use Rattle.ssa_record.specs.Places.{leaves_view}
use Rattle.ssa_record.proofs.ByPaths.{value-shown}
use Rattle.ssa_record.proofs.places.ToldPlaces.leaf_at.Goals as goal

pub returns : goal.returns
returns c =
    let shows = λ (v : Bor Json). view v.now in
    ap (option_map shows) (c.copied.ensures ∙ c.get.ensures) ∙ value-shown shows (path_view c.args.path.now ++ []) c.args.self.now.leaves.entries.items
    ∙ ap (get (from_entries (leaves_view c.args.self.now.leaves.entries.items))) (append-nil (path_view c.args.path.now))
