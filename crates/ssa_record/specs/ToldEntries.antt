-- What the lists of a told body tell, entry by entry.
use Rattle.std.specs.Prelude.{◌≡◌, ℕ, List, ◌||◌, Option}
use Rattle.ssa_model.specs.definitions.Json.{Json}
use Rattle.ssa_model.specs.definitions.Path.{Element, Path}
use Rattle.ssa_model.specs.definitions.PathMap.{PathSet, has}
use Rattle.ssa_json.specs.View.{view}
use Rattle.ssa_path.specs.Trie.{is_one_of}
use Rattle.ssa_path.specs.View.{path_view}
use Rattle.ssa_told.specs.declared.told.ToldLeaf.{ToldLeaf}
use Rattle.ssa_told.specs.declared.told.ToldOrder.{ToldOrder}
use Rattle.ssa_told.specs.declared.told.ToldPut.{ToldPut}

abbrev pub told_leaf : ToldLeaf → Path × Json
told_leaf e = (e.path, view e.value)

abbrev pub told_order : ToldOrder → Path × List Element
told_order e = (e.path, path_view e.items.items)

abbrev pub told_put : ToldPut → Path × (Json × Option ℕ)
told_put e = (e.path, (view e.value, e.place))

-- the second set has the paths of the first and these
abbrev pub AddsPaths : List Path → PathSet → PathSet → Type 0
AddsPaths ps s t = (q : Path) → has t q ≡ (has s q || is_one_of ps q)
