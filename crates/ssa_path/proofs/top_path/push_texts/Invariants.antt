use Rattle.std.proofs.Common.{◌≡◌, ◌++◌, map, take}
use Rattle.ssa_json.specs.View.{view}
use Rattle.ssa_path.specs.TopPaths.{text_of}
use Rattle.ssa_path.specs.View.{path_view}
use Rattle.ssa_path.proofs.top_path.push_texts.Given as goal

abbrev pub invariant-loop-element : goal.invariant-loop-element
invariant-loop-element l = map view l.texts.items ≡ map view l.initial.texts.items ++ map text_of (path_view (take l.element-index l.elements))
