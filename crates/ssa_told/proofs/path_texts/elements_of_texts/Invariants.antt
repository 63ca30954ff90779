use Rattle.ssa_path.specs.View.{path_view}
use Rattle.ssa_told.proofs.PathTexts.{IsSoFar}
use Rattle.ssa_told.proofs.path_texts.elements_of_texts.Given as goal

abbrev pub invariant-loop-text : goal.invariant-loop-text
invariant-loop-text l = IsSoFar l.texts (path_view l.elements.items) l.text-index
