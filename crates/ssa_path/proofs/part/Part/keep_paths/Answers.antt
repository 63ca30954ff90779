use Rattle.std.proofs.Common.{[], ◌&&◌, ap, sym, ◌∙◌}
use Rattle.ssa_model.specs.definitions.Parts.{is_path_of}
use Rattle.ssa_path.specs.Subresources.{part_view}
use Rattle.ssa_path.proofs.InPart.{part-trie}
use Rattle.ssa_path.proofs.part.Part.keep_paths.Goals as goal
use Rattle.ssa_path.proofs.part.Part.keep_paths.Goals.{then-here, else-here}

pub returns : goal.returns
returns c =
    let s = part_view c.args.self in
    part-trie s c.args.root.now _ c.requires
    (elim c.if-here.branch [
      | then-here w ↦ w.here-is ∙ w.has_root.ensures ∙ sym (ap (λ b. b && is_path_of s []) w.if-here.true)
      | else-here w ↦ w.here-is ∙ w.if-here.false ∙ sym (ap (λ b. b && is_path_of s []) w.if-here.false)
    ])
    c.keep.ensures
