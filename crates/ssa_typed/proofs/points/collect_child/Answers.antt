use Rattle.ssa_path.specs.View.{element_view}
use Rattle.ssa_typed.proofs.Collecting.{child-trie}
use Rattle.ssa_typed.proofs.points.collect_child.Goals as goal

pub returns : goal.returns
returns c =
    let n = c.args.child.now.1 in
    child-trie c.args.what c.args.in_dict (element_view c.args.child.now.0) n _ c.requires c.has_place-here.ensures c.in_ok-parts.ensures
