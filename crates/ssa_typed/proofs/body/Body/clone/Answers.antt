use Rattle.std.proofs.Common.{sym, ap, subst, ◌∙◌}
use Rattle.ssa_model.specs.definitions.PathMap.{from_entries}
use Rattle.ssa_model.specs.definitions.Valid.{IsRooted}
use Rattle.ssa_typed.proofs.Copying.{kept-rows, kept-tree}
use Rattle.ssa_typed.proofs.body.Body.clone.Goals as goal

pub invariant_of-result : goal.invariant_of-result
invariant_of-result c = record {
  tree = kept-tree c.in_ok-root.root c.self.inside.root c.in_ok-root.ensures ∙ c.self.invariant.tree;
  rooted = subst IsRooted (sym (ap from_entries (kept-rows c.in_ok-root.root c.self.inside.root c.in_ok-root.ensures))) c.self.invariant.rooted;
}

pub returns : goal.returns
returns c = ap from_entries (kept-rows c.in_ok-root.root c.self.inside.root c.in_ok-root.ensures) ∙ c.self.view_is
