use Rattle.std.proofs.Common.{◌∙◌, sym, subst, subst₂}
use Rattle.ssa_model.specs.definitions.Body.{over}
use Rattle.ssa_model.specs.definitions.Valid.{IsRooted}
use Rattle.ssa_typed.specs.Alike.{AreAlike}
use Rattle.ssa_typed.specs.Rows.{body_of}
use Rattle.ssa_typed.proofs.OverNodes.{over-body, alike-bodies}
use Rattle.ssa_typed.proofs.RootedBodies.{over-rooted}
use Rattle.ssa_typed.proofs.body.Body.over.Goals as goal

pub over_node-requires-clause-alike : goal.over_node-requires-clause-alike
over_node-requires-clause-alike c =
    alike-bodies c.self.inside.root c.config.inside.root (subst₂ (λ a b. AreAlike a b) (sym c.self.view_is) (sym c.config.view_is) c.requires)

pub invariant_of-result : goal.invariant_of-result
invariant_of-result c =
    let n = c.self.inside.root in
    let m = c.config.inside.root in
    record {
      tree = c.in_ok-over_node.ensures.tree;
      rooted = subst IsRooted (sym (over-body n m c.over_node.new.config c.in_ok-over_node.ensures))
          (over-rooted (body_of n) (body_of m) c.self.invariant.rooted c.config.invariant.rooted);
    }

pub returns : goal.returns
returns c =
    over-body c.self.inside.root c.config.inside.root c.over_node.new.config c.in_ok-over_node.ensures ∙ (λ i. over (c.self.view_is i) (c.config.view_is i))
