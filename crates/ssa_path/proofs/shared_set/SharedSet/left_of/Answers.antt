use Rattle.std.proofs.Common.{◌∙◌, ap}
use Rattle.ssa_model.specs.definitions.PathMap.{listed, minus}
use Rattle.ssa_path.specs.Trie.{paths}
use Rattle.ssa_path.specs.declared.combine.Combination.TheVariants.{Minus}
use Rattle.ssa_path.proofs.Sets.{listed-combined}
use Rattle.ssa_path.proofs.shared_set.SharedSet.left_of.Goals as goal

pub returns : goal.returns
returns c =
    let own = c.root.result.now in
    let lost = c.deref.result.now in
    let same = ap (λ t. listed (paths t)) c.deref.ensures ∙ c.self.view_is in
    c.from_root.ensures ∙ listed-combined Minus own lost c.in_ok-left.left c.in_ok-left.ensures ∙ (λ i. minus (c.root.ensures.same i) (same i))
