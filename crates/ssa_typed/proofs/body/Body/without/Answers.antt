use Rattle.std.proofs.Common.{◌≡◌, [], false, not, ◌∙◌, sym, subst}
use Rattle.ssa_model.specs.definitions.Body.{restricted}
use Rattle.ssa_model.specs.definitions.PathMap.{has}
use Rattle.ssa_model.specs.definitions.Valid.{IsRooted}
use Rattle.ssa_path.specs.Trie.{paths_below}
use Rattle.ssa_path.proofs.Levels.{trie-parts}
use Rattle.ssa_typed.specs.Rows.{below}
use Rattle.ssa_typed.specs.Without.{GoWhole}
use Rattle.ssa_typed.proofs.Parting.{below-whole, whole-listed, whole-trees, without-body, without-tree}
use Rattle.ssa_typed.proofs.body.Body.without.Goals as goal

pub node_without-requires-clause-rise : goal.node_without-requires-clause-rise
node_without-requires-clause-rise c = (trie-parts c.root.result.now c.deref.result.now c.deref.ensures.value c.root.ensures.trie).0

pub node_without-requires-clause-whole : goal.node_without-requires-clause-whole
node_without-requires-clause-whole c =
    let n = c.self.inside.root in
    let g = c.root.result.now in
    let whole = whole-trees n g _ _ c.self.view_is c.root.ensures.same c.requires.whole in
    subst (λ gs. GoWhole (below n) (paths_below gs)) (sym c.deref.ensures.value) (below-whole n g c.self.invariant.tree (whole-listed n g whole))

pub invariant_of-result : goal.invariant_of-result
invariant_of-result c =
    let n = c.self.inside.root in
    let g = c.root.result.now in
    let without = rw c.deref.ensures.value at c.in_ok-root.ensures in
    let whole = whole-trees n g _ _ c.self.view_is c.root.ensures.same c.requires.whole in
    let part = without-body n c.in_ok-root.root g c.self.invariant.tree without
    (subst (λ s. has s [] ≡ false) (sym c.root.ensures.same) c.requires.inner) whole in
    record {
      tree = without-tree n c.in_ok-root.root g c.self.invariant.tree without;
      rooted = subst IsRooted (sym (part ∙ (λ i. restricted (c.self.view_is i) (λ p. not (has (c.root.ensures.same i) p))))) c.requires.rooted;
    }

pub returns : goal.returns
returns c =
    let n = c.self.inside.root in
    let g = c.root.result.now in
    let without = rw c.deref.ensures.value at c.in_ok-root.ensures in
    let whole = whole-trees n g _ _ c.self.view_is c.root.ensures.same c.requires.whole in
    without-body n c.in_ok-root.root g c.self.invariant.tree without (subst (λ s. has s [] ≡ false) (sym c.root.ensures.same) c.requires.inner) whole
    ∙ (λ i. restricted (c.self.view_is i) (λ p. not (has (c.root.ensures.same i) p)))
