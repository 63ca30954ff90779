use Rattle.std.proofs.Common.{◌∙◌}
use Rattle.ssa_model.specs.definitions.Body.{added, modified, removed}
use Rattle.ssa_typed.specs.Differences.{Added, Modified, Removed}
use Rattle.ssa_typed.specs.declared.compare.Scope.TheVariants.{Whole}
use Rattle.ssa_typed.proofs.Differing.{difference-listed}
use Rattle.ssa_typed.proofs.body.Body.compare.Goals as goal

pub returns : goal.returns
returns c =
    let n = c.self.inside.root in
    let m = c.after.inside.root in
    let told = c.in_ok-told.told in
    record {
      added_are = c.from_root.ensures
          ∙ difference-listed Added n m told.added c.self.invariant.tree c.after.invariant.tree c.in_ok-told.ensures.told.added_trie
          ∙ (λ i. added (c.self.view_is i) (c.after.view_is i));
      modified_are = c.from_root-2.ensures
          ∙ difference-listed Modified n m told.modified c.self.invariant.tree c.after.invariant.tree c.in_ok-told.ensures.told.modified_trie
          ∙ (λ i. modified (c.self.view_is i) (c.after.view_is i));
      removed_are = c.from_root-3.ensures
          ∙ difference-listed (Removed Whole) n m told.removed c.self.invariant.tree c.after.invariant.tree c.in_ok-told.ensures.told.removed_trie
          ∙ (λ i. removed (c.self.view_is i) (c.after.view_is i));
    }
