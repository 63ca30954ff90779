use Rattle.std.proofs.Common.{◌||◌, ap, sym, ◌∙◌}
use Rattle.std.specs.Prelude.{not, ◌==◌}
use Rattle.ssa_path.specs.declared.trie.Trie.TheViews.{out-Trie}
use Rattle.ssa_path.specs.Trie.{has_some}
use Rattle.ssa_path.proofs.Levels.{some-long}
use Rattle.ssa_path.proofs.trie.has_any.Goals as goal

pub returns-else-child : goal.returns-else-child
returns-else-child c =
    let h = (out-Trie c.args.child.now.1).below.ok.0 in
    ap not c.is_empty.ensures ∙ ap (λ n. not (n == 0)) h
    ∙ sym (ap (λ b. b || has_some (out-Trie c.args.child.now.1).below.items) c.if-child.false ∙ some-long (out-Trie c.args.child.now.1).below.items)
