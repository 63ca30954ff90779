use Rattle.std.proofs.Common.{◌||◌, ap, sym, ◌∙◌}
use Rattle.std.specs.Prelude.{not, ◌==◌}
use Rattle.ssa_path.specs.declared.trie.Trie.TheViews.{out-Trie}
use Rattle.ssa_path.specs.Trie.{has_some}
use Rattle.ssa_path.proofs.Levels.{filled-is, some-long}
use Rattle.ssa_path.proofs.trie.Trie.has_paths.Goals as goal

pub returns-else-self : goal.returns-else-self
returns-else-self c =
    let h = (out-Trie c.args.self.now).below.ok.0 in
    ap not c.is_empty.ensures ∙ ap (λ n. not (n == 0)) h ∙ sym (filled-is c.args.self.now c.requires
    ∙ ap (λ b. b || has_some (out-Trie c.args.self.now).below.items) c.if-self.false ∙ some-long (out-Trie c.args.self.now).below.items)
