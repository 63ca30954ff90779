use Rattle.std.proofs.Common.{ap, sym, ◌∙◌, arith}
use Rattle.std.specs.Option.{is_some}
use Rattle.ssa_model.specs.definitions.Facts.{one_if}
use Rattle.ssa_model.specs.definitions.PathMap.{listed, size}
use Rattle.ssa_path.specs.Trie.{paths}
use Rattle.ssa_path.proofs.InOrder.{size-listed}
use Rattle.ssa_turn_table.proofs.size.change_size.Goals as goal

pub returns-in-Some : goal.returns-in-Some
returns-in-Some c =
    let gained = ap (λ t. size (listed (paths t))) (sym c.as_trie.ensures) ∙ size-listed (paths c.as_trie.result.now) c.count_paths-gained.ensures.rise in
    let lost = ap (λ t. size (listed (paths t))) (sym c.as_trie-2.ensures) ∙ size-listed (paths c.as_trie-2.result.now) c.count_paths-lost.ensures.rise in
    let moment = ap (λ m. one_if (is_some m)) c.in-Some.is in
    omega (arith, c.count_paths-gained.ensures.count, c.count_paths-lost.ensures.count, c.saturating_add-paths.ensures, c.saturating_add.ensures)

pub returns-in-None : goal.returns-in-None
returns-in-None c =
    let gained = ap (λ t. size (listed (paths t))) (sym c.as_trie.ensures) ∙ size-listed (paths c.as_trie.result.now) c.count_paths-gained.ensures.rise in
    let lost = ap (λ t. size (listed (paths t))) (sym c.as_trie-2.ensures) ∙ size-listed (paths c.as_trie-2.result.now) c.count_paths-lost.ensures.rise in
    let moment = ap (λ m. one_if (is_some m)) c.in-None.is in
    omega (arith, c.count_paths-gained.ensures.count, c.count_paths-lost.ensures.count, c.saturating_add-paths.ensures)
