use Rattle.std.proofs.Common.{rules}
use Rattle.std.proofs.lemmas.List.Elements.{filter_from_retain}
use Rattle.ssa_path.specs.Trie.{has_any}
use Rattle.ssa_path.proofs.trie.take_out_bare.Goals as goal

pub returns-then-any_bare-clause-items : goal.returns-then-any_bare-clause-items
returns-then-any_bare-clause-items c = filter_from_retain _ has_any (λ p x b q h. search rules) _ _ _ c.retain.ensures.filtered
