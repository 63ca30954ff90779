use Rattle.std.proofs.Common.{◌≡◌, map, drop}
use Rattle.ssa_model.specs.definitions.Schema.{is_one_of_texts}
use Rattle.ssa_schema.proofs.read.members.is_one_of.Given as goal

-- what is left decides
abbrev pub invariant-loop-word : goal.invariant-loop-word
invariant-loop-word l = is_one_of_texts l.text (map (λ w. w.now) l.words) ≡ is_one_of_texts l.text (map (λ w. w.now) (drop l.word-index l.words))
