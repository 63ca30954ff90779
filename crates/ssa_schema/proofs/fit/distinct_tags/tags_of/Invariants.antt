use Rattle.std.proofs.Common.{◌≡◌, map, take}
use Rattle.ssa_schema.specs.Repeats.{key_tag}
use Rattle.ssa_schema.proofs.fit.distinct_tags.tags_of.Given as goal

-- the tags so far
abbrev pub invariant-loop-key : goal.invariant-loop-key
invariant-loop-key l = l.tags.items ≡ map key_tag (take l.key-index l.keys)
