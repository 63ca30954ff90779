use Rattle.std.proofs.Common.{sym, ap₂, ◌∙◌, ◌-◌, ◌+◌, ◌*◌, arith}
use Rattle.ssa_path.specs.SortKeys.{key_from}
use Rattle.ssa_path.proofs.SortKeys.{room, more-small, key-more}
use Rattle.ssa_path.proofs.sort_key.sort_key.Goals as goal

pub overflow_mul-key : goal.overflow_mul-key
overflow_mul-key c = let small = room c.loop-i.i c.loop-i.key 0 c.loop-i-test.true c.loop-i.invariant.small (omega arith) in omega arith

pub overflow_add-key : goal.overflow_add-key
overflow_add-key c = let small = room c.loop-i.i c.loop-i.key c.from.result c.loop-i-test.true c.loop-i.invariant.small (omega arith) in omega arith

pub loop-i-preserved : goal.loop-i-preserved
loop-i-preserved c = record {
  is =
      ap₂ (λ b t. key_from (8 - (c.loop-i.i + 1)) (c.loop-i.key * 256 + b) t) (c.from.ensures ∙ c.next_byte-byte.ensures.byte) c.next_byte-byte.ensures.rest
      ∙ sym (key-more c.loop-i.i c.loop-i.key c.loop-i.rest.now c.loop-i-test.true) ∙ c.loop-i.invariant.is;
  small = more-small c.loop-i.i c.loop-i.key c.from.result c.loop-i.invariant.small (omega arith);
}
