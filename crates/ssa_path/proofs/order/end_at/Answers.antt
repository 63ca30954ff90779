use Rattle.std.proofs.Common.{◌+◌, sym}
use Rattle.ssa_path.proofs.Members.{key_end-more, key_end-none}
use Rattle.ssa_path.proofs.order.end_at.Goals as goal

pub returns-then-i-keys : goal.returns-then-i-keys
returns-then-i-keys c = sym (key_end-more c.args.keys.now (c.args.i + 1) c.if-i-keys.true)

pub returns-else-i-keys : goal.returns-else-i-keys
returns-else-i-keys c = sym (key_end-none c.args.keys.now (c.args.i + 1) c.if-i-keys.false)
