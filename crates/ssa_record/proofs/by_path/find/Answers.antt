use Rattle.std.proofs.Common.{sym}
use Rattle.ssa_record.proofs.by_path.find.Goals as goal

pub returns-in-Ok : goal.returns-in-Ok
returns-in-Ok g c = sym (c.in-Ok.ensures.is c.index-entries-i.result)
