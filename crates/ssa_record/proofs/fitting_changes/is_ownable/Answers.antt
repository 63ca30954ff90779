use Rattle.std.proofs.Common.{sym, ◌∙◌}
use Rattle.ssa_record.proofs.FittingEntries.{told, refused}
use Rattle.ssa_record.proofs.OwnablePaths.{all-ownable, one-not}
use Rattle.ssa_record.proofs.fitting_changes.is_ownable.Goals as goal

pub returns-in-Some : goal.returns-in-Some
returns-in-Some c = refused (one-not c.args.body.now c.args.set.now c.in-Some._path (sym c.in_ok-_path.ensures ∙ c.in-Some.is))

pub returns-in-None : goal.returns-in-None
returns-in-None c = told (all-ownable c.args.body.now c.args.set.now (sym c.in_ok-_path.ensures ∙ c.in-None.is))
