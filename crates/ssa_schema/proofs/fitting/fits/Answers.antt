use Rattle.std.proofs.Common.{not, sym, ap, ◌∙◌}
use Rattle.std.proofs.Math.Bool.{not-not}
use Rattle.ssa_model.specs.definitions.Kind.{faults}
use Rattle.ssa_json.specs.View.{view}
use Rattle.ssa_schema.specs.Kinds.{kind_view}
use Rattle.ssa_schema.proofs.Finding.{found-none}
use Rattle.ssa_schema.proofs.fitting.fits.Goals as goal

pub returns : goal.returns
returns c =
    sym (not-not c.is_none.result) ∙ sym (ap not c.is_none.ensures)
    ∙ found-none c.in_ok-found.found (faults (kind_view c.args.kind.now) (view c.args.value.now)) c.in_ok-found.ensures
