use Rattle.std.proofs.Common.{[], ap, subst}
use Rattle.ssa_model.specs.definitions.Kind.{faults}
use Rattle.ssa_model.specs.definitions.PathMap.{from_entries}
use Rattle.ssa_json.specs.View.{view}
use Rattle.ssa_schema.specs.Kinds.{kind_view}
use Rattle.ssa_typed.specs.Flats.{IsTreeOf}
use Rattle.ssa_typed.specs.Tested.{IsTested}
use Rattle.ssa_typed.proofs.BodyFits.{body-fits, value-of-tree}
use Rattle.ssa_typed.proofs.Fitting.{no-first}
use Rattle.ssa_typed.proofs.at_kind.tree_at.Goals as goal

pub returns-in-Fits : goal.returns-in-Fits
returns-in-Fits c =
    let k = kind_view c.args.kind.now in
    let v = view c.args.value in
    let n = c.in-Fits.tree in
    let made = subst (IsTested (faults k v) (IsTreeOf k v)) c.in-Fits.is c.in_ok-tree.ensures in
    let none = no-first (faults k v []) (made.0 []) in
    record {
      fits = none;
      tree = made.1.tree;
      body = body-fits k v n ([], none) made.1;
      places = ap from_entries (value-of-tree k v n made.1);
    }
