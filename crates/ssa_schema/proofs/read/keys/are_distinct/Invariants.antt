use Rattle.std.proofs.Common.{◌≡◌, List, drop}
use Rattle.ssa_model.specs.definitions.Json.{Text}
use Rattle.ssa_model.specs.definitions.Values.{texts_of}
use Rattle.ssa_json.specs.View.{items_view}
use Rattle.ssa_schema.specs.Words.{are_distinct_in}
use Rattle.ssa_schema.proofs.Distinct.{apart_in}
use Rattle.ssa_schema.proofs.Earlier.{Holds}
use Rattle.ssa_schema.proofs.read.keys.are_distinct.Given as goal

-- the set has the texts before, and those that are left decide
abbrev pub invariant-loop-item : goal.invariant-loop-item
invariant-loop-item l = record {
  before : List Text;
  known : Holds l.earlier.keys before;
  left : are_distinct_in (texts_of (items_view l.items)) ≡ apart_in before (texts_of (items_view (drop l.item-index l.items)));
}
