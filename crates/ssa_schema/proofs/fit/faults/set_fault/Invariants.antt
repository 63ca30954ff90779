use Rattle.std.proofs.Common.{◌≡◌, List, [], drop}
use Rattle.ssa_model.specs.definitions.Path.{Path, Element, same_element}
use Rattle.ssa_model.specs.definitions.Kind.{value_faults}
use Rattle.ssa_json.specs.View.{items_view}
use Rattle.ssa_schema.specs.Kinds.{scalar_kind_view}
use Rattle.ssa_schema.specs.Refusals.{first_of}
use Rattle.ssa_schema.specs.Repeats.{repeat_from, leading_values}
use Rattle.ssa_schema.proofs.fit.faults.set_fault.Given as goal

-- what repeats is looked for behind the items before, and those that are left decide
abbrev pub invariant-loop-i : goal.invariant-loop-i
invariant-loop-i l = record {
  before : List Element;
  known : repeat_from same_element l.i before (leading_values (scalar_kind_view l.wanted) (items_view (drop l.i l.items))) ≡ l.repeated;
  left : (p : Path) → first_of (value_faults (scalar_kind_view l.wanted) [] (items_view l.items) p)
      ≡ first_of (value_faults (scalar_kind_view l.wanted) before (items_view (drop l.i l.items)) p);
}
