use Rattle.std.proofs.Common.{◌≡◌, ℕ, ◌+◌, ◌*◌, ◌≤◌, List, length, true}
use Rattle.json.specs.Json.{items, value, parse_map}
use Rattle.serde_json.specs.Read.{of_items, converted}
use Rattle.ssa_json.specs.View.{items_view}
use Rattle.ssa_json.specs.Written.{items_narrow}
use Rattle.ssa_json.specs.declared.value.Json.{Json}
use Rattle.ssa_json.proofs.Converting.{Found}
use Rattle.ssa_json.proofs.PairsRead.{LeaveRest, StayNarrow}
use Rattle.ssa_json.proofs.StraightData.{before}
use Rattle.ssa_json.proofs.MovedBehind.{Wait}
use Rattle.ssa_json.proofs.straight.+straight.Given as goal

abbrev pub decreases-read_value : goal.decreases-read_value
decreases-read_value l = 3 * l.depth + 1

abbrev pub decreases-value_from : goal.decreases-value_from
decreases-value_from l = 3 * l.depth

abbrev pub decreases-read_items : goal.decreases-read_items
decreases-read_items l = 3 * l.depth + 2

abbrev pub decreases-read_members : goal.decreases-read_members
decreases-read_members l = 3 * l.depth + 2

abbrev pub decreases-read_pairs : goal.decreases-read_pairs
decreases-read_pairs l = 3 * l.depth + 1

abbrev pub invariant-read_items-items : goal.invariant-read_items-items
invariant-read_items-items l = record {
  most : ℕ;
  all : List Json;
  enough : length l.reader ≤ most;
  read : converted of_items (items (value l.depth) (length l.initial.reader) l.initial.reader)
      ≡ parse_map (before all) (converted of_items (items (value l.depth) most l.reader));
  shorter : length l.reader ≤ length l.initial.reader;
  narrow : items_narrow (items_view all) ≡ true;
  wait : Wait l.start l.initial.waiting.items.items l.found.items l.waiting.items.items all;
  pairs : l.waiting.pairs.items ≡ l.initial.waiting.pairs.items;
}

abbrev pub decreases-read_items-items : goal.decreases-read_items-items
decreases-read_items-items l = length l.reader

abbrev pub invariant-read_pairs-members : goal.invariant-read_pairs-members
invariant-read_pairs-members l = record {
  all : List Found;
  read : LeaveRest (value l.depth) l.initial.reader l.reader all;
  shorter : length l.reader ≤ length l.initial.reader;
  narrow : StayNarrow all;
  wait : Wait l.start l.initial.waiting.pairs.items l.found.items l.waiting.pairs.items all;
  items : l.waiting.items.items ≡ l.initial.waiting.items.items;
}

abbrev pub decreases-read_pairs-members : goal.decreases-read_pairs-members
decreases-read_pairs-members l = length l.reader
