use Rattle.std.proofs.Common.{◌≡◌, ◌+◌, ◌*◌, map, take, true}
use Rattle.ssa_schema.specs.Kinds.{kind_view}
use Rattle.ssa_schema.specs.Builds.{kind_at}
use Rattle.ssa_schema.proofs.Made.{named, asked}
use Rattle.ssa_schema.proofs.Ordered.{all_ordered}
use Rattle.ssa_schema.proofs.read.build.+kinds.Given as goal

abbrev pub decreases-kind_of : goal.decreases-kind_of
decreases-kind_of l = 6 * l.levels

abbrev pub decreases-kind_of_object : goal.decreases-kind_of_object
decreases-kind_of_object l = 6 * l.levels + 5

abbrev pub decreases-list_kind : goal.decreases-list_kind
decreases-list_kind l = 6 * l.levels + 4

abbrev pub decreases-item_kinds : goal.decreases-item_kinds
decreases-item_kinds l = 6 * l.levels + 3

abbrev pub decreases-fields_kind : goal.decreases-fields_kind
decreases-fields_kind l = 6 * l.levels + 4

abbrev pub decreases-property_kinds : goal.decreases-property_kinds
decreases-property_kinds l = 6 * l.levels + 2

abbrev pub decreases-kinds_of : goal.decreases-kinds_of
decreases-kinds_of l = 6 * l.levels + 1

-- the schemas so far have their kinds
abbrev pub invariant-kinds_of-loop-name : goal.invariant-kinds_of-loop-name
invariant-kinds_of-loop-name l = record {
  same : map (named kind_view) l.found.items ≡ map (asked (kind_at l.levels)) (take l.name-index l.name-items);
  ordered : all_ordered l.found.items ≡ true;
}
