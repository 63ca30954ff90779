use Rattle.std.proofs.Common.{◌≡◌, ◌+◌, ◌*◌, drop}
use Rattle.ssa_model.specs.definitions.Schema.{property_faults}
use Rattle.ssa_json.specs.View.{members_view}
use Rattle.ssa_schema.specs.Refusals.{first_of, faults_at}
use Rattle.ssa_schema.specs.Standings.{standing_view}
use Rattle.ssa_schema.proofs.read.walk.+walk.Given as goal

abbrev pub decreases-first_refusal : goal.decreases-first_refusal
decreases-first_refusal l = 6 * l.levels

abbrev pub decreases-object_refusal : goal.decreases-object_refusal
decreases-object_refusal l = 6 * l.levels + 5

abbrev pub decreases-inner_refusal : goal.decreases-inner_refusal
decreases-inner_refusal l = 6 * l.levels + 4

abbrev pub decreases-member_refusal : goal.decreases-member_refusal
decreases-member_refusal l = 6 * l.levels + 1

abbrev pub decreases-properties_refusal : goal.decreases-properties_refusal
decreases-properties_refusal l = 6 * l.levels + 2

abbrev pub decreases-each_refusal : goal.decreases-each_refusal
decreases-each_refusal l = 6 * l.levels + 1

-- what is left decides
abbrev pub invariant-each_refusal-loop-schema : goal.invariant-each_refusal-loop-schema
invariant-each_refusal-loop-schema l =
    first_of (property_faults (faults_at l.levels (standing_view l.standing)) (members_view l.schemas.entries))
    ≡ first_of (property_faults (faults_at l.levels (standing_view l.standing)) (members_view (drop l.schema-index l.schema-items)))
