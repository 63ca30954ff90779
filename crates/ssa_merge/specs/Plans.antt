-- What plans and changes say.
use Rattle.std.specs.Prelude.{◌≡◌, List, Bool, true, not, ◌||◌, if◌then◌else◌, Option, Some, None, Result, Ok, Err}
use Rattle.ssa_model.specs.definitions.Body.{Body}
use Rattle.ssa_model.specs.definitions.Operations as model
use Rattle.ssa_model.specs.definitions.PathMap.{PathSet}
use Rattle.ssa_model.specs.definitions.Valid.{has_distinct_keys, IsRooted, KeepsOrder}
use Rattle.ssa_typed.specs.Alike.{AreAlike}
use Rattle.ssa_typed.specs.Applied.{MayGo, applied}
use Rattle.ssa_typed.specs.Differences.{IsComparison}
use Rattle.ssa_typed.specs.KeepsOrder.{KeepsItemOrder}
use Rattle.ssa_merge.specs.Managers.{clashes_view}
use Rattle.ssa_merge.specs.States.{state_view}
use Rattle.ssa_merge.specs.TableChanges.{changed_table, LeadsTo}
use Rattle.ssa_merge.specs.declared.change.Change.{Change}
use Rattle.ssa_merge.specs.declared.change.NewBody.{NewBody}
use Rattle.ssa_merge.specs.declared.change.NewBody.TheVariants.{Same, Whole, Over}
use Rattle.ssa_merge.specs.declared.table_change.TableChange.{TableChange}
use Rattle.ssa_merge.specs.declared.plan.Plan.{Plan}
use Rattle.ssa_merge.specs.declared.plan.Refusal.{Refusal}
use Rattle.ssa_merge.specs.declared.plan.Refusal.TheVariants.{Conflict, TooManyPaths, TooManyManagers, OutOfMemory}

-- the plan leads from one state to another
pub record IsPlan (before : model.State) (plan : Plan) (after : model.State) : Type 0 where
  pub target_is : state_view plan.target ≡ after
  pub comparison_is : IsComparison before.body after.body plan.comparison

-- the managers that are there before and after stand in the same order
abbrev pub StandInOrder : model.State → Plan → Type 0
StandInOrder before plan = has_distinct_keys before.table ≡ true → KeepsOrder before.table (state_view plan.target).table

-- the refusal that is told
abbrev pub IsRefusal : Refusal → model.Refusal → Type 0
IsRefusal (Conflict clashes) r = r ≡ model.conflict (clashes_view clashes.items)
IsRefusal TooManyPaths r = r ≡ model.too_many_paths
IsRefusal TooManyManagers r = r ≡ model.too_many_managers
IsRefusal OutOfMemory r = ⊥

-- the clashes by which an Apply is refused, where there are some that are not forced
abbrev pub conflict_of : Bool → List model.Clash → Option (List model.Clash)
conflict_of force clash = if not (force || model.is_none clash) then Some clash else None

-- The plan's target is the given state, or the refusal is the given one; of want of memory nothing is said.
abbrev pub IsPlanned : model.State → Result Plan Refusal → Result model.State model.Refusal → Type 0
IsPlanned before (Ok plan) given = (after : model.State) × (given ≡ Ok after) × IsPlan before plan after
IsPlanned before (Err OutOfMemory) given = Unit {0}
IsPlanned before (Err refusal) given = (r : model.Refusal) × (given ≡ Err r) × IsRefusal refusal r

-- the body after a change, which removes these places
abbrev pub body_after : NewBody → PathSet → Body → Body
body_after Same gone b = b
body_after (Whole c) gone b = c
body_after (Over c) gone b = applied b c gone

-- where a configuration is put over the body, the two are alike, only what it leaves goes, a rooted body stays, and the items of both
-- stand in one order
abbrev pub CanStand : NewBody → PathSet → Body → Type 0
CanStand (Over c) gone b = AreAlike b c × MayGo b c gone × IsRooted (applied b c gone) × KeepsItemOrder b c
CanStand Same gone b = Unit {0}
CanStand (Whole c) gone b = Unit {0}

-- the state after a change
abbrev pub changed_state : model.State → NewBody → PathSet → TableChange → model.State
changed_state before body gone table = record { body = body_after body gone before.body; table = changed_table table before.table }

-- the change leads from one state to another
pub record IsChange (before : model.State) (change : Change) (after : model.State) : Type 0 where
  pub body_is : body_after change.body change.comparison.removed before.body ≡ after.body
  pub table_leads : LeadsTo before.table change.table after.table
  pub comparison_is : IsComparison before.body after.body change.comparison

-- the managers that are there before and after a change stand in the same order
abbrev pub ChangesInOrder : model.State → Change → Type 0
ChangesInOrder before change = has_distinct_keys before.table ≡ true → KeepsOrder before.table (changed_table change.table before.table)

-- The change leads to the given state, or the refusal is the given one; of want of memory nothing is said.
abbrev pub IsChanged : model.State → Result Change Refusal → Result model.State model.Refusal → Type 0
IsChanged before (Ok change) given = (after : model.State) × (given ≡ Ok after) × IsChange before change after
IsChanged before (Err OutOfMemory) given = Unit {0}
IsChanged before (Err refusal) given = (r : model.Refusal) × (given ≡ Err r) × IsRefusal refusal r
