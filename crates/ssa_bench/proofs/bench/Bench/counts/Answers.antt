use Rattle.std.proofs.Common.{◌≡◌, ◌≤◌, ◌-◌, ◌^◌, ℕ, List, [], ◌∷◌, length, true, ap, sym, subst, ◌∙◌, arith}
use Rattle.std.specs.Prelude.{is_some, min}
use Rattle.std.specs.FinMap.Entries.{find}
use Rattle.ssa_model.specs.definitions.Limits.{most_places}
use Rattle.ssa_model.specs.definitions.Path.{Path, path_cmp}
use Rattle.ssa_model.specs.definitions.PathMap.{size}
use Rattle.ssa_model.specs.definitions.Kind.{Kind}
use Rattle.ssa_model.specs.definitions.Operations.{State}
use Rattle.ssa_model.specs.definitions.History.{present}
use Rattle.ssa_model.specs.definitions.Valid.{IsValidState}
use Rattle.ssa_merge.specs.States.{state_view}
use Rattle.ssa_model.proofs.ValidTimelines.{present_valid}
use Rattle.ssa_bench.proofs.bench.Bench.counts.Goals as goal

has_some : {X : Type 0} (es : List (Path × X)) → is_some (find path_cmp [] es) ≡ true → 1 ≤ length es
has_some [] h = absurd (cc)
has_some (e ∷ es) h = omega arith

-- the root stands in the body of a valid state
root_counted : (kind : Kind) (s : State) → IsValidState kind s → 1 ≤ size s.body
root_counted kind s h = has_some s.body.entries h.fits.root

in_full : (n counted : ℕ) → n ≤ most_places → counted ≡ min n (2 ^ 64 - 1) → counted ≡ n
in_full n counted few h = omega (arith, few, h)

pub overflow_sub-result : goal.overflow_sub-result
overflow_sub-result c =
    let kind = c.self.inside.schema.kind in
    let s = state_view c.present-now.result.now in
    let valid = subst (IsValidState kind) (sym c.present-now.ensures) (present_valid kind c.self.inside.timeline c.self.invariant.states) in
    let counted = in_full (size s.body) c.size.result valid.few c.size.ensures in
    let some = root_counted kind s valid in
    omega (arith, counted, some)

pub returns-clause-paths : goal.returns-clause-paths
returns-clause-paths c =
    let kind = c.self.inside.schema.kind in
    let s = state_view c.present-now.result.now in
    let valid = subst (IsValidState kind) (sym c.present-now.ensures) (present_valid kind c.self.inside.timeline c.self.invariant.states) in
    ap (λ n. n - 1) (in_full (size s.body) c.size.result valid.few c.size.ensures)
    ∙ ap (λ t. size t.body - 1) c.present-now.ensures
    ∙ ap (λ b. size (present b.timeline).body - 1) c.self.view_is
