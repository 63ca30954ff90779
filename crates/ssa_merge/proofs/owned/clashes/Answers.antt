use Rattle.std.proofs.Common.{◌≡◌, ◌+◌, ◌∷◌, ◌++◌, drop, ap, sym, ◌∙◌}
use Rattle.ssa_model.specs.definitions.Operations.{clashes}
use Rattle.ssa_model.proofs.Basics.{not_false, not_true}
use Rattle.ssa_path.proofs.Lists.{left-at}
use Rattle.ssa_model.specs.definitions.PathMap.{is_empty}
use Rattle.ssa_merge.specs.Managers.{key_view, entry_view, table_view, clashes_view}
use Rattle.ssa_merge.proofs.Clashes.{clash-none, clash-own, clash-some, found-more, no-clashes}
use Rattle.ssa_merge.proofs.owned.clashes.Goals as goal
use Rattle.ssa_merge.proofs.owned.clashes.Goals.{then-not-is_same+then-meets+in_ok-fields+in_ok-other+in_ok-push, else-not-is_same, else-not-is_same-via-then-not-is_same+else-meets, else-not-is_same-via-else-not-is_same}

pub returns-then-is_empty : goal.returns-then-is_empty
returns-then-is_empty c =
    ap clashes_view c.new-found.ensures.items
    ∙ sym (no-clashes (key_view c.args.key.now) c.args.changed.now (sym c.is_empty.ensures ∙ c.if-is_empty.true) (table_view c.args.table.now))

pub loop-entry-preserved : goal.loop-entry-preserved
loop-entry-preserved c =
    let a = key_view c.args.key.now in
    let changed = c.args.changed.now in
    let i = c.loop-entry.entry-index in
    let e = c.entry-item.result in
    let found = c.loop-entry.found.items in
    let rest = table_view (drop (i + 1) c.args.table.now) in
    let one = ap (λ es. clashes a changed (table_view es)) (left-at c.args.table.now i e c.loop-entry-test.true c.entry-item.is) in
    let more : clashes_view found ++ clashes a changed (entry_view e ∷ rest) ≡ clashes_view c.if-not-is_same.found.items ++ clashes a changed rest =
    elim c.if-not-is_same.branch [
      | then-not-is_same+then-meets+in_ok-fields+in_ok-other+in_ok-push w ↦
          let fields = w.in_ok-fields.fields in
          ap (λ cs. clashes_view found ++ cs) (clash-some a changed (entry_view e) rest fields (sym c.is_same.ensures ∙ w.if-not-is_same.true)
          w.in_ok-fields.ensures (ap is_empty w.in_ok-fields.ensures ∙ not_true _ (sym w.meets.ensures ∙ w.if-meets.true))
          ∙ (λ i. record { manager = sym w.in_ok-other.ensures i; fields = fields } ∷ clashes a changed rest))
          ∙ found-more found c.if-not-is_same.found.items w.in_ok-other.other fields (clashes a changed rest)
          (ap (λ v. v.items) w.found-is ∙ w.in_ok-push.ensures.items)
      | else-not-is_same w ↦
          ap (λ cs. clashes_view found ++ cs) (elim w.else-not-is_same.branch [
            | else-not-is_same-via-then-not-is_same+else-meets v ↦ clash-none a changed (entry_view e) rest (sym c.is_same.ensures ∙ v.if-not-is_same.true)
                (not_false _ (sym v.meets.ensures ∙ v.if-meets.false))
            | else-not-is_same-via-else-not-is_same v ↦ clash-own a changed (entry_view e) rest (sym c.is_same.ensures ∙ v.if-not-is_same.false)
          ])
          ∙ ap (λ v. clashes_view v.items ++ clashes a changed rest) (sym w.found-is)
    ] in
    c.loop-entry.invariant ∙ ap (λ cs. clashes_view found ++ cs) one ∙ more
