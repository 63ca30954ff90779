use Rattle.std.proofs.Common.{◌<◌, ◌-◌, ap, sym, ◌∙◌, length, take, drop, arith}
use Rattle.ssa_model.specs.definitions.PathMap.{has_at_or_below, is_empty, union}
use Rattle.ssa_merge.specs.Managers.{entry_view, key_view, table_view}
use Rattle.ssa_merge.proofs.HeldAbove.{table-first, tested, tested-other, tested-rest}
use Rattle.ssa_merge.proofs.owned.+owned_over.Goals as goal

pub returns-then-is_empty : goal.returns-then-is_empty
returns-then-is_empty t c =
    let a = key_view c.args.key.now in
    let test = has_at_or_below c.args.set.now in
    let es = c.args.table.now in
    let e = c.first-item.result in
    let rest = table_view (take (length es - 1) (drop 1 es)) in
    let some : 0 < length es = omega (arith, c.in-len1-up.len_at_least) in
    let none = ap is_empty (sym c.in_ok-above-in-len1-up.ensures) ∙ sym c.is_empty.ensures ∙ c.if-is_empty.true in
    c.in_ok-others-in-len1-up.ensures
    ∙ sym (tested-rest (entry_view e) rest a test (sym c.is_same.ensures ∙ c.if-is_same.false) none)
    ∙ sym (ap (λ es. tested es a test) (table-first es e some c.first-item.is))

pub returns-in_ok-all-in-len1-up : goal.returns-in_ok-all-in-len1-up
returns-in_ok-all-in-len1-up t c =
    let a = key_view c.args.key.now in
    let test = has_at_or_below c.args.set.now in
    let es = c.args.table.now in
    let e = c.first-item.result in
    let rest = table_view (take (length es - 1) (drop 1 es)) in
    let some : 0 < length es = omega (arith, c.in-len1-up.len_at_least) in
    c.in_ok-all-in-len1-up.ensures
    ∙ (λ i. union (c.in_ok-above-in-len1-up.ensures i) (c.in_ok-others-in-len1-up.ensures i))
    ∙ sym (tested-other (entry_view e) rest a test (sym c.is_same.ensures ∙ c.if-is_same.false))
    ∙ sym (ap (λ es. tested es a test) (table-first es e some c.first-item.is))
