use Rattle.std.proofs.Common.{map, ◌&&◌, not, sym, ap, ◌∙◌}
use Rattle.ssa_model.specs.definitions.Carry.{change_for, is_key_among}
use Rattle.ssa_model.specs.definitions.PathMap.{has}
use Rattle.ssa_turn_table.specs.Tables.{keys_view}
use Rattle.ssa_model.specs.laws.FittingRecords.{loses}
use Rattle.ssa_model.proofs.PathMaps.{has-minus}
use Rattle.ssa_merge.specs.Managers.{entry_view}
use Rattle.ssa_told.specs.Told.{told_change, told_table}
use Rattle.ssa_record.proofs.FittingEntries.{gives-up-decides, ok-so}
use Rattle.ssa_record.proofs.fitting_changes.gives_up.Goals as goal

pub returns-in_ok-left-in-Some : goal.returns-in_ok-left-in-Some
returns-in_ok-left-in-Some c =
    let d = told_table c.args.told.now in
    let e = entry_view c.args.entry.now in
    let s = c.args.entry.now.set in
    let left = c.in_ok-left-in-Some.left in
    let lose = c.in-Some.change.now.lose in
    let told = c.in-Some.ensures ∙ ap (λ cs. change_for (map told_change cs) e.manager) c.deref-2.ensures.value in
    let stays = ap (λ ks. is_key_among (keys_view ks) e.manager) (sym c.deref.ensures.value) ∙ sym c.is_key_among.ensures ∙ c.if-is_key_among.false in
    ok-so c.is_apart.result
    (λ b. gives-up-decides d c.args.cut.now left e b stays
    (λ p. ap (λ x. has x p) c.in_ok-left-in-Some.ensures ∙ has-minus s lose p ∙ ap (λ o. has s p && not (loses o p)) told))
    c.is_apart.ensures
