use Rattle.std.proofs.Common.{◌≡◌, ◌≤◌, ◌+◌, ◌∷◌, length, drop, ap, sym, ◌∙◌, not, arith}
use Rattle.std.proofs.lemmas.List.{drop_all}
use Rattle.ssa_model.specs.definitions.Path.{is_key_field}
use Rattle.ssa_model.specs.definitions.PathMap.{has_at_or_below, paths, set_of}
use Rattle.ssa_model.specs.definitions.Table.{owned_by_others}
use Rattle.ssa_path.proofs.Lists.{left-at}
use Rattle.ssa_merge.specs.Managers.{key_view, entry_view, table_view}
use Rattle.ssa_merge.proofs.GivenUp.{twice}
use Rattle.ssa_merge.proofs.HeldAbove.{unheld, unheld-nobody, unheld-none, unheld-other, unheld-own}
use Rattle.ssa_merge.proofs.given_up.unneeded.Goals as goal
use Rattle.ssa_merge.proofs.given_up.unneeded.Goals.{then-not-is_same, else-not-is_same}

pub loop-entry-init : goal.loop-entry-init
loop-entry-init c =
    let others = owned_by_others (table_view c.args.table.now) (key_view c.args.key.now) in
    sym (twice (paths c.args.absent) (λ p. not (is_key_field p)) (λ p. not (has_at_or_below others p)))
    ∙ ap (λ s. set_of (paths s) (λ p. not (has_at_or_below others p))) (sym c.remove_key_fields.ensures)

pub loop-entry-preserved : goal.loop-entry-preserved
loop-entry-preserved c =
    let a = key_view c.args.key.now in
    let i = c.loop-entry.entry-index in
    let e = c.entry-item.result in
    let free = c.loop-entry.free in
    let rest = table_view (drop (i + 1) c.args.table.now) in
    let one : unheld free (table_view (drop i c.args.table.now)) a ≡ unheld free (entry_view e ∷ rest) a =
    ap (λ es. unheld free (table_view es) a) (left-at c.args.table.now i e c.loop-entry-test.true c.entry-item.is) in
    let more : unheld free (entry_view e ∷ rest) a ≡ unheld c.if-not-is_same.free rest a = elim c.if-not-is_same.branch [
      | then-not-is_same w ↦
          unheld-other free (entry_view e) rest a (sym c.is_same.ensures ∙ w.if-not-is_same.true)
          ∙ ap (λ s. unheld s rest a) (sym w.remove_over.ensures ∙ sym w.free-is)
      | else-not-is_same w ↦
          unheld-own free (entry_view e) rest a (sym c.is_same.ensures ∙ w.if-not-is_same.false) ∙ ap (λ s. unheld s rest a) (sym w.free-is)
    ] in
    c.loop-entry.invariant ∙ one ∙ more

pub returns-then-is_empty : goal.returns-then-is_empty
returns-then-is_empty c =
    let rest = table_view (drop c.loop-entry.entry-index c.args.table.now) in
    unheld-none c.loop-entry.free rest (key_view c.args.key.now) (sym c.is_empty.ensures ∙ c.if-is_empty.true) ∙ sym c.loop-entry.invariant

pub returns : goal.returns
returns c =
    let a = key_view c.args.key.now in
    let i = c.loop-entry.entry-index in
    let end : length c.args.table.now ≤ i = omega arith in
    sym (c.loop-entry.invariant ∙ ap (λ es. unheld c.loop-entry.free (table_view es) a) (drop_all i c.args.table.now end) ∙ unheld-nobody c.loop-entry.free a)
