use Rattle.std.proofs.Common.{◌≡◌, ◌&&◌, not, drop}
use Rattle.ssa_model.specs.definitions.Path.{is_key_field}
use Rattle.ssa_model.specs.definitions.PathMap.{has_at_or_below, paths, set_of}
use Rattle.ssa_model.specs.definitions.Table.{owned_by_others}
use Rattle.ssa_merge.specs.Managers.{key_view, table_view}
use Rattle.ssa_merge.proofs.HeldAbove.{unheld}
use Rattle.ssa_merge.proofs.given_up.unneeded.Given as goal

-- what is left free of the entries before, those after leave free
abbrev pub invariant-loop-entry : goal.invariant-loop-entry
invariant-loop-entry l =
    set_of (paths l.fn.absent) (λ g. not (is_key_field g) && not (has_at_or_below (owned_by_others (table_view l.table) (key_view l.key)) g))
    ≡ unheld l.free (table_view (drop l.entry-index l.table)) (key_view l.key)
