use Rattle.std.proofs.Common.{◌≡◌, take, true}
use Rattle.std.specs.List.{list_all}
use Rattle.ssa_model.specs.definitions.Formats.{is_main}
use Rattle.ssa_path.specs.Subresources.{part_view}
use Rattle.ssa_bench.proofs.taking.are_main_entries.Given as goal

abbrev pub invariant-loop-entry : goal.invariant-loop-entry
invariant-loop-entry l = list_all (λ e. is_main (part_view e.key.part)) (take l.entry-index l.entries) ≡ true
