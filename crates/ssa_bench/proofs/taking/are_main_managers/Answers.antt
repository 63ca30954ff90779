use Rattle.std.proofs.Common.{sym, ap, ◌∙◌}
use Rattle.std.proofs.lemmas.List.Folds.{list_all-map}
use Rattle.std.specs.List.{list_all}
use Rattle.ssa_model.specs.definitions.Formats.{is_main}
use Rattle.ssa_model.specs.definitions.Table.{Entry}
use Rattle.ssa_merge.specs.Managers.{entry_view}
use Rattle.ssa_bench.proofs.taking.are_main_managers.Goals as goal

pub returns : goal.returns
returns c =
    c.are_main_entries.ensures ∙ sym (list_all-map (λ (e : Entry). is_main e.manager.part) entry_view c.entries.result.now)
    ∙ ap (list_all (λ (e : Entry). is_main e.manager.part)) c.entries.ensures.same
