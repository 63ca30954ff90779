use Rattle.std.proofs.Common.{ap, ◌∙◌, not, Some, None}
use Rattle.ssa_model.specs.definitions.Path.{is_root}
use Rattle.ssa_model.specs.definitions.PathMap.{has_at_or_below, paths, set_of}
use Rattle.ssa_model.specs.definitions.Parts.{is_path_of}
use Rattle.ssa_path.specs.Subresources.{part_view}
use Rattle.ssa_merge.specs.Managers.{key_view, entry_view}
use Rattle.ssa_merge.specs.States.{state_view}
use Rattle.ssa_merge.proofs.GivenUp.{absent-of, unreached}
use Rattle.ssa_merge.proofs.KeptSets.{absent-none}
use Rattle.ssa_merge.proofs.given_up.left_out.Goals as goal

pub returns-then-keeps : goal.returns-then-keeps
returns-then-keeps c =
    c.new.ensures ∙ absent-none (state_view c.args.state.now) (key_view c.args.key.now) c.args.config.now (c.requires.kept c.if-keeps.true ∙ c.requires.points)

pub returns-in_ok-unreached-in-Some : goal.returns-in_ok-unreached-in-Some
returns-in_ok-unreached-in-Some c =
    let e = entry_view c.in-Some.entry.now in
    let part = part_view c.args.key.now.part in
    c.without_root.ensures
    ∙ ap (λ s. set_of (paths s) (λ p. not (is_root p))) (c.keep_part.ensures
    ∙ ap (λ s. set_of (paths s) (is_path_of part)) (c.in_ok-unreached-in-Some.ensures
    ∙ ap (λ t. set_of (paths e.owned) (λ p. not (has_at_or_below t p))) c.requires.points))
    ∙ unreached e.owned part c.args.config.now c.points_tell_places.ensures
    ∙ absent-of (state_view c.args.state.now) (key_view c.args.key.now) c.args.config.now (Some e) c.in-Some.ensures

pub returns-in-None : goal.returns-in-None
returns-in-None c = c.new-in-None.ensures ∙ absent-of (state_view c.args.state.now) (key_view c.args.key.now) c.args.config.now None c.in-None.ensures
