use Rattle.std.proofs.Common.{ap, sym, ◌∙◌}
use Rattle.std.specs.Option.{option_copied}
use Rattle.ssa_path.specs.View.{element_view}
use Rattle.ssa_path.proofs.Orders.{both_first}
use Rattle.ssa_turn_set.proofs.Tails.{tails-below, paths_of}
use Rattle.ssa_turn_set.proofs.NewRooms.{found-child}
use Rattle.ssa_turn_set.proofs.loss.place_or.Goals as goal

pub returns-in-Some-clause-paths : goal.returns-in-Some-clause-paths
returns-in-Some-clause-paths c =
    let at = sym c.find_child.ensures ∙ ap option_copied c.in-Some.is in
    sym (tails-below (element_view c.args.element.now) c.args.own.now c.requires.rise ∙ ap paths_of at)

pub returns-in-Some-clause-trie : goal.returns-in-Some-clause-trie
returns-in-Some-clause-trie c =
    let at = sym c.find_child.ensures ∙ ap option_copied c.in-Some.is in
    both_first _ _ (found-child (element_view c.args.element.now) c.args.own.now c.in-Some.place.now c.requires.tries at)

pub returns-in-None-clause-paths : goal.returns-in-None-clause-paths
returns-in-None-clause-paths c =
    let at = sym c.find_child.ensures ∙ ap option_copied c.in-None.is in
    c.requires.paths ∙ sym (tails-below (element_view c.args.element.now) c.args.own.now c.requires.rise ∙ ap paths_of at)
