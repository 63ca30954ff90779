use Rattle.std.proofs.Common.{Some, refl, sym, subst₂}
use Rattle.ssa_path.specs.Trie.{paths_below}
use Rattle.ssa_path.proofs.Levels.{trie-parts}
use Rattle.ssa_typed.specs.LostWith.{IsFree}
use Rattle.ssa_typed.proofs.Falling.{free-level}
use Rattle.ssa_typed.proofs.FallenChildren.{tree-falls}
use Rattle.ssa_typed.proofs.lost_with.fallen_paths.Goals as goal

pub fallen_below-requires-clause-gone_rise : goal.fallen_below-requires-clause-gone_rise
fallen_below-requires-clause-gone_rise c = (trie-parts c.args.gone.now c.deref.result.now c.deref.ensures.value c.requires.gone).0

pub fallen_below-requires-clause-held_rise : goal.fallen_below-requires-clause-held_rise
fallen_below-requires-clause-held_rise c = (trie-parts c.args.held.now c.deref-2.result.now c.deref-2.ensures.value c.requires.held).0

pub fallen_below-requires-clause-free : goal.fallen_below-requires-clause-free
fallen_below-requires-clause-free c =
    subst₂ (λ gs hs. IsFree (Some c.args.config.now) (paths_below gs) (paths_below hs)) (sym c.deref.ensures.value) (sym c.deref-2.ensures.value)
    (free-level (Some c.args.config.now) c.args.gone.now (Some c.args.held.now) c.requires.free)

pub returns : goal.returns
returns c =
    tree-falls c.args.live.now c.args.config.now c.args.gone.now c.args.held.now _ c.requires.free refl
    (rw c.deref-2.ensures.value at (rw c.deref.ensures.value at c.in_ok-below.ensures))
