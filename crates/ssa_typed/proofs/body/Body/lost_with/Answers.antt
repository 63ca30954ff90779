use Rattle.std.proofs.Common.{◌∙◌, sym, subst₂}
use Rattle.ssa_model.specs.definitions.Body.{removed}
use Rattle.ssa_typed.specs.Alike.{AreAlike}
use Rattle.ssa_typed.specs.LostWith.{left_with}
use Rattle.ssa_typed.proofs.LostPlaces.{free-listed, lost-listed, trees-free}
use Rattle.ssa_typed.proofs.body.Body.lost_with.Goals as goal

pub fallen_paths-requires-clause-free : goal.fallen_paths-requires-clause-free
fallen_paths-requires-clause-free c =
    let m = c.config.inside.root in
    let g = c.root.result.now in
    let k = c.root-2.result.now in
    trees-free m g k (free-listed m g k _ _ _ c.config.view_is c.root.ensures.same c.root-2.ensures.same c.requires.free)

pub returns : goal.returns
returns c =
    let n = c.self.inside.root in
    let m = c.config.inside.root in
    let g = c.root.result.now in
    let k = c.root-2.result.now in
    let alike = subst₂ (λ a b. AreAlike a b) (sym c.self.view_is) (sym c.config.view_is) c.requires.alike in
    let free = free-listed m g k _ _ _ c.config.view_is c.root.ensures.same c.root-2.ensures.same c.requires.free in
    c.from_root.ensures
    ∙ lost-listed n m g k c.in_ok-root.root c.self.invariant.tree c.config.invariant.tree alike free c.in_ok-root.ensures
    ∙ (λ i. removed (c.self.view_is i) (left_with (c.self.view_is i) (c.config.view_is i) (c.root.ensures.same i) (c.root-2.ensures.same i)))
