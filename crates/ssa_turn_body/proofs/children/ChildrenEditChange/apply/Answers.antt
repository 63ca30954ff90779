use Rattle.std.proofs.Common.{refl, ap, sym, ◌∙◌}
use Rattle.ssa_typed.specs.declared.node.Node.TheVariants
use Rattle.ssa_turn_body.proofs.Edits.{edit-enter, edit-leave, edited-tree}
use Rattle.ssa_turn_body.proofs.Places.{kind-Branch, kind-Dict, kind-List}
use Rattle.ssa_turn_body.proofs.children.ChildrenEditChange.apply.Goals as goal

pub turn-requires : goal.turn-requires
turn-requires c =
    let is = c.in-Branch.is ∙ ap TheVariants.Branch (sym c.in-Branch.children-is) in
    edit-enter _ kind-Branch c.args.self.now _ _ is c.requires.fits

pub returns-in-Branch-clause-gives : goal.returns-in-Branch-clause-gives
returns-in-Branch-clause-gives c =
    let is = c.in-Branch.is ∙ ap TheVariants.Branch (sym c.in-Branch.children-is) in
    edit-leave _ kind-Branch c.args.self.now _ _ _ _ c.turn.new.children is (rw (c.in-Branch.is, TheVariants.outs-Branch c.in-Branch.children) refl)
    c.requires.tree c.requires.fits c.turn.ensures

pub returns-in-Branch-clause-tree : goal.returns-in-Branch-clause-tree
returns-in-Branch-clause-tree c =
    let is = c.in-Branch.is ∙ ap TheVariants.Branch (sym c.in-Branch.children-is) in
    edited-tree _ kind-Branch c.args.self.now _ _ _ _ c.turn.new.children is (rw (c.in-Branch.is, TheVariants.outs-Branch c.in-Branch.children) refl)
    c.requires.tree c.requires.fits c.turn.ensures

pub turn-requires-in-Dict : goal.turn-requires-in-Dict
turn-requires-in-Dict c =
    let is = c.in-Dict.is ∙ ap TheVariants.Dict (sym c.in-Dict.children-is) in
    edit-enter _ kind-Dict c.args.self.now _ _ is c.requires.fits

pub returns-in-Dict-clause-gives : goal.returns-in-Dict-clause-gives
returns-in-Dict-clause-gives c =
    let is = c.in-Dict.is ∙ ap TheVariants.Dict (sym c.in-Dict.children-is) in
    edit-leave _ kind-Dict c.args.self.now _ _ _ _ c.turn-in-Dict.new.children is (rw (c.in-Dict.is, TheVariants.outs-Dict c.in-Dict.children) refl)
    c.requires.tree c.requires.fits c.turn-in-Dict.ensures

pub returns-in-Dict-clause-tree : goal.returns-in-Dict-clause-tree
returns-in-Dict-clause-tree c =
    let is = c.in-Dict.is ∙ ap TheVariants.Dict (sym c.in-Dict.children-is) in
    edited-tree _ kind-Dict c.args.self.now _ _ _ _ c.turn-in-Dict.new.children is (rw (c.in-Dict.is, TheVariants.outs-Dict c.in-Dict.children) refl)
    c.requires.tree c.requires.fits c.turn-in-Dict.ensures

pub turn-requires-in-List : goal.turn-requires-in-List
turn-requires-in-List c =
    let is = c.in-List.is ∙ ap TheVariants.List (sym c.in-List.children-is) in
    edit-enter _ kind-List c.args.self.now _ _ is c.requires.fits

pub returns-in-List-clause-gives : goal.returns-in-List-clause-gives
returns-in-List-clause-gives c =
    let is = c.in-List.is ∙ ap TheVariants.List (sym c.in-List.children-is) in
    edit-leave _ kind-List c.args.self.now _ _ _ _ c.turn-in-List.new.children is (rw (c.in-List.is, TheVariants.outs-List c.in-List.children) refl)
    c.requires.tree c.requires.fits c.turn-in-List.ensures

pub returns-in-List-clause-tree : goal.returns-in-List-clause-tree
returns-in-List-clause-tree c =
    let is = c.in-List.is ∙ ap TheVariants.List (sym c.in-List.children-is) in
    edited-tree _ kind-List c.args.self.now _ _ _ _ c.turn-in-List.new.children is (rw (c.in-List.is, TheVariants.outs-List c.in-List.children) refl)
    c.requires.tree c.requires.fits c.turn-in-List.ensures
