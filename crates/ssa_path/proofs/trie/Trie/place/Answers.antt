use Rattle.std.proofs.Common.{ap, sym, ◌∙◌, ◌+◌, drop, arith}
use Rattle.std.proofs.lemmas.List.{drop_all}
use Rattle.std.specs.Option.{option_copied}
use Rattle.ssa_path.specs.Children.{child_at}
use Rattle.ssa_path.specs.View.{element_view, path_view}
use Rattle.ssa_path.proofs.Levels.{path_view-drop, trie-parts, way-more, way-none, way-end}
use Rattle.ssa_path.proofs.trie.Trie.place.Goals as goal

pub find_child-requires : goal.find_child-requires
find_child-requires c = (trie-parts c.loop-element.place.now _ c.deref.ensures.value c.loop-element.invariant.trie).0

pub returns-in-None-clause-none : goal.returns-in-None-clause-none
returns-in-None-clause-none c =
    let es = c.args.elements.now in
    let e = element_view c.element-item.result in
    let left = path_view-drop es c.loop-element.element-index c.element-item.result (omega arith) c.element-item.is in
    let none = ap (child_at e) (sym c.deref.ensures.value) ∙ sym c.find_child.ensures ∙ ap option_copied c.in-None.is in
    way-none c.args.self.now (path_view es) c.loop-element.place.now e (path_view (drop (c.loop-element.element-index + 1) es)) _ left none
    c.loop-element.invariant

pub loop-element-preserved : goal.loop-element-preserved
loop-element-preserved c =
    let es = c.args.elements.now in
    let e = element_view c.element-item.result in
    let left = path_view-drop es c.loop-element.element-index c.element-item.result (omega arith) c.element-item.is in
    let some = ap (child_at e) (sym c.deref.ensures.value) ∙ sym c.find_child.ensures ∙ ap option_copied c.in-Some.is in
    way-more c.args.self.now (path_view es) c.loop-element.place.now c.in-Some.child.now e (path_view (drop (c.loop-element.element-index + 1) es)) _ left
    some c.loop-element.invariant

pub returns-clause-some : goal.returns-clause-some
returns-clause-some c =
    let es = c.args.elements.now in
    way-end c.args.self.now (path_view es) c.loop-element.place.now _ (ap path_view (drop_all c.loop-element.element-index es c.loop-element-test.false))
    c.loop-element.invariant
