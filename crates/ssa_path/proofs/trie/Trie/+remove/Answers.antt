use Rattle.std.proofs.Common.{◌-◌, refl, sym, ap, ◌∙◌, take, drop, length, arith, rules}
use Rattle.ssa_path.specs.declared.trie.Trie.TheViews.{out-Trie}
use Rattle.ssa_path.specs.View.{element_view, path_view}
use Rattle.ssa_path.specs.Children.{IsChildAt, IsGapFor}
use Rattle.ssa_path.specs.Trie.{is_one_of, paths}
use Rattle.ssa_path.proofs.Levels.{one-level-root, trie-parts}
use Rattle.ssa_path.proofs.Lists.{child-trie}
use Rattle.ssa_path.proofs.Inserting.{view-first, view-none}
use Rattle.ssa_path.proofs.Removing.{removed-root, removed-child, removed-bare, had-child, absent-path, removed-absent}
use Rattle.ssa_path.proofs.trie.Trie.+remove.Goals as goal

pub search-requires : goal.search-requires
search-requires t c = (trie-parts c.args.self.now _ c.deref.ensures.value c.requires).0

pub remove-had-requires : goal.remove-had-requires
remove-had-requires t c =
    let at : IsChildAt (element_view c.first-item.result) (out-Trie c.args.self.now).below.items c.in-Ok.i = rw c.deref.ensures.value at c.in-Ok.ensures in
    let filled = (trie-parts c.args.self.now _ refl c.requires).1 in
    (search rules, child-trie (out-Trie c.args.self.now).below.items c.in-Ok.i c.index_mut.result.now at.within c.index_mut.ensures.value filled)

pub returns-in-empty-clause-removed : goal.returns-in-empty-clause-removed
returns-in-empty-clause-removed t c =
    removed-root c.args.self.now _ (path_view c.args.elements.now) c.replace.ensures.after refl (view-none c.args.elements.now c.in-empty.len_below) c.requires

pub returns-in-empty-clause-had : goal.returns-in-empty-clause-had
returns-in-empty-clause-had t c =
    c.replace.ensures.value ∙ sym (one-level-root c.args.self.now)
    ∙ ap (is_one_of (paths c.args.self.now)) (sym (view-none c.args.elements.now c.in-empty.len_below))

pub returns-else-has_paths-clause-removed : goal.returns-else-has_paths-clause-removed
returns-else-has_paths-clause-removed t c =
    let n = c.args.self.now in
    let cs = (out-Trie n).below.items in
    let i = c.in-Ok.i in
    let child = c.index_mut.result.now in
    let f = element_view c.first-item.result in
    let es = c.args.elements.now in
    let at : IsChildAt f cs i = rw c.deref.ensures.value at c.in-Ok.ensures in
    let path = view-first es c.first-item.result (omega arith) c.first-item.is in
    removed-bare n _ f (path_view (take (length es - 1) (drop 1 es))) (path_view es) i child c.remove-had.new.self
    path c.requires at c.index_mut.ensures.value c.remove-had.ensures.removed _ refl refl refl c.remove.ensures.by_index.2
    (sym c.has_paths.ensures ∙ c.if-has_paths.false)

pub returns-else-has_paths-clause-had : goal.returns-else-has_paths-clause-had
returns-else-has_paths-clause-had t c =
    let n = c.args.self.now in
    let cs = (out-Trie n).below.items in
    let i = c.in-Ok.i in
    let child = c.index_mut.result.now in
    let f = element_view c.first-item.result in
    let es = c.args.elements.now in
    let at : IsChildAt f cs i = rw c.deref.ensures.value at c.in-Ok.ensures in
    let path = view-first es c.first-item.result (omega arith) c.first-item.is in
    c.remove-had.ensures.had
    ∙ had-child n (out-Trie n) f (path_view (take (length es - 1) (drop 1 es))) (path_view es) i child c.remove-had.new.self
    path c.requires at c.index_mut.ensures.value c.remove-had.ensures.removed

pub returns-then-has_paths-clause-removed : goal.returns-then-has_paths-clause-removed
returns-then-has_paths-clause-removed t c =
    let n = c.args.self.now in
    let cs = (out-Trie n).below.items in
    let i = c.in-Ok.i in
    let child = c.index_mut.result.now in
    let f = element_view c.first-item.result in
    let es = c.args.elements.now in
    let at : IsChildAt f cs i = rw c.deref.ensures.value at c.in-Ok.ensures in
    let path = view-first es c.first-item.result (omega arith) c.first-item.is in
    removed-child n _ f (path_view (take (length es - 1) (drop 1 es))) (path_view es) i child c.remove-had.new.self
    path c.requires at c.index_mut.ensures.value c.remove-had.ensures.removed refl refl
    (sym c.has_paths.ensures ∙ c.if-has_paths.true)

pub returns-then-has_paths-clause-had : goal.returns-then-has_paths-clause-had
returns-then-has_paths-clause-had t c =
    let n = c.args.self.now in
    let cs = (out-Trie n).below.items in
    let i = c.in-Ok.i in
    let child = c.index_mut.result.now in
    let f = element_view c.first-item.result in
    let es = c.args.elements.now in
    let at : IsChildAt f cs i = rw c.deref.ensures.value at c.in-Ok.ensures in
    let path = view-first es c.first-item.result (omega arith) c.first-item.is in
    c.remove-had.ensures.had
    ∙ had-child n (out-Trie n) f (path_view (take (length es - 1) (drop 1 es))) (path_view es) i child c.remove-had.new.self
    path c.requires at c.index_mut.ensures.value c.remove-had.ensures.removed

pub returns-in-Err-clause-removed : goal.returns-in-Err-clause-removed
returns-in-Err-clause-removed t c =
    let n = c.args.self.now in
    let es = c.args.elements.now in
    let gap : IsGapFor (element_view c.first-item.result) (out-Trie n).below.items c.in-Err.field-0 = rw c.deref.ensures.value at c.in-Err.ensures in
    let path = view-first es c.first-item.result (omega arith) c.first-item.is in
    removed-absent n (path_view es) (absent-path n (element_view c.first-item.result) _ (path_view es) c.in-Err.field-0 path c.requires gap.between) c.requires

pub returns-in-Err-clause-had : goal.returns-in-Err-clause-had
returns-in-Err-clause-had t c =
    let n = c.args.self.now in
    let es = c.args.elements.now in
    let gap : IsGapFor (element_view c.first-item.result) (out-Trie n).below.items c.in-Err.field-0 = rw c.deref.ensures.value at c.in-Err.ensures in
    let path = view-first es c.first-item.result (omega arith) c.first-item.is in
    sym (absent-path n (element_view c.first-item.result) _ (path_view es) c.in-Err.field-0 path c.requires gap.between)
