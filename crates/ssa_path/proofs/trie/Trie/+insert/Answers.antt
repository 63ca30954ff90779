use Rattle.std.proofs.Common.{◌+◌, ◌-◌, refl, ap, ◌∙◌, take, drop, length, arith, rules}
use Rattle.std.proofs.lemmas.Result.{on_ok_weaker, on_err_weaker}
use Rattle.ssa_model.specs.definitions.Path.{same_element}
use Rattle.ssa_path.specs.declared.element.Elem.{Elem}
use Rattle.ssa_path.specs.declared.trie.Trie.{Trie}
use Rattle.ssa_path.specs.declared.trie.Trie.TheViews.{out-Trie}
use Rattle.ssa_path.specs.View.{element_view, path_view}
use Rattle.ssa_path.specs.Children.{IsChildAt}
use Rattle.ssa_path.proofs.Levels.{trie-parts}
use Rattle.ssa_path.proofs.Lists.{child-trie, parted, parted-set}
use Rattle.ssa_path.proofs.Inserting.{view-first, view-none, same-child, inserted-root, inserted-new, inserted-child}
use Rattle.ssa_path.proofs.trie.Trie.+insert.Goals as goal

pub search-requires : goal.search-requires
search-requires t c = (trie-parts c.args.self.now _ c.deref.ensures.value c.requires).0

pub insert-requires : goal.insert-requires
insert-requires t c =
    let at : IsChildAt (element_view c.first-item.result) (out-Trie c.args.self.now).below.items c.in-Ok.i = rw c.deref.ensures.value at c.in-Ok.ensures in (
      search rules,
      child-trie (out-Trie c.args.self.now).below.items c.in-Ok.i c.index_mut.result.now at.within c.index_mut.ensures.value
          (trie-parts c.args.self.now _ refl c.requires).1,
    )

pub returns-in-empty-clause-ok : goal.returns-in-empty-clause-ok
returns-in-empty-clause-ok t c = inserted-root c.args.self.now _ (path_view c.args.elements.now) refl refl
    (view-none c.args.elements.now c.in-empty.len_below) c.requires

pub returns-in-Ok-clause-ok : goal.returns-in-Ok-clause-ok
returns-in-Ok-clause-ok t c =
    let cs = (out-Trie c.args.self.now).below.items in
    let i = c.in-Ok.i in
    let child = c.index_mut.result.now in
    let at : IsChildAt (element_view c.first-item.result) cs i = rw c.deref.ensures.value at c.in-Ok.ensures in
    let es = c.args.elements.now in
    let path = view-first es c.first-item.result (omega arith) c.first-item.is in
    let tie = ap (λ (x : Elem × Trie). same_element (element_view c.first-item.result) (element_view x.0)) c.index_mut.ensures.value ∙ at.same child in
    on_ok_weaker c.insert.result (λ h. inserted-child c.args.self.now _ (element_view c.first-item.result) (path_view (take (length es - 1) (drop 1 es)))
    (path_view es)
    (take i cs) (drop (i + 1) cs) child.0 child.1 c.insert.new.self refl path c.requires tie (parted cs i child at.within c.index_mut.ensures.value)
    (parted-set cs i (child.0, c.insert.new.self) at.within) h) c.insert.ensures.ok

pub returns-in-Ok-clause-err : goal.returns-in-Ok-clause-err
returns-in-Ok-clause-err t c =
    let cs = (out-Trie c.args.self.now).below.items in
    let i = c.in-Ok.i in
    let child = c.index_mut.result.now in
    let at : IsChildAt (element_view c.first-item.result) cs i = rw c.deref.ensures.value at c.in-Ok.ensures in
    on_err_weaker c.insert.result (λ h. same-child c.args.self.now _ (take i cs) (drop (i + 1) cs) child.0 child.1 c.insert.new.self refl
    (parted cs i child at.within c.index_mut.ensures.value) (parted-set cs i (child.0, c.insert.new.self) at.within) h) c.insert.ensures.err

pub returns-in_ok-child-in-Err-clause-ok : goal.returns-in_ok-child-in-Err-clause-ok
returns-in_ok-child-in-Err-clause-ok t c =
    let es = c.args.elements.now in
    let path = view-first es c.first-item.result (omega arith) c.first-item.is in
    on_ok_weaker c.put_child.result (λ h. inserted-new c.args.self.now _ (element_view c.first-item.result) (path_view (take (length es - 1) (drop 1 es)))
    (path_view es) c.in_ok-child-in-Err.child refl path c.in_ok-child-in-Err.ensures h) c.put_child.ensures.ok
