use Rattle.std.proofs.Common.{refl, ap, sym, ◌∙◌, ◌∷◌, [], ◌++◌, ◌-◌, length, take, drop, arith}
use Rattle.ssa_path.specs.View.{path_view}
use Rattle.ssa_path.proofs.Inserting.{only-root, only-made, view-first, view-none}
use Rattle.ssa_path.proofs.trie.Trie.+of_path.Goals as goal

pub returns-in-empty : goal.returns-in-empty
returns-in-empty t c = only-root _ (path_view c.args.elements.now) refl c.new.ensures.items (view-none c.args.elements.now c.in-empty.len_below)

pub returns-in_ok-push-in-len1-up : goal.returns-in_ok-push-in-len1-up
returns-in_ok-push-in-len1-up t c =
    let es = c.args.elements.now in
    let rest = path_view (take (length es - 1) (drop 1 es)) in
    only-made _ (c.in_ok-own-in-len1-up.own, c.in_ok-child-in-len1-up.child) (path_view es) rest refl
    (c.in_ok-push-in-len1-up.ensures.items ∙ ap (λ l. l ++ (c.in_ok-own-in-len1-up.own, c.in_ok-child-in-len1-up.child) ∷ []) c.new-below.ensures.items)
    (view-first es c.first-item.result (omega arith) c.first-item.is ∙ ap (λ s. s ∷ rest) (sym c.in_ok-own-in-len1-up.ensures))
    c.in_ok-child-in-len1-up.ensures
