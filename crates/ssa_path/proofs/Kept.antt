-- The children of a place that have some path, among others that have none left.
use Rattle.std.proofs.Common.{◌≡◌, List, [], ◌∷◌, ◌++◌, true, false, ◌&&◌, cond, refl, sym, ap, ◌∙◌}
use Rattle.std.proofs.lemmas.List.Elements.{filter-append}
use Rattle.ssa_path.specs.declared.element.Elem.{Elem}
use Rattle.ssa_path.specs.declared.trie.Trie.{Trie}
use Rattle.ssa_path.specs.Trie.{has_any, kept, is_trie, is_filled, are_filled_tries}
use Rattle.ssa_path.proofs.Levels.{filled-is}
use Rattle.ssa_path.proofs.Orders.{both_first, both_second}

-- a child has some path just where its set has
pub has-any-is : (c : Elem × Trie) → is_trie c.1 ≡ true → has_any c ≡ is_filled c.1
has-any-is c h = sym (filled-is c.1 h)

-- where each child has some path, all are kept
pub kept-all : (cs : List (Elem × Trie)) → are_filled_tries cs ≡ true → kept cs ≡ cs
kept-all [] h = refl
kept-all (c ∷ cs) h =
    let own = both_first (is_trie c.1 && is_filled c.1) _ h in
    let any = has-any-is c (both_first _ _ own) ∙ both_second (is_trie c.1) _ own in
    ap (λ b. cond b (c ∷ kept cs) (kept cs)) any ∙ ap (λ l. c ∷ l) (kept-all cs (both_second (is_trie c.1 && is_filled c.1) _ h))

-- a child with some path is kept among the others
pub kept-stays : (front back : List (Elem × Trie)) (c : Elem × Trie) → has_any c ≡ true → kept (front ++ c ∷ back) ≡ kept front ++ c ∷ kept back
kept-stays front back c any = filter-append has_any front (c ∷ back) ∙ ap (λ b. kept front ++ cond b (c ∷ kept back) (kept back)) any

-- a child without a path is not kept
pub kept-goes : (front back : List (Elem × Trie)) (c : Elem × Trie) → has_any c ≡ false → kept (front ++ c ∷ back) ≡ kept front ++ kept back
kept-goes front back c any = filter-append has_any front (c ∷ back) ∙ ap (λ b. kept front ++ cond b (c ∷ kept back) (kept back)) any
