-- What is left below each element where a child without paths goes.
use Rattle.std.proofs.Common.{◌≡◌, ℕ, ◌+◌, ◌<◌, List, [], ◌++◌, length, get_or, drop, take, true, false, sym, ap, ◌∙◌}
use Rattle.ssa_model.specs.definitions.FieldsV1.{tails}
use Rattle.ssa_model.specs.definitions.Path.{Element, same_element}
use Rattle.ssa_path.specs.declared.element.Elem.{Elem}
use Rattle.ssa_path.specs.declared.trie.Trie.{Trie}
use Rattle.ssa_path.specs.Children.{elements, rises}
use Rattle.ssa_path.specs.View.{element_view}
use Rattle.ssa_path.specs.Trie.{paths_below}
use Rattle.ssa_path.proofs.Lists.{parted}
use Rattle.ssa_path.proofs.Removing.{goes-absent, goes-rises}
use Rattle.ssa_turn_set.proofs.Tails.{tails-below, tails-apart, paths_of}
use Rattle.ssa_model.proofs.Fitting.{same_element-true}

module _ (cs : List (Elem × Trie)) (i : ℕ) (f : Element) (c : Elem × Trie)
    (rise : rises (elements cs) ≡ true) (lt : i < length cs) (is : c ≡ get_or cs i c) (tie : same_element f (element_view c.0) ≡ true) where
  -- nothing below its element
  pub goes-tails : tails f (paths_below (take i cs ++ drop (i + 1) cs)) ≡ []
  goes-tails = tails-below f (take i cs ++ drop (i + 1) cs) (goes-rises cs i c rise lt is) ∙ ap paths_of (goes-absent cs i c rise lt is f tie)

  -- what was there below each other
  pub goes-apart : (e : Element) → same_element e f ≡ false → tails e (paths_below (take i cs ++ drop (i + 1) cs)) ≡ tails e (paths_below cs)
  goes-apart e apart =
      let other = ap (same_element e) (sym (same_element-true f (element_view c.0) tie)) ∙ apart in
      sym (ap (λ l. tails e (paths_below l)) (parted cs i c lt is) ∙ tails-apart e (take i cs) (drop (i + 1) cs) c.0 c.1 other)
