-- The walk that tells whether tries are what a walk over the same children collects.
use Rattle.std.proofs.Common.{◌≡◌, ℕ, ◌+◌, ◌<◌, List, [], ◌∷◌, ◌++◌, length, get_or, drop, take, Bool, true, false, not, Some, refl, sym, subst, ◌∙◌, true≢false}
use mathlib.Core.Bool.{beq}
use Rattle.std.specs.Prelude.{slice_get}
use Rattle.std.specs.Bool.{MatchBool}
use Rattle.ssa_model.specs.definitions.Path.{Element, same_element}
use Rattle.ssa_model.proofs.Fitting.{same_element-true}
use Rattle.ssa_path.specs.Combine.{IsGrown}
use Rattle.ssa_path.specs.Trie.{is_filled}
use Rattle.ssa_path.specs.View.{element_view}
use Rattle.ssa_path.specs.declared.element.Elem.{Elem}
use Rattle.ssa_path.specs.declared.trie.Trie.{Trie}
use Rattle.ssa_path.specs.declared.trie.Trie.TheViews.{out-Trie, roll-out-Trie}
use Rattle.ssa_path.proofs.Lists.{taken-at}
use Rattle.ssa_typed.specs.Points.{collects, IsChildTrie, IsCollected, IsPointTrie}
use Rattle.ssa_typed.specs.Rows.{is_tree}
use Rattle.ssa_typed.specs.declared.node.Node.{Node}
use Rattle.ssa_typed.specs.declared.points.Collected.TheVariants.{Points}
use Rattle.ssa_typed.proofs.Collecting.{IsCollecting, child-trie, collecting-more, point-trie}

-- tests that do not differ are equal
alike : (a b : Bool) → not (beq a b) ≡ false → a ≡ b
alike true true h = refl
alike false false h = refl
alike true false h = absurd (true≢false h)
alike false true h = absurd (true≢false h)

-- a trie with a child's place and with the points below the child is the child's
pub child-held : (d : Bool) (e : Element) (c : Node) (t : Trie) (here : Bool) (ts : List (Elem × Trie)) → is_tree c ≡ true
    → not (beq (out-Trie t).here here) ≡ false → here ≡ collects Points d e (Some c) [] → ts ≡ (out-Trie t).below.items → IsCollected Points c ts
    → IsChildTrie (Some Points) d e c t
child-held d e c t here ts tree is place lent h =
    subst (IsChildTrie (Some Points) d e c) (roll-out-Trie t)
    (child-trie Points d e c (out-Trie t) tree (alike (out-Trie t).here here is ∙ place) (subst (IsCollected Points c) lent h))

-- the next child is collected in the trie that stands beside it
pub held-more : (d : Bool) (cs : List (Elem × Node)) (ts : List (Elem × Trie)) (i : ℕ) (c : Elem × Node) (t : Elem × Trie) → i < length ts
    → slice_get cs i ≡ Some c → t ≡ get_or ts i t → same_element (element_view c.0) (element_view t.0) ≡ true
    → IsChildTrie (Some Points) d (element_view c.0) c.1 t.1 → is_filled t.1 ≡ true
    → IsCollecting Points d cs (drop i cs) (take i ts) → IsCollecting Points d cs (drop (i + 1) cs) (take (i + 1) ts)
held-more d cs ts i c t held_lt is held_is same made filled h =
    let e = element_view c.0 in
    let grown : IsGrown e t.1 (take i ts) (take (i + 1) ts) =
    subst (λ b. MatchBool b ((k : Elem) × (element_view k ≡ e) × (take (i + 1) ts ≡ take i ts ++ (k, t.1) ∷ [])) (take (i + 1) ts ≡ take i ts))
    (sym filled) (t.0, sym (same_element-true e (element_view t.0) same), taken-at ts i t held_lt held_is) in
    collecting-more Points d cs i c (take i ts) (take (i + 1) ts) t.1 is made grown h

-- a trie without the root and with the points below the root is that of a tree's points
pub points-held : (n : Node) (t : Trie) (ts : List (Elem × Trie)) → is_tree n ≡ true → (out-Trie t).here ≡ false → ts ≡ (out-Trie t).below.items
    → IsCollected Points n ts → IsPointTrie n t
points-held n t ts tree here lent h =
    subst (IsPointTrie n) (roll-out-Trie t) (point-trie n (out-Trie t) tree here (subst (IsCollected Points n) lent h))
