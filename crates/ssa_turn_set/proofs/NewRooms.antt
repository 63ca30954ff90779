-- Room made for a set that is put into another or taken out of it.
use Rattle.std.proofs.Common.{◌≡◌, ℕ, ◌+◌, ◌<◌, List, [], ◌∷◌, length, get_or, take, Bool, true, false, ◌&&◌, cond, Option, Some, sym, ap, ◌∙◌, arith}
use Rattle.ssa_model.specs.definitions.FieldsV1.{tails}
use Rattle.ssa_model.specs.definitions.Path.{Element, Path, same_element}
use Rattle.ssa_path.specs.declared.element.Elem.{Elem}
use Rattle.ssa_path.specs.declared.trie.Trie.{Trie}
use Rattle.ssa_path.specs.Children.{child_at}
use Rattle.ssa_path.specs.View.{element_view}
use Rattle.ssa_path.specs.Trie.{is_trie, is_filled, are_filled_tries}
use Rattle.ssa_path.proofs.Orders.{both_first, both_second}
use Rattle.ssa_path.proofs.Lists.{taken-at}
use Rattle.ssa_turn_set.specs.declared.spare.Spare.{Spare}
use Rattle.ssa_turn_set.specs.Room.{fresh, freshes, serves}
use Rattle.ssa_turn_set.specs.Spare.{fits, is_nothing}
use Rattle.ssa_turn_set.proofs.Losing.{freshes-more}

child-is : (b : Bool) (x c : Trie) (rest : Option Trie) → (is_trie x && is_filled x) ≡ true → (rest ≡ Some c → (is_trie c && is_filled c) ≡ true)
    → cond b (Some x) rest ≡ Some c → (is_trie c && is_filled c) ≡ true
child-is true x c rest here later e = let same : x ≡ c = cc in ap (λ y. is_trie y && is_filled y) (sym same) ∙ here
child-is false x c rest here later e = later e

-- a child that is found among sets with some path is one of them
pub found-child : (e : Element) (cs : List (Elem × Trie)) (c : Trie) → are_filled_tries cs ≡ true → child_at e cs ≡ Some c → (is_trie c && is_filled c) ≡ true
found-child e [] c h s = cc
found-child e (x ∷ cs) c h s = child-is (same_element e (element_view x.0)) x.1 c (child_at e cs) (both_first _ _ h) (found-child e cs c (both_second _ _ h)) s

-- what comes where there is some path needs no spare, and else one for its element
pub serves-there : (e : Element) (ps : List Path) (s : Spare) → 0 ≡ fresh ps → is_nothing s ≡ true → serves e ps s ≡ true
serves-there e [] s none h = absurd (omega arith)
serves-there e (p ∷ ps) s none h = h

pub serves-new : (e : Element) (ps : List Path) (s : Spare) (n : ℕ) → ¬ (n ≡ 0) → n ≡ fresh ps → fits e s ≡ true → serves e ps s ≡ true
serves-new e [] s n some is h = h
serves-new e (p ∷ ps) s n some is h = absurd (some is)

-- one child more that comes, or does not, counts as one more or as none
pub counted-more : (cs : List (Elem × Trie)) (ps : List Path) (i count one : ℕ) (c : Elem × Trie) → i < length cs → c ≡ get_or cs i c
    → count ≡ freshes (take i cs) ps → one ≡ fresh (tails (element_view c.0) ps) → count + one ≡ freshes (take (i + 1) cs) ps
counted-more cs ps i count one c lt is e f = (λ j. e j + f j) ∙ sym (ap (λ l. freshes l ps) (taken-at cs i c lt is) ∙ freshes-more (take i cs) c ps)

-- ---- one child alone

-- one alone is all there is
pub alone : (ds : List (Elem × Trie)) (d : Elem × Trie) → length ds ≡ 1 → d ≡ get_or ds 0 d → ds ≡ d ∷ []
alone [] d one is = absurd (omega arith)
alone (c ∷ []) d one is = ap (λ x. x ∷ []) (sym is)
alone (c ∷ e ∷ ds) d one is = absurd (omega arith)
