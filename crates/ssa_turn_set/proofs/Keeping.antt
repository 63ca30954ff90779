-- The children of a place while a set is taken out: those that have no path left still stand among the others.
use Rattle.std.proofs.Common.{◌≡◌, suc, ◌+◌, ◌<◌, List, [], ◌∷◌, ◌++◌, length, get_or, set, drop, take, true, false, not, ◌&&◌, refl, sym, ap, ◌∙◌, arith, subst, length-set, get_or-set_same}
use Rattle.std.proofs.lemmas.List.{length-append}
use Rattle.ssa_model.specs.definitions.FieldsV1.{tails}
use Rattle.ssa_model.specs.definitions.Path.{Element, Path, same_element}
use Rattle.ssa_path.specs.declared.element.Elem.{Elem}
use Rattle.ssa_path.specs.declared.trie.Trie.{Trie}
use Rattle.ssa_path.specs.Children.{elements, rises}
use Rattle.ssa_path.specs.View.{element_view}
use Rattle.ssa_path.specs.Trie.{is_one_of, paths_after, paths_below, paths, is_trie, is_filled, are_filled_tries}
use Rattle.ssa_path.proofs.Levels.{some-none}
use Rattle.ssa_path.proofs.Removing.{child-goes, child-stays, goes-rises, goes-tries, set-rises, set-tries}
use Rattle.ssa_turn_set.specs.Room.{fresh}
use Rattle.ssa_turn_set.proofs.Places.{found-paths, fresh-filled, set-apart}
use Rattle.ssa_turn_set.proofs.Taking.{goes-apart, goes-tails}

-- ---- one among others

-- what stands behind a front of some length is found at that place
pub at-middle : {A : Type 0} (front back : List A) (c d : A) → d ≡ get_or (front ++ d ∷ back) (length front) c
at-middle [] back c d = refl
at-middle (x ∷ front) back c d = at-middle front back c d

set-middle : {A : Type 0} (front back : List A) (c d : A) → set (front ++ c ∷ back) (length front) d ≡ front ++ d ∷ back
set-middle [] back c d = refl
set-middle (x ∷ front) back c d = ap (λ l. x ∷ l) (set-middle front back c d)

take-middle : {A : Type 0} (front back : List A) (c : A)
    → take (length front) (front ++ c ∷ back) ++ drop (length front + 1) (front ++ c ∷ back) ≡ front ++ back
take-middle [] back c = refl
take-middle (x ∷ front) back c =
    let next : length (x ∷ front) + 1 ≡ suc (length front + 1) = omega arith in
    ap (λ k. take (length (x ∷ front)) (x ∷ front ++ c ∷ back) ++ drop k (x ∷ front ++ c ∷ back)) next ∙ ap (λ l. x ∷ l) (take-middle front back c)

-- ---- a child that loses paths

-- the children cs without the paths of t below f, where m is what is left of its child
pub record IsLessened (cs : List (Elem × Trie)) (f : Element) (t m : Trie) (new : List (Elem × Trie)) : Type 0 where
  -- there are the paths of before without those that the child lost
  pub paths_are : (p : Path) → is_one_of (paths_below new) p ≡ (is_one_of (paths_below cs) p && not (is_one_of (paths_after f (paths t)) p))
  -- the elements stand in order
  pub risen : rises (elements new) ≡ true
  -- each child is a set with some path
  pub tries : are_filled_tries new ≡ true
  -- below other elements nothing has changed
  pub apart : (e : Element) → same_element e f ≡ false → tails e (paths_below new) ≡ tails e (paths_below cs)
  -- there are as many as before, or one less where the child has gone
  pub len : length new + fresh (tails f (paths_below new)) ≡ length cs
  -- below the element there is what is left of its child
  pub tails_are : tails f (paths_below new) ≡ paths m

module _ (front back : List (Elem × Trie)) (c : Elem × Trie) (f : Element) (t m : Trie) (rise : rises (elements (front ++ c ∷ back)) ≡ true)
    (filled : are_filled_tries (front ++ c ∷ back) ≡ true) (tie : same_element f (element_view c.0) ≡ true)
    (made : (p : Path) → is_one_of (paths m) p ≡ (is_one_of (paths c.1) p && not (is_one_of (paths t) p))) where
  abbrev cs : List (Elem × Trie)
  cs = front ++ c ∷ back

  lt : length front < length cs
  lt = simp length-append (omega arith)

  is : c ≡ get_or cs (length front) c
  is = at-middle front back c c

  -- a child that keeps some path stays among the others
  pub less-stays : is_trie m ≡ true → is_filled m ≡ true → IsLessened cs f t m (front ++ (c.0, m) ∷ back)
  less-stays trie some =
      let new : set cs (length front) (c.0, m) ≡ front ++ (c.0, m) ∷ back = set-middle front back c (c.0, m) in
      subst (λ l. IsLessened cs f t m l) new
      (record {
        paths_are = child-stays cs (length front) f (paths t) c rise lt is tie m made;
        risen = set-rises cs (length front) c m lt is rise;
        tries = set-tries cs (length front) c m lt is trie some filled;
        apart = λ e apart. set-apart e f cs (length front) c m lt is tie apart;
        len = let none = ap fresh left ∙ fresh-filled (paths m) some in simp length-set (omega arith);
        tails_are = left;
      })
    where
      left : tails f (paths_below (set cs (length front) (c.0, m))) ≡ paths m
      left =
          let long : length front < length (set cs (length front) (c.0, m)) = simp length-set lt in
          let here : (c.0, m) ≡ get_or (set cs (length front) (c.0, m)) (length front) (c.0, m) =
          sym (get_or-set_same cs (length front) (c.0, m) (c.0, m) lt) in
          found-paths f (set cs (length front) (c.0, m)) (length front) (c.0, m) (set-rises cs (length front) c m lt is rise) long here
          (ap (λ (x : Elem × Trie). same_element f (element_view x.0)) (sym here) ∙ tie)

  -- a child that keeps no path goes from among the others
  pub less-goes : is_filled m ≡ false → IsLessened cs f t m (front ++ back)
  less-goes bare =
      let none = some-none (paths m) bare in
      let left = goes-tails cs (length front) f c rise lt is tie ∙ sym none in
      subst (λ l. IsLessened cs f t m l) (take-middle front back c)
      (record {
        paths_are = child-goes cs (length front) f (paths t) c rise lt is tie (λ q. sym (made q) ∙ ap (λ l. is_one_of l q) none);
        risen = goes-rises cs (length front) c rise lt is;
        tries = goes-tries cs (length front) c lt is filled;
        apart = goes-apart cs (length front) f c rise lt is tie;
        len =
            let one = ap fresh (goes-tails cs (length front) f c rise lt is tie) in
            let short = ap length (take-middle front back c) in
            let a = length-append front back in
            let b = length-append front (c ∷ back) in
            omega arith;
        tails_are = left;
      })
