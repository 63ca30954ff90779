-- How many places are new, child by child.
use Rattle.std.proofs.Common.{◌≡◌, ℕ, suc, ◌+◌, inl, inr, List, [], ◌∷◌, ◌++◌, length, drop, Bool, true, false, not, ◌||◌, cond, Option, Some, None, Less, Equal, Greater, refl, sym, ap, subst, subst₂, ◌∙◌, true≢false, arith}
use Rattle.std.specs.List.{list_any}
use Rattle.std.specs.Prelude.{is_some, slice_get}
use Rattle.ssa_model.specs.definitions.Body.{Content}
use Rattle.ssa_model.specs.definitions.Path.{Element, Path, same_element, same_path}
use Rattle.ssa_model.proofs.Basics.{both-true as both, first_false as neither_first}
use Rattle.ssa_model.proofs.Fitting.{same_element-true}
use Rattle.ssa_model.proofs.PathMaps.{same_path-itself}
use Rattle.ssa_model.proofs.ShownNames.{turned as same_either_way}
use Rattle.ssa_model.proofs.Tables.{element-itself as same_element-itself}
use Rattle.ssa_path.specs.Children.{child_at, elements, heads_order, is_below, rises}
use Rattle.ssa_path.specs.View.{element_view}
use Rattle.ssa_path.proofs.Combining.{other-first, own-first, tied-heads}
use Rattle.ssa_path.proofs.Orders.{both_first, both_second}
use Rattle.ssa_path.proofs.Searching.{absent-below}
use Rattle.ssa_typed.specs.Differences.{AreUnchanged}
use Rattle.ssa_typed.specs.NewPlaces.{count_absent, new_below, new_in, new_places, total_below, IsCountOn}
use Rattle.ssa_typed.specs.Points.{content_in}
use Rattle.ssa_typed.specs.Rows.{Row, are_apart, below, content_at, is_tree, rows, rows_below, under_element}
use Rattle.ssa_typed.specs.Same.{AreLeft, AreSame, IsLeft}
use Rattle.ssa_typed.specs.declared.node.Node.{Node}
use Rattle.ssa_typed.proofs.Building.{Child}
use Rattle.ssa_typed.proofs.Levels.{below-apart, level-below}
use Rattle.ssa_typed.proofs.Lookups.{child_at-rest, content-level, content-root}
use Rattle.ssa_typed.proofs.References.{left-read}

-- ---- none is new

either-there : (b : Bool) (c : Content) (o : Option Content) → is_some o ≡ true → is_some (cond b (Some c) o) ≡ true
either-there true c o h = refl
either-there false c o h = h

-- rows whose paths all stand are not new
none-absent : (there : Path → Bool) (rs : List Row) → ((p : Path) → is_some (content_at rs p) ≡ true → there p ≡ true) → count_absent there rs ≡ 0
none-absent there [] h = refl
none-absent there (r ∷ rs) h =
    ap (λ b. cond b (count_absent there rs) (suc (count_absent there rs)))
    (h r.0 (ap (λ b. is_some (cond b (Some r.1) (content_at rs r.0))) (same_path-itself r.0)))
    ∙ none-absent there rs (λ p one. h p (either-there (same_path p r.0) r.1 (content_at rs p) one))

-- trees of which nothing is told have no new places
pub unchanged-none : (n m : Node) → AreUnchanged n m → new_places n m ≡ 0
unchanged-none n m h = none-absent (λ p. is_some (content_at (rows n) p)) (rows m) (λ p one. (h p).0 ∙ one)

-- nor have trees that are one
pub same-none : (n m : Node) → AreSame n m → new_places n m ≡ 0
same-none n m same = none-absent (λ p. is_some (content_at (rows n) p)) (rows m) (λ p one. ap is_some (sym (same p)) ∙ one)

-- where none is new the count stays
pub count-same : (old more : ℕ) → more ≡ 0 → IsCountOn old old more
count-same old more none k is = omega arith

-- ---- level by level

absent-append : (there : Path → Bool) (xs ys : List Row) → count_absent there (xs ++ ys) ≡ count_absent there xs + count_absent there ys
absent-append there [] ys = omega arith
absent-append there (r ∷ xs) ys = one (there r.0) (absent-append there xs ys)
  where
    one : (b : Bool) → count_absent there (xs ++ ys) ≡ count_absent there xs + count_absent there ys
        → cond b (count_absent there (xs ++ ys)) (suc (count_absent there (xs ++ ys)))
        ≡ cond b (count_absent there xs) (suc (count_absent there xs)) + count_absent there ys
    one true h = h
    one false h = omega arith

absent-under : (there : Path → Bool) (e : Element) (rs : List Row) → count_absent there (under_element e rs) ≡ count_absent (λ p. there (e ∷ p)) rs
absent-under there e [] = refl
absent-under there e (r ∷ rs) = ap (λ n. cond (there (e ∷ r.0)) n (suc n)) (absent-under there e rs)

all-absent : (rs : List Row) → count_absent (λ p. false) rs ≡ length rs
all-absent [] = refl
all-absent (r ∷ rs) = ap suc (all-absent rs)

absent-in : (x : Option Node) (c : Node) → count_absent (λ p. is_some (content_in x p)) (rows c) ≡ new_in x c
absent-in None c = all-absent (rows c)
absent-in (Some b) c = refl

module _ (n : Node) (tree : is_tree n ≡ true) where
  abbrev there : Path → Bool
  there p = is_some (content_at (rows n) p)

  first-new : (d : Child) → count_absent there (under_element (element_view d.0) (rows d.1)) ≡ new_in (child_at (element_view d.0) (below n)) d.1
  first-new d =
      absent-under there (element_view d.0) (rows d.1)
      ∙ (λ i. count_absent (λ p. is_some (content-level n (element_view d.0) p tree i)) (rows d.1))
      ∙ absent-in (child_at (element_view d.0) (below n)) d.1

  children-new : (ds : List Child) → count_absent there (rows_below ds) ≡ new_below (below n) ds
  children-new [] = refl
  children-new (d ∷ ds) =
      absent-append there (under_element (element_view d.0) (rows d.1)) (rows_below ds) ∙ (λ i. first-new d i + children-new ds i)

  -- what is new in a tree is new below it
  pub new-level : (m : Node) → new_places n m ≡ new_below (below n) (below m)
  new-level m =
      ap (count_absent there) (level-below m).rows_are
      ∙ ap (λ b. cond b (count_absent there (rows_below (below m))) (suc (count_absent there (rows_below (below m))))) (ap is_some (content-root n))
      ∙ children-new (below m)

-- ---- the walk over the children of both

-- a child below all others is none of theirs
skip-own : (c : Child) (cs ds : List Child) → is_below (element_view c.0) (elements ds) ≡ true → new_below (c ∷ cs) ds ≡ new_below cs ds
skip-own c cs [] h = refl
skip-own c cs (d ∷ ds) h =
    let e = element_view c.0 in
    let f = element_view d.0 in
    let other : same_element f e ≡ false = same_either_way e f ∙ neither_first (same_element e f) _ (below-apart e (elements (d ∷ ds)) h) in
    λ i. new_in (cond (other i) (Some c.1) (child_at f cs)) d.1 + skip-own c cs ds (both_second _ _ h) i

module _ (cs0 ds0 : List Child) (i j : ℕ) (own_rise : rises (elements (drop i cs0)) ≡ true) (others_rise : rises (elements (drop j ds0)) ≡ true) where
  -- a child that only the first tree has brings nothing
  pub new-past-lost : (c : Child) → heads_order (drop i cs0) (drop j ds0) ≡ Some Less → slice_get cs0 i ≡ Some c
      → new_below (drop i cs0) (drop j ds0) ≡ new_below (drop (i + 1) cs0) (drop j ds0)
  new-past-lost c order is =
      let cs = drop (i + 1) cs0 in
      let ds = drop j ds0 in
      let left = left-read cs0 i c is in
      ap (λ l. new_below l ds) left
      ∙ skip-own c cs ds (own-first c cs ds (subst (λ l. heads_order l ds ≡ Some Less) left order) others_rise)

  -- all places of a child that only the second tree has are new
  pub new-past-new : (d : Child) → heads_order (drop i cs0) (drop j ds0) ≡ Some Greater → slice_get ds0 j ≡ Some d
      → new_below (drop i cs0) (drop j ds0) ≡ length (rows d.1) + new_below (drop i cs0) (drop (j + 1) ds0)
  new-past-new d order is =
      let cs = drop i cs0 in
      let ds = drop (j + 1) ds0 in
      let e = element_view d.0 in
      let left = left-read ds0 j d is in
      let above = other-first cs d ds (subst (λ l. heads_order cs l ≡ Some Greater) left order) own_rise in
      ap (new_below cs) left ∙ ap (λ o. new_in o d.1 + new_below cs ds) (absent-below e e cs (same_element-itself e) above)

  -- of a child of both those are new that the first lacks
  pub new-past-both : (c d : Child) → heads_order (drop i cs0) (drop j ds0) ≡ Some Equal → slice_get cs0 i ≡ Some c → slice_get ds0 j ≡ Some d
      → new_below (drop i cs0) (drop j ds0) ≡ new_places c.1 d.1 + new_below (drop (i + 1) cs0) (drop (j + 1) ds0)
  new-past-both c d order is_c is_d =
      let cs = drop (i + 1) cs0 in
      let ds = drop (j + 1) ds0 in
      let own = left-read cs0 i c is_c in
      let other = left-read ds0 j d is_d in
      let same = tied-heads c d cs ds (subst₂ (λ l k. heads_order l k ≡ Some Equal) own other order) in
      let rise = subst (λ l. rises (elements l) ≡ true) other others_rise in
      let above : is_below (element_view c.0) (elements ds) ≡ true =
      ap (λ g. is_below g (elements ds)) same ∙ both_first (is_below (element_view d.0) (elements ds)) _ rise in
      let one : same_element (element_view d.0) (element_view c.0) ≡ true = ap (same_element (element_view d.0)) same ∙ same_element-itself (element_view d.0) in
      (λ k. new_below (own k) (other k))
      ∙ (λ k. new_in (cond (one k) (Some c.1) (child_at (element_view d.0) cs)) d.1 + skip-own c cs ds above k)

-- ---- in any order

-- what the child of an element counts for, nothing where there is none
abbrev term : (Element → Node → ℕ) → Element → Option Node → ℕ
term g e None = 0
term g e (Some d) = g e d

-- children without the one of an element
record IsOut (g : Element → Node → ℕ) (e : Element) (ds rest : List Child) : Type 0 where
  child : (f : Element) → child_at f rest ≡ cond (same_element f e) None (child_at f ds)
  apart : are_apart (elements rest) ≡ true
  sum : total_below g ds ≡ term g e (child_at e ds) + total_below g rest

neither-way : {A : Type 0} (b : Bool) → ◌≡◌ {A = Option A} (cond b None None) None
neither-way true = refl
neither-way false = refl

swapped : (a b : Bool) (x rest : Option Node) → (a ≡ true → b ≡ false) → cond a x (cond b None rest) ≡ cond b None (cond a x rest)
swapped true true x rest h = absurd (true≢false (h refl))
swapped true false x rest h = refl
swapped false b x rest h = refl

none-among : (e : Element) (cs : List Child) → child_at e cs ≡ None → list_any (same_element e) (elements cs) ≡ false
none-among e [] h = refl
none-among e (c ∷ cs) h = one (same_element e (element_view c.0)) refl (none-among e cs) h
  where
    one : (b : Bool) → same_element e (element_view c.0) ≡ b → (child_at e cs ≡ None → list_any (same_element e) (elements cs) ≡ false)
        → cond b (Some c.1) (child_at e cs) ≡ None → list_any (same_element e) (elements (c ∷ cs)) ≡ false
    one true s rest k = absurd (true≢false (ap is_some k))
    one false s rest k = λ i. s i || rest k i

module _ (g : Element → Node → ℕ) (e : Element) where
  out-first : (x : Child) (xs : List Child) → are_apart (elements (x ∷ xs)) ≡ true → same_element e (element_view x.0) ≡ true → IsOut g e (x ∷ xs) xs
  out-first x xs h s = record { child = left; apart = both_second (not (list_any (same_element (element_view x.0)) (elements xs))) _ h; sum = counted }
    where
      is : e ≡ element_view x.0
      is = same_element-true e (element_view x.0) s

      left : (f : Element) → child_at f xs ≡ cond (same_element f e) None (cond (same_element f (element_view x.0)) (Some x.1) (child_at f xs))
      left f = one (same_element f e) refl
        where
          one : (b : Bool) → same_element f e ≡ b → child_at f xs ≡ cond b None (cond (same_element f (element_view x.0)) (Some x.1) (child_at f xs))
          one true t = child_at-rest f x xs (sym (ap (same_element f) is) ∙ t) h
          one false t = sym (ap (λ b. cond b (Some x.1) (child_at f xs)) (sym (ap (same_element f) is) ∙ t))

      counted : g (element_view x.0) x.1 + total_below g xs ≡ term g e (cond (same_element e (element_view x.0)) (Some x.1) (child_at e xs)) + total_below g xs
      counted = (λ i. g (sym is i) x.1 + total_below g xs) ∙ ap (λ b. term g e (cond b (Some x.1) (child_at e xs)) + total_below g xs) (sym s)

  out-later : (x : Child) (xs ys : List Child) → are_apart (elements (x ∷ xs)) ≡ true → same_element e (element_view x.0) ≡ false → IsOut g e xs ys
      → IsOut g e (x ∷ xs) (x ∷ ys)
  out-later x xs ys h s out = record { child = left; apart = both _ _ (ap not (none-among f ys bare)) out.apart; sum = counted }
    where
      f : Element
      f = element_view x.0

      apart_from : same_element f e ≡ false
      apart_from = same_either_way e f ∙ s

      bare : child_at f ys ≡ None
      bare = out.child f ∙ ap (cond (same_element f e) None) (child_at-rest f x xs (same_element-itself f) h) ∙ neither-way (same_element f e)

      left : (d : Element) → cond (same_element d f) (Some x.1) (child_at d ys) ≡ cond (same_element d e) None (cond (same_element d f) (Some x.1) (child_at d xs))
      left d = ap (cond (same_element d f) (Some x.1)) (out.child d)
          ∙ swapped (same_element d f) (same_element d e) (Some x.1) (child_at d xs) (λ t. ap (λ k. same_element k e) (same_element-true d f t) ∙ apart_from)

      counted : g f x.1 + total_below g xs ≡ term g e (cond (same_element e f) (Some x.1) (child_at e xs)) + (g f x.1 + total_below g ys)
      counted =
          let here : term g e (cond (same_element e f) (Some x.1) (child_at e xs)) ≡ term g e (child_at e xs) =
          ap (λ b. term g e (cond b (Some x.1) (child_at e xs))) s in
          let rest = out.sum in
          omega arith

  -- children that are apart are the one of an element and others
  taken-out : (ds : List Child) → are_apart (elements ds) ≡ true → (rest : List Child) × IsOut g e ds rest
  taken-out [] h = ([], record { child = λ f. sym (neither-way (same_element f e)); apart = refl; sum = omega arith })
  taken-out (x ∷ xs) h =
      one (same_element e (element_view x.0)) refl (taken-out xs (both_second (not (list_any (same_element (element_view x.0)) (elements xs))) _ h))
    where
      one : (b : Bool) → same_element e (element_view x.0) ≡ b → (rest : List Child) × IsOut g e xs rest → (rest : List Child) × IsOut g e (x ∷ xs) rest
      one true s others = (xs, out-first x xs h s)
      one false s others = (x ∷ others.0, out-later x xs others.0 h s others.1)

first-term : (g : Element → Node → ℕ) (d : Child) (ds : List Child) → term g (element_view d.0) (child_at (element_view d.0) (d ∷ ds)) ≡ g (element_view d.0) d.1
first-term g d ds = ap (λ b. term g (element_view d.0) (cond b (Some d.1) (child_at (element_view d.0) ds))) (same_element-itself (element_view d.0))

-- where the children of no element count for anything, all count for nothing
sum-none : (g : Element → Node → ℕ) (ds : List Child) → are_apart (elements ds) ≡ true → ((e : Element) → term g e (child_at e ds) ≡ 0) → total_below g ds ≡ 0
sum-none g [] h none = refl
sum-none g (d ∷ ds) h none =
    let here : g (element_view d.0) d.1 ≡ 0 = sym (first-term g d ds) ∙ none (element_view d.0) in
    let rest : total_below g ds ≡ 0 = sum-none g ds (both_second (not (list_any (same_element (element_view d.0)) (elements ds))) _ h) others in
    omega arith
  where
    others : (e : Element) → term g e (child_at e ds) ≡ 0
    others e = one (same_element e (element_view d.0)) refl
      where
        one : (b : Bool) → same_element e (element_view d.0) ≡ b → term g e (child_at e ds) ≡ 0
        one true s = ap (term g e) (child_at-rest e d ds s h)
        one false s = sym (ap (λ b. term g e (cond b (Some d.1) (child_at e ds))) s) ∙ none e

-- children that count alike under each element count alike, in whatever order they stand
sum-same : (g h : Element → Node → ℕ) (ds es : List Child) → are_apart (elements ds) ≡ true → are_apart (elements es) ≡ true
    → ((e : Element) → term g e (child_at e ds) ≡ term h e (child_at e es)) → total_below g ds ≡ total_below h es
sum-same g h [] es own other same = sym (sum-none h es other (λ e. sym (same e)))
sum-same g h (d ∷ ds) es own other same =
    let here : g f d.1 ≡ term h f (child_at f es) = sym (first-term g d ds) ∙ same f in
    let sum = out.1.sum in
    let rest : total_below g ds ≡ total_below h out.0 =
    sum-same g h ds out.0 (both_second (not (list_any (same_element f) (elements ds))) _ own) out.1.apart others in
    omega arith
  where
    f : Element
    f = element_view d.0

    out : (rest : List Child) × IsOut h f es rest
    out = taken-out h f es other

    others : (e : Element) → term g e (child_at e ds) ≡ term h e (child_at e out.0)
    others e = one (same_element e f) refl
      where
        one : (b : Bool) → same_element e f ≡ b → term g e (child_at e ds) ≡ term h e (child_at e out.0)
        one true s =
            ap (term g e) (child_at-rest e d ds s own)
            ∙ sym (ap (term h e) (out.1.child e ∙ ap (λ b. cond b None (child_at e es)) s))
        one false s =
            sym (ap (λ b. term g e (cond b (Some d.1) (child_at e ds))) s) ∙ same e
            ∙ sym (ap (term h e) (out.1.child e ∙ ap (λ b. cond b None (child_at e es)) s))

-- how much is new of what stands under one element
abbrev new_of : Option Node → Option Node → ℕ
new_of x None = 0
new_of x (Some d) = new_in x d

left-new-of : (x y own other : Option Node) → IsLeft x y own other → new_of x y ≡ new_of own other
left-new-of x y own other h = elim h [
  | inl (is, other_is) ↦ λ i. new_of (sym is i) (sym other_is i)
  | inr (pair, none, none_other) ↦
      (λ i. new_of (pair.own_is i) (pair.other_is i)) ∙ same-none pair.own pair.other pair.same ∙ sym (λ i. new_of (none i) (none_other i))
]

child-term : (cs : List Child) (e : Element) (o : Option Node) → term (λ f d. new_in (child_at f cs) d) e o ≡ new_of (child_at e cs) o
child-term cs e None = refl
child-term cs e (Some d) = refl

-- as much is new among the children that are left without some that are one
pub left-new : (n m : Node) (cs ds : List Child) → is_tree m ≡ true → AreLeft (below n) (below m) cs ds → new_below cs ds ≡ new_below (below n) (below m)
left-new n m cs ds tree left =
    sym (sum-same (λ e d. new_in (child_at e (below n)) d) (λ e d. new_in (child_at e cs) d) (below m) ds ((level-below m).apart tree) left.others_apart
    (λ e.
    child-term (below n) e (child_at e (below m))
    ∙ left-new-of (child_at e (below n)) (child_at e (below m)) (child_at e cs) (child_at e ds) (left.each e)
    ∙ sym (child-term cs e (child_at e ds))))
