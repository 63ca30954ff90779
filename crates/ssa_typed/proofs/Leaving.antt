-- The walk over the children of a node of which some stay, whole or in part, and some go.
use Rattle.std.proofs.Common.{◌≡◌, ◌+◌, ◌*◌, ◌<◌, ◌≤◌, length, List, [], ◌∷◌, ◌++◌, Bool, true, false, not, ◌&&◌, ◌||◌, cond, Option, Some, None, refl, sym, ap, subst, ◌∙◌, suc, append_assoc, append-nil, true≢false, arith}
use Rattle.std.specs.Prelude.{is_some, option_map, if◌then◌else◌}
use Rattle.std.specs.List.{list_any}
use Rattle.ssa_model.specs.definitions.Body.{Content, restricted_content}
use Rattle.ssa_model.specs.definitions.Path.{Element, Path, same_element, under}
use Rattle.ssa_model.specs.definitions.PathMap.{has}
use Rattle.ssa_model.proofs.Basics.{and-true as and_true, some≢none, some-same}
use Rattle.ssa_model.proofs.Pruned.{from_one, some_one}
use Rattle.ssa_model.proofs.Tables.{apart_by, element-itself as same_element-itself, mapped_some}
use Rattle.ssa_path.specs.Children.{child_at, elements}
use Rattle.ssa_path.specs.Trie.{is_one_of}
use Rattle.ssa_path.specs.View.{element_view}
use Rattle.ssa_path.proofs.Levels.{IsReading, under-reading}
use Rattle.ssa_path.proofs.Orders.{both_first, both_second}
use Rattle.ssa_typed.specs.Cut.{IsLeft}
use Rattle.ssa_typed.specs.Points.{content_in}
use Rattle.ssa_typed.specs.Restricted.{stays, part_at, AreRestricted, IsRestricted}
use Rattle.ssa_typed.specs.Rows.{are_apart, are_trees, below, body_of, content_at, is_tree, rows, rows_below}
use Rattle.ssa_typed.specs.declared.node.Node.{Node}
use Rattle.ssa_typed.proofs.AnyTree.{tree-root}
use Rattle.ssa_typed.proofs.Building.{Child}
use Rattle.ssa_typed.proofs.Levels.{level-below}
use Rattle.ssa_typed.proofs.Looks.{get-body}
use Rattle.ssa_typed.proofs.Lookups.{child_at-rest, content-root}
use Rattle.ssa_typed.proofs.Reached.{part-whole}
use Rattle.ssa_typed.proofs.Restricting.{first-goes, first-stays, none-stay, part-shift}
use Rattle.ssa_typed.proofs.Sizes.{length-first, length-level}

-- ---- the paths behind an element

-- what follows the element in the paths that begin with it
pub rests : Element → List Path → List Path
rests e [] = []
rests e ([] ∷ ps) = rests e ps
rests e ((f ∷ q) ∷ ps) = if same_element e f then q ∷ rests e ps else rests e ps

-- a path is read among them as the element before it is among all
pub any-rests : (R : Path → Path → Bool) → IsReading R → (e : Element) (ps : List Path) (p : Path) → list_any (R p) (rests e ps) ≡ list_any (R (e ∷ p)) ps
unfolding rests
any-rests R r e [] p = refl
any-rests R r e ([] ∷ ps) p = any-rests R r e ps p ∙ ap (λ b. b || list_any (R (e ∷ p)) ps) (sym (r.none e p))
any-rests R r e ((f ∷ q) ∷ ps) p =
    elim (same_element e f) as (λ b. list_any (R p) (cond b (q ∷ rests e ps) (rests e ps)) ≡ ((b && R p q) || list_any (R (e ∷ p)) ps)) [
      | true ↦ ap (λ b. R p q || b) (any-rests R r e ps p)
      | false ↦ any-rests R r e ps p
    ]
    ∙ ap (λ b. b || list_any (R (e ∷ p)) ps) (sym (r.more e f p q))

-- where no path is one of the list, none is at or below another
pub none-under : (ps : List Path) → ((q : Path) → is_one_of ps q ≡ false) → (p : Path) → list_any (under p) ps ≡ false
none-under ps h p = apart_by (list_any (under p) ps) (λ k. let x = some_one (under p) ps k in true≢false (sym x.1 ∙ h x.0))

-- where a path has nothing at or below it, no longer one has
pub none-longer : (ps : List Path) → list_any (under []) ps ≡ false → (p : Path) → list_any (under p) ps ≡ false
none-longer ps h p = apart_by (list_any (under p) ps) (λ k. let x = some_one (under p) ps k in true≢false (sym (from_one (under []) ps x.0 x.1 refl) ∙ h))

-- ---- what stays of a child

-- something stays at a place where the place stays and something is there
pub part-some : (f : Path → Bool) (p : Path) (o : Option Content) → is_some (part_at f p o) ≡ (f p && is_some o)
part-some f p o =
    elim (f p) as (λ b. is_some (if b then option_map (restricted_content f p) o else None) ≡ (b && is_some o))
    [ true ↦ mapped_some (restricted_content f p) o | false ↦ refl ]

-- what stays shows that its place stays
pub place-stays : (f : Path → Bool) (p : Path) (o : Option Content) → is_some (part_at f p o) ≡ true → f p ≡ true
place-stays f p o h = both_first (f p) (is_some o) (sym (part-some f p o) ∙ h)

-- of a child whose own place stays, what is left is the part of it that stays
pub left-restricted : (ps : List Path) (n made : Node) → list_any (under []) ps ≡ true → IsRestricted ps n made → IsLeft ps n (Some made)
left-restricted ps n made some h = record {
  content = λ p. h.content p ∙ (λ i. part_at (λ q. same q i) p (content_at (rows n) p));
  trees = λ m is. ap is_tree (sym (some-same made m is)) ∙ h.tree;
}
  where
    same : (q : Path) → stays ps q ≡ list_any (under q) ps
    same [] = sym some
    same (e ∷ q) = refl

-- ---- the walk over the children

-- whatever paths stay, of those that the walk is for: what stays of what is left, behind what was made so far, is what stays of all
pub record IsLeaving (Fit : List Path → Type 0) (cs left made : List Child) : Type 0 where
  -- what is left are trees
  pub trees : are_trees left ≡ true
  -- what is left is apart
  pub apart : are_apart (elements left) ≡ true
  -- what is left is among all
  pub parts : (e : Element) (c : Node) → child_at e left ≡ Some c → child_at e cs ≡ Some c
  -- what is left has no more rows than all have
  pub no_more : length (rows_below left) ≤ length (rows_below cs)
  -- what stays of the rest, behind what is there, is what stays of all
  pub rest : (ps : List Path) (xs : List Child) → Fit ps → AreRestricted ps left xs → AreRestricted ps cs (made ++ xs)

-- where no child is left, what is there is what stays of all
pub leaving-all : {Fit : List Path → Type 0} (cs left made : List Child) → left ≡ [] → IsLeaving Fit cs left made
    → (ps : List Path) → Fit ps → AreRestricted ps cs made
leaving-all cs left made none h ps u =
    subst (AreRestricted ps cs) (append-nil made) (h.rest ps [] u (subst (λ l. AreRestricted ps l []) (sym none) (none-stay ps)))

module _ {Fit : List Path → Type 0} (cs : List Child) (c : Child) (all left made : List Child) (is : all ≡ c ∷ left) (h : IsLeaving Fit cs all made) where
  abbrev own : Element
  own = element_view c.0

  now : IsLeaving Fit cs (c ∷ left) made
  now = subst (λ l. IsLeaving Fit cs l made) is h

  -- the next child is a tree
  pub child-tree : is_tree c.1 ≡ true
  child-tree = both_first (is_tree c.1) _ now.trees

  fewer : length (rows_below left) ≤ length (rows_below cs)
  fewer =
      let first = length-first c left in
      let bound = now.no_more in
      omega arith

  -- the walk at the next child is shorter than the walk over all
  pub child-smaller : 4 * length (rows c.1) + 2 < 4 * length (rows_below cs) + 3
  child-smaller =
      let first = length-first c left in
      let bound = now.no_more in
      omega arith

  -- the next child is that of its element
  pub next-there : child_at own cs ≡ Some c.1
  next-there = now.parts own c.1 (ap (λ b. cond b (Some c.1) (child_at own left)) (same_element-itself own))

  left-parts : (e : Element) (x : Node) → child_at e left ≡ Some x → child_at e cs ≡ Some x
  left-parts e x k =
      now.parts e x (elim (same_element e own) as (λ b. same_element e own ≡ b → cond b (Some c.1) (child_at e left) ≡ Some x) [
        | true ↦ λ s. absurd (some≢none x (sym k ∙ child_at-rest e c left s now.apart))
        | false ↦ λ s. k
      ] refl)

  further : (new : List Child) → ((ps : List Path) (xs : List Child) → Fit ps → AreRestricted ps left xs → AreRestricted ps cs (new ++ xs))
      → IsLeaving Fit cs left new
  further new rest = record {
    trees = both_second (is_tree c.1) _ now.trees;
    apart = both_second (not (list_any (same_element own) (elements left))) _ now.apart;
    parts = left-parts;
    no_more = fewer;
    rest = rest;
  }

  -- one child more, behind what was made
  pushed-on : (n : Node) (new : List Child) → new ≡ made ++ (c.0, n) ∷ []
      → ((ps : List Path) (xs : List Child) → Fit ps → AreRestricted ps left xs → AreRestricted ps (c ∷ left) ((c.0, n) ∷ xs)) → IsLeaving Fit cs left new
  pushed-on n new pushed step =
      further new (λ ps xs u g. subst (AreRestricted ps cs) (sym (append_assoc made ((c.0, n) ∷ []) xs) ∙ ap (λ l. l ++ xs) (sym pushed))
      (now.rest ps ((c.0, n) ∷ xs) u (step ps xs u g)))

  module _ (whole : (ps : List Path) → Fit ps → (p : Path) → has (body_of c.1) p ≡ true → stays ps (own ∷ p) ≡ true) where
    whole-part : (ps : List Path) → Fit ps → (p : Path) → content_at (rows c.1) p ≡ part_at (stays ps) (own ∷ p) (content_at (rows c.1) p)
    whole-part ps u p =
        let o = content_at (rows c.1) p in
        let f = λ (q : Path). stays ps (own ∷ q) in
        sym (part-shift (stays ps) f own p o (λ q. refl) ∙ part-whole c.1 child-tree f (whole ps u) p o (get-body c.1 p))

    -- the next child stays whole, where all its places stay
    pub leaving-whole : (new : List Child) → new ≡ made ++ c ∷ [] → IsLeaving Fit cs left new
    leaving-whole new pushed =
        pushed-on c.1 new pushed (λ ps xs u g. first-stays ps c left c.1 xs (whole ps u [] (tree-root c.1)) (whole-part ps u) child-tree g)

  module _ (part : Option Node) (part-left : (ps : List Path) → Fit ps → IsLeft (rests own ps) c.1 part) where
    behind : (ps : List Path) (p : Path) → list_any (under p) (rests own ps) ≡ stays ps (own ∷ p)
    behind ps p = any-rests under under-reading own ps p

    -- something of the next child stays
    pub leaving-part : (n : Node) (new : List Child) → part ≡ Some n → new ≡ made ++ (c.0, n) ∷ [] → IsLeaving Fit cs left new
    leaving-part n new some pushed =
        pushed-on n new pushed (λ ps xs u g.
        let l = part-left ps u in
        let f = λ (q : Path). list_any (under q) (rests own ps) in
        let content = λ (p : Path). ap (λ x. content_in x p) (sym some) ∙ l.content p in
        let root = place-stays f [] (content_at (rows c.1) []) (ap is_some (sym (content []) ∙ content-root n)) in
        first-stays ps c left n xs (sym (behind ps []) ∙ root) (λ p. content p
        ∙ sym (part-shift (stays ps) f own p (content_at (rows c.1) p) (λ q. sym (behind ps q)))) (l.trees n some) g)

    none-stays : (ps : List Path) → Fit ps → part ≡ None → list_any (under []) (rests own ps) ≡ false
    none-stays ps u none =
        let l = part-left ps u in
        let f = λ (q : Path). list_any (under q) (rests own ps) in
        sym (and_true (f [])) ∙ ap (λ b. f [] && b) (sym (ap is_some (content-root c.1))) ∙ sym (part-some f [] (content_at (rows c.1) []))
        ∙ ap is_some (sym (l.content []) ∙ ap (λ x. content_in x []) none)

    -- nothing of the next child stays
    pub leaving-gone : part ≡ None → IsLeaving Fit cs left made
    leaving-gone none =
        further made (λ ps xs u g. now.rest ps xs u (first-goes ps c left xs (λ p. sym (behind ps p)
        ∙ none-longer (rests own ps) (none-stays ps u none) p) g))

-- ---- the children of a node

module _ (n : Node) (cs : List Child) (is : below n ≡ cs) where
  -- the children of a tree are apart
  pub children-apart : is_tree n ≡ true → are_apart (elements cs) ≡ true
  children-apart tree = ap (λ l. are_apart (elements l)) (sym is) ∙ (level-below n).apart tree

  -- the walk over the children is shorter than the walk at their node
  pub children-less : 4 * length (rows_below cs) + 3 < 4 * length (rows n)
  children-less = let long = length-level n ∙ ap (λ l. suc (length (rows_below l))) is in omega arith
