-- Changes that lead what a tree tells at a path to something else: one after the other, in a child, at the place itself.
use Rattle.std.proofs.Common.{◌≡◌, List, [], ◌∷◌, ◌++◌, Bool, true, false, ◌&&◌, Option, Some, None, option_map, refl, sym, ap, subst, ◌∙◌, true≢false, append_assoc}
use Rattle.std.proofs.lemmas.Option.{none-some, same_Some}
use Rattle.ssa_model.specs.definitions.Body.{Content}
use Rattle.ssa_model.specs.definitions.Path.{Element, Path, same_element, under}
use Rattle.ssa_model.proofs.Pruned.{under-rest}
use Rattle.ssa_path.specs.Children.{elements}
use Rattle.ssa_path.specs.View.{path_view}
use Rattle.ssa_typed.specs.Rows.{below, own_content, is_tree}
use Rattle.ssa_typed.specs.declared.node.Node.{Node}
use Rattle.ssa_typed.specs.Nodes.{node_on}
use Rattle.ssa_turn_body.specs.Changes.{ChangeFits, ChangeGives}
use Rattle.ssa_turn_body.specs.Descent.{FitsIn, GivesIn}
use Rattle.ssa_turn_body.specs.Led.{IsLeft, IsLed}
use Rattle.ssa_turn_body.specs.Marks.{Mark, Marks, marks, marks_in, Place, seen}
use Rattle.ssa_turn_body.specs.Steps.{StepLeads, StepsFit, StepsLead}
use Rattle.ssa_turn_body.specs.Told.{from_place}
use Rattle.ssa_turn_body.specs.declared.change.PlaceChange.{PlaceChange}
use Rattle.ssa_turn_body.specs.declared.steps.Step.{Step}
use Rattle.ssa_turn_body.proofs.Again.{kids_from, kids-told, marks-on, marks-place, same-on, SameIn}
use Rattle.ssa_turn_body.proofs.Marking.{marks-level}
use Rattle.ssa_turn_body.proofs.Returning.{leads-tree}
use Rattle.ssa_model.proofs.Tables.{element-itself as same_element-itself}

-- ---- nothing to do

-- where both tell the same, no changes lead from the one to the other
pub led-same : (p : Path) (M N : Marks) → ((q : Path) → M q ≡ N q) → IsLed p M N []
led-same p M N same = record { fit = λ v tree is. tt; lead = λ v tree is ts w l. none v is ts w l }
  where
    none : (v : Node) → ((q : Path) → marks v (p ++ q) ≡ M q) → (ts : List Step) (w : Node) → StepsLead [] v ts w → IsLeft p N v w
    none v is [] w l = record { there = λ q. ap (λ n. marks n (p ++ q)) l ∙ is q ∙ same q; others = λ q u. ap (λ n. marks n q) l }
    none v is (t ∷ ts) w l = absurd l

-- ---- one after the other

fit-both : (xs ys : List Step) (v : Node) → StepsFit xs v → ((zs : List Step) (w : Node) → StepsLead xs v zs w → StepsFit ys w) → StepsFit (xs ++ ys) v
fit-both [] ys v h f = f [] v refl
fit-both (x ∷ xs) ys v h f = (h.0, λ t w l. fit-both xs ys w (h.1 t w l) (λ zs z m. f (t ∷ zs) z (w, l, m)))

-- changes made of two lists, one after the other, in parts
pub record IsParted (xs ys : List Step) (v : Node) (us : List Step) (w : Node) : Type 0 where
  -- what the first of them become
  pub front : List Step
  -- what the second of them become
  pub back : List Step
  -- the tree between them
  pub middle : Node
  -- the two make all that they become
  pub whole : us ≡ front ++ back
  -- the first lead to the tree between
  pub first : StepsLead xs v front middle
  -- the second lead on from there
  pub second : StepsLead ys middle back w

-- changes of two lists, made one after the other, part at a tree between
pub lead-both : (xs ys : List Step) (v : Node) (us : List Step) (w : Node) → StepsLead (xs ++ ys) v us w → IsParted xs ys v us w
lead-both [] ys v us w l = record { front = []; back = us; middle = v; whole = refl; first = refl; second = l }
lead-both (x ∷ xs) ys v [] w l = absurd l
lead-both (x ∷ xs) ys v (u ∷ us) w l =
    let rest = lead-both xs ys l.0 us w l.2 in
    record {
      front = u ∷ rest.front;
      back = rest.back;
      middle = rest.middle;
      whole = ap (λ xs. u ∷ xs) rest.whole;
      first = (l.0, l.1, rest.first);
      second = rest.second;
    }

-- changes that lead to something, and others that lead on from there, lead there together
pub led-then : (p : Path) (M N O : Marks) (xs ys : List Step) → IsLed p M N xs → IsLed p N O ys → IsLed p M O (xs ++ ys)
led-then p M N O xs ys g h = record {
  fit = λ v tree is. fit-both xs ys v (g.fit v tree is) (λ zs w l. h.fit w (leads-tree xs v zs w tree l) (g.lead v tree is zs w l).there);
  lead = λ v tree is ts w l.
      let part = lead-both xs ys v ts w l in
      let first = g.lead v tree is part.front part.middle part.first in
      let second = h.lead part.middle (leads-tree xs v part.front part.middle tree part.first) first.there part.back w part.second in
      record { there = second.there; others = λ q u. second.others q u ∙ first.others q u };
}

-- ---- in a child

-- behind a common beginning a path is under another as without it
pub under-further : (p g q : Path) → under (p ++ g) (p ++ q) ≡ under g q
under-further [] g q = refl
under-further (e ∷ p) g q = ap (λ b. b && under (p ++ g) (p ++ q)) (same_element-itself e) ∙ under-further p g q

-- a path that is not under the beginning is not under what goes on from it
pub under-longer : (p g q : Path) → under p q ≡ false → under (p ++ g) q ≡ false
under-longer [] g q h = absurd (true≢false h)
under-longer (e ∷ p) g [] h = refl
under-longer (e ∷ p) g (f ∷ q) h =
    elim (same_element e f) as (λ b. (b && under p q) ≡ false → (b && under (p ++ g) q) ≡ false) [
      | true ↦ λ k. under-longer p g q k
      | false ↦ λ k. refl
    ] h

-- what a tree tells below the element is what its child tells
pub below-is : (p : Path) (e : Element) (M N : Marks) → ((q : Path) → M (e ∷ q) ≡ N q) → (v : Node) → ((q : Path) → marks v (p ++ q) ≡ M q) → (q : Path)
    → marks v ((p ++ e ∷ []) ++ q) ≡ N q
below-is p e M N own v is q = ap (marks v) (append_assoc p (e ∷ []) q) ∙ is (e ∷ q) ∙ own q

-- changes that lead a child to something else lead its parent there, where only this child differs
pub led-child : (p : Path) (e : Element) (M M2 N N2 : Marks) (ss : List Step) → ((q : Path) → M (e ∷ q) ≡ N q) → ((q : Path) → M2 (e ∷ q) ≡ N2 q)
    → ((q : Path) → under (e ∷ []) q ≡ false → M2 q ≡ M q)
    → IsLed (p ++ e ∷ []) N N2 ss → IsLed p M M2 ss
led-child p e M M2 N N2 ss own own2 others h = record {
  fit = λ v tree is. h.fit v tree (below-is p e M N own v is);
  lead = λ v tree is ts w l.
      let left = h.lead v tree (below-is p e M N own v is) ts w l in
      record {
        there = λ q. at v w is left q (under (e ∷ []) q) refl;
        others = λ q u. left.others q (under-longer p (e ∷ []) q u);
      };
}
  where
    at : (v w : Node) → ((q : Path) → marks v (p ++ q) ≡ M q) → IsLeft (p ++ e ∷ []) N2 v w → (q : Path) (b : Bool) → under (e ∷ []) q ≡ b
        → marks w (p ++ q) ≡ M2 q
    at v w is left q true u =
        let rest = under-rest (e ∷ []) q u in
        ap (λ r. marks w (p ++ r)) rest.1 ∙ sym (ap (marks w) (append_assoc p (e ∷ []) rest.0)) ∙ left.there rest.0 ∙ sym (own2 rest.0) ∙ sym (ap M2 rest.1)
    at v w is left q false u = left.others (p ++ q) (under-further p (e ∷ []) q ∙ u) ∙ is q ∙ sym (others q u)

-- ---- at the place itself

-- what stands at a place that tells this
abbrev pub place_of : Marks → Content → List Element → Place
place_of M c es = (c, kids_from (λ e q. M (e ∷ q)) es)

record IsPlaced (p : Path) (r : Node) (x : Place) : Type 0 where
  node : Node
  is : node_on p r ≡ Some node
  same : seen node ≡ x

placed : (p : Path) (r : Node) (M : Marks) (c : Content) (es : List Element) → is_tree r ≡ true → ((q : Path) → marks r (p ++ q) ≡ M q) → M [] ≡ Some (c, es)
    → IsPlaced p r (place_of M c es)
placed p r M c es tree is root = on (node_on p r) refl (same-on p r r tree tree (λ q. refl))
  where
    on : (o : Option Node) → node_on p r ≡ o → SameIn o o → IsPlaced p r (place_of M c es)
    on None e s = absurd (none-some _ (sym (sym (is []) ∙ marks-on p r [] ∙ ap (λ x. marks_in (option_map marks x) []) e) ∙ root))
    on (Some n) e s =
        let told : (q : Path) → marks n q ≡ M q = λ q. sym (marks-on p r q ∙ ap (λ x. marks_in (option_map marks x) q) e) ∙ is q in
        let mark : (own_content n, elements (below n)) ≡ (c, es) = same_Some _ _ (sym (marks-level n []) ∙ told [] ∙ root) in
        record {
          node = n;
          is = e;
          same = λ i. (ap (λ (x : Mark). x.0) mark i, (kids-told n s.0 ∙ (λ j. kids_from (λ f q. told (f ∷ q) j) (ap (λ (x : Mark). x.1) mark j))) i);
        }

-- one change leads from what its place tells to what all that it gives tells
pub led-own : (s : Step) (M N : Marks) (c : Content) (es : List Element) → M [] ≡ Some (c, es) → ChangeFits s.change (place_of M c es)
    → ((t : PlaceChange) (y : Place) → ChangeGives s.change (place_of M c es) t y → (q : Path) → from_place y q ≡ N q)
    → IsLed (path_view s.path.items) M N (s ∷ [])
led-own s M N c es root fits gives = record {
  fit = λ v tree is.
      let at = placed p v M c es tree is root in
      (subst (λ o. FitsIn (λ n. ChangeFits s.change (seen n)) o) (sym at.is) (subst (ChangeFits s.change) (sym at.same) fits), λ t w l. tt);
  lead = λ v tree is ts w l. one v (placed p v M c es tree is root) ts w l;
}
  where
    p : Path
    p = path_view s.path.items

    given : (a b : Option Node) (n : Node) (t : PlaceChange) → a ≡ Some n → seen n ≡ place_of M c es
        → GivesIn (λ n m. ChangeGives s.change (seen n) t (seen m)) a b → (q : Path) → marks_in (option_map marks b) q ≡ N q
    given a None n t e same g q = absurd (subst (λ o. GivesIn (λ n m. ChangeGives s.change (seen n) t (seen m)) o None) e g)
    given a (Some m) n t e same g q =
        let h : ChangeGives s.change (seen n) t (seen m) = subst (λ o. GivesIn (λ n m. ChangeGives s.change (seen n) t (seen m)) o (Some m)) e g in
        marks-place m q ∙ gives t (seen m) (subst (λ x. ChangeGives s.change x t (seen m)) same h) q

    one : (v : Node) → IsPlaced (path_view s.path.items) v (place_of M c es) → (ts : List Step) (w : Node) → StepsLead (s ∷ []) v ts w
        → IsLeft (path_view s.path.items) N v w
    one v at [] w l = absurd l
    one v at (t ∷ u ∷ ts) w l = absurd l.2
    one v at (t ∷ []) w l =
        let step : StepLeads s v t w = subst (λ x. StepLeads s v t x) (sym l.2) l.1 in
        record {
          there = λ q. marks-on (path_view s.path.items) w q
              ∙ given (node_on (path_view s.path.items) v) (node_on (path_view s.path.items) w) at.node t.change at.is at.same step.change.inside q;
          others = step.change.outside;
        }

-- what the change becomes, by what it finds at its place
pub turned-own : (s : Step) (M : Marks) (c : Content) (es : List Element) → M [] ≡ Some (c, es) → (G : List Step → Type 0)
    → ((t : Step) (y : Place) → t.path.items ≡ s.path.items → ChangeGives s.change (place_of M c es) t.change y → G (t ∷ []))
    → (v : Node) → is_tree v ≡ true → ((q : Path) → marks v (path_view s.path.items ++ q) ≡ M q) → (ts : List Step) (w : Node) → StepsLead (s ∷ []) v ts w
    → G ts
turned-own s M c es root G goal v tree is ts w l = by ts l
  where
    at : IsPlaced (path_view s.path.items) v (place_of M c es)
    at = placed (path_view s.path.items) v M c es tree is root

    given : (t : Step) (a b : Option Node) → a ≡ Some at.node → t.path.items ≡ s.path.items
        → GivesIn (λ n m. ChangeGives s.change (seen n) t.change (seen m)) a b → G (t ∷ [])
    given t a None e same g = absurd (subst (λ o. GivesIn (λ n m. ChangeGives s.change (seen n) t.change (seen m)) o None) e g)
    given t a (Some m) e same g =
        let h : ChangeGives s.change (seen at.node) t.change (seen m) =
        subst (λ o. GivesIn (λ n m. ChangeGives s.change (seen n) t.change (seen m)) o (Some m)) e g in
        goal t (seen m) same (subst (λ x. ChangeGives s.change x t.change (seen m)) at.same h)

    by : (ts : List Step) → StepsLead (s ∷ []) v ts w → G ts
    by [] l = absurd l
    by (t ∷ u ∷ ts) l = absurd l.2
    by (t ∷ []) l = given t (node_on (path_view s.path.items) v) (node_on (path_view s.path.items) l.0) at.is l.1.path l.1.change.inside
