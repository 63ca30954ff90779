-- Changes that lead from one tree to another at a path lead each body with the first there to what it is with the second there.
use Rattle.std.proofs.Common.{◌≡◌, List, [], ◌∷◌, ◌++◌, reverse, Bool, true, false, ◌&&◌, Option, Some, None, refl, sym, ap, subst, ◌∙◌, append_assoc, append-nil}
use Rattle.std.proofs.lemmas.List.{reverse-reverse}
use Rattle.std.proofs.lemmas.Option.{none-some}
use Rattle.std.specs.Prelude.{is_some, option_map}
use Rattle.ssa_model.specs.definitions.Body.{Body}
use Rattle.ssa_model.specs.definitions.Carry.{carry_body}
use Rattle.ssa_model.specs.definitions.Path.{Element, Path, same_element, under}
use Rattle.ssa_model.specs.definitions.PathMap.{get, has}
use Rattle.ssa_model.specs.definitions.Record.{body_record}
use Rattle.ssa_model.specs.laws.RecordPlaces.{replaced}
use Rattle.ssa_model.specs.laws.RecordWalks.{AreAlike, IsTree}
use Rattle.ssa_model.proofs.Fitting.{some_there}
use Rattle.ssa_model.proofs.PathMaps.{same_map}
use Rattle.ssa_model.proofs.Pruned.{closed-beginning, under-rest}
use Rattle.ssa_model.proofs.ReplacedParts.{closed-replaced, get-inside, get-outside}
use Rattle.ssa_model.proofs.Tables.{element-itself}
use Rattle.ssa_model.proofs.Tests.{by_test}
use Rattle.ssa_path.specs.View.{path_view}
use Rattle.ssa_path.specs.declared.element.Elem.{Elem}
use Rattle.ssa_typed.specs.Nodes.{node_on}
use Rattle.ssa_typed.specs.Points.{content_in}
use Rattle.ssa_typed.specs.Rows.{body_of, is_tree}
use Rattle.ssa_typed.specs.declared.node.Node.{Node}
use Rattle.ssa_typed.proofs.AnyTree.{IsTreeIn, content-on, tree-closed, tree-on, tree-root}
use Rattle.ssa_typed.proofs.Looks.{get-body}
use Rattle.ssa_turn_body.specs.At.{HasTreeAt}
use Rattle.ssa_turn_body.specs.Bodies.{BodyStepsFit, IsBodyTurned}
use Rattle.ssa_turn_body.specs.Led.{AreLeading, AreSaying, IsLed}
use Rattle.ssa_turn_body.specs.Marks.{marks, marks_in}
use Rattle.ssa_turn_body.specs.Records.{body_told}
use Rattle.ssa_turn_body.specs.Rooms.{HasBodyRoom}
use Rattle.ssa_turn_body.specs.Said.{AreTold, Contents, contents}
use Rattle.ssa_turn_body.specs.Told.{content_told}
use Rattle.ssa_turn_body.specs.Lean.{AreLean}
use Rattle.ssa_turn_body.specs.Writable.{AreWritable}
use Rattle.ssa_turn_body.specs.declared.steps.BodySteps.{BodySteps}
use Rattle.ssa_turn_body.specs.declared.steps.Step.{Step}
use Rattle.ssa_turn_body.proofs.Again.{marks-on}
use Rattle.ssa_turn_body.proofs.BodyMarks.{body-marks}
use Rattle.ssa_turn_body.proofs.BodyRecords.{told-bodies}
use Rattle.ssa_turn_body.proofs.KeepingRoom.{alike-back, record-leads}
use Rattle.ssa_turn_body.proofs.OnceOnly.{once-all}
use Rattle.ssa_turn_body.proofs.Saying.{told-child}
use Rattle.ssa_turn_body.proofs.Telling.{marks-tell}

-- ---- what is told at a path is told of the whole

-- a path that is not under the first element of another is not under the other
other-first : (e : Element) (p q : Path) → under (e ∷ []) q ≡ false → under (e ∷ p) q ≡ false
other-first e p [] h = refl
other-first e p (f ∷ q) h = ap (λ t. t && under p q) (sym (and-true (same_element e f)) ∙ h)
  where
    and-true : (t : Bool) → (t && true) ≡ t
    and-true true = refl
    and-true false = refl

module _ (m m2 : Contents) (ss : List Step) where
  abbrev after : Path → Contents → Contents
  after g n = λ q. n (g ++ q)

  told-up : (p g : Path) → ((r s : Path) → p ≡ r ++ s → (is_some (m (g ++ r)) ≡ true) × (is_some (m2 (g ++ r)) ≡ true))
      → ((q : Path) → under p q ≡ false → m2 (g ++ q) ≡ m (g ++ q))
      → AreTold (g ++ p) (after (g ++ p) m) (after (g ++ p) m2) ss → AreTold g (after g m) (after g m2) ss
  told-up [] g stand others h = subst (λ r. AreTold r (after r m) (after r m2) ss) (append-nil g) h
  told-up (e ∷ p) g stand others h =
      let at = g ++ e ∷ [] in
      let path : g ++ e ∷ p ≡ at ++ p = sym (append_assoc g (e ∷ []) p) in
      let along : (q : Path) → at ++ q ≡ g ++ e ∷ q = λ q. append_assoc g (e ∷ []) q in
      let inner =
      told-up p at
      (λ r s is.
      let b = stand (e ∷ r) s (ap (λ x. e ∷ x) is) in
      (ap (λ x. is_some (m x)) (along r) ∙ b.0, ap (λ x. is_some (m2 x)) (along r) ∙ b.1))
      (λ q off. ap m2 (along q) ∙ others (e ∷ q) ((λ i. element-itself e i && under p q) ∙ off) ∙ ap m (sym (along q)))
      (subst (λ r. AreTold r (after r m) (after r m2) ss) path h) in
      let here = stand (e ∷ []) p refl in
      told-child g e (after g m) (after g m2) (after at m) (after at m2) ss
      (λ q. ap m (sym (along q))) (λ q. ap m2 (sym (along q)))
      (λ q off. others q (other-first e p q off))
      (ap (λ x. is_some (m x)) (append-nil at) ∙ here.0) (ap (λ x. is_some (m2 x)) (append-nil at) ∙ here.1)
      inner

-- ---- a tree at a path

-- each tree of the body tells at the path what this one tells
module _ (b : Body) (p : Path) (n : Node) (tree : is_tree n ≡ true) (has_tree : HasTreeAt b p n) where
  marks-at : (v : Node) → is_tree v ≡ true → body_of v ≡ b → (q : Path) → marks v (p ++ q) ≡ marks n q
  marks-at v tree_v is q =
      elim (node_on p v) as (λ o. node_on p v ≡ o → marks v (p ++ q) ≡ marks n q) [
        | None ↦ λ none. absurd (none-some root.0 (contents-at none [] ∙ root.1))
        | Some c ↦ λ found.
            marks-on p v q ∙ ap (λ o. marks_in (option_map marks o) q) found
            ∙ body-marks c n (tree-found c found) tree (same_map (body_of c) (body_of n) (λ r. get-body c r ∙ contents-at found r)) q
      ] refl
    where
      root : (x : _) × (get (body_of n) [] ≡ Some x)
      root = some_there (get (body_of n) []) (tree-root n)

      contents-at : {o : Option Node} → node_on p v ≡ o → (r : Path) → content_in o r ≡ get (body_of n) r
      contents-at found r =
          ap (λ o. content_in o r) (sym found) ∙ sym (content-on p v r tree_v) ∙ sym (get-body v (p ++ r)) ∙ ap (λ x. get x (p ++ r)) is ∙ has_tree r

      tree-found : (c : Node) → node_on p v ≡ Some c → is_tree c ≡ true
      tree-found c found = subst (λ o. IsTreeIn o) found (tree-on p v tree_v)

-- ---- the changes

module _ (p : Path) (from to : Node) (ps : List Elem) (old : List Step) (s : BodySteps) (tree : is_tree from ≡ true)
    (tree_to : is_tree to ≡ true) (path : path_view ps ≡ p)
    (none : old ≡ []) (leading : AreLeading (path_view ps) (marks from) (marks to) old s.steps.items)
    (b : Body) (whole : IsTree b) (has_tree : HasTreeAt b p from) (alike : AreAlike b (replaced b p (body_of to))) where
  abbrev c : Body
  c = replaced b p (body_of to)

  made : leading.made ≡ s.steps.items
  made = ap (λ xs. xs ++ leading.made) (sym none) ∙ sym leading.added

  led : IsLed p (marks from) (marks to) s.steps.items
  led = subst (λ xs. IsLed p (marks from) (marks to) xs) made (subst (λ r. IsLed r (marks from) (marks to) leading.made) path leading.led)

  saying : AreSaying p (marks from) (marks to) s.steps.items
  saying = subst (λ xs. AreSaying p (marks from) (marks to) xs) made (subst (λ r. AreSaying r (marks from) (marks to) leading.made) path leading.saying)

  writable : AreWritable s.steps.items
  writable = subst AreWritable made leading.writable

  lean : AreLean s.steps.items
  lean = subst AreLean made leading.lean

  -- the contents of the trees are those of the bodies
  before-is : (λ q. get b (p ++ q)) ≡ contents (marks from)
  before-is = λ i q. (has_tree q ∙ marks-tell from q tree) i

  after-is : (λ q. get c (p ++ q)) ≡ contents (marks to)
  after-is = λ i q. (get-inside b p (body_of to) q ∙ marks-tell to q tree_to) i

  here : has b p ≡ true
  here = ap (has b) (sym (append-nil p)) ∙ ap is_some (has_tree []) ∙ tree-root from

  here-after : has c p ≡ true
  here-after = ap (has c) (sym (append-nil p)) ∙ ap is_some (get-inside b p (body_of to) []) ∙ tree-root to

  -- below the path a tree is closed, elsewhere the body is
  closed-after : (g : Path) (e : Element) → has c (g ++ e ∷ []) ≡ true → has c g ≡ true
  closed-after g e one = closed-replaced b p (body_of to) whole.closed here (tree-root to) (tree-closed to tree_to) g e one

  -- both have each beginning of the path
  beginnings : (r t : Path) → p ≡ r ++ t → (has b r ≡ true) × (has c r ≡ true)
  beginnings r t is =
      let stands = closed-beginning b whole.closed t r (ap (has b) (sym is) ∙ here) in
      (stands, closed-beginning c closed-after t r (ap (has c) (sym is) ∙ here-after))

  told-whole : (ss : List Step) → AreTold p (contents (marks from)) (contents (marks to)) ss → AreTold [] (get b) (get c) ss
  told-whole ss h =
      told-up (get b) (get c) ss p [] beginnings (λ q off. get-outside b p (body_of to) q off)
      (subst (λ n. AreTold p n (λ q. get c (p ++ q)) ss) (sym before-is) (subst (λ n. AreTold p (contents (marks from)) n ss) (sym after-is) h))

  told-back : (ss : List Step) → AreTold p (contents (marks to)) (contents (marks from)) ss → AreTold [] (get c) (get b) ss
  told-back ss h =
      told-up (get c) (get b) ss p [] (λ r t is. let x = beginnings r t is in (x.1, x.0)) (λ q off. sym (get-outside b p (body_of to) q off))
      (subst (λ n. AreTold p n (λ q. get b (p ++ q)) ss) (sym after-is) (subst (λ n. AreTold p (contents (marks to)) n ss) (sym before-is) h))

  -- the changes say the record of the body and of what it is with the second tree there
  pub at-record : body_told s ≡ body_record b c
  at-record = told-bodies s b c alike (told-whole s.steps.items saying.told).inside

  at-fits : BodyStepsFit s b
  at-fits n tree_n same = led.fit n tree_n (marks-at b p from tree has_tree n tree_n same)

  -- what the changes lead to is the body with the second tree at the path
  at-leads : (t : BodySteps) (d : Body) → IsBodyTurned s b t d → d ≡ c
  at-leads t d turned =
      let found = marks-at b p from tree has_tree turned.before turned.tree_before turned.body_before in
      let left = led.lead turned.before turned.tree_before found (reverse t.steps.items) turned.after turned.turned in
      sym turned.body_after
      ∙ same_map (body_of turned.after) c (λ r.
      by_test (under p r)
      (λ u.
      let rest = under-rest p r u in
      marks-tell turned.after r turned.tree_after ∙ ap (λ x. content_told (marks turned.after x)) rest.1 ∙ ap content_told (left.there rest.0)
      ∙ sym (marks-tell to rest.0 tree_to) ∙ sym (get-inside b p (body_of to) rest.0) ∙ ap (get c) (sym rest.1))
      (λ off.
      marks-tell turned.after r turned.tree_after ∙ ap content_told (left.others r off) ∙ sym (marks-tell turned.before r turned.tree_before)
      ∙ ap (λ x. get x r) turned.body_before ∙ sym (get-outside b p (body_of to) r off)))

  -- the changes serve each turn of the body
  pub at-room : HasBodyRoom s b
  at-room = record {
    fits = at-fits;
    once = once-all (path_view ps) old s.steps.items none leading.once;
    turns = λ t d turned.
        let same : d ≡ c = at-leads t d turned in
        let found = marks-at b p from tree has_tree turned.before turned.tree_before turned.body_before in
        let back : AreTold [] (get c) (get b) t.steps.items =
        told-back t.steps.items
        (subst (AreTold p (contents (marks to)) (contents (marks from))) (reverse-reverse t.steps.items)
        (saying.back turned.before turned.tree_before found (reverse t.steps.items) turned.after turned.turned)) in
        let alike_now : AreAlike b d = subst (AreAlike b) (sym same) alike in
        let there : body_told s ≡ body_record b d = at-record ∙ ap (body_record b) (sym same) in
        record {
          alike = alike_now;
          there = there;
          back = told-bodies t c b (alike-back b c alike) back.inside ∙ ap (λ x. body_record x b) (sym same);
          leads =
              sym (ap (λ r. carry_body r b) there
              ∙ record-leads turned.before turned.after b d turned.tree_before turned.tree_after turned.body_before turned.body_after alike_now);
        };
    writable = writable;
    lean = lean;
  }
