-- Changes that lead from one tree to another lead from its body to the other's.
use Rattle.std.proofs.Common.{◌≡◌, List, [], ◌++◌, reverse, true, sym, ap, subst, ◌∙◌}
use Rattle.ssa_model.specs.definitions.Body.{Body}
use Rattle.std.proofs.lemmas.List.{reverse-reverse}
use Rattle.ssa_model.specs.definitions.Carry.{carry_body}
use Rattle.ssa_model.specs.definitions.Record.{body_record}
use Rattle.ssa_model.specs.laws.RecordWalks.{AreAlike}
use Rattle.ssa_path.specs.declared.element.Elem.{Elem}
use Rattle.ssa_path.specs.View.{path_view}
use Rattle.ssa_typed.specs.Rows.{body_of, is_tree}
use Rattle.ssa_typed.specs.declared.node.Node.{Node}
use Rattle.ssa_turn_body.specs.Bodies.{BodyStepsFit, IsBodyTurned}
use Rattle.ssa_turn_body.specs.Led.{AreLeading, AreSaying, IsLed}
use Rattle.ssa_turn_body.specs.Marks.{marks}
use Rattle.ssa_turn_body.specs.Records.{body_told}
use Rattle.ssa_turn_body.specs.Rooms.{HasBodyRoom}
use Rattle.ssa_turn_body.specs.Said.{AreTold, contents}
use Rattle.ssa_turn_body.specs.Lean.{AreLean}
use Rattle.ssa_turn_body.specs.Writable.{AreWritable}
use Rattle.ssa_turn_body.specs.declared.steps.BodySteps.{BodySteps}
use Rattle.ssa_turn_body.specs.declared.steps.Step.{Step}
use Rattle.ssa_turn_body.proofs.BodyMarks.{body-marks, body-same}
use Rattle.ssa_turn_body.proofs.BodyRecords.{told-record}
use Rattle.ssa_turn_body.proofs.KeepingRoom.{alike-back, record-leads}
use Rattle.ssa_turn_body.proofs.OnceOnly.{once-all}

module _ (v w : Node) (ps : List Elem) (old : List Step) (s : BodySteps) (tree : is_tree v ≡ true) (tree_to : is_tree w ≡ true) (root : ps ≡ [])
    (none : old ≡ [])
    (leading : AreLeading (path_view ps) (marks v) (marks w) old s.steps.items) where
  led : IsLed [] (marks v) (marks w) s.steps.items
  led = subst (λ xs. IsLed [] (marks v) (marks w) xs) (ap (λ xs. xs ++ leading.made) (sym none)
      ∙ sym leading.added) (subst (λ qs. IsLed (path_view qs) (marks v) (marks w) leading.made) root leading.led)

  saying : AreSaying [] (marks v) (marks w) s.steps.items
  saying =
      subst (λ xs. AreSaying [] (marks v) (marks w) xs) (ap (λ xs. xs ++ leading.made) (sym none) ∙ sym leading.added)
      (subst (λ qs. AreSaying (path_view qs) (marks v) (marks w) leading.made) root leading.saying)

  -- the changes say the record of the two bodies
  pub between-record : (b c : Body) → body_of v ≡ b → body_of w ≡ c → AreAlike b c → body_told s ≡ body_record b c
  between-record b c is to alike =
      told-record v w s tree tree_to (subst (λ x. AreAlike (body_of v) x) (sym to) (subst (λ x. AreAlike x c) (sym is) alike)) saying.told
      ∙ (λ i. body_record (is i) (to i))

  -- the changes fit each tree of the first body
  pub between-fits : (b : Body) → body_of v ≡ b → BodyStepsFit s b
  between-fits b is n tree_n same = led.fit n tree_n (body-marks n v tree_n tree (same ∙ sym is))

  -- a turn of the first body leads to the second
  pub between-leads : (b c : Body) → body_of v ≡ b → body_of w ≡ c → (t : BodySteps) (d : Body) → IsBodyTurned s b t d → d ≡ c
  between-leads b c is to t d turned =
      let left = led.lead turned.before turned.tree_before (body-marks turned.before v turned.tree_before tree (turned.body_before ∙ sym is))
      (reverse t.steps.items) turned.after turned.turned in
      sym turned.body_after ∙ body-same turned.after w turned.tree_after tree_to left.there ∙ to

  writable : AreWritable s.steps.items
  writable = subst AreWritable (ap (λ xs. xs ++ leading.made) (sym none) ∙ sym leading.added) leading.writable

  lean : AreLean s.steps.items
  lean = subst AreLean (ap (λ xs. xs ++ leading.made) (sym none) ∙ sym leading.added) leading.lean

  -- the changes serve each turn of the first body
  pub between-room : (b c : Body) → body_of v ≡ b → body_of w ≡ c → AreAlike b c → HasBodyRoom s b
  between-room b c is to alike = record {
    fits = between-fits b is;
    once = once-all (path_view ps) old s.steps.items none leading.once;
    turns = λ t d turned.
        let same : d ≡ c = between-leads b c is to t d turned in
        let found = body-marks turned.before v turned.tree_before tree (turned.body_before ∙ sym is) in
        let told : AreTold [] (contents (marks w)) (contents (marks v)) t.steps.items =
        subst (AreTold [] (contents (marks w)) (contents (marks v))) (reverse-reverse t.steps.items)
        (saying.back turned.before turned.tree_before found (reverse t.steps.items) turned.after turned.turned) in
        let alike_back = subst (λ x. AreAlike (body_of w) x) (sym is) (subst (λ x. AreAlike x b) (sym to) (alike-back b c alike)) in
        let alike_now : AreAlike b d = subst (AreAlike b) (sym same) alike in
        let there : body_told s ≡ body_record b d = between-record b c is to alike ∙ ap (body_record b) (sym same) in
        record {
          alike = alike_now;
          there = there;
          back = told-record w v t tree_to tree alike_back told ∙ (λ i. body_record (to i) (is i)) ∙ ap (λ x. body_record x b) (sym same);
          leads =
              sym (ap (λ r. carry_body r b) there
              ∙ record-leads turned.before turned.after b d turned.tree_before turned.tree_after turned.body_before turned.body_after alike_now);
        };
    writable = writable;
    lean = lean;
  }
