-- No steps say the record of a body and itself, and serve its turns.
use Rattle.std.proofs.Common.{◌≡◌, List, [], ◌∷◌, reverse, refl, sym, ap, subst, ◌∙◌}
use Rattle.std.proofs.lemmas.List.{reverse-reverse}
use Rattle.std.proofs.lemmas.Option.{same_Some}
use Rattle.ssa_model.specs.definitions.Body.{Body}
use Rattle.ssa_model.specs.definitions.Carry.{carry_body}
use Rattle.ssa_model.specs.definitions.PathMap.{get}
use Rattle.ssa_model.specs.definitions.Record.{body_record}
use Rattle.ssa_model.specs.laws.RecordWalks.{AreAlike, class_of}
use Rattle.ssa_typed.specs.Rows.{body_of}
use Rattle.ssa_typed.specs.declared.node.Node.{Node}
use Rattle.ssa_turn_body.specs.Bodies.{IsBodyTurned}
use Rattle.ssa_turn_body.specs.Lean.{AreLean}
use Rattle.ssa_turn_body.specs.Records.{body_told}
use Rattle.ssa_turn_body.specs.Rooms.{AreRecorded, HasBodyRoom}
use Rattle.ssa_turn_body.specs.Said.{says}
use Rattle.ssa_turn_body.specs.Steps.{StepsFit, StepsLead}
use Rattle.ssa_turn_body.specs.Writable.{AreWritable}
use Rattle.ssa_turn_body.specs.declared.steps.BodySteps.{BodySteps}
use Rattle.ssa_turn_body.specs.declared.steps.Step.{Step}
use Rattle.ssa_turn_body.proofs.BodyRecords.{told-bodies}
use Rattle.ssa_turn_body.proofs.KeepingRoom.{record-leads}
use Rattle.ssa_turn_body.proofs.OnceOnly.{once-none}
use Rattle.ssa_turn_body.proofs.Saying.{between-itself}

alike-itself : (b : Body) → AreAlike b b
alike-itself b p c e is_c is_e = ap class_of (same_Some c e (sym is_c ∙ is_e))

-- no steps say the record of a body and itself
pub none-told : (s : BodySteps) (b : Body) → s.steps.items ≡ [] → body_told s ≡ body_record b b
none-told s b none = told-bodies s b b (alike-itself b) (λ q. ap (λ ss. says ss q) none ∙ sym (between-itself (get b) q))

none-fit : (ss : List Step) (n : Node) → ss ≡ [] → StepsFit ss n
none-fit ss n none = subst (λ xs. StepsFit xs n) (sym none) tt

none-lead : (ts : List Step) (v w : Node) → StepsLead [] v ts w → (ts ≡ []) × (w ≡ v)
none-lead [] v w l = (refl, l)
none-lead (t ∷ ts) v w l = absurd l

none-turned : (s t : BodySteps) (b c : Body) → s.steps.items ≡ [] → IsBodyTurned s b t c → AreRecorded s b t c
none-turned s t b c none turned =
    let led = none-lead (reverse t.steps.items) turned.before turned.after
    (subst (λ xs. StepsLead xs turned.before (reverse t.steps.items) turned.after) none turned.turned) in
    let same : c ≡ b = sym turned.body_after ∙ ap body_of led.1 ∙ turned.body_before in
    let none_back : t.steps.items ≡ [] = sym (reverse-reverse t.steps.items) ∙ ap reverse led.0 in
    let stays = record-leads turned.before turned.before b b turned.tree_before turned.tree_before turned.body_before turned.body_before (alike-itself b) in
    subst (AreRecorded s b t) (sym same) (record {
      alike = alike-itself b;
      there = none-told s b none;
      back = none-told t b none_back;
      leads = sym (ap (λ d. carry_body d b) (none-told s b none) ∙ stays);
    })

-- no steps serve each turn of a body
pub none-room : (s : BodySteps) (b : Body) → s.steps.items ≡ [] → HasBodyRoom s b
none-room s b none = record {
  fits = λ n tree is. none-fit s.steps.items n none;
  once = once-none s.steps.items none;
  turns = λ t c turned. none-turned s t b c none turned;
  writable = subst AreWritable (sym none) tt;
  lean = subst AreLean (sym none) tt;
}
