-- Steps between two bodies serve each turn, and so do the steps that a turn leaves.
use Rattle.std.proofs.Common.{◌≡◌, reverse, true, sym, ap, subst, ◌∙◌}
use Rattle.std.proofs.lemmas.List.{reverse-reverse}
use Rattle.ssa_model.specs.definitions.Body.{Body}
use Rattle.ssa_model.specs.definitions.Carry.{carry_body}
use Rattle.ssa_model.specs.definitions.Record.{body_record}
use Rattle.ssa_model.specs.laws.RecordWalks.{AreAlike, IsTree}
use Rattle.ssa_model.proofs.BodyLeads.{tree_leads}
use Rattle.ssa_typed.specs.Rows.{body_of, is_tree}
use Rattle.ssa_typed.specs.declared.node.Node.{Node}
use Rattle.ssa_typed.proofs.AnyTree.{tree-closed, tree-items, tree-once, tree-root}
use Rattle.ssa_turn_body.specs.Lean.{AreLean}
use Rattle.ssa_turn_body.specs.Records.{body_told}
use Rattle.ssa_turn_body.specs.Rooms.{TurnsKeepRoom}
use Rattle.ssa_turn_body.proofs.BackAgain.{bodies-back}
use Rattle.ssa_turn_body.specs.Writable.{AreWritable}
use Rattle.ssa_turn_body.proofs.Writables.{left-writable, reverse-writable}
use Rattle.ssa_turn_body.proofs.HeldTrees.{AllHoldTrees, fit-hold, left-hold, reverse-hold, same-told}
use Rattle.ssa_turn_body.proofs.LeanSteps.{reverse-lean, turned-lean}
use Rattle.ssa_turn_body.proofs.OnceOnly.{once-turned}

tree-is : (n : Node) → is_tree n ≡ true → IsTree (body_of n)
tree-is n h = record {
  root = tree-root n;
  closed = λ p e there. tree-closed n h p e there;
  once = λ p. tree-once n h p;
  items = λ p e. tree-items n h p e;
}

-- two bodies are alike either way round
pub alike-back : (b c : Body) → AreAlike b c → AreAlike c b
alike-back b c h p x y is_x is_y = sym (h p y x is_y is_x)

-- bodies of trees are led by their record
pub record-leads : (n m : Node) (b c : Body) → is_tree n ≡ true → is_tree m ≡ true → body_of n ≡ b → body_of m ≡ c → AreAlike b c
    → carry_body (body_record b c) b ≡ c
record-leads n m b c tn tm is_b is_c alike = tree_leads b c (subst IsTree is_b (tree-is n tn)) (subst IsTree is_c (tree-is m tm)) alike

-- a turn leaves steps that serve the way back
pub turns-keep-room : TurnsKeepRoom
turns-keep-room s t b c room turned fits = record {
  fits = fits;
  once = once-turned s.steps.items turned.before t.steps.items turned.after room.once
      (room.fits turned.before turned.tree_before turned.body_before) turned.turned;
  turns = λ u d again.
      let given = room.turns t c turned in
      let lead = bodies-back s t u b c d room.fits turned again in
      let same : body_told u ≡ body_told s =
      same-told u s lead.1
      (subst AllHoldTrees (reverse-reverse u.steps.items) (reverse-hold (reverse u.steps.items)
      (left-hold t.steps.items again.before (reverse u.steps.items) again.after again.turned)))
      (fit-hold s.steps.items turned.before (reverse t.steps.items) turned.after
      (room.fits turned.before turned.tree_before turned.body_before) turned.turned) in
      let alike : AreAlike c d = subst (AreAlike c) (sym lead.0) (alike-back b c given.alike) in
      let told : body_told t ≡ body_record c d = given.back ∙ ap (body_record c) (sym lead.0) in
      record {
        alike = alike;
        there = told;
        back = same ∙ given.there ∙ ap (λ x. body_record x c) (sym lead.0);
        leads =
            sym (ap (λ r. carry_body r c) told
            ∙ record-leads again.before again.after c d again.tree_before again.tree_after again.body_before again.body_after alike);
      };
  writable =
      subst AreWritable (reverse-reverse t.steps.items) (reverse-writable (reverse t.steps.items)
      (left-writable s.steps.items turned.before (reverse t.steps.items) turned.after
      (room.fits turned.before turned.tree_before turned.body_before) turned.turned));
  lean =
      subst AreLean (reverse-reverse t.steps.items) (reverse-lean (reverse t.steps.items)
      (turned-lean s.steps.items turned.before (reverse t.steps.items) turned.after turned.turned room.lean));
}
