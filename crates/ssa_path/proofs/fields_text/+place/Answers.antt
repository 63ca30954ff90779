use Rattle.std.proofs.Common.{◌≡◌, ◌++◌, true, false, not, refl, sym, ap, subst, ◌∙◌, arith, rules}
use Rattle.std.proofs.lemmas.Result.{on_ok_weaker}
use Rattle.ssa_model.specs.definitions.Json.{compact}
use Rattle.ssa_json.specs.Writable.{IsOfProgram}
use Rattle.ssa_json.proofs.ItemTexts.{appended}
use Rattle.ssa_path.specs.FieldsWriting.{below_json}
use Rattle.ssa_path.specs.Trie.{has_some}
use Rattle.ssa_path.specs.declared.element.Elem.{Elem}
use Rattle.ssa_path.specs.declared.trie.Trie.{Trie, the_lemmas}
use Rattle.ssa_path.specs.declared.trie.Trie.TheViews.{out-Trie}
use Rattle.ssa_path.proofs.FieldsLevels.{child_members}
use Rattle.ssa_path.proofs.FieldsMembers.{alone-place, below-more, below-some, child-filled}
use Rattle.ssa_path.proofs.FieldsTexts.{child-written, of-program-more, place-begun, trie-of-program, trie-written}
use Rattle.ssa_path.proofs.Levels.{trie-parts}
use Rattle.ssa_path.proofs.Lists.{child-trie}
use Rattle.ssa_path.proofs.fields_text.+place.Goals as goal

pub push_place-loop-child-init : goal.push_place-loop-child-init
push_place-loop-child-init t c = record {
  text = place-begun c.args.text.now.items c.push.new.self.items c.push_dot.new.text.items (out-Trie c.args.place.now).here
      (child_members c.deref-child-items.result.now) c.in_ok-push.ensures.items c.in_ok-push_dot.ensures;
  of_program = tt;
}

pub push_place-push_below-requires : goal.push_place-push_below-requires
push_place-push_below-requires t c =
    let cs = c.deref-child-items.result.now in
    let filled = (trie-parts c.args.place.now cs c.deref-child-items.ensures.value c.requires).1 in (
      search (rules, the_lemmas),
      (
        child-trie cs c.loop-child.child-index c.child-item.result (omega arith) c.child-item.is filled,
        child-filled cs c.loop-child.child-index c.child-item.result (omega arith) c.child-item.is filled,
      ),
    )

pub push_place-loop-child-preserved : goal.push_place-loop-child-preserved
push_place-loop-child-preserved t c =
    let l = c.loop-child in
    let cs = c.deref-child-items.result.now in
    let child = c.child-item in
    record {
      text = child-written _ l.text.items c.push_comma.new.text.items c.push_element.new.text.items c.push-in-loop-child.new.self.items
          c.push_below.new.text.items l.is_later cs l.child-index child.result c.loop-child-test.true child.is l.invariant.text c.in_ok-push_comma.ensures
          c.in_ok-push_element.ensures.text c.in_ok-push-2.ensures.items c.in_ok-push_below.ensures.text;
      of_program = of-program-more cs l.child-index child.result c.loop-child-test.true child.is l.invariant.of_program
          c.in_ok-push_element.ensures.of_program c.in_ok-push_below.ensures.of_program;
    }

pub push_place-returns-clause-text : goal.push_place-returns-clause-text
push_place-returns-clause-text t c =
    let l = c.loop-child in
    trie-written c.args.text.now.items l.text.items c.push-2.new.self.items l.is_later c.args.place.now c.deref-child-items.result.now l.child-index
    c.deref-child-items.ensures.value c.loop-child-test.false c.requires l.invariant.text c.in_ok-push-3.ensures.items

pub push_place-returns-clause-of_program : goal.push_place-returns-clause-of_program
push_place-returns-clause-of_program t c =
    trie-of-program c.args.place.now c.deref-child-items.result.now c.loop-child.child-index c.deref-child-items.ensures.value c.loop-child-test.false
    c.requires c.loop-child.invariant.of_program

pub push_below-returns-then-is_alone-clause-text : goal.push_below-returns-then-is_alone-clause-text
push_below-returns-then-is_alone-clause-text t c =
    let place = c.args.place.now in
    let none : has_some {A = Elem × Trie} (out-Trie place).below.items ≡ false = below-some place c.is_empty-is_alone.result c.is_empty-is_alone.ensures
    ∙ ap not c.if-is_alone.true in
    let alone = alone-place place none c.requires.filled in
    appended c.extend_from_slice.result _ _ _ _ c.extend_from_slice.ensures.items (ap (λ ps. compact (below_json ps)) (sym alone))

pub push_below-returns-then-is_alone-clause-of_program : goal.push_below-returns-then-is_alone-clause-of_program
push_below-returns-then-is_alone-clause-of_program t c =
    let place = c.args.place.now in
    let none : has_some {A = Elem × Trie} (out-Trie place).below.items ≡ false = below-some place c.is_empty-is_alone.result c.is_empty-is_alone.ensures
    ∙ ap not c.if-is_alone.true in
    let alone = alone-place place none c.requires.filled in
    let own = subst (λ ps. IsOfProgram (below_json ps)) (sym alone) (record { narrow = refl; texts = refl; names = refl }) in
    on_ok_weaker c.extend_from_slice.result (λ _. own) (push_below-returns-then-is_alone-clause-text t c)

pub push_below-returns-clause-text : goal.push_below-returns-clause-text
push_below-returns-clause-text t c =
    let place = c.args.place.now in
    let some : has_some {A = Elem × Trie} (out-Trie place).below.items ≡ true = below-some place c.is_empty-is_alone.result c.is_empty-is_alone.ensures
    ∙ ap not c.if-is_alone.false in
    let same = below-more place c.requires.trie some in
    on_ok_weaker c.push_place.result (λ written. written ∙ ap (λ v. c.args.text.now.items ++ compact v) (sym same)) c.push_place.ensures.text

pub push_below-returns-clause-of_program : goal.push_below-returns-clause-of_program
push_below-returns-clause-of_program t c =
    let place = c.args.place.now in
    let some : has_some {A = Elem × Trie} (out-Trie place).below.items ≡ true = below-some place c.is_empty-is_alone.result c.is_empty-is_alone.ensures
    ∙ ap not c.if-is_alone.false in
    let same = below-more place c.requires.trie some in
    on_ok_weaker c.push_place.result (λ own. subst IsOfProgram (sym same) own) c.push_place.ensures.of_program
