use Rattle.std.proofs.Common.{◌≡◌, length, arith, refl, ap, sym, ◌∙◌}
use Rattle.std.proofs.lemmas.List.{nil_from_length, take_all}
use Rattle.std.proofs.lemmas.Bool.Decides.{nat_tests}
use Rattle.ssa_model.specs.definitions.Path.{field}
use Rattle.ssa_path.specs.View.{element_view}
use Rattle.ssa_path.specs.declared.trie.Trie.TheViews.{out-Trie}
use Rattle.ssa_path.proofs.Lists.{shapes, same-shape}
use Rattle.ssa_path.proofs.trie.+copy.Goals as goal

pub push_copy-returns-in_ok-push-in-Field : goal.push_copy-returns-in_ok-push-in-Field
push_copy-returns-in_ok-push-in-Field t c =
    let v = (out-Trie c.args.child.now.1).below in
    let test = sym c.is_empty.ensures ∙ c.if-is_empty.true in
    let long = v.ok.0 in
    let none : length v.items ≡ 0 = grind (arith, nat_tests) in (
      _,
      record {
        element = ap field c.copy_short.ensures ∙ sym (ap element_view c.in-Field.is);
        shape_is = same-shape _ c.args.child.now.1 refl (ap shapes (c.new.ensures.items ∙ sym (nil_from_length v.items none)));
      },
      c.in_ok-push-in-Field.ensures.items,
    )

pub copied-returns : goal.copied-returns
copied-returns t c =
    same-shape _ c.args.trie.now refl (c.loop-child.invariant
    ∙ ap shapes (take_all c.loop-child.child-index c.deref-child-items.result.now c.loop-child-test.false ∙ c.deref-child-items.ensures.value))
