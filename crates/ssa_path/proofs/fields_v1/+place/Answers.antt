use Rattle.std.proofs.Common.{◌≡◌, ◌+◌, drop, take, take_all, true, false, not, string_bytes, sym, ap, subst, ◌∙◌, arith, rules}
use Rattle.ssa_model.specs.definitions.Json.{object}
use Rattle.ssa_model.specs.definitions.FieldsV1.{AreCanonical, IsCanonical}
use Rattle.ssa_json.specs.View.{members_view}
use Rattle.ssa_json.proofs.Ordered.{insert_entry-last}
use Rattle.ssa_json.proofs.Views.{view-Object}
use Rattle.ssa_path.specs.Children.{elements, rises}
use Rattle.ssa_path.specs.Trie.{has_some, paths}
use Rattle.ssa_path.specs.View.{element_view}
use Rattle.ssa_path.specs.declared.element.Elem.{Elem}
use Rattle.ssa_path.specs.declared.trie.Trie.{Trie, the_lemmas}
use Rattle.ssa_path.specs.declared.trie.Trie.TheViews.{out-Trie}
use Rattle.ssa_path.proofs.FieldsBack.{AreBackChildren, alone-read-back, back-more, paths-back}
use Rattle.ssa_path.proofs.FieldsLevels.{dotted, child_members, level-trie}
use Rattle.ssa_path.proofs.FieldsMembers.{Found, members-more, canonical-more, text-of-element, dot-canonical, dot-dotted, above-found, alone-place, alone-written, place-written, below-some, child-filled}
use Rattle.ssa_path.proofs.InOrder.{taken}
use Rattle.ssa_path.proofs.Levels.{trie-parts}
use Rattle.ssa_path.proofs.Lists.{child-trie, parted}
use Rattle.ssa_path.proofs.fields_v1.+place.Goals as goal

pub place_members-loop-child-init : goal.place_members-loop-child-init
place_members-loop-child-init t c =
    let made = c.in_ok-members.ensures in
    record {
      json = made ∙ dot-dotted (out-Trie c.args.place.now).here;
      canonical = subst AreCanonical (sym made) (dot-canonical (out-Trie c.args.place.now).here);
      back = tt;
    }

pub place_members-below_value-requires : goal.place_members-below_value-requires
place_members-below_value-requires t c =
    let cs = c.deref-child-items.result.now in
    let filled = (trie-parts c.args.place.now cs c.deref-child-items.ensures.value c.requires).1 in (
      search (rules, the_lemmas),
      (
        child-trie cs c.loop-child.child-index c.child-item.result (omega arith) c.child-item.is filled,
        child-filled cs c.loop-child.child-index c.child-item.result (omega arith) c.child-item.is filled,
      ),
    )

pub place_members-loop-child-preserved : goal.place_members-loop-child-preserved
place_members-loop-child-preserved t c =
    let l = c.loop-child in
    let i = l.child-index in
    let cs = c.deref-child-items.result.now in
    let child = c.child-item.result in
    let here = (out-Trie c.args.place.now).here in
    let name = c.in_ok-name.name in
    let e : Found = (name, c.in_ok-value.value) in
    let text = c.in_ok-name.ensures.ok ∙ c.in_ok-text.ensures.text in
    let value = c.in_ok-value.ensures.written in
    let rise = (trie-parts c.args.place.now cs c.deref-child-items.ensures.value c.requires).0 in
    let whole = parted cs i child (omega arith) c.child-item.is in
    let above = above-found here l.members.entries (take i cs) (drop (i + 1) cs) child (string_bytes name) l.invariant.json
    (ap (λ ds. rises (elements ds)) (sym whole) ∙ rise) text in
    let last = c.in_ok-insert.ensures.entries ∙ insert_entry-last l.members.entries name c.in_ok-value.value above in
    record {
      json =
          ap members_view last ∙ members-more here l.members.entries e (take i cs) child l.invariant.json text value.json
          ∙ ap (λ ds. dotted here (child_members ds)) (sym (taken cs i child (omega arith) c.child-item.is));
      canonical = subst (λ es. AreCanonical (members_view es)) (sym last)
          (canonical-more l.members.entries e l.invariant.canonical
          (text-of-element (element_view child.0) (string_bytes name) c.in_ok-text.ensures.of_program text) value.not_dot value.canonical);
      back = back-more cs i child (omega arith) c.child-item.is l.invariant.back c.in_ok-text.ensures.of_program c.in_ok-value.ensures.back;
    }

pub place_members-returns-clause-json : goal.place_members-returns-clause-json
place_members-returns-clause-json t c =
    let l = c.loop-child in
    let all = take_all l.child-index c.deref-child-items.result.now (omega arith) ∙ c.deref-child-items.ensures.value in
    ap object (l.invariant.json ∙ ap (λ ds. dotted (out-Trie c.args.place.now).here (child_members ds)) all) ∙ sym (level-trie c.args.place.now c.requires)

pub below_value-returns-then-is_alone-clause-written : goal.below_value-returns-then-is_alone-clause-written
below_value-returns-then-is_alone-clause-written t c =
    let place = c.args.place.now in
    let none : has_some {A = Elem × Trie} (out-Trie place).below.items ≡ false = below-some place c.is_empty-is_alone.result c.is_empty-is_alone.ensures
    ∙ ap not c.if-is_alone.true in
    alone-written (paths place) _ (alone-place place none c.requires.filled) (view-Object c.new.result
    ∙ ap (λ es. object (members_view es)) c.new.ensures.empty)

pub below_value-returns-clause-written : goal.below_value-returns-clause-written
below_value-returns-clause-written t c =
    let place = c.args.place.now in
    let some : has_some {A = Elem × Trie} (out-Trie place).below.items ≡ true = below-some place c.is_empty-is_alone.result c.is_empty-is_alone.ensures
    ∙ ap not c.if-is_alone.false in
    let members = c.in_ok-members.members in
    place-written place _ c.requires.trie some (view-Object members
    ∙ c.in_ok-members.ensures.json) (subst IsCanonical (sym (view-Object members)) c.in_ok-members.ensures.canonical)

pub place_members-returns-clause-back : goal.place_members-returns-clause-back
place_members-returns-clause-back t c =
    let cs = c.deref-child-items.result.now in
    let all = subst AreBackChildren (take_all c.loop-child.child-index cs (omega arith)) c.loop-child.invariant.back in
    paths-back c.args.place.now cs c.deref-child-items.ensures.value c.requires all

pub below_value-returns-then-is_alone-clause-back : goal.below_value-returns-then-is_alone-clause-back
below_value-returns-then-is_alone-clause-back t c =
    let place = c.args.place.now in
    let none : has_some {A = Elem × Trie} (out-Trie place).below.items ≡ false = below-some place c.is_empty-is_alone.result c.is_empty-is_alone.ensures
    ∙ ap not c.if-is_alone.true in
    alone-read-back (paths place) (alone-place place none c.requires.filled)
