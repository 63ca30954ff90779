use Rattle.std.proofs.Common.{◌≡◌, true, zero-add, ◌+◌, ◌*◌, ◌<◌, ◌≤◌, ◌∷◌, ◌++◌, [], length, drop, Some, None, Vec, Global, refl, ap, sym, subst, ◌∙◌, arith, rules}
use Rattle.std.proofs.lemmas.List.{drop-set-lt, map-append, nil_from_length}
use Rattle.std.specs.Vec.Iter.{into_iter_items}
use Rattle.std.specs.Box.{with_value}
use Rattle.ssa_model.specs.definitions.Body.{is_leaf}
use Rattle.ssa_path.specs.Children.{elements}
use Rattle.ssa_path.specs.Listing.{way_view}
use Rattle.ssa_path.specs.View.{element_view}
use Rattle.ssa_path.proofs.Lists.{left-at}
use Rattle.ssa_typed.specs.Over.{AreAlikeBelow}
use Rattle.ssa_typed.specs.Rows.{are_apart, are_trees, below, leaf_content, own_content, rows}
use Rattle.ssa_typed.proofs.Levels.{level-below}
use Rattle.ssa_typed.proofs.Sizes.{smaller}
use Rattle.ssa_turn_body.specs.Edits.{is_idle}
use Rattle.ssa_turn_body.specs.Led.{AreLeading, IsChildLed, MayAdd}
use Rattle.ssa_turn_body.specs.Between.{IsEditBetween}
use Rattle.ssa_turn_body.specs.Found.{AreFound}
use Rattle.ssa_turn_body.specs.Told.{from_place}
use Rattle.ssa_turn_body.specs.declared.change.PlaceChange.TheVariants.{Children}
use Rattle.ssa_turn_body.specs.declared.children.ChildrenEdit.{ChildrenEdit}
use Rattle.ssa_turn_body.specs.declared.steps.Step.{Step}
use Rattle.std.specs.Borrow.{Bor}
use Rattle.ssa_path.specs.declared.element.Elem.{Elem}
use Rattle.ssa_typed.specs.declared.node.Node.{Branch, Dict, List as ListOf}
use Rattle.ssa_typed.proofs.Lookups.{tree-child}
use Rattle.std.proofs.lemmas.Option.{same_Some}
use Rattle.ssa_turn_body.specs.Marks.{Child, kids, marks, may_stand, with_order}
use Rattle.ssa_turn_body.proofs.Finishing.{alike-apart, alike-told, kind-trees, kind-stands, kind-alike, kind-told, leading-told, leading-from, leaf-told, no-branch, own-order, stand-apart, branch-Branch, branch-Dict, branch-List}
use Rattle.ssa_turn_body.proofs.Concluding.{finish, joins-final}
use Rattle.ssa_turn_body.proofs.Matching.{counted, counted-at, found-alike}
use Rattle.ssa_turn_body.proofs.BodyMarks.{own-stands}
use Rattle.ssa_turn_body.proofs.OnceOnly.{once-last}
use Rattle.ssa_turn_body.proofs.Recording.{leading-same, leading-then}
use Rattle.ssa_turn_body.proofs.Places.{kind-Branch, kind-Dict, kind-List}
use Rattle.ssa_turn_body.proofs.Walking.{IsWalking, child-named, child-there, found-read, left-within, none-left, led, led-start, walking-start, walking-index, walking-tree, walking-place, walking-alike, walking-led, walking-held, walking-end}
use Rattle.ssa_turn_body.proofs.walk.+walk.Goals as goal
use Rattle.ssa_turn_body.proofs.walk.+walk.Goals.{walk_edit-in-Some-index+in_ok-walk_given-in-Some-index, walk_edit-in-None-index+in_ok-push-in-None-index}

-- ---- the children

pub walk_child-returns-then-is_same_leaf-clause-led : goal.walk_child-returns-then-is_same_leaf-clause-led
walk_child-returns-then-is_same_leaf-clause-led t c = λ d is.
    let n = c.args.from.now in
    let e = element_view c.args.to.now.0 in
    let child = c.index-children-place.result in
    let there = child-there e (below n) c.children.result.now c.args.place child c.children.ensures.own c.requires.place c.index-children-place.is
    ((level-below n).apart c.requires.from) in
    leading-same _ (marks d) (marks c.args.to.now.1) c.args.steps.now.items _ refl
    (λ q. ap (λ m. marks m q) (same_Some d child.1 (sym is ∙ there)) ∙ c.is_same_leaf.ensures c.if-is_same_leaf.true q)

pub walk_child-walk-requires : goal.walk_child-walk-requires
walk_child-walk-requires t c =
    let n = c.args.from.now in
    let e = element_view c.args.to.now.0 in
    let child = c.index-children-place.result in
    let there = child-there e (below n) c.children.result.now c.args.place child c.children.ensures.own c.requires.place c.index-children-place.is
    ((level-below n).apart c.requires.from) in
    let part = smaller n e child.1 there in
    let small : 5 * length (rows child.1) + 4 < 5 * length (rows n) = omega arith in
    (search (rules, small), (tree-child n e child.1 c.requires.from there, (c.requires.to, c.requires.alike child.1 there)))

pub walk_child-returns-clause-led : goal.walk_child-returns-clause-led
walk_child-returns-clause-led t c = λ d is.
    let n = c.args.from.now in
    let e = element_view c.args.to.now.0 in
    let child = c.index-children-place.result in
    let p = way_view c.args.way.now.items in
    let there = child-there e (below n) c.children.result.now c.args.place child c.children.ensures.own c.requires.place c.index-children-place.is
    ((level-below n).apart c.requires.from) in
    let name = child-named e (below n) c.children.result.now c.args.place child c.children.ensures.own c.requires.place c.index-children-place.is in
    let way = ap way_view c.in_ok-push.ensures.items ∙ map-append (λ (r : Bor Elem). element_view r.now) c.args.way.now.items _
    ∙ ap (λ x. p ++ x ∷ []) name in
    subst (λ w. AreLeading w (marks d) (marks c.args.to.now.1) c.args.steps.now.items c.walk.new.steps.items) way
    (subst (λ m. AreLeading (way_view c.push.new.self.items) (marks m) (marks c.args.to.now.1) c.args.steps.now.items c.walk.new.steps.items)
    (same_Some child.1 d (sym there ∙ is)) c.in_ok-walk.ensures.led)

-- ---- children that stand alike

pub walk_alike-loop-i-init : goal.walk_alike-loop-i-init
walk_alike-loop-i-init t c =
    let cs = below c.args.from.now in
    let ds = c.args.to.now.items in
    record {
      way = refl;
      walking = walking-start (way_view c.args.way.now.items) (own_content c.args.from.now) cs ds (counted 0 (length ds)) c.args.steps.now.items
          c.requires.to (found-alike cs ds c.requires.same);
    }

pub walk_alike-walk_child-requires : goal.walk_alike-walk_child-requires
walk_alike-walk_child-requires t c =
    let n = c.args.from.now in
    let ds = c.args.to.now.items in
    let xs = c.loop-i.to.items in
    let i = c.loop-i.i in
    let w = c.loop-i.invariant.walking in
    let lt : i < length ds = omega (arith, c.len-i-end.ensures, c.loop-i-test.true, c.args.to.now.ok.0) in
    let is = left-at xs i c.index_mut.result.now (left-within xs i (length ds) w.count lt) c.index_mut.ensures.value in
    let apart = alike-apart n ds c.requires.from c.requires.same in
    let some = counted-at 0 (length ds) i lt ∙ ap Some (zero-add i) in
    let small : 5 * length (rows n) < 5 * length (rows n) + 1 = omega arith in (
      search (rules, small),
      (
        c.requires.from,
        (
          walking-tree _ _ _ _ _ _ _ _ _ _ _ _ is apart w,
          (walking-place _ _ _ _ _ _ _ _ _ _ _ _ is apart w i some, walking-alike _ _ _ _ _ _ _ _ _ _ _ _ is apart w c.requires.alike),
        ),
      ),
    )

pub walk_alike-loop-i-preserved : goal.walk_alike-loop-i-preserved
walk_alike-loop-i-preserved t c =
    let n = c.args.from.now in
    let cs = below n in
    let ds = c.args.to.now.items in
    let xs = c.loop-i.to.items in
    let i = c.loop-i.i in
    let p = way_view c.args.way.now.items in
    let w = c.loop-i.invariant.walking in
    let d = c.index_mut.result.now in
    let lt : i < length ds = omega (arith, c.len-i-end.ensures, c.loop-i-test.true, c.args.to.now.ok.0) in
    let is = left-at xs i d (left-within xs i (length ds) w.count lt) c.index_mut.ensures.value in
    let apart = alike-apart n ds c.requires.from c.requires.same in
    let some = counted-at 0 (length ds) i lt ∙ ap Some (zero-add i) in
    let given = c.in_ok-walk_child.ensures in
    let child = subst (λ q. IsChildLed q cs d c.loop-i.steps.items c.walk_child.new.steps.items) (ap way_view c.loop-i.invariant.way) given.led in
    let next = walking-led _ _ _ _ _ _ _ _ _ _ _ _ is apart w i c.walk_child.new.steps.items ((level-below n).apart c.requires.from) some child in
    record {
      way = given.way ∙ c.loop-i.invariant.way;
      walking = subst (λ rest. IsWalking p (own_content n) cs ds (counted 0 (length ds)) c.args.steps.now.items (i + 1) rest [] c.walk_child.new.steps.items)
          (sym (drop-set-lt (i + 1) xs i c.walk_child.new.to (omega arith))) next;
    }

pub walk_alike-returns-clause-led : goal.walk_alike-returns-clause-led
walk_alike-returns-clause-led t c =
    let n = c.args.from.now in
    let cs = below n in
    let ds = c.args.to.now.items in
    let o = own_content n in
    let p = way_view c.args.way.now.items in
    let old = c.args.steps.now.items in
    let l = c.loop-i in
    let rest = drop l.i l.to.items in
    let all : length ds ≤ l.i = omega (arith, c.len-i-end.ensures, c.loop-i-test.false, c.args.to.now.ok.0) in
    let none = none-left l.to.items l.i (length ds) l.invariant.walking.count all in
    let end = walking-end p o cs ds (counted 0 (length ds)) old l.i rest [] l.steps.items none l.invariant.walking in
    leading-from p (marks n) (led o cs []) _ old l.steps.items (led-start n)
    (leading-told p (led o cs []) (led o cs ds) _ old l.steps.items (alike-told o cs ds c.requires.same (own-order n c.requires.from)) end.1)

-- ---- children of which some go, come or stand elsewhere

pub walk_edit-edit_between-requires-clause-apart : goal.walk_edit-edit_between-requires-clause-apart
walk_edit-edit_between-requires-clause-apart t c = ap (λ ds. are_apart (elements ds)) c.deref-2.ensures.value
    ∙ stand-apart (own_content c.args.from.now) (elements c.args.to.items) c.requires.stand

pub walk_edit-loop-child-init : goal.walk_edit-loop-child-init
walk_edit-loop-child-init t c =
    let cs = below c.args.from.now in
    let ds = c.args.to.items in
    let fs = c.in_ok-found.found.items in
    let p = way_view c.args.way.now.items in
    let o = own_content c.args.from.now in
    let old = c.args.steps.now.items in
    let found = subst (λ xs. AreFound cs xs fs) c.deref.ensures.value c.in_ok-found.ensures in
    record {
      way = refl;
      walking =
          subst (λ hs. IsWalking p o cs ds fs old 0 (into_iter_items c.into_iter-child-iterator.result) hs old) (sym c.in_ok-held.ensures.items)
          (subst (λ rest. IsWalking p o cs ds fs old 0 rest [] old) (sym c.into_iter-child-iterator.ensures.into_iter_gives.0)
          (walking-start p o cs ds fs old c.requires.to found));
    }

pub walk_edit-walk_given-requires : goal.walk_edit-walk_given-requires
walk_edit-walk_given-requires t c =
    let n = c.args.from.now in
    let fs = c.in_ok-found.found.items in
    let w = c.loop-child.invariant.walking in
    let is = c.in-Some.ensures.steps.0 in
    let apart = stand-apart (own_content n) (elements c.args.to.items) c.requires.stand in
    let within = walking-index _ _ _ _ _ _ _ _ _ _ _ _ is apart w in
    let some = found-read fs c.loop-child.i c.index.result.now (Some c.in-Some-index.place) within c.index.ensures c.in-Some-index.is in
    let small : 5 * length (rows n) + 1 < 5 * length (rows n) + 2 = omega arith in (
      search (rules, small),
      (
        c.requires.from,
        (
          walking-tree _ _ _ _ _ _ _ _ _ _ _ _ is apart w,
          (walking-place _ _ _ _ _ _ _ _ _ _ _ _ is apart w c.in-Some-index.place some, walking-alike _ _ _ _ _ _ _ _ _ _ _ _ is apart w c.requires.alike),
        ),
      ),
    )

pub walk_edit-loop-child-preserved : goal.walk_edit-loop-child-preserved
walk_edit-loop-child-preserved t c =
    let n = c.args.from.now in
    let cs = below n in
    let ds = c.args.to.items in
    let o = own_content n in
    let p = way_view c.args.way.now.items in
    let old = c.args.steps.now.items in
    let fs = c.in_ok-found.found.items in
    let i = c.loop-child.i in
    let rest = into_iter_items c.next.new.self in
    let w = c.loop-child.invariant.walking in
    let is = c.in-Some.ensures.steps.0 in
    let apart = stand-apart o (elements ds) c.requires.stand in
    let within = walking-index _ _ _ _ _ _ _ _ _ _ _ _ is apart w in
    let m = c.match-index in
    elim c.match-index.branch [
      | walk_edit-in-Some-index+in_ok-walk_given-in-Some-index v ↦
          let k = v.in-Some-index.place in
          let some = found-read fs i c.index.result.now (Some k) within c.index.ensures v.in-Some-index.is in
          let given = v.in_ok-walk_given-in-Some-index.ensures in
          let child = subst (λ q. IsChildLed q cs c.in-Some.child c.loop-child.steps.items v.walk_given.new.steps.items)
          (ap way_view c.loop-child.invariant.way) given.led in
          let next = walking-led _ _ _ _ _ _ _ _ _ _ _ _ is apart w k v.walk_given.new.steps.items ((level-below n).apart c.requires.from) some child in
          record {
            way = ap (λ (x : Vec (Bor Elem) Global). x.items) v.way'-is ∙ given.way ∙ c.loop-child.invariant.way;
            walking =
                subst (λ (x : Vec Child Global). IsWalking p o cs ds fs old (i + 1) rest x.items m.steps.items) (sym v.held-is)
                (subst (λ (x : Vec Step Global). IsWalking p o cs ds fs old (i + 1) rest c.loop-child.held.items x.items) (sym v.steps-is) next);
          }
      | walk_edit-in-None-index+in_ok-push-in-None-index v ↦
          let none = found-read fs i c.index.result.now None within c.index.ensures v.in-None-index.is in
          let next = walking-held _ _ _ _ _ _ _ _ _ _ _ _ is apart w v.push.new.self.items none v.in_ok-push-in-None-index.ensures.items in
          record {
            way = ap (λ (x : Vec (Bor Elem) Global). x.items) v.way'-is ∙ c.loop-child.invariant.way;
            walking =
                subst (λ (x : Vec Child Global). IsWalking p o cs ds fs old (i + 1) rest x.items m.steps.items) (sym v.held-is)
                (subst (λ (x : Vec Step Global). IsWalking p o cs ds fs old (i + 1) rest v.push.new.self.items x.items) (sym v.steps-is) next);
          }
    ]

pub walk_edit-returns-clause-led : goal.walk_edit-returns-clause-led
walk_edit-returns-clause-led t c =
    let n = c.args.from.now in
    let cs = below n in
    let ds = c.args.to.items in
    let o = own_content n in
    let p = way_view c.args.way.now.items in
    let old = c.args.steps.now.items in
    let fs = c.in_ok-found.found.items in
    let l = c.loop-child in
    let s = c.in_ok-edit.edit in
    let apart = stand-apart o (elements ds) c.requires.stand in
    let found = subst (λ xs. AreFound cs xs fs) c.deref.ensures.value c.in_ok-found.ensures in
    let none = nil_from_length (into_iter_items l.child-iterator) (omega (arith, c.in-None.ensures.steps.0, l.child-iterator.rest.ok)) in
    let end = walking-end p o cs ds fs old l.i (into_iter_items l.child-iterator) l.held.items l.steps.items none l.invariant.walking in
    let between : IsEditBetween cs ds fs s =
    subst (λ xs. IsEditBetween xs ds fs s) c.children.ensures.own
    (subst (λ xs. IsEditBetween c.children.result.now xs fs s) c.deref-2.ensures.value
    (subst (λ gs. IsEditBetween c.children.result.now c.deref-2.result.now gs s) c.deref-3.ensures.value c.in_ok-edit.ensures)) in
    let made : ChildrenEdit = record s { held = l.held } in
    let room = c.in_ok-boxed.boxed in
    let is : room.value ≡ made = c.in_ok-boxed.ensures.ok in
    let added =
    subst (λ q. MayAdd (is_idle s) q (Children (with_value room made)) l.steps.items c.push_edit.new.steps.items)
    (ap way_view (c.deref-4.ensures.value ∙ l.invariant.way))
    (subst (λ x. MayAdd (is_idle x) (way_view c.deref-4.result.now) (Children (with_value room x)) l.steps.items c.push_edit.new.steps.items) is
    c.in_ok-push_edit.ensures) in
    let last =
    finish o cs ds fs s between l.held ((level-below n).apart c.requires.from) apart found end.0 c.requires.to
    (own-stands n (elements ds) c.requires.from c.requires.stand) c.requires.stand (own-order n c.requires.from) room p l.steps.items c.push_edit.new.steps.items
    added in
    leading-from p (marks n) (led o cs []) _ old c.push_edit.new.steps.items (led-start n)
    (leading-then p (led o cs []) (led o cs ds) _ old l.steps.items c.push_edit.new.steps.items (joins-final o cs ds) end.1 last
    (once-last (is_idle s) p (Children (with_value room made)) old l.steps.items c.push_edit.new.steps.items end.2 end.1.once.places added
    last.once.places))

-- ---- the children of a place

pub walk_children-walk_edit-requires : goal.walk_children-walk_edit-requires
walk_children-walk_edit-requires t c =
    let n = c.args.from.now in
    let r = c.requires in
    let is = sym (ap (λ (v : Vec Child Global). v.items) c.replace-others.ensures.value) in
    let small : 5 * length (rows n) + 2 < 5 * length (rows n) + 3 = omega arith in (
      search (rules, small),
      (
        r.from,
        (
          subst (λ xs. are_trees xs ≡ true) is r.to,
          (subst (λ xs. may_stand (own_content n) (elements xs) ≡ true) is r.stand, subst (AreAlikeBelow (below n)) is r.alike),
        ),
      ),
    )

pub walk_children-returns-clause-led : goal.walk_children-returns-clause-led
walk_children-returns-clause-led t c =
    let n = c.args.from.now in
    subst (λ (v : Vec Child Global). AreLeading (way_view c.args.way.now.items) (marks n) (from_place (with_order (own_content n) (elements v.items), kids v.items))
    c.args.steps.now.items c.walk_edit.new.steps.items) c.replace-others.ensures.value c.in_ok-walk_edit.ensures.led

-- ---- a place

pub walk-unreachable-requires : goal.walk-unreachable-requires
walk-unreachable-requires t c = no-branch c.args.from.now c.args.to.now c.in-Leaf.leaf c.in-Leaf.is
    (ap (λ n. is_leaf (Some (own_content n))) c.in-Branch-from.is ∙ branch-Branch c.in-Branch-from.field-0) c.requires.alike

pub walk-unreachable-requires-in-Dict-from : goal.walk-unreachable-requires-in-Dict-from
walk-unreachable-requires-in-Dict-from t c = no-branch c.args.from.now c.args.to.now c.in-Leaf.leaf c.in-Leaf.is
    (ap (λ n. is_leaf (Some (own_content n))) c.in-Dict-from.is ∙ branch-Dict c.in-Dict-from.field-0) c.requires.alike

pub walk-unreachable-requires-in-List-from : goal.walk-unreachable-requires-in-List-from
walk-unreachable-requires-in-List-from t c = no-branch c.args.from.now c.args.to.now c.in-Leaf.leaf c.in-Leaf.is
    (ap (λ n. is_leaf (Some (own_content n))) c.in-List-from.is ∙ branch-List c.in-List-from.field-0) c.requires.alike

pub walk-walk_children-requires : goal.walk-walk_children-requires
walk-walk_children-requires t c =
    let r = c.requires in
    let to = c.args.to.now in
    let from = c.args.from.now in
    let is = c.in-Branch.is ∙ ap Branch (sym c.in-Branch.children-is) in (
      search rules,
      (
        r.from,
        (
          kind-trees _ kind-Branch branch-Branch from to _ is r.from r.to r.alike,
          (
            kind-stands _ kind-Branch branch-Branch from to _ is r.from r.to r.alike,
            kind-alike _ kind-Branch branch-Branch from to _ is r.from r.to r.alike,
          ),
        ),
      ),
    )

pub walk-walk_children-requires-in-Dict : goal.walk-walk_children-requires-in-Dict
walk-walk_children-requires-in-Dict t c =
    let r = c.requires in
    let to = c.args.to.now in
    let from = c.args.from.now in
    let is = c.in-Dict.is ∙ ap Dict (sym c.in-Dict.children-is) in (
      search rules,
      (
        r.from,
        (
          kind-trees _ kind-Dict branch-Dict from to _ is r.from r.to r.alike,
          (
            kind-stands _ kind-Dict branch-Dict from to _ is r.from r.to r.alike,
            kind-alike _ kind-Dict branch-Dict from to _ is r.from r.to r.alike,
          ),
        ),
      ),
    )

pub walk-walk_children-requires-in-List : goal.walk-walk_children-requires-in-List
walk-walk_children-requires-in-List t c =
    let r = c.requires in
    let to = c.args.to.now in
    let from = c.args.from.now in
    let is = c.in-List.is ∙ ap ListOf (sym c.in-List.children-is) in (
      search rules,
      (
        r.from,
        (
          kind-trees _ kind-List branch-List from to _ is r.from r.to r.alike,
          (
            kind-stands _ kind-List branch-List from to _ is r.from r.to r.alike,
            kind-alike _ kind-List branch-List from to _ is r.from r.to r.alike,
          ),
        ),
      ),
    )

pub walk-returns-in_ok-walk_children-in-Branch-clause-led : goal.walk-returns-in_ok-walk_children-in-Branch-clause-led
walk-returns-in_ok-walk_children-in-Branch-clause-led t c =
    let r = c.requires in
    let is = c.in-Branch.is ∙ ap Branch (sym c.in-Branch.children-is) in
    leading-told (way_view c.args.way.now.items) (marks c.args.from.now) _ (marks c.args.to.now) c.args.steps.now.items c.walk_children.new.steps.items
    (kind-told _ kind-Branch branch-Branch c.args.from.now c.args.to.now _ is r.from r.to r.alike)
    c.in_ok-walk_children-in-Branch.ensures.led

pub walk-returns-in_ok-walk_children-in-Dict-clause-led : goal.walk-returns-in_ok-walk_children-in-Dict-clause-led
walk-returns-in_ok-walk_children-in-Dict-clause-led t c =
    let r = c.requires in
    let is = c.in-Dict.is ∙ ap Dict (sym c.in-Dict.children-is) in
    leading-told (way_view c.args.way.now.items) (marks c.args.from.now) _ (marks c.args.to.now) c.args.steps.now.items c.walk_children-in-Dict.new.steps.items
    (kind-told _ kind-Dict branch-Dict c.args.from.now c.args.to.now _ is r.from r.to r.alike) c.in_ok-walk_children-in-Dict.ensures.led

pub walk-returns-in_ok-walk_children-in-List-clause-led : goal.walk-returns-in_ok-walk_children-in-List-clause-led
walk-returns-in_ok-walk_children-in-List-clause-led t c =
    let r = c.requires in
    let is = c.in-List.is ∙ ap ListOf (sym c.in-List.children-is) in
    leading-told (way_view c.args.way.now.items) (marks c.args.from.now) _ (marks c.args.to.now) c.args.steps.now.items c.walk_children-in-List.new.steps.items
    (kind-told _ kind-List branch-List c.args.from.now c.args.to.now _ is r.from r.to r.alike) c.in_ok-walk_children-in-List.ensures.led

pub walk-returns-in_ok-push_leaf-in-Leaf-from-clause-led : goal.walk-returns-in_ok-push_leaf-in-Leaf-from-clause-led
walk-returns-in_ok-push_leaf-in-Leaf-from-clause-led t c =
    let p = way_view c.args.way.now.items in
    let from = c.args.from.now in
    let to = c.args.to.now in
    let before = from_place (leaf_content c.in-Leaf-from.own, []) in
    let after = from_place (leaf_content c.in-Leaf.leaf, []) in
    let old = c.args.steps.now.items in
    let new = c.push_leaf.new.steps.items in
    let given = (subst (λ q. AreLeading (way_view q) before after old new) c.deref.ensures.value
    (subst (λ l. AreLeading (way_view c.deref.result.now) before (from_place (leaf_content l, [])) old new) c.in-Leaf.leaf-is
    c.in_ok-push_leaf-in-Leaf-from.ensures)) in
    leading-from p (marks from) before (marks to) old new (leaf-told from c.in-Leaf-from.own c.in-Leaf-from.is)
    (leading-told p before after (marks to) old new (λ q. sym (leaf-told to c.in-Leaf.leaf c.in-Leaf.is q)) given)
