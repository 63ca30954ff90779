use Rattle.std.proofs.Common.{◌≡◌, get_or, ◌≤◌, ◌+◌, ◌*◌, ◌<◌, ◌++◌, ◌∷◌, [], List, drop, map, Some, None, Less, Equal, Greater, true, length, Vec, Global, refl, sym, ap, subst, subst₂, ◌∙◌, arith, rules}
use Rattle.std.proofs.lemmas.List.{drop_all, drop-set-lt, map-append, nil_from_length}
use Rattle.std.specs.Borrow.{Bor}
use Rattle.std.specs.Option.{option_to_list}
use Rattle.std.specs.Prelude.{filter}
use Rattle.std.specs.Vec.Iter.{into_iter_items}
use Rattle.ssa_model.specs.definitions.Body.{is_leaf, list_branch}
use Rattle.ssa_path.specs.Children.{child_at, elements, heads_order, rises}
use Rattle.ssa_path.specs.Listing.{way_view}
use Rattle.ssa_path.specs.View.{element_view}
use Rattle.ssa_path.specs.declared.element.Elem.{Elem}
use Rattle.ssa_path.proofs.Combining.{both-within, heads-none, own-within}
use Rattle.ssa_path.proofs.Levels.{child-tests, trie-parts}
use Rattle.ssa_path.proofs.Lists.{left-at}
use Rattle.ssa_path.proofs.Orders.{both_first}
use Rattle.ssa_typed.specs.MergedOrder.{beside, is_new}
use Rattle.ssa_typed.specs.Over.{AreAlikeBelow}
use Rattle.ssa_typed.specs.Rows.{are_trees, below, leaf_content, own_content, rows}
use Rattle.ssa_typed.specs.declared.node.Node.{Branch, Dict, List as ListOf}
use Rattle.ssa_typed.proofs.Levels.{level-below, own-Branch, own-Dict, own-List}
use Rattle.ssa_typed.proofs.Lookups.{child-tree, tree-child}
use Rattle.ssa_typed.proofs.OverNodes.{below-List}
use Rattle.ssa_typed.proofs.Sizes.{smaller}
use Rattle.ssa_turn_body.specs.Applying.{IsApplying, IsMet, MayPart, MayPartBelow, behind, gone_below, is_named, node_of}
use Rattle.ssa_turn_body.specs.Led.{AreLeading}
use Rattle.ssa_turn_body.specs.Marks.{Child, marks, may_stand}
use Rattle.ssa_turn_body.specs.Told.{from_place}
use Rattle.ssa_turn_body.specs.Turnovers.{MayTurnOver, is_still, none_passes, passing, with_all_come}
use Rattle.ssa_turn_body.specs.declared.steps.Step.{Step}
use Rattle.ssa_turn_body.proofs.BodyMarks.{own-stands}
use Rattle.ssa_turn_body.proofs.Finishing.{kind-alike, kind-below, kind-order, kind-stands, kind-trees, leading-from, leading-told, leaf-told, no-branch, branch-Branch, branch-Dict, branch-List}
use Rattle.ssa_turn_body.proofs.Leaving.{may-child}
use Rattle.ssa_turn_body.proofs.Meeting.{IsMeeting, meeting-count, meeting-few, meeting-goes, meeting-start, meeting-stays, meeting-there, meeting-tree}
use Rattle.ssa_turn_body.proofs.MeetingBoth.{IsBeside, beside-all, beside-both, beside-comes, beside-few, beside-goes, beside-start, beside-stays, beside-within, both-may, both-there, named-stand, own-may, own-there}
use Rattle.ssa_turn_body.proofs.Places.{kind-Branch, kind-Dict, kind-List}
use Rattle.ssa_typed.proofs.Pairs.{same-length}
use Rattle.ssa_turn_body.proofs.Remaking.{few-below}
use Rattle.ssa_turn_body.proofs.PutOver.{alike-applying, alike-over, alike-there, alike-within, behind-kept, behind-nothing, items-applying, leaf-applied, left-more, left-there, may-below, place-applied, same-applying, slot-there, slot-within, slots-end, slots-more}
use Rattle.ssa_turn_body.proofs.over_walk.+over.Goals as goal
use Rattle.ssa_turn_body.proofs.over_walk.+over.Goals.{over_child-in-Some+in_ok-over-in-Some, over_child-in-None+in_ok-over-in-None, over_items-then-branch, over_items-else-branch, over_named-then-branch, over_named-else-branch}

-- ---- a child that both have

pub over_child-returns-then-is_same_leaf-clause-applied :
    goal.over_child-returns-then-is_same_leaf-clause-applied
over_child-returns-then-is_same_leaf-clause-applied t c =
    same-applying _ (behind (element_view c.args.live.now.0) (gone_below c.args.gone.now)) c.args.live.now.1 c.args.config.now c.args.steps.now.items
    c.requires.live c.requires.config c.requires.may (c.is_same_leaf.ensures c.if-is_same_leaf.true)

pub over_child-over-requires : goal.over_child-over-requires
over_child-over-requires t c =
    let gone = c.args.gone.now in
    let e = element_view c.args.live.now.0 in
    let child = c.args.live.now.1 in
    let trie = c.in-Some.lost.now in
    let there = sym c.in-Some.ensures in
    let parts = trie-parts trie c.deref.result.now c.deref.ensures.value (child-tests e gone trie c.requires.tries there) in
    let same = behind-kept gone c.requires.rise e child c.args.config.now c.requires.may trie there ∙ ap gone_below (sym c.deref.ensures.value) in
    let small : 6 * length (rows child) + 2 < 6 * length (rows child) + 3 = omega arith in (
      search (rules, small),
      (
        c.requires.live,
        (
          c.requires.config,
          (
            c.requires.alike,
            (
              parts.0,
              (parts.1, subst (λ g. MayPart g child (Some c.args.config.now)) same c.requires.may),
            ),
          ),
        ),
      ),
    )

pub over_child-returns-clause-applied : goal.over_child-returns-clause-applied
over_child-returns-clause-applied t c =
    let gone = c.args.gone.now in
    let e = element_view c.args.live.now.0 in
    let child = c.args.live.now.1 in
    let config = c.args.config.now in
    let old = c.args.steps.now.items in
    let way = ap way_view c.in_ok-push.ensures.items ∙ map-append (λ (r : Bor Elem). element_view r.now) c.args.way.now.items _ in
    subst (λ p. IsApplying p (behind e (gone_below gone)) child (Some config) old c.match-find_child.steps.items) way
    (elim c.match-find_child.branch [
      | over_child-in-Some+in_ok-over-in-Some w ↦
          let trie = w.in-Some.lost.now in
          let same = behind-kept gone c.requires.rise e child config c.requires.may trie (sym w.in-Some.ensures)
          ∙ ap gone_below (sym w.deref.ensures.value) in
          subst (λ (v : Vec Step Global). IsApplying (way_view c.push.new.self.items) (behind e (gone_below gone)) child (Some config) old v.items)
          (sym w.steps-is)
          (subst (λ g. IsApplying (way_view c.push.new.self.items) g child (Some config) old w.over.new.steps.items) (sym same)
          w.in_ok-over-in-Some.ensures.applied)
      | over_child-in-None+in_ok-over-in-None w ↦
          let same = behind-nothing gone c.requires.rise e child config c.requires.may (sym w.in-None.ensures) in
          subst (λ (v : Vec Step Global). IsApplying (way_view c.push.new.self.items) (behind e (gone_below gone)) child (Some config) old v.items)
          (sym w.steps-is)
          (subst (λ g. IsApplying (way_view c.push.new.self.items) g child (Some config) old w.over-in-None.new.steps.items) (sym same)
          w.in_ok-over-in-None.ensures.applied)
    ])

-- ---- children that stand alike

pub over_alike-loop-i-init : goal.over_alike-loop-i-init
over_alike-loop-i-init t c = record {
  way = refl;
  meeting = meeting-start (way_view c.args.way.now.items) (gone_below c.args.gone.now) c.args.live.now c.args.config.now.items c.args.steps.now.items
      none_passes
      refl;
  left = refl;
}

pub over_alike-bounds-own-i : goal.over_alike-bounds-own-i
over_alike-bounds-own-i t c =
    let ds = c.args.config.now.items in
    let lt : c.loop-i.i < length ds = omega (arith, c.len-i-end.ensures, c.loop-i-test.true, c.args.config.now.ok.0) in
    let same : length (below c.args.live.now) ≡ length ds = same-length (below c.args.live.now) ds c.requires.same in
    let own = ap length c.children-own.ensures.own in
    omega arith

pub over_alike-over_child-requires : goal.over_alike-over_child-requires
over_alike-over_child-requires t c =
    let n = c.args.live.now in
    let cs = below n in
    let ds = c.args.config.now.items in
    let gone = gone_below c.args.gone.now in
    let l = c.loop-i in
    let child = c.index-own-i.result in
    let e = element_view child.0 in
    let d = c.index_mut-other.result.now in
    let apart = (level-below n).apart c.requires.live in
    let lt : l.i < length ds = omega (arith, c.len-i-end.ensures, c.loop-i-test.true, c.args.config.now.ok.0) in
    let is : child ≡ get_or cs l.i child = subst (λ xs. child ≡ get_or xs l.i child) c.children-own.ensures.own c.index-own-i.is in
    let within = alike-within cs ds l.config.items l.i child d c.requires.same apart lt is c.index_mut-other.ensures.value l.invariant.left in
    let there = alike-there cs ds l.config.items l.i child d c.requires.same apart lt is c.index_mut-other.ensures.value l.invariant.left in
    let own = meeting-there _ gone n ds _ l.i l.i _ _ l.invariant.meeting c.requires.live child within is in
    let part = smaller n e child.1 own in
    let small : 6 * length (rows child.1) + 3 < 6 * length (rows n) = omega arith in (
      search (rules, small),
      (
        meeting-tree _ gone n ds _ l.i l.i _ _ l.invariant.meeting c.requires.live child within is,
        (
          child-tree e ds d.1 c.requires.config there,
          (
            c.requires.alike e child.1 d.1 own there,
            (
              c.requires.rise,
              (
                c.requires.tries,
                subst (λ o. MayPart (behind e gone) child.1 o) there (may-child gone n ds e child.1 c.requires.live own c.requires.may),
              ),
            ),
          ),
        ),
      ),
    )

pub over_alike-loop-i-preserved : goal.over_alike-loop-i-preserved
over_alike-loop-i-preserved t c =
    let n = c.args.live.now in
    let cs = below n in
    let ds = c.args.config.now.items in
    let gone = gone_below c.args.gone.now in
    let l = c.loop-i in
    let p = way_view c.args.way.now.items in
    let child = c.index-own-i.result in
    let e = element_view child.0 in
    let d = c.index_mut-other.result.now in
    let apart = (level-below n).apart c.requires.live in
    let lt : l.i < length ds = omega (arith, c.len-i-end.ensures, c.loop-i-test.true, c.args.config.now.ok.0) in
    let is : child ≡ get_or cs l.i child = subst (λ xs. child ≡ get_or xs l.i child) c.children-own.ensures.own c.index-own-i.is in
    let within = alike-within cs ds l.config.items l.i child d c.requires.same apart lt is c.index_mut-other.ensures.value l.invariant.left in
    let there = alike-there cs ds l.config.items l.i child d c.requires.same apart lt is c.index_mut-other.ensures.value l.invariant.left in
    let in_left = left-there cs ds l.config.items l.i child d c.requires.same apart lt is c.index_mut-other.ensures.value l.invariant.left in
    let more = left-more cs ds l.config.items l.i child d c.requires.same apart lt is c.index_mut-other.ensures.value l.invariant.left in
    let given = c.in_ok-over_child.ensures in
    let applied = subst (λ q. IsApplying (q ++ e ∷ []) (behind e gone) child.1 (Some d.1) l.steps.items c.over_child.new.steps.items) (ap way_view
    l.invariant.way)
    given.applied in
    let led = subst (λ o. IsApplying (p ++ e ∷ []) (behind e gone) child.1 o l.steps.items c.over_child.new.steps.items) (sym there) applied in
    record {
      way = given.way ∙ l.invariant.way;
      meeting = meeting-stays p gone n ds c.args.steps.now.items l.i l.i none_passes l.steps.items l.invariant.meeting c.requires.live child within
          is none_passes
          c.over_child.new.steps.items (refl, led);
      left = drop-set-lt (l.i + 1) l.config.items l.i _ (omega arith) ∙ more;
    }

pub over_alike-returns-clause-way : goal.over_alike-returns-clause-way
over_alike-returns-clause-way t c = c.loop-i.invariant.way

pub over_alike-returns-clause-applied : goal.over_alike-returns-clause-applied
over_alike-returns-clause-applied t c =
    let n = c.args.live.now in
    let ds = c.args.config.now.items in
    let l = c.loop-i in
    let same : length (below n) ≡ length ds = same-length (below n) ds c.requires.same in
    let all : length (below n) ≤ l.i = omega (arith, c.len-i-end.ensures, c.loop-i-test.false, c.args.config.now.ok.0, same) in
    alike-applying (way_view c.args.way.now.items) (gone_below c.args.gone.now) n ds c.args.steps.now.items l.i l.i none_passes l.steps.items c.requires.live
    c.requires.config c.requires.stand c.requires.may l.invariant.meeting (drop_all l.i (below n) all) c.requires.same refl

-- ---- the items of a list

pub over_items-loop-other-init : goal.over_items-loop-other-init
over_items-loop-other-init t c = record {
  way = refl;
  meeting = meeting-start (way_view c.args.way.now.items) (gone_below c.args.gone.now) c.args.live.now c.args.config.items c.args.steps.now.items
      (passing c.none-turnover.result) c.none-turnover.ensures;
  slots = c.into_iter-other-iterator.ensures.into_iter_gives.0 ∙ c.in_ok-parts.ensures.beside
      ∙ ap (map (beside c.args.config.items)) c.children-own.ensures.own;
}

pub over_items-bounds-own-i : goal.over_items-bounds-own-i
over_items-bounds-own-i t c =
    let l = c.loop-other in
    let within = slot-within (below c.args.live.now) c.args.config.items l.i c.in-Some.other _ _ c.in-Some.ensures.steps.0 l.invariant.slots in
    let own = ap length c.children-own.ensures.own in
    omega arith

pub over_items-over_slot-requires : goal.over_items-over_slot-requires
over_items-over_slot-requires t c =
    let n = c.args.live.now in
    let cs = below n in
    let ds = c.args.config.items in
    let gone = gone_below c.args.gone.now in
    let l = c.loop-other in
    let child = c.index-own-i.result in
    let e = element_view child.0 in
    let slot = c.in-Some.other in
    let within = slot-within cs ds l.i slot _ _ c.in-Some.ensures.steps.0 l.invariant.slots in
    let is : child ≡ get_or cs l.i child = subst (λ xs. child ≡ get_or xs l.i child) c.children-own.ensures.own c.index-own-i.is in
    let there = slot-there cs ds l.i slot _ _ c.in-Some.ensures.steps.0 l.invariant.slots child is in
    let own = meeting-there _ gone n ds _ l.i l.count _ _ l.invariant.meeting c.requires.live child within is in
    let part = smaller n e child.1 own in
    let small : 6 * length (rows child.1) + 5 < 6 * length (rows n) = omega arith in (
      search (rules, small),
      (
        meeting-tree _ gone n ds _ l.i l.count _ _ l.invariant.meeting c.requires.live child within is,
        (
          alike-over cs ds e child.1 (node_of slot) own (sym there) c.requires.config c.requires.alike,
          (
            c.requires.rise,
            (
              c.requires.tries,
              subst (λ o. MayPart (behind e gone) child.1 o) (sym there) (may-child gone n ds e child.1 c.requires.live own c.requires.may),
            ),
          ),
        ),
      ),
    )

pub over_items-overflow_add-count : goal.over_items-overflow_add-count
over_items-overflow_add-count t c =
    let l = c.loop-other in
    let few = meeting-count _ _ _ _ _ l.i l.count _ _ l.invariant.meeting in
    let within = slot-within (below c.args.live.now) c.args.config.items l.i c.in-Some.other _ _ c.in-Some.ensures.steps.0 l.invariant.slots in
    let small = few-below c.args.live.now in
    omega arith

pub over_items-overflow_add-i : goal.over_items-overflow_add-i
over_items-overflow_add-i t c =
    let l = c.loop-other in
    let within = slot-within (below c.args.live.now) c.args.config.items l.i c.in-Some.other _ _ c.in-Some.ensures.steps.0 l.invariant.slots in
    let small = few-below c.args.live.now in
    omega arith

pub over_items-loop-other-preserved : goal.over_items-loop-other-preserved
over_items-loop-other-preserved t c =
    let n = c.args.live.now in
    let cs = below n in
    let ds = c.args.config.items in
    let gone = gone_below c.args.gone.now in
    let l = c.loop-other in
    let p = way_view c.args.way.now.items in
    let old = c.args.steps.now.items in
    let child = c.index-own-i.result in
    let slot = c.in-Some.other in
    let before = passing l.turnover in
    let u = passing c.over_slot.new.turnover in
    let steps2 = c.over_slot.new.steps.items in
    let within = slot-within cs ds l.i slot _ _ c.in-Some.ensures.steps.0 l.invariant.slots in
    let is : child ≡ get_or cs l.i child = subst (λ xs. child ≡ get_or xs l.i child) c.children-own.ensures.own c.index-own-i.is in
    let there = slot-there cs ds l.i slot _ _ c.in-Some.ensures.steps.0 l.invariant.slots child is in
    let given = c.in_ok-over_slot.ensures in
    let met = subst (λ q. IsMet c.in_ok-over_slot.field-0 l.i q gone child (child_at (element_view child.0) ds) before u l.steps.items steps2)
    (ap way_view l.invariant.way)
    (subst (λ o. IsMet c.in_ok-over_slot.field-0 l.i (way_view l.way.items) gone child o before u l.steps.items steps2) there given.met) in
    record {
      way = given.way ∙ l.invariant.way;
      meeting =
          elim c.if-branch.branch [
            | over_items-then-branch w ↦
                subst (λ k. IsMeeting p gone n ds old (l.i + 1) k u steps2) (sym w.count-is)
                (meeting-stays p gone n ds old l.i l.count before l.steps.items l.invariant.meeting c.requires.live child within is u steps2
                (subst (λ b. IsMet b l.i p gone child (child_at (element_view child.0) ds) before u l.steps.items steps2) w.if-branch.true met))
            | over_items-else-branch w ↦
                subst (λ k. IsMeeting p gone n ds old (l.i + 1) k u steps2) (sym w.count-is)
                (meeting-goes p gone n ds old l.i l.count before l.steps.items l.invariant.meeting c.requires.live child within is u steps2
                (subst (λ b. IsMet b l.i p gone child (child_at (element_view child.0) ds) before u l.steps.items steps2) w.if-branch.false met))
          ];
      slots = slots-more cs ds l.i slot _ _ c.in-Some.ensures.steps.0 l.invariant.slots child is;
    }

pub over_items-all_come-requires : goal.over_items-all_come-requires
over_items-all_come-requires t c =
    let l = c.loop-other in
    let n = c.args.live.now in
    let none = nil_from_length (into_iter_items l.other-iterator) (omega (arith, c.in-None.ensures.steps.0, l.other-iterator.rest.ok)) in
    let few = meeting-few _ _ _ _ _ l.i l.count _ _ l.invariant.meeting in
    let small = few-below n in
    let new = c.in_ok-parts.parts.new in
    let long = new.ok.0 in
    let room = new.ok.1 in
    let cap = new.small in
    omega arith

pub over_items-returns-clause-way : goal.over_items-returns-clause-way
over_items-returns-clause-way t c = c.loop-other.invariant.way

pub over_items-returns-clause-applied : goal.over_items-returns-clause-applied
over_items-returns-clause-applied t c =
    let n = c.args.live.now in
    let ds = c.args.config.items in
    let l = c.loop-other in
    let p = way_view c.args.way.now.items in
    let u = passing c.all_come.new.turnover in
    let new_is = c.in_ok-parts.ensures.new ∙ ap (λ xs. filter (is_new xs) ds) c.children-own.ensures.own in
    let none = nil_from_length (into_iter_items l.other-iterator) (omega (arith, c.in-None.ensures.steps.0, l.other-iterator.rest.ok)) in
    let turned = subst (λ q. MayTurnOver (is_still u) q u c.in_ok-all.all l.steps.items c.push_edit.new.steps.items)
    (ap way_view (c.deref.ensures.value ∙ l.invariant.way)) c.in_ok-push_edit.ensures in
    items-applying p (gone_below c.args.gone.now) n ds c.args.steps.now.items l.i l.count (passing l.turnover) l.steps.items c.requires.live
    c.requires.config
    c.requires.stand c.requires.may l.invariant.meeting (slots-end (below n) ds l.i _ l.invariant.slots none) u c.in_ok-all.all c.push_edit.new.steps.items
    c.requires.listed (c.in_ok-all.ensures.come ∙ ap (λ xs. with_all_come l.count xs (passing l.turnover)) new_is)
    (c.in_ok-all.ensures.next ∙ ap (λ (xs : List Child). l.count + length xs) new_is) turned

-- ---- fields or entries

pub over_named-loop-order-init : goal.over_named-loop-order-init
over_named-loop-order-init t c =
    let n = c.args.live.now in
    let ds = c.args.config.items in
    let o = own_content n in
    let own_rise = both_first (rises (elements (below n))) _ (sym (named-stand o (elements (below n)) c.requires.named)
    ∙ own-stands n (elements ds) c.requires.live c.requires.stand) in
    let rise = both_first (rises (elements ds)) _ (sym (named-stand o (elements ds) c.requires.named) ∙ c.requires.stand) in
    record {
      way = refl;
      beside =
          subst (λ xs. IsBeside (way_view c.args.way.now.items) (gone_below c.args.gone.now) n ds c.args.steps.now.items 0 (below n) xs 0
          (passing c.none-turnover.result) c.args.steps.now.items) (sym c.from-left.ensures.0)
          (beside-start (way_view c.args.way.now.items) (gone_below c.args.gone.now) n ds c.args.steps.now.items (passing c.none-turnover.result)
          c.none-turnover.ensures own_rise rise);
    }

pub over_named-leave_alone-requires-clause-tree : goal.over_named-leave_alone-requires-clause-tree
over_named-leave_alone-requires-clause-tree t c =
    let n = c.args.live.now in
    let ds = c.args.config.items in
    let l = c.loop-order in
    let child = c.index-own-i.result in
    let heads = subst (λ xs. heads_order (drop l.i xs) l.left.items ≡ Some Less) c.children-own.ensures.own
    (sym c.order_beside.ensures ∙ c.in-Some.is ∙ ap Some c.in-Less.is) in
    let is : child ≡ get_or (below n) l.i child = subst (λ xs. child ≡ get_or xs l.i child) c.children-own.ensures.own c.index-own-i.is in
    let split = left-at (below n) l.i child (own-within (below n) l.left.items l.i heads) is in
    let so = subst (λ xs. IsBeside (way_view c.args.way.now.items) (gone_below c.args.gone.now) n ds c.args.steps.now.items l.i xs l.left.items l.count
    (passing l.turnover) l.steps.items) split l.invariant.beside in
    tree-child n (element_view child.0) child.1 c.requires.live
    (own-there _ _ n ds _ l.i l.count _ _ c.requires.live c.requires.may child _ _ so (subst (λ xs. heads_order xs l.left.items ≡ Some Less) split heads))

pub over_named-leave_alone-requires-clause-may : goal.over_named-leave_alone-requires-clause-may
over_named-leave_alone-requires-clause-may t c =
    let n = c.args.live.now in
    let ds = c.args.config.items in
    let l = c.loop-order in
    let child = c.index-own-i.result in
    let heads = subst (λ xs. heads_order (drop l.i xs) l.left.items ≡ Some Less) c.children-own.ensures.own
    (sym c.order_beside.ensures ∙ c.in-Some.is ∙ ap Some c.in-Less.is) in
    let is : child ≡ get_or (below n) l.i child = subst (λ xs. child ≡ get_or xs l.i child) c.children-own.ensures.own c.index-own-i.is in
    let split = left-at (below n) l.i child (own-within (below n) l.left.items l.i heads) is in
    let so = subst (λ xs. IsBeside (way_view c.args.way.now.items) (gone_below c.args.gone.now) n ds c.args.steps.now.items l.i xs l.left.items l.count
    (passing l.turnover) l.steps.items) split l.invariant.beside in
    own-may _ _ n ds _ l.i l.count _ _ c.requires.live c.requires.may child _ _ so (subst (λ xs. heads_order xs l.left.items ≡ Some Less) split heads)

pub over_named-overflow_add-count : goal.over_named-overflow_add-count
over_named-overflow_add-count t c =
    let l = c.loop-order in
    let heads = subst (λ xs. heads_order (drop l.i xs) l.left.items ≡ Some Less) c.children-own.ensures.own
    (sym c.order_beside.ensures ∙ c.in-Some.is ∙ ap Some c.in-Less.is) in
    let lt = own-within (below c.args.live.now) l.left.items l.i heads in
    let few = beside-few _ _ _ _ _ l.i _ _ l.count _ _ l.invariant.beside in
    let small = few-below c.args.live.now in
    let long = c.args.config.ok.0 in
    let room = c.args.config.ok.1 in
    let cap = c.args.config.small in
    omega arith

pub over_named-loop-order-preserved-in-Less : goal.over_named-loop-order-preserved-in-Less
over_named-loop-order-preserved-in-Less t c =
    let n = c.args.live.now in
    let cs = below n in
    let ds = c.args.config.items in
    let gone = gone_below c.args.gone.now in
    let l = c.loop-order in
    let p = way_view c.args.way.now.items in
    let old = c.args.steps.now.items in
    let child = c.index-own-i.result in
    let before = passing l.turnover in
    let u = passing c.leave_alone.new.turnover in
    let steps2 = c.leave_alone.new.steps.items in
    let rest = drop (l.i + 1) cs in
    let heads = subst (λ xs. heads_order (drop l.i xs) l.left.items ≡ Some Less) c.children-own.ensures.own
    (sym c.order_beside.ensures ∙ c.in-Some.is ∙ ap Some c.in-Less.is) in
    let is : child ≡ get_or cs l.i child = subst (λ xs. child ≡ get_or xs l.i child) c.children-own.ensures.own c.index-own-i.is in
    let split = left-at cs l.i child (own-within cs l.left.items l.i heads) is in
    let so = subst (λ xs. IsBeside p gone n ds old l.i xs l.left.items l.count before l.steps.items) split l.invariant.beside in
    let first = subst (λ xs. heads_order xs l.left.items ≡ Some Less) split heads in
    let given = c.in_ok-leave_alone-in-Less.ensures in
    let met = subst (λ q. IsMet c.in_ok-leave_alone-in-Less.field-0 l.i q gone child None before u l.steps.items steps2) (ap way_view
    l.invariant.way) given.met in
    record {
      way = given.way ∙ l.invariant.way;
      beside =
          elim c.if-branch.branch [
            | over_named-then-branch w ↦
                subst (λ k. IsBeside p gone n ds old (l.i + 1) rest l.left.items k u steps2) (sym w.count-is)
                (beside-stays p gone n ds old l.i l.count before l.steps.items c.requires.live c.requires.may child rest l.left.items so first u steps2
                (subst (λ b. IsMet b l.i p gone child None before u l.steps.items steps2) w.if-branch.true met))
            | over_named-else-branch w ↦
                subst (λ k. IsBeside p gone n ds old (l.i + 1) rest l.left.items k u steps2) (sym w.count-is)
                (beside-goes p gone n ds old l.i l.count before l.steps.items c.requires.live c.requires.may child rest l.left.items so first u steps2
                (subst (λ b. IsMet b l.i p gone child None before u l.steps.items steps2) w.if-branch.false met))
          ];
    }

pub over_named-overflow_add-count-in-Greater : goal.over_named-overflow_add-count-in-Greater
over_named-overflow_add-count-in-Greater t c =
    let l = c.loop-order in
    let new = c.pop_front.new.self.items in
    let first = c.pop_front.ensures.items ∙ ap (λ o. option_to_list o ++ new) c.unwrap-new.ensures in
    let some : length l.left.items ≡ length (c.unwrap-new.result ∷ new) = ap length first in
    let few = beside-few _ _ _ _ _ l.i _ _ l.count _ _ l.invariant.beside in
    let within = beside-within _ _ _ _ _ l.i _ _ l.count _ _ l.invariant.beside in
    let small = few-below c.args.live.now in
    let long = c.args.config.ok.0 in
    let room = c.args.config.ok.1 in
    let cap = c.args.config.small in
    omega arith

pub over_named-loop-order-preserved-in-Greater : goal.over_named-loop-order-preserved-in-Greater
over_named-loop-order-preserved-in-Greater t c =
    let n = c.args.live.now in
    let cs = below n in
    let ds = c.args.config.items in
    let gone = gone_below c.args.gone.now in
    let l = c.loop-order in
    let p = way_view c.args.way.now.items in
    let old = c.args.steps.now.items in
    let own = drop l.i cs in
    let new = c.pop_front.new.self.items in
    let heads = subst (λ xs. heads_order (drop l.i xs) l.left.items ≡ Some Greater) c.children-own.ensures.own
    (sym c.order_beside.ensures ∙ c.in-Some.is ∙ ap Some c.in-Greater.is) in
    let first = c.pop_front.ensures.items ∙ ap (λ o. option_to_list o ++ new) c.unwrap-new.ensures in
    record {
      way = l.invariant.way;
      beside = beside-comes p gone n ds old l.i l.count (passing l.turnover) l.steps.items c.requires.live c.requires.may c.unwrap-new.result own new
          (passing c.comes.new.self)
          (subst (λ xs. IsBeside p gone n ds old l.i own xs l.count (passing l.turnover) l.steps.items) first l.invariant.beside)
          (subst (λ xs. heads_order own xs ≡ Some Greater) first heads) c.requires.config c.in_ok-comes-in-Greater.ensures;
    }

pub over_named-over_given-requires : goal.over_named-over_given-requires
over_named-over_given-requires t c =
    let n = c.args.live.now in
    let cs = below n in
    let ds = c.args.config.items in
    let gone = gone_below c.args.gone.now in
    let l = c.loop-order in
    let child = c.index-own-i-in-Equal.result in
    let d = c.unwrap-other.result in
    let new = c.pop_front-in-Equal.new.self.items in
    let heads = subst (λ xs. heads_order (drop l.i xs) l.left.items ≡ Some Equal) c.children-own.ensures.own
    (sym c.order_beside.ensures ∙ c.in-Some.is ∙ ap Some c.in-Equal.is) in
    let is : child ≡ get_or cs l.i child = subst (λ xs. child ≡ get_or xs l.i child) c.children-own.ensures.own c.index-own-i-in-Equal.is in
    let split = left-at cs l.i child (both-within cs l.left.items l.i 0 heads).0 is in
    let first = c.pop_front-in-Equal.ensures.items ∙ ap (λ o. option_to_list o ++ new) c.unwrap-other.ensures in
    let so = subst₂ (λ k xs. IsBeside (way_view c.args.way.now.items) gone n ds c.args.steps.now.items l.i k xs l.count (passing l.turnover)
    l.steps.items) split
    first l.invariant.beside in
    let tied = subst₂ (λ k xs. heads_order k xs ≡ Some Equal) split first heads in
    let both = both-may _ gone n ds _ l.i l.count _ _ c.requires.live c.requires.may child d (drop (l.i + 1) cs) new so tied c.requires.config
    c.requires.alike in
    let there = both-there _ gone n ds _ l.i l.count _ _ c.requires.live c.requires.may child d (drop (l.i + 1) cs) new so tied in
    let part = smaller n (element_view child.0) child.1 there in
    let small : 6 * length (rows child.1) + 4 < 6 * length (rows n) = omega arith in
    (search (rules, small), (both.0, (both.1, (both.2, (c.requires.rise, (c.requires.tries, both.3))))))

pub over_named-overflow_add-count-in-Equal : goal.over_named-overflow_add-count-in-Equal
over_named-overflow_add-count-in-Equal t c =
    let l = c.loop-order in
    let heads = subst (λ xs. heads_order (drop l.i xs) l.left.items ≡ Some Equal) c.children-own.ensures.own
    (sym c.order_beside.ensures ∙ c.in-Some.is ∙ ap Some c.in-Equal.is) in
    let lt = (both-within (below c.args.live.now) l.left.items l.i 0 heads).0 in
    let few = beside-few _ _ _ _ _ l.i _ _ l.count _ _ l.invariant.beside in
    let small = few-below c.args.live.now in
    let long = c.args.config.ok.0 in
    let room = c.args.config.ok.1 in
    let cap = c.args.config.small in
    omega arith

pub over_named-loop-order-preserved : goal.over_named-loop-order-preserved
over_named-loop-order-preserved t c =
    let n = c.args.live.now in
    let cs = below n in
    let ds = c.args.config.items in
    let gone = gone_below c.args.gone.now in
    let l = c.loop-order in
    let p = way_view c.args.way.now.items in
    let old = c.args.steps.now.items in
    let child = c.index-own-i-in-Equal.result in
    let e = element_view child.0 in
    let d = c.unwrap-other.result in
    let new = c.pop_front-in-Equal.new.self.items in
    let heads = subst (λ xs. heads_order (drop l.i xs) l.left.items ≡ Some Equal) c.children-own.ensures.own
    (sym c.order_beside.ensures ∙ c.in-Some.is ∙ ap Some c.in-Equal.is) in
    let is : child ≡ get_or cs l.i child = subst (λ xs. child ≡ get_or xs l.i child) c.children-own.ensures.own c.index-own-i-in-Equal.is in
    let split = left-at cs l.i child (both-within cs l.left.items l.i 0 heads).0 is in
    let first = c.pop_front-in-Equal.ensures.items ∙ ap (λ o. option_to_list o ++ new) c.unwrap-other.ensures in
    let so = subst₂ (λ k xs. IsBeside p gone n ds old l.i k xs l.count (passing l.turnover) l.steps.items) split first l.invariant.beside in
    let tied = subst₂ (λ k xs. heads_order k xs ≡ Some Equal) split first heads in
    let given = c.in_ok-over_given-in-Equal.ensures in
    let applied = subst (λ q. IsApplying (q ++ e ∷ []) (behind e gone) child.1 (Some d.1) l.steps.items c.over_given.new.steps.items) (ap way_view
    l.invariant.way)
    given.applied in
    record {
      way = given.way ∙ l.invariant.way;
      beside = beside-both p gone n ds old l.i l.count (passing l.turnover) l.steps.items c.requires.live c.requires.may child d (drop (l.i + 1) cs)
          new so tied
          c.over_given.new.steps.items applied;
    }

pub over_named-returns-clause-way : goal.over_named-returns-clause-way
over_named-returns-clause-way t c = c.loop-order.invariant.way

pub over_named-returns-clause-applied : goal.over_named-returns-clause-applied
over_named-returns-clause-applied t c =
    let n = c.args.live.now in
    let ds = c.args.config.items in
    let l = c.loop-order in
    let p = way_view c.args.way.now.items in
    let t = passing l.turnover in
    let none = heads-none (drop l.i (below n)) l.left.items
    (subst (λ xs. heads_order (drop l.i xs) l.left.items ≡ None) c.children-own.ensures.own (sym c.order_beside.ensures ∙ c.in_default.is)) in
    let turned = subst (λ q. MayTurnOver (is_still t) q t l.count l.steps.items c.push_edit.new.steps.items)
    (ap way_view (c.deref.ensures.value ∙ l.invariant.way)) c.in_ok-push_edit.ensures in
    beside-all p (gone_below c.args.gone.now) n ds c.args.steps.now.items l.i (drop l.i (below n)) l.left.items l.count t l.steps.items
    c.push_edit.new.steps.items c.requires.live c.requires.named c.requires.config c.requires.stand c.requires.may none.0 none.1 l.invariant.beside turned

-- ---- the children of a place

pub over_children-over_named-requires : goal.over_children-over_named-requires
over_children-over_named-requires t c =
    let n = c.args.live.now in
    let r = c.requires in
    let is = sym (ap (λ (v : Vec Child Global). v.items) c.replace-others.ensures.value) in
    let named = ap (λ m. is_named (own_content m)) c.in-Branch.is ∙ ap is_named (own-Branch c.in-Branch.field-0) in
    let small : 6 * length (rows n) < 6 * length (rows n) + 1 = omega arith in (
      search (rules, small),
      (
        r.live,
        (
          named,
          (
            subst (λ xs. are_trees xs ≡ true) is r.config,
            (
              subst (λ xs. may_stand (own_content n) (elements xs) ≡ true) is r.stand,
              (
                subst (AreAlikeBelow (below n)) is r.alike,
                (r.rise, (r.tries, subst (MayPartBelow (gone_below c.args.gone.now) n) is r.may)),
              ),
            ),
          ),
        ),
      ),
    )

pub over_children-over_named-requires-in-Dict : goal.over_children-over_named-requires-in-Dict
over_children-over_named-requires-in-Dict t c =
    let n = c.args.live.now in
    let r = c.requires in
    let is = sym (ap (λ (v : Vec Child Global). v.items) c.replace-others.ensures.value) in
    let named = ap (λ m. is_named (own_content m)) c.in-Dict.is ∙ ap is_named (own-Dict c.in-Dict.field-0) in
    let small : 6 * length (rows n) < 6 * length (rows n) + 1 = omega arith in (
      search (rules, small),
      (
        r.live,
        (
          named,
          (
            subst (λ xs. are_trees xs ≡ true) is r.config,
            (
              subst (λ xs. may_stand (own_content n) (elements xs) ≡ true) is r.stand,
              (
                subst (AreAlikeBelow (below n)) is r.alike,
                (r.rise, (r.tries, subst (MayPartBelow (gone_below c.args.gone.now) n) is r.may)),
              ),
            ),
          ),
        ),
      ),
    )

pub over_children-over_items-requires : goal.over_children-over_items-requires
over_children-over_items-requires t c =
    let n = c.args.live.now in
    let r = c.requires in
    let is = sym (ap (λ (v : Vec Child Global). v.items) c.replace-others.ensures.value) in
    let listed : own_content n ≡ list_branch (elements (below n)) = ap own_content c.in-List.is ∙ own-List c.in-List.field-0
    ∙ sym (ap (λ m. list_branch (elements (below m))) c.in-List.is ∙ ap (λ xs. list_branch (elements xs)) (below-List c.in-List.field-0)) in
    let small : 6 * length (rows n) < 6 * length (rows n) + 1 = omega arith in (
      search (rules, small),
      (
        r.live,
        (
          listed,
          (
            subst (λ xs. are_trees xs ≡ true) is r.config,
            (
              subst (λ xs. may_stand (own_content n) (elements xs) ≡ true) is r.stand,
              (
                subst (AreAlikeBelow (below n)) is r.alike,
                (r.rise, (r.tries, subst (MayPartBelow (gone_below c.args.gone.now) n) is r.may)),
              ),
            ),
          ),
        ),
      ),
    )

-- ---- a place

pub over-unreachable-requires : goal.over-unreachable-requires
over-unreachable-requires t c = no-branch c.args.live.now c.args.config.now c.in-Leaf.leaf c.in-Leaf.is
    (ap (λ n. is_leaf (Some (own_content n))) c.in-Branch-live.is ∙ branch-Branch c.in-Branch-live.field-0) c.requires.alike

pub over-unreachable-requires-in-Dict-live : goal.over-unreachable-requires-in-Dict-live
over-unreachable-requires-in-Dict-live t c = no-branch c.args.live.now c.args.config.now c.in-Leaf.leaf c.in-Leaf.is
    (ap (λ n. is_leaf (Some (own_content n))) c.in-Dict-live.is ∙ branch-Dict c.in-Dict-live.field-0) c.requires.alike

pub over-unreachable-requires-in-List-live : goal.over-unreachable-requires-in-List-live
over-unreachable-requires-in-List-live t c = no-branch c.args.live.now c.args.config.now c.in-Leaf.leaf c.in-Leaf.is
    (ap (λ n. is_leaf (Some (own_content n))) c.in-List-live.is ∙ branch-List c.in-List-live.field-0) c.requires.alike

pub over-over_children-requires : goal.over-over_children-requires
over-over_children-requires t c =
    let r = c.requires in
    let config = c.args.config.now in
    let live = c.args.live.now in
    let is = c.in-Branch.is ∙ ap Branch (sym c.in-Branch.children-is) in
    let under = kind-below _ kind-Branch branch-Branch live config _ is r.live r.config r.alike in (
      search rules,
      (
        r.live,
        (
          kind-trees _ kind-Branch branch-Branch live config _ is r.live r.config r.alike,
          (
            kind-stands _ kind-Branch branch-Branch live config _ is r.live r.config r.alike,
            (
              kind-alike _ kind-Branch branch-Branch live config _ is r.live r.config r.alike,
              (r.rise, (r.tries, may-below (gone_below c.args.gone.now) live config _ r.live r.config r.alike under r.may)),
            ),
          ),
        ),
      ),
    )

pub over-returns-in_ok-over_children-in-Branch-clause-applied :
    goal.over-returns-in_ok-over_children-in-Branch-clause-applied
over-returns-in_ok-over_children-in-Branch-clause-applied t c =
    let r = c.requires in
    let config = c.args.config.now in
    let live = c.args.live.now in
    let is = c.in-Branch.is ∙ ap Branch (sym c.in-Branch.children-is) in
    let under = kind-below _ kind-Branch branch-Branch live config _ is r.live r.config r.alike in
    let order = kind-order _ kind-Branch branch-Branch live config _ is r.live r.config r.alike in
    let made = c.in_ok-over_children-in-Branch.ensures.applied in
    (made.0, place-applied (gone_below c.args.gone.now) live config made.0 _ r.live r.config under order made.1, made.2)

pub over-over_children-requires-in-Dict : goal.over-over_children-requires-in-Dict
over-over_children-requires-in-Dict t c =
    let r = c.requires in
    let config = c.args.config.now in
    let live = c.args.live.now in
    let is = c.in-Dict.is ∙ ap Dict (sym c.in-Dict.children-is) in
    let under = kind-below _ kind-Dict branch-Dict live config _ is r.live r.config r.alike in (
      search rules,
      (
        r.live,
        (
          kind-trees _ kind-Dict branch-Dict live config _ is r.live r.config r.alike,
          (
            kind-stands _ kind-Dict branch-Dict live config _ is r.live r.config r.alike,
            (
              kind-alike _ kind-Dict branch-Dict live config _ is r.live r.config r.alike,
              (r.rise, (r.tries, may-below (gone_below c.args.gone.now) live config _ r.live r.config r.alike under r.may)),
            ),
          ),
        ),
      ),
    )

pub over-returns-in_ok-over_children-in-Dict-clause-applied :
    goal.over-returns-in_ok-over_children-in-Dict-clause-applied
over-returns-in_ok-over_children-in-Dict-clause-applied t c =
    let r = c.requires in
    let config = c.args.config.now in
    let live = c.args.live.now in
    let is = c.in-Dict.is ∙ ap Dict (sym c.in-Dict.children-is) in
    let under = kind-below _ kind-Dict branch-Dict live config _ is r.live r.config r.alike in
    let order = kind-order _ kind-Dict branch-Dict live config _ is r.live r.config r.alike in
    let made = c.in_ok-over_children-in-Dict.ensures.applied in
    (made.0, place-applied (gone_below c.args.gone.now) live config made.0 _ r.live r.config under order made.1, made.2)

pub over-over_children-requires-in-List : goal.over-over_children-requires-in-List
over-over_children-requires-in-List t c =
    let r = c.requires in
    let config = c.args.config.now in
    let live = c.args.live.now in
    let is = c.in-List.is ∙ ap ListOf (sym c.in-List.children-is) in
    let under = kind-below _ kind-List branch-List live config _ is r.live r.config r.alike in (
      search rules,
      (
        r.live,
        (
          kind-trees _ kind-List branch-List live config _ is r.live r.config r.alike,
          (
            kind-stands _ kind-List branch-List live config _ is r.live r.config r.alike,
            (
              kind-alike _ kind-List branch-List live config _ is r.live r.config r.alike,
              (r.rise, (r.tries, may-below (gone_below c.args.gone.now) live config _ r.live r.config r.alike under r.may)),
            ),
          ),
        ),
      ),
    )

pub over-returns-in_ok-over_children-in-List-clause-applied :
    goal.over-returns-in_ok-over_children-in-List-clause-applied
over-returns-in_ok-over_children-in-List-clause-applied t c =
    let r = c.requires in
    let config = c.args.config.now in
    let live = c.args.live.now in
    let is = c.in-List.is ∙ ap ListOf (sym c.in-List.children-is) in
    let under = kind-below _ kind-List branch-List live config _ is r.live r.config r.alike in
    let order = kind-order _ kind-List branch-List live config _ is r.live r.config r.alike in
    let made = c.in_ok-over_children-in-List.ensures.applied in
    (made.0, place-applied (gone_below c.args.gone.now) live config made.0 _ r.live r.config under order made.1, made.2)

pub over-returns-in_ok-push_leaf-in-Leaf-live-clause-applied :
    goal.over-returns-in_ok-push_leaf-in-Leaf-live-clause-applied
over-returns-in_ok-push_leaf-in-Leaf-live-clause-applied t c =
    let p = way_view c.args.way.now.items in
    let live = c.args.live.now in
    let config = c.args.config.now in
    let before = from_place (leaf_content c.in-Leaf-live.own, []) in
    let after = from_place (leaf_content c.in-Leaf.leaf, []) in
    let old = c.args.steps.now.items in
    let new = c.push_leaf.new.steps.items in
    let given = (subst (λ q. AreLeading (way_view q) before after old new) c.deref.ensures.value
    (subst (λ l. AreLeading (way_view c.deref.result.now) before (from_place (leaf_content l, [])) old new) c.in-Leaf.leaf-is
    c.in_ok-push_leaf-in-Leaf-live.ensures)) in (
      config,
      leaf-applied (gone_below c.args.gone.now) live config c.in-Leaf.leaf c.requires.live c.requires.config c.requires.alike c.requires.may c.in-Leaf.is,
      leading-from p (marks live) before (marks config) old new (leaf-told live c.in-Leaf-live.own c.in-Leaf-live.is)
          (leading-told p before after (marks config) old new (λ q. sym (leaf-told config c.in-Leaf.leaf c.in-Leaf.is q)) given),
    )
