use Rattle.std.proofs.Common.{ap, sym, ◌∙◌, subst}
use Rattle.ssa_model.proofs.Basics.{not_true}
use Rattle.ssa_path.specs.Children.{child_at, IsChildAt}
use Rattle.ssa_path.specs.View.{element_view}
use Rattle.ssa_turn_set.specs.Room.{lone_room, lone_rooms}
use Rattle.ssa_turn_set.specs.Siblings.{AreTaken}
use Rattle.ssa_turn_set.proofs.Lone.{lone-child, lone-goes, lone-present, lone-stays}
use Rattle.ssa_turn_set.proofs.Rooms.{loses-some}
use Rattle.std.proofs.Common.{refl}
use Rattle.ssa_turn_set.proofs.lose.take_lone_out.Goals as goal

pub place_near-place-requires-clause-present : goal.place_near-place-requires-clause-present
place_near-place-requires-clause-present c none =
    let rs = lone_rooms c.args.spare.now in
    lone-present c.args.below.now.items c.args.lost.now rs c.requires.form.0 (loses-some c.args.lost.now c.requires.form.0 rs c.requires.form.1)
    c.requires.rise c.requires.tries c.requires.lost_rise c.requires.lost_tries c.requires.within c.requires.form.1 c.index-lost-0.result c.index-lost-0.is
    (ap (child_at (element_view c.index-lost-0.result.0)) (sym c.deref.ensures.value) ∙ none)

pub lose_lone-requires : goal.lose_lone-requires
lose_lone-requires c =
    let rs = lone_rooms c.args.spare.now in
    let at : IsChildAt (element_view c.index-lost-0.result.0) c.args.below.now.items c.place_near-place.result =
    rw c.deref.ensures.value at c.place_near-place.ensures in
    let asked = lone-child c.args.below.now.items c.args.lost.now rs c.requires.form.0 (loses-some c.args.lost.now c.requires.form.0 rs c.requires.form.1)
    c.requires.rise c.requires.tries c.requires.lost_rise c.requires.lost_tries c.requires.within c.requires.form.1 c.index-lost-0.result c.index-lost-0.is
    c.place_near-place.result c.index_mut.result.now at c.index_mut.ensures.value (lone_room c.args.spare.now) refl in
    record { element = asked.0; trie = asked.1; lost = asked.2; form = asked.4 }

pub returns-then-lose_lone-clause-taken : goal.returns-then-lose_lone-clause-taken
returns-then-lose_lone-clause-taken c =
    let rs = lone_rooms c.args.spare.now in
    let at : IsChildAt (element_view c.index-lost-0.result.0) c.args.below.now.items c.place_near-place.result =
    rw c.deref.ensures.value at c.place_near-place.ensures in
    let child = c.lose_lone in
    subst (λ l. AreTaken c.args.lost.now c.args.below.now.items rs l (lone_rooms child.new.spare)) (sym c.remove.ensures.by_index.2)
    (lone-goes c.args.below.now.items c.args.lost.now rs c.requires.form.0 (loses-some c.args.lost.now c.requires.form.0 rs c.requires.form.1)
    c.requires.rise c.requires.tries c.requires.lost_rise c.requires.lost_tries c.requires.within c.requires.form.1 c.index-lost-0.result c.index-lost-0.is
    c.place_near-place.result c.index_mut.result.now at c.index_mut.ensures.value (lone_room c.args.spare.now) refl
    (lone_room child.new.spare) child.new.child child.result child.ensures.paths child.ensures.trie child.ensures.bare child.ensures.element child.ensures.room
    (not_true _ (sym child.ensures.bare ∙ c.if-lose_lone.true)))

pub returns-else-lose_lone-clause-taken : goal.returns-else-lose_lone-clause-taken
returns-else-lose_lone-clause-taken c =
    let rs = lone_rooms c.args.spare.now in
    let at : IsChildAt (element_view c.index-lost-0.result.0) c.args.below.now.items c.place_near-place.result =
    rw c.deref.ensures.value at c.place_near-place.ensures in
    let child = c.lose_lone in
    lone-stays c.args.below.now.items c.args.lost.now rs c.requires.form.0 (loses-some c.args.lost.now c.requires.form.0 rs c.requires.form.1)
    c.requires.rise c.requires.tries c.requires.lost_rise c.requires.lost_tries c.requires.within c.requires.form.1 c.index-lost-0.result c.index-lost-0.is
    c.place_near-place.result c.index_mut.result.now at c.index_mut.ensures.value (lone_room c.args.spare.now) refl
    (lone_room child.new.spare) child.new.child child.result child.ensures.paths child.ensures.trie child.ensures.bare child.ensures.element child.ensures.room
    c.if-lose_lone.false
