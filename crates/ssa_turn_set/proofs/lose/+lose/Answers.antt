use Rattle.std.proofs.Common.{rules, ◌&&◌, not, ap, sym, refl, ◌+◌, ◌∙◌, length, drop, set, arith, subst}
use Rattle.ssa_path.specs.declared.trie.Trie.{the_lemmas}
use Rattle.ssa_path.specs.declared.trie.Trie.TheViews.{out-Trie}
use Rattle.ssa_path.specs.Children.{child_at, elements, rises, IsChildAt}
use Rattle.ssa_path.specs.View.{element_view}
use Rattle.ssa_path.specs.Trie.{are_filled_tries, paths, paths_below, is_one_of}
use Rattle.ssa_path.proofs.Levels.{is_trie-made, trie-parts}
use Rattle.ssa_path.proofs.Lists.{left-at}
use Rattle.ssa_path.proofs.Orders.{both_first, both_second}
use Rattle.ssa_turn_set.specs.declared.room.Room.TheVariants.{Each}
use Rattle.ssa_turn_set.specs.Room.{gain_room, lose_room, loses, own_children, rooms_of, serves, width}
use Rattle.ssa_turn_set.specs.Spare.{is_nothing}
use Rattle.ssa_turn_set.specs.Siblings.{AreTaken}
use Rattle.ssa_path.proofs.Kept.{kept-all}
use Rattle.ssa_turn_set.proofs.Bare.{leaf-gain, lose-leaf}
use Rattle.ssa_turn_set.proofs.Rooms.{each-out}
use Rattle.ssa_turn_set.proofs.Lone.{lone-child, lone-goes, lone-present, lone-stays}
use Rattle.ssa_turn_set.proofs.Losing.{losing-within, losing-all, same-left, lost-place, lost-room, start-form, start-within, same-length, taken-same}
use Rattle.ssa_turn_set.proofs.Passing.{passed-child, next-present, next-rises, passing-at, passing-more, passing-next, passing-none}
use Rattle.ssa_turn_set.proofs.Places.{left-set}
use Rattle.ssa_turn_set.proofs.lose.+lose.Goals.{lose_each-then-here, lose_each-else-here}
use Rattle.ssa_turn_set.proofs.lose.+lose.Goals as goal
use Rattle.ssa_model.proofs.Basics.{both-true as both, not_true}

-- ---- the place

pub lose-lose_leaf-requires-clause-leaf : goal.lose-lose_leaf-requires-clause-leaf
lose-lose_leaf-requires-clause-leaf t c =
    lose-leaf c.args.lost.now c.requires.form.0 (ap (lose_room c.args.lost.now c.requires.form.0) (sym c.in-Nothing.is) ∙ c.requires.form.1)

pub lose-returns-in-Nothing-clause-room : goal.lose-returns-in-Nothing-clause-room
lose-returns-in-Nothing-clause-room t c k =
    let none = lose-leaf c.args.lost.now c.requires.form.0 (ap (lose_room c.args.lost.now c.requires.form.0) (sym c.in-Nothing.is) ∙ c.requires.form.1) in
    ap (gain_room c.args.lost.now _) c.in-Nothing.is ∙ leaf-gain c.args.lost.now none _

pub lose_each-take_out-requires : goal.lose_each-take_out-requires
lose_each-take_out-requires t c =
    let set = trie-parts c.args.set.now _ refl c.requires.set in
    let lost = trie-parts c.args.lost.now c.deref.result.now c.deref.ensures.value c.requires.lost in
    let form = start-form c.args.lost.now c.requires.form.0 _ c.requires.form.1 in
    let given = c.deref.ensures.value in
    let is = each-out c.args.children.now c.args.rooms.now in (
      search (rules, the_lemmas),
      (
        set.0,
        (
          set.1,
          (
            lost.0,
            (
              lost.1,
              (
                λ p k. start-within c.args.lost.now c.args.set.now c.requires.within p (ap (λ l. is_one_of (paths_below l) p) (sym given) ∙ k),
                (c.requires.form.0, (λ j. loses (given j) c.requires.form.0 (rooms_of (sym is j))) ∙ form.1),
              ),
            ),
          ),
        ),
      ),
    )

pub lose_each-exchange_where_short-requires : goal.lose_each-exchange_where_short-requires
lose_each-exchange_where_short-requires t c =
    let form = start-form c.args.lost.now c.requires.form.0 _ c.requires.form.1 in
    let told = c.len-before.ensures in
    let most = (out-Trie c.args.set.now).below.ok.1 in
    let capacity = c.take_out.ensures.capacity in
    record { empty = ap own_children (sym (each-out _ _)) ∙ form.0; before = omega arith }

pub lose_each-returns-clause-paths : goal.lose_each-returns-clause-paths
lose_each-returns-clause-paths t c =
    let taken = c.take_out.ensures.taken in
    let now = c.exchange_where_short.ensures.items in
    lost-place _ c.args.lost.now c.args.set.now
    (elim c.if-here.branch [
      | lose_each-then-here w ↦ w.here-is ∙ sym (ap (λ b. b && not (out-Trie c.args.lost.now).here) w.if-here.true)
      | lose_each-else-here w ↦ w.here-is ∙ w.if-here.false ∙ sym (ap (λ b. b && not (out-Trie c.args.lost.now).here) w.if-here.false)
    ])
    (λ p. ap (λ l. is_one_of (paths_below l) p) now ∙ taken.paths_are p
    ∙ ap (λ l. is_one_of (paths_below (out-Trie c.args.set.now).below.items) p && not (is_one_of (paths_below l) p)) c.deref.ensures.value)

pub lose_each-returns-clause-trie : goal.lose_each-returns-clause-trie
lose_each-returns-clause-trie t c =
    let now = c.exchange_where_short.ensures.items in
    is_trie-made _ (ap (λ l. rises (elements l)) now ∙ c.take_out.ensures.taken.risen) (ap are_filled_tries now ∙ c.take_out.ensures.taken.tries)

pub lose_each-returns-clause-room : goal.lose_each-returns-clause-room
lose_each-returns-clause-room t c =
    let ds = (out-Trie c.args.lost.now).below.items in
    let is = each-out c.args.children.now c.args.rooms.now in
    let news = c.take_out.new.rooms.items in
    let taken : AreTaken ds (out-Trie c.args.set.now).below.items c.args.rooms.now.items c.exchange_where_short.new.items.items news =
    taken-same _ ds _ _ _ _ _ news c.deref.ensures.value refl (sym c.exchange_where_short.ensures.items) c.take_out.ensures.taken in
    let old = (out-Trie c.args.set.now).below.ok.0 in
    let told = c.len-before.ensures in
    let now = c.take_out.new.below.ok.0 in
    let same = ap length c.exchange_where_short.ensures.items in
    let wide = ap width is in
    let counted = taken.len in
    lost-room c.args.lost.now _ (Each c.args.children.now c.args.rooms.now) _ _ (each-out _ _) (lose_each-returns-clause-trie t c)
    c.exchange_where_short.ensures.empty
    (λ place fits. let left = c.exchange_where_short.ensures.room (omega arith) in (refl, omega arith))
    (λ k. taken.room (ap (λ x. loses ds (paths_below c.exchange_where_short.new.items.items) (rooms_of x)) (sym is) ∙ k))

-- ---- children taken out one after the other

pub take_out-loop-i-init : goal.take_out-loop-i-init
take_out-loop-i-init t c = (
  passing-none c.args.below.now.items c.args.lost.now c.args.rooms.now.items c.requires.form.0
      c.requires.rise c.requires.tries c.requires.lost_rise c.requires.lost_tries c.requires.within c.requires.form.1,
  refl,
  refl,
)

pub take_out-take_out_bare-requires : goal.take_out-take_out_bare-requires
take_out-take_out_bare-requires t c j = kept-all c.loop-i.below.items (c.loop-i.invariant.0.all_filled j)

pub take_out-place_from-place-requires-clause-rise : goal.take_out-place_from-place-requires-clause-rise
take_out-place_from-place-requires-clause-rise t c =
    let h = passing-at _ c.args.lost.now _ _ _ _ _ _ c.loop-i.i c.index-lost-i.result c.loop-i-test.true c.index-lost-i.is c.loop-i.invariant.0 in
    ap (λ l. rises (elements (drop c.loop-i.start l))) c.deref.ensures.value ∙ next-rises _ c.requires.rise c.requires.tries _ _ _ _ _ _ _ _ _ h

pub take_out-place_from-place-requires-clause-present : goal.take_out-place_from-place-requires-clause-present
take_out-place_from-place-requires-clause-present t c none =
    let h = passing-at _ c.args.lost.now _ _ _ _ _ _ c.loop-i.i c.index-lost-i.result c.loop-i-test.true c.index-lost-i.is c.loop-i.invariant.0 in
    next-present _ c.requires.rise c.requires.tries _ _ _ _ _ _ _ _ _ h
    (ap (λ l. child_at (element_view c.index-lost-i.result.0) (drop c.loop-i.start l)) (sym c.deref.ensures.value) ∙ none)

pub take_out-lose_child-any_bare-requires : goal.take_out-lose_child-any_bare-requires
take_out-lose_child-any_bare-requires t c =
    let ds = c.args.lost.now in
    let rs = c.args.rooms.now.items in
    let i = c.loop-i.i in
    let d = c.index-lost-i.result in
    let h = passing-at _ ds _ _ _ _ _ _ i d c.loop-i-test.true c.index-lost-i.is c.loop-i.invariant.0 in
    let some = losing-within _ ds rs _ _ i c.loop-i-test.true c.loop-i.invariant.0.losing in
    let within = same-length c.loop-i.rooms.items rs i c.loop-i.invariant.1 some in
    let r = c.index_mut-in-loop-i.result.now in
    let same = same-left c.loop-i.rooms.items rs i r c.loop-i.invariant.1 within c.index_mut-in-loop-i.ensures.value in
    let at : IsChildAt (element_view d.0) c.loop-i.below.items c.place_from-place.result = rw c.deref.ensures.value at c.place_from-place.ensures.child in
    let asked = passed-child _ c.requires.rise c.requires.tries _ _ _ _ _ _ _ _ d h c.place_from-place.result c.index_mut.result.now
    c.place_from-place.ensures.from at c.index_mut.ensures.value in
    let told = asked (drop (i + 1) rs) r (left-at rs i r same.0 same.1) in
    (search (rules, the_lemmas), (told.0, (told.1, (told.2, (told.3, told.4)))))

pub take_out-loop-i-preserved : goal.take_out-loop-i-preserved
take_out-loop-i-preserved t c =
    let ds = c.args.lost.now in
    let rs = c.args.rooms.now.items in
    let ns = c.loop-i.rooms.items in
    let i = c.loop-i.i in
    let d = c.index-lost-i.result in
    let h = passing-at _ ds _ _ _ _ _ _ i d c.loop-i-test.true c.index-lost-i.is c.loop-i.invariant.0 in
    let some = losing-within _ ds rs _ _ i c.loop-i-test.true c.loop-i.invariant.0.losing in
    let within = same-length ns rs i c.loop-i.invariant.1 some in
    let r = c.index_mut-in-loop-i.result.now in
    let same = same-left ns rs i r c.loop-i.invariant.1 within c.index_mut-in-loop-i.ensures.value in
    let at : IsChildAt (element_view d.0) c.loop-i.below.items c.place_from-place.result = rw c.deref.ensures.value at c.place_from-place.ensures.child in
    let child = c.lose_child-any_bare in
    let more = passing-more _ c.requires.rise c.requires.tries _ _ _ _ _ _ _ _ d h c.place_from-place.result c.index_mut.result.now
    c.place_from-place.ensures.from at c.index_mut.ensures.value
    (drop (i + 1) rs) r child.new.room (left-at rs i r same.0 same.1) child.new.child child.result
    child.ensures.paths child.ensures.trie child.ensures.bare child.ensures.element child.ensures.room _ refl in (
      passing-next _ ds rs ns _ _ _ i d r child.new.room c.loop-i-test.true c.index-lost-i.is same.0 same.1 within more,
      left-set ns i child.new.room ∙ same.2,
      c.loop-i.invariant.2,
    )

pub take_out-returns-clause-taken : goal.take_out-returns-clause-taken
take_out-returns-clause-taken t c =
    let rs = c.args.rooms.now.items in
    subst (λ l. AreTaken c.args.lost.now c.args.below.now.items rs l c.loop-i.rooms.items) (sym c.take_out_bare.ensures.items)
    (losing-all _ c.args.lost.now rs c.loop-i.rooms.items _ c.loop-i.i c.loop-i-test.false c.loop-i.invariant.1 c.loop-i.invariant.0.losing)

-- ---- one child taken out

pub take_one_out-place_of-place-requires-clause-present : goal.take_one_out-place_of-place-requires-clause-present
take_one_out-place_of-place-requires-clause-present t c none =
    lone-present c.args.below.now.items c.args.lost.now c.args.rooms.now.items c.requires.form.0 c.requires.one c.requires.rise c.requires.tries
    c.requires.lost_rise c.requires.lost_tries c.requires.within c.requires.form.1 c.index-lost-0.result c.index-lost-0.is
    (ap (child_at (element_view c.index-lost-0.result.0)) (sym c.deref.ensures.value) ∙ none)

pub take_one_out-lose_child-requires : goal.take_one_out-lose_child-requires
take_one_out-lose_child-requires t c =
    let at : IsChildAt (element_view c.index-lost-0.result.0) c.args.below.now.items c.place_of-place.result =
    rw c.deref.ensures.value at c.place_of-place.ensures in
    let asked = lone-child c.args.below.now.items c.args.lost.now c.args.rooms.now.items c.requires.form.0 c.requires.one c.requires.rise c.requires.tries
    c.requires.lost_rise c.requires.lost_tries c.requires.within c.requires.form.1 c.index-lost-0.result c.index-lost-0.is
    c.place_of-place.result c.index_mut.result.now at c.index_mut.ensures.value c.index_mut-2.result.now c.index_mut-2.ensures.value in
    (search (rules, the_lemmas), (asked.0, (asked.1, (asked.2, (asked.3, asked.4)))))

pub take_one_out-returns-then-lose_child-clause-taken : goal.take_one_out-returns-then-lose_child-clause-taken
take_one_out-returns-then-lose_child-clause-taken t c =
    let at : IsChildAt (element_view c.index-lost-0.result.0) c.args.below.now.items c.place_of-place.result =
    rw c.deref.ensures.value at c.place_of-place.ensures in
    let child = c.lose_child in
    subst (λ l. AreTaken c.args.lost.now c.args.below.now.items c.args.rooms.now.items l (set c.args.rooms.now.items 0 child.new.room))
    (sym c.remove.ensures.by_index.2)
    (lone-goes c.args.below.now.items c.args.lost.now c.args.rooms.now.items c.requires.form.0 c.requires.one c.requires.rise c.requires.tries
    c.requires.lost_rise c.requires.lost_tries c.requires.within c.requires.form.1 c.index-lost-0.result c.index-lost-0.is
    c.place_of-place.result c.index_mut.result.now at c.index_mut.ensures.value c.index_mut-2.result.now c.index_mut-2.ensures.value
    child.new.room child.new.child child.result child.ensures.paths child.ensures.trie child.ensures.bare child.ensures.element child.ensures.room
    (not_true _ (sym child.ensures.bare ∙ c.if-lose_child.true)))

pub take_one_out-returns-else-lose_child-clause-taken : goal.take_one_out-returns-else-lose_child-clause-taken
take_one_out-returns-else-lose_child-clause-taken t c =
    let at : IsChildAt (element_view c.index-lost-0.result.0) c.args.below.now.items c.place_of-place.result =
    rw c.deref.ensures.value at c.place_of-place.ensures in
    let child = c.lose_child in
    lone-stays c.args.below.now.items c.args.lost.now c.args.rooms.now.items c.requires.form.0 c.requires.one c.requires.rise c.requires.tries
    c.requires.lost_rise c.requires.lost_tries c.requires.within c.requires.form.1 c.index-lost-0.result c.index-lost-0.is
    c.place_of-place.result c.index_mut.result.now at c.index_mut.ensures.value c.index_mut-2.result.now c.index_mut-2.ensures.value
    child.new.room child.new.child child.result child.ensures.paths child.ensures.trie child.ensures.bare child.ensures.element child.ensures.room
    c.if-lose_child.false

-- ---- one child

pub lose_child-lose-requires : goal.lose_child-lose-requires
lose_child-lose-requires t c = (
  search (rules, the_lemmas),
  (c.requires.trie, (c.requires.lost, (c.requires.within, (c.requires.form.0, both_second _ _ c.requires.form.1)))),
)

pub lose_child-returns-clause-room : goal.lose_child-returns-clause-room
lose_child-returns-clause-room t c k =
    let d = c.args.lost.now in
    let place = c.keep_bare.ensures.place in
    both _ _
    (ap (λ m. serves (element_view d.0) (paths m) c.keep_bare.new.spare) place
    ∙ c.keep_bare.ensures.spare (element_view d.0) c.requires.element (both_first _ _ k))
    (ap (λ m. gain_room d.1 (paths m) c.lose.new.room) place
    ∙ c.lose.ensures.room (ap (λ m. lose_room d.1 (paths m) c.args.room.now.1) (sym place) ∙ both_second (is_nothing c.args.room.now.0) _ k))
