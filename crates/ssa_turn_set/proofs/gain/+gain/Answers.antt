use Rattle.std.proofs.Common.{rules, ◌≡◌, ◌+◌, ◌≤◌, ◌||◌, ◌++◌, ◌∷◌, [], ap, sym, refl, ◌∙◌, length, reverse, take, drop, arith, subst, append_assoc, true}
use Rattle.std.proofs.lemmas.List.{length-append, reverse-reverse}
use Rattle.std.specs.Prelude.{vec_capacity}
use Rattle.ssa_path.specs.declared.element.Elem.{Elem}
use Rattle.ssa_path.specs.declared.trie.Trie.{Trie, the_lemmas}
use Rattle.ssa_path.specs.declared.trie.Trie.TheViews.{out-Trie}
use Rattle.ssa_path.specs.Children.{elements, rises}
use Rattle.ssa_path.specs.Trie.{are_filled_tries, is_one_of, paths_below}
use Rattle.ssa_path.proofs.Levels.{is_trie-made, trie-parts}
use Rattle.ssa_path.proofs.Lists.{left-at, parted-set}
use Rattle.ssa_path.proofs.Orders.{both_first}
use Rattle.ssa_turn_set.specs.declared.room.Room.{Room}
use Rattle.ssa_turn_set.specs.declared.spare.Spare.{Spare}
use Rattle.ssa_turn_set.specs.declared.room.Room.TheVariants.{Each}
use Rattle.ssa_turn_set.specs.declared.room.Room.TheViews.{out-Room}
use Rattle.ssa_turn_set.specs.Room.{freshes, gain_room, gains, lose_room, loses, own_children, rooms_of, width}
use Rattle.ssa_turn_set.proofs.Bare.{gain-leaf, leaf-lose}
use Rattle.ssa_turn_set.proofs.Rooms.{each-out}
use Rattle.ssa_turn_set.proofs.Coming.{opened-fits, opened-more, opened-room, passed-next, passed-one}
use Rattle.ssa_turn_set.proofs.Gaining.{IsGaining, gaining-all, gaining-at, gaining-fits, gaining-next, gaining-none, gaining-within, gained-place}
use Rattle.ssa_turn_set.proofs.Places.{coming, comes-wide, comes-within, gain-below, gain-own, lose-held}
use Rattle.ssa_turn_set.proofs.gain.+gain.Goals.{gain_each-then-gained, gain_each-else-gained}
use Rattle.ssa_turn_set.proofs.gain.+gain.Goals as goal

-- ---- the place

pub gain-gain_leaf-requires-clause-leaf : goal.gain-gain_leaf-requires-clause-leaf
gain-gain_leaf-requires-clause-leaf t c =
    gain-leaf c.args.gained.now _ (ap (gain_room c.args.gained.now _) (sym c.in-Nothing.is) ∙ c.requires.room)

pub gain-returns-in-Nothing-clause-room : goal.gain-returns-in-Nothing-clause-room
gain-returns-in-Nothing-clause-room t c =
    let none = gain-leaf c.args.gained.now _ (ap (gain_room c.args.gained.now _) (sym c.in-Nothing.is) ∙ c.requires.room) in
    ap (lose_room c.args.gained.now _) c.in-Nothing.is ∙ leaf-lose c.args.gained.now none _

pub gain_each-weave_in-requires : goal.gain_each-weave_in-requires
gain_each-weave_in-requires t c =
    let set = trie-parts c.args.set.now _ refl c.requires.set in
    let gained = trie-parts c.args.gained.now c.deref.result.now c.deref.ensures.value c.requires.gained in
    let own = gain-own c.args.gained.now c.args.set.now _ c.requires.set c.requires.room in
    let below = gain-below c.args.gained.now c.args.set.now _ c.requires.room in
    let is = each-out c.args.children.now c.args.rooms.now in
    let cs = (out-Trie c.args.set.now).below.items in
    let fits : length cs + coming c.args.gained.now c.args.set.now ≤ width (out-Room (Each c.args.children.now c.args.rooms.now)) =
    let len = (out-Trie c.args.set.now).below.ok.0 in
    let a = c.len.ensures in
    let b = c.capacity.ensures in
    let test = c.if-len-capacity.true in
    let wide = ap width is in
    comes-within _ _ _ own.fits (omega arith) in (
      search (rules, the_lemmas),
      (
        gained.0,
        (
          gained.1,
          (
            set.0,
            (
              set.1,
              (
                ap own_children (sym is) ∙ own.empty,
                (
                  subst (λ x. length cs + freshes c.deref.result.now (paths_below cs) ≤ width x) is
                      (subst (λ l. length cs + freshes l (paths_below cs) ≤ width (out-Room (Each c.args.children.now c.args.rooms.now))) (sym c.deref.ensures.value) fits),
                  (λ j. gains (c.deref.ensures.value j) (paths_below cs) (rooms_of (sym is j))) ∙ below,
                ),
              ),
            ),
          ),
        ),
      ),
    )

pub gain_each-put_each_in-requires : goal.gain_each-put_each_in-requires
gain_each-put_each_in-requires t c =
    let set = trie-parts c.args.set.now _ refl c.requires.set in
    let gained = trie-parts c.args.gained.now c.deref-else-len-capacity.result.now c.deref-else-len-capacity.ensures.value c.requires.gained in
    let own = gain-own c.args.gained.now c.args.set.now _ c.requires.set c.requires.room in
    let below = gain-below c.args.gained.now c.args.set.now _ c.requires.room in
    let given = c.deref-else-len-capacity.ensures.value in
    let is = each-out c.args.children.now c.args.rooms.now in
    let wider = c.exchange_where_wider.ensures in
    let capacity = vec_capacity c.exchange_where_wider.new.items in
    let cs = (out-Trie c.args.set.now).below.items in
    let fits : length cs + coming c.args.gained.now c.args.set.now ≤ capacity =
    let len = (out-Trie c.args.set.now).below.ok.0 in
    let most = (out-Trie c.args.set.now).below.ok.1 in
    let kept = wider.kept in
    comes-wide _ _ _ _ own.fits (omega arith) (subst (λ n. n ≤ capacity) (ap width (sym is)) wider.wide) in (
      search (rules, the_lemmas),
      (
        gained.0,
        (
          gained.1,
          (
            ap (λ l. rises (elements l)) wider.items ∙ set.0,
            (
              ap are_filled_tries wider.items ∙ set.1,
              (
                subst (λ l. length l + freshes c.deref-else-len-capacity.result.now (paths_below l) ≤ capacity) (sym wider.items)
                    (subst (λ l. length cs + freshes l (paths_below cs) ≤ capacity) (sym given) fits),
                (λ j. gains (given j) (paths_below (wider.items j)) (rooms_of (sym is j))) ∙ below,
              ),
            ),
          ),
        ),
      ),
    )

-- ---- children put in one by one

pub put_each_in-loop-i-init : goal.put_each_in-loop-i-init
put_each_in-loop-i-init t c =
    gaining-none c.args.below.now.items c.args.gained.now _ _ _ refl
    c.requires.rise c.requires.tries c.requires.gained_rise c.requires.gained_tries c.requires.fits c.requires.room

pub put_each_in-gain-requires : goal.put_each_in-gain-requires
put_each_in-gain-requires t c =
    let ds = c.args.gained.now in
    let rs = c.loop-i.rooms.items in
    let i = c.loop-i.i in
    let d = c.index-gained-i.result in
    let r = c.index_mut-room.result.now in
    let within = gaining-within _ ds rs _ _ i c.loop-i-test.true c.loop-i.invariant in
    let h = gaining-at _ ds rs _ _ i d r c.loop-i-test.true c.index-gained-i.is within c.index_mut-room.ensures.value c.loop-i.invariant in
    let o = c.open_within-place.ensures.opened.opened c.index_mut.result.now c.index_mut.ensures.value in (
      search (rules, the_lemmas),
      (o.trie, (both_first _ _ (both_first _ _ h.left_tries), opened-room _ _ _ _ _ _ _ d r h _ _ _ o)),
    )

pub put_each_in-loop-i-preserved : goal.put_each_in-loop-i-preserved
put_each_in-loop-i-preserved t c =
    let ds = c.args.gained.now in
    let rs = c.loop-i.rooms.items in
    let i = c.loop-i.i in
    let d = c.index-gained-i.result in
    let r = c.index_mut-room.result.now in
    let within = gaining-within _ ds rs _ _ i c.loop-i-test.true c.loop-i.invariant in
    let h = gaining-at _ ds rs _ _ i d r c.loop-i-test.true c.index-gained-i.is within c.index_mut-room.ensures.value c.loop-i.invariant in
    let now = c.open_within-place.new.children in
    let place = c.open_within-place.result in
    let child = c.index_mut.result.now in
    let at = c.open_within-place.ensures.opened in
    let x : Elem × Trie = (child.0, c.gain.new.set) in
    let s : Spare × Room = (c.open_within-place.new.spare, c.gain.new.room) in
    let more = opened-more _ _ _ _ _ _ _ d r h (take place now.items) child (drop (place + 1) now.items) (at.opened child c.index_mut.ensures.value)
    c.gain.new.set s (vec_capacity now) c.gain.ensures.paths c.gain.ensures.trie c.open_within-place.ensures.spare c.gain.ensures.room
    c.open_within-place.ensures.capacity in
    let there = subst (λ l. IsGaining c.args.below.now.items (take i ds ++ d ∷ []) (drop (i + 1) ds) (take i rs ++ s ∷ [])
    (drop (i + 1) rs) l (vec_capacity now))
    (sym (parted-set now.items place x at.within)) more in
    gaining-next _ ds rs _ _ i d s c.loop-i-test.true c.index-gained-i.is within there

pub put_each_in-returns-clause-room : goal.put_each_in-returns-clause-room
put_each_in-returns-clause-room t c =
    (gaining-all c.args.below.now.items c.args.gained.now c.loop-i.rooms.items _ _ c.loop-i.i c.loop-i-test.false c.loop-i.invariant).1

-- ---- children that come

pub weave_in-loop-i-init : goal.weave_in-loop-i-init
weave_in-loop-i-init t c =
    let now = ap (λ l. l ++ reverse c.turn_round.new.children.items) c.requires.empty ∙ ap reverse c.turn_round.ensures.items
    ∙ reverse-reverse c.args.below.now.items in (
      gaining-none c.args.below.now.items c.args.gained.now _ _ _ now
          c.requires.rise c.requires.tries c.requires.gained_rise c.requires.gained_tries c.requires.fits c.requires.room,
      ap (λ l. rises (elements l ++ elements c.args.gained.now)) c.requires.empty ∙ c.requires.gained_rise,
      c.turn_round.ensures.capacity,
    )

pub weave_in-open_place-place-requires-clause-passed : goal.weave_in-open_place-place-requires-clause-passed
weave_in-open_place-place-requires-clause-passed t c =
    let ds = c.args.gained.now in
    let i = c.loop-i.i in
    let d = c.index-gained-i.result in
    passed-next c.loop-i.children.items d (drop (i + 1) ds)
    (subst (λ l. rises (elements c.loop-i.children.items ++ elements l) ≡ true) (left-at ds i d c.loop-i-test.true c.index-gained-i.is) c.loop-i.invariant.1)

pub weave_in-open_place-place-requires-clause-spare : goal.weave_in-open_place-place-requires-clause-spare
weave_in-open_place-place-requires-clause-spare t c =
    let ds = c.args.gained.now in
    let rs = c.loop-i.rooms.items in
    let i = c.loop-i.i in
    let d = c.index-gained-i.result in
    let r = c.index_mut-room.result.now in
    let within = gaining-within _ ds rs _ _ i c.loop-i-test.true c.loop-i.invariant.0 in
    let h = gaining-at _ ds rs _ _ i d r c.loop-i-test.true c.index-gained-i.is within c.index_mut-room.ensures.value c.loop-i.invariant.0 in
    both_first _ _ (gaining-fits _ _ _ _ _ _ _ d r h).1

pub weave_in-gain-requires : goal.weave_in-gain-requires
weave_in-gain-requires t c =
    let ds = c.args.gained.now in
    let rs = c.loop-i.rooms.items in
    let i = c.loop-i.i in
    let d = c.index-gained-i.result in
    let r = c.index_mut-room.result.now in
    let within = gaining-within _ ds rs _ _ i c.loop-i-test.true c.loop-i.invariant.0 in
    let h = gaining-at _ ds rs _ _ i d r c.loop-i-test.true c.index-gained-i.is within c.index_mut-room.ensures.value c.loop-i.invariant.0 in
    let o = c.open_place-place.ensures.opened in (
      search (rules, the_lemmas),
      (o.trie, (both_first _ _ (both_first _ _ h.left_tries), opened-room _ _ _ _ _ _ _ d r h _ _ _ o)),
    )

pub weave_in-push_within-requires : goal.weave_in-push_within-requires
weave_in-push_within-requires t c =
    let ds = c.args.gained.now in
    let rs = c.loop-i.rooms.items in
    let i = c.loop-i.i in
    let d = c.index-gained-i.result in
    let r = c.index_mut-room.result.now in
    let within = gaining-within _ ds rs _ _ i c.loop-i-test.true c.loop-i.invariant.0 in
    let h = gaining-at _ ds rs _ _ i d r c.loop-i-test.true c.index-gained-i.is within c.index_mut-room.ensures.value c.loop-i.invariant.0 in
    let front = c.open_place-place.new.passed in
    let place = c.open_place-place.result in
    let fits = opened-fits _ _ _ _ _ _ _ d r h _ _ _ c.open_place-place.ensures.opened in
    let wider = c.open_place-place.ensures.capacity in
    let len = front.ok.0 in
    let long = length-append front.items (place ∷ reverse c.open_place-place.new.left.items) in
    omega arith

pub weave_in-loop-i-preserved : goal.weave_in-loop-i-preserved
weave_in-loop-i-preserved t c =
    let ds = c.args.gained.now in
    let rs = c.loop-i.rooms.items in
    let i = c.loop-i.i in
    let d = c.index-gained-i.result in
    let r = c.index_mut-room.result.now in
    let within = gaining-within _ ds rs _ _ i c.loop-i-test.true c.loop-i.invariant.0 in
    let h = gaining-at _ ds rs _ _ i d r c.loop-i-test.true c.index-gained-i.is within c.index_mut-room.ensures.value c.loop-i.invariant.0 in
    let place = c.open_place-place.result in
    let front = c.open_place-place.new.passed.items in
    let behind = reverse c.open_place-place.new.left.items in
    let x : Elem × Trie = (place.0, c.gain.new.set) in
    let s : Spare × Room = (c.open_place-place.new.spare, c.gain.new.room) in
    let o = c.open_place-place.ensures.opened in
    let a = c.open_place-place.ensures.capacity in
    let b = c.push_within.ensures.capacity in
    let more = opened-more _ _ _ _ _ _ _ d r h front place behind o c.gain.new.set s (vec_capacity c.push_within.new.items)
    c.gain.ensures.paths c.gain.ensures.trie c.open_place-place.ensures.spare c.gain.ensures.room (omega arith) in
    let joined : c.push_within.new.items.items ++ behind ≡ front ++ x ∷ behind =
    ap (λ l. l ++ behind) c.push_within.ensures.items ∙ append_assoc front (x ∷ []) behind in
    let there = subst (λ l. IsGaining c.args.below.now.items (take i ds ++ d ∷ []) (drop (i + 1) ds) (take i rs ++ s ∷ [])
    (drop (i + 1) rs) l (vec_capacity c.push_within.new.items))
    (sym joined) more in (
      gaining-next _ ds rs _ _ i d s c.loop-i-test.true c.index-gained-i.is within there,
      ap (λ l. rises (elements l ++ elements (drop (i + 1) ds))) c.push_within.ensures.items ∙ passed-one _ _ _ _ _ _ _ d r h front place behind o x refl,
      c.open_place-place.ensures.left_capacity ∙ c.loop-i.invariant.2,
    )

pub weave_in-returns-clause-room : goal.weave_in-returns-clause-room
weave_in-returns-clause-room t c =
    (gaining-all c.args.below.now.items c.args.gained.now c.loop-i.rooms.items _ _ c.loop-i.i c.loop-i-test.false c.loop-i.invariant.0).1

-- ---- the place as a whole

pub gain_each-returns-then-len-gt-FEW-clause-paths : goal.gain_each-returns-then-len-gt-FEW-clause-paths
gain_each-returns-then-len-gt-FEW-clause-paths t c =
    gained-place _ c.args.gained.now c.args.set.now
    (elim c.if-gained.branch [
      | gain_each-then-gained w ↦ w.here-is ∙ w.if-gained.true ∙ sym (ap (λ b. b || (out-Trie c.args.set.now).here) w.if-gained.true)
      | gain_each-else-gained w ↦ w.here-is ∙ sym (ap (λ b. b || (out-Trie c.args.set.now).here) w.if-gained.false)
    ])
    (λ p. c.weave_in.ensures.gathered.paths_are p
    ∙ ap (λ l. is_one_of (paths_below l) p || is_one_of (paths_below (out-Trie c.args.set.now).below.items) p) c.deref.ensures.value)

pub gain_each-returns-then-len-gt-FEW-clause-trie : goal.gain_each-returns-then-len-gt-FEW-clause-trie
gain_each-returns-then-len-gt-FEW-clause-trie t c = is_trie-made _ c.weave_in.ensures.gathered.risen c.weave_in.ensures.gathered.tries

pub gain_each-returns-then-len-gt-FEW-clause-room : goal.gain_each-returns-then-len-gt-FEW-clause-room
gain_each-returns-then-len-gt-FEW-clause-room t c =
    let below = (out-Trie c.args.set.now).below in
    let len = below.ok.0 in
    let most = below.ok.1 in
    let left = c.weave_in.ensures.left in
    lose-held c.args.gained.now c.args.set.now _ _ (each-out _ _) c.requires.set c.weave_in.ensures.empty (λ lt. refl) (λ lt. omega arith)
    (ap (λ l. loses l (paths_below below.items) c.weave_in.new.rooms.items) (sym c.deref.ensures.value) ∙ c.weave_in.ensures.room)

pub gain_each-returns-else-len-capacity-clause-paths : goal.gain_each-returns-else-len-capacity-clause-paths
gain_each-returns-else-len-capacity-clause-paths t c =
    let same = c.exchange_where_wider.ensures.items in
    gained-place _ c.args.gained.now c.args.set.now
    (elim c.if-gained.branch [
      | gain_each-then-gained w ↦ w.here-is ∙ w.if-gained.true ∙ sym (ap (λ b. b || (out-Trie c.args.set.now).here) w.if-gained.true)
      | gain_each-else-gained w ↦ w.here-is ∙ sym (ap (λ b. b || (out-Trie c.args.set.now).here) w.if-gained.false)
    ])
    (λ p. c.put_each_in.ensures.gathered.paths_are p
    ∙ (λ j. is_one_of (paths_below (c.deref-else-len-capacity.ensures.value j)) p || is_one_of (paths_below (same j)) p))

pub gain_each-returns-else-len-capacity-clause-trie : goal.gain_each-returns-else-len-capacity-clause-trie
gain_each-returns-else-len-capacity-clause-trie t c = is_trie-made _ c.put_each_in.ensures.gathered.risen c.put_each_in.ensures.gathered.tries

pub gain_each-returns-else-len-capacity-clause-room : goal.gain_each-returns-else-len-capacity-clause-room
gain_each-returns-else-len-capacity-clause-room t c =
    let own = gain-own c.args.gained.now c.args.set.now _ c.requires.set c.requires.room in
    let below = (out-Trie c.args.set.now).below in
    let len = below.ok.0 in
    let is = each-out c.args.children.now c.args.rooms.now in
    let wide = ap width is in
    let wider = c.exchange_where_wider.ensures in
    lose-held c.args.gained.now c.args.set.now _ _ (each-out _ _) c.requires.set wider.empty (λ lt. refl)
    (λ lt. let fits = own.fits lt in let left = wider.room (omega arith) in omega arith)
    ((λ j. loses (sym c.deref-else-len-capacity.ensures.value j) (paths_below (sym wider.items j)) c.put_each_in.new.rooms.items) ∙ c.put_each_in.ensures.room)
