use Rattle.std.proofs.Common.{◌≡◌, ℕ, ◌∷◌, [], refl, length, ap, sym, ◌∙◌, take, arith, rules}
use Rattle.std.proofs.lemmas.List.{take_all}
use Rattle.ssa_path.specs.declared.trie.Trie.{the_lemmas}
use Rattle.ssa_path.specs.Trie.{paths, paths_below}
use Rattle.ssa_path.specs.Children.{child_at}
use Rattle.ssa_path.specs.View.{element_view}
use Rattle.ssa_path.proofs.Levels.{trie-parts}
use Rattle.ssa_path.proofs.Lists.{taken-at, child-trie}
use Rattle.ssa_model.specs.definitions.FieldsV1.{heads, tails}
use Rattle.ssa_turn_set.specs.Room.{children, fresh, freshes, gain_room, gains, left}
use Rattle.ssa_turn_set.proofs.Left.{gain-left, left-behind}
use Rattle.ssa_turn_set.proofs.NewRooms.{alone, counted-more}
use Rattle.ssa_turn_set.proofs.Rooms.{each-out, gains-more, nothing-out}
use Rattle.ssa_turn_set.proofs.RoomsOfOne.{one-gained}
use Rattle.ssa_turn_set.proofs.Shared.{shared, shared-one-more, there}
use Rattle.ssa_turn_set.proofs.Staying.{stale}
use Rattle.ssa_turn_set.proofs.Telling.{all-told, fresh-most, goes-once, whole-there}
use Rattle.ssa_turn_set.proofs.making.+gain_room.Goals.{make_one_gain-After-count_whole-going}
use Rattle.ssa_turn_set.proofs.making.+gain_room.Goals as goal
use Rattle.ssa_model.proofs.Basics.{both-true as both}

pub make_each_gain-place_or-place-requires-clause-rise : goal.make_each_gain-place_or-place-requires-clause-rise
make_each_gain-place_or-place-requires-clause-rise t c = (trie-parts c.args.own.now c.deref.result.now c.deref.ensures.value c.requires.own).0

pub make_each_gain-place_or-gone-requires-clause-rise : goal.make_each_gain-place_or-gone-requires-clause-rise
make_each_gain-place_or-gone-requires-clause-rise t c = (trie-parts c.args.lost.now c.deref-in-loop-child.result.now c.deref-in-loop-child.ensures.value c.requires.lost).0

pub make_each_gain-make_place_gain-requires : goal.make_each_gain-make_place_gain-requires
make_each_gain-make_place_gain-requires t c =
    let gained = trie-parts c.args.gained.now c.deref-child-items.result.now c.deref-child-items.ensures.value c.requires.gained in (
      search (rules, the_lemmas),
      (
        child-trie c.deref-child-items.result.now c.loop-child.child-index c.child-item.result (omega arith) c.child-item.is gained.1,
        (c.place_or-place.ensures.trie, (c.place_or-gone.ensures.trie, nothing-out)),
      ),
    )

pub make_each_gain-loop-child-preserved : goal.make_each_gain-loop-child-preserved
make_each_gain-loop-child-preserved t c =
    let cs = c.deref-child-items.result.now in
    let i = c.loop-child.child-index in
    let d = c.child-item.result in
    let e = element_view d.0 in
    let new = left (paths c.args.own.now) (paths c.args.lost.now) in
    let place = c.place_or-place.result.now in
    let gone = c.place_or-gone.result.now in
    let behind : tails e new ≡ left (paths place) (paths gone) =
    left-behind c.args.own.now c.args.lost.now e (paths place) (paths gone) c.requires.lost
    (c.place_or-place.ensures.paths ∙ ap (λ l. tails e (paths_below l)) c.deref.ensures.value)
    (c.place_or-gone.ensures.paths ∙ ap (λ l. tails e (paths_below l)) c.deref-in-loop-child.ensures.value) in
    let once = c.from-comes.ensures ∙ goes-once _ (paths place) (paths gone) c.in_ok-goes.ensures.goes in
    let one = once ∙ ap fresh (sym behind) in
    let own = trie-parts c.args.own.now (children c.args.own.now) refl c.requires.own in
    let at = c.place_or-place.ensures.paths ∙ ap (λ l. tails e (paths_below l)) c.deref.ensures.value in
    let leaves = c.count_whole-leaving.ensures.one
    ∙ whole-there e (children c.args.own.now) place _ (left (paths place) (paths gone)) own.0 own.1 at c.in_ok-goes.ensures.goes
    ∙ ap (λ l. there (child_at e (children c.args.own.now)) (fresh l)) (sym behind) in
    let few = c.loop-child.invariant.few in
    let few_leave = c.loop-child.invariant.few_leave in
    let most = fresh-most (left (paths place) (paths gone)) in
    let most_leave = c.count_whole-leaving.ensures.most in
    record {
      rooms = (λ j. gains (taken-at cs i d (omega arith) c.child-item.is j) new (c.in_ok-push.ensures.items j))
          ∙ gains-more (take i cs) d new c.loop-child.below.items _ c.loop-child.invariant.rooms
          (both _ _ (c.in_ok-spare.ensures (tails e new) one) (ap (λ l. gain_room d.1 l c.make_place_gain.new.room) behind ∙ c.in_ok-goes.ensures.room));
      count = counted-more cs new i c.loop-child.coming c.from-comes.result d (omega arith) c.child-item.is c.loop-child.invariant.count one;
      few = omega arith;
      leave = shared-one-more (stale new) cs (children c.args.own.now) i c.loop-child.leaving c.count_whole-leaving.result d (omega arith) c.child-item.is
          c.loop-child.invariant.leave leaves;
      few_leave = omega arith;
    }

pub make_each_gain-make_gain_children-requires-clause-coming : goal.make_each_gain-make_gain_children-requires-clause-coming
make_each_gain-make_gain_children-requires-clause-coming t c =
    let all = take_all c.loop-child.child-index c.deref-child-items.result.now c.loop-child-test.false ∙ c.deref-child-items.ensures.value in
    c.loop-child.invariant.count ∙ ap (λ l. freshes l (left (paths c.args.own.now) (paths c.args.lost.now))) all

pub make_each_gain-make_gain_children-requires-clause-going : goal.make_each_gain-make_gain_children-requires-clause-going
make_each_gain-make_gain_children-requires-clause-going t c =
    let all = take_all c.loop-child.child-index c.deref-child-items.result.now c.loop-child-test.false ∙ c.deref-child-items.ensures.value in
    let new = left (paths c.args.own.now) (paths c.args.lost.now) in
    all-told c.args.gained.now c.args.own.now c.args.lost.now c.loop-child.leaving c.requires.gained c.requires.own c.requires.lost
    (c.loop-child.invariant.leave ∙ ap (λ l. shared (stale new) l (children c.args.own.now)) all)

pub make_each_gain-returns-clause-room : goal.make_each_gain-returns-clause-room
make_each_gain-returns-clause-room t c =
    let all = take_all c.loop-child.child-index c.deref-child-items.result.now c.loop-child-test.false ∙ c.deref-child-items.ensures.value in
    let new = left (paths c.args.own.now) (paths c.args.lost.now) in
    let counted : c.loop-child.coming ≡ freshes (children c.args.gained.now) new = c.loop-child.invariant.count ∙ ap (λ l. freshes l new) all in
    gain-left c.args.gained.now new _ _ (length (heads new)) (each-out _ _) c.in_ok-children.ensures.items (omega arith) (λ lt. refl) (λ lt. let fits =
    c.in_ok-children.ensures.fits (omega arith) in omega arith)
    (ap (λ l. gains l new c.loop-child.below.items) (sym all) ∙ c.loop-child.invariant.rooms)

-- ---- one child

pub make_one_gain-place_or-place-requires-clause-rise : goal.make_one_gain-place_or-place-requires-clause-rise
make_one_gain-place_or-place-requires-clause-rise t c = (trie-parts c.args.own.now c.deref.result.now c.deref.ensures.value c.requires.own).0

pub make_one_gain-place_or-gone-requires-clause-rise : goal.make_one_gain-place_or-gone-requires-clause-rise
make_one_gain-place_or-gone-requires-clause-rise t c = (trie-parts c.args.lost.now c.deref-2.result.now c.deref-2.ensures.value c.requires.lost).0

-- behind the child's element is left what its place has without what goes there
behind : (t : ℕ) (c : make_one_gain-After-count_whole-going t)
    → tails (element_view c.index-child.result.now.0) (left (paths c.args.own.now) (paths c.args.lost.now))
    ≡ left (paths c.place_or-place.result.now) (paths c.place_or-gone.result.now)
behind t c =
    let e = element_view c.index-child.result.now.0 in
    left-behind c.args.own.now c.args.lost.now e (paths c.place_or-place.result.now) (paths c.place_or-gone.result.now) c.requires.lost
    (c.place_or-place.ensures.paths ∙ ap (λ l. tails e (paths_below l)) c.deref.ensures.value)
    (c.place_or-gone.ensures.paths ∙ ap (λ l. tails e (paths_below l)) c.deref-2.ensures.value)

-- the child is counted where nothing is left behind its element
comes : (t : ℕ) (c : make_one_gain-After-count_whole-going t)
    → c.from-comes.result ≡ fresh (tails (element_view c.index-child.result.now.0) (left (paths c.args.own.now) (paths c.args.lost.now)))
comes t c =
    c.from-comes.ensures ∙ goes-once _ (paths c.place_or-place.result.now) (paths c.place_or-gone.result.now) c.in_ok-goes.ensures.goes
    ∙ ap fresh (sym (behind t c))

-- and it is the only one that can come
all-comes : (t : ℕ) (c : make_one_gain-After-count_whole-going t)
    → c.from-comes.result ≡ freshes (children c.args.gained.now) (left (paths c.args.own.now) (paths c.args.lost.now))
all-comes t c =
    let d = c.index-child.result.now in
    let new = left (paths c.args.own.now) (paths c.args.lost.now) in
    let one = comes t c in
    let once : c.from-comes.result ≡ freshes (d ∷ []) new = omega arith in
    once ∙ ap (λ l. freshes l new) (sym (alone _ d c.requires.one c.index-child.ensures))

pub make_one_gain-make_gain_children-requires-clause-coming : goal.make_one_gain-make_gain_children-requires-clause-coming
make_one_gain-make_gain_children-requires-clause-coming t c = all-comes t c

pub make_one_gain-make_gain_children-requires-clause-going : goal.make_one_gain-make_gain_children-requires-clause-going
make_one_gain-make_gain_children-requires-clause-going t c =
    let d = c.index-child.result.now in
    let e = element_view d.0 in
    let place = c.place_or-place.result.now in
    let ds = children c.args.own.now in
    let new = left (paths c.args.own.now) (paths c.args.lost.now) in
    let own = trie-parts c.args.own.now ds refl c.requires.own in
    let leaves : c.count_whole-going.result ≡ there (child_at e ds) (fresh (tails e new)) =
    c.count_whole-going.ensures.one
    ∙ whole-there e ds place _ (left (paths place) (paths c.place_or-gone.result.now)) own.0 own.1
    (c.place_or-place.ensures.paths ∙ ap (λ l. tails e (paths_below l)) c.deref.ensures.value) c.in_ok-goes.ensures.goes
    ∙ ap (λ l. there (child_at e ds) (fresh l)) (sym (behind t c)) in
    let once : c.count_whole-going.result ≡ shared (stale new) (d ∷ []) ds = omega arith in
    all-told c.args.gained.now c.args.own.now c.args.lost.now c.count_whole-going.result c.requires.gained c.requires.own c.requires.lost
    (once ∙ ap (λ l. shared (stale new) l ds) (sym (alone _ d c.requires.one c.index-child.ensures)))

pub make_one_gain-returns-clause-room : goal.make_one_gain-returns-clause-room
make_one_gain-returns-clause-room t c =
    let after = (goal.at.make_one_gain-returns-clause-room t c).After-count_whole-going in
    let d = c.index-child.result.now in
    let new = left (paths c.args.own.now) (paths c.args.lost.now) in
    let counted : c.from-comes.result ≡ freshes (children c.args.gained.now) new = all-comes t after in
    let made = c.in_ok-put_gain_above.ensures in
    one-gained c.args.gained.now new d made.rooms.0 c.make_place_gain.new.room c.put_gain_above.new.room
    (alone _ d c.requires.one c.index-child.ensures) made.rooms.1 made.own
    (λ lt. made.place (omega arith))
    (λ lt. let fits = c.in_ok-children.ensures.fits (omega arith) in let wide = made.wide (omega arith) in omega arith)
    (made.rooms.2 (tails (element_view d.0) new) (comes t after))
    (ap (λ l. gain_room d.1 l c.make_place_gain.new.room) (behind t after) ∙ c.in_ok-goes.ensures.room)
