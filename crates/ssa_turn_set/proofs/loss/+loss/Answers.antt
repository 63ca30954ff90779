use Rattle.std.proofs.Common.{◌≡◌, ◌<◌, ◌∷◌, [], ◌&&◌, ℕ, List, Bool, true, false, Some, None, true≢false}
use Rattle.std.proofs.Common.{refl, ap, sym, ◌∙◌, subst, take, arith, rules}
use Rattle.std.proofs.lemmas.List.{take_all}
use Rattle.std.proofs.lemmas.List.Elements.{All-cons, All-head, All-nil}
use Rattle.std.specs.Int.{from_bool}
use Rattle.std.specs.List.{All}
use Rattle.std.specs.Option.{option_copied}
use Rattle.std.specs.Prelude.{if◌then◌else◌, vec_capacity}
use Rattle.ssa_path.specs.declared.element.Elem.{Elem}
use Rattle.ssa_path.specs.declared.trie.Trie.{Trie, the_lemmas}
use Rattle.ssa_path.specs.declared.trie.Trie.TheViews.{out-Trie}
use Rattle.ssa_path.specs.Children.{child_at}
use Rattle.ssa_path.specs.Trie.{is_filled, is_trie, paths, paths_below}
use Rattle.ssa_path.specs.View.{element_view}
use Rattle.ssa_path.proofs.Levels.{trie-parts}
use Rattle.ssa_path.proofs.Lists.{taken-at, child-trie, filled-at}
use Rattle.ssa_path.proofs.LyingWithin.{AreWithin, within-all}
use Rattle.ssa_path.proofs.Orders.{both_first, both_second}
use Rattle.ssa_model.specs.definitions.FieldsV1.{tails}
use Rattle.ssa_turn_set.specs.Room.{children, fresh, goes, going, leaving, left, losses, lose_room}
use Rattle.ssa_turn_set.proofs.Bare.{bare-paths, bare-trie}
use Rattle.ssa_turn_set.proofs.Left.{going-one-more, loss-held, losses-more}
use Rattle.ssa_turn_set.proofs.LossRecords.{has-more}
use Rattle.ssa_turn_set.proofs.NewRooms.{alone, found-child}
use Rattle.ssa_turn_set.proofs.RoomsOfOne.{one-lost}
use Rattle.ssa_turn_set.proofs.Staying.{leaving-one-more, left-fits}
use Rattle.ssa_turn_set.proofs.Rooms.{each-out, nothing-out}
use Rattle.ssa_turn_set.proofs.Tails.{paths_of, tails-below}
use Rattle.ssa_turn_set.proofs.Telling.{fresh-most, goes-once, whole-gone}
use Rattle.ssa_turn_set.proofs.loss.+loss.Goals.{make_loss_at-then-own, make_loss_at-else-own}
use Rattle.ssa_turn_set.proofs.loss.+loss.Goals as goal
use Rattle.ssa_model.proofs.Basics.{not_true}

pub make_each_loss-place_or-place-requires-clause-rise : goal.make_each_loss-place_or-place-requires-clause-rise
make_each_loss-place_or-place-requires-clause-rise t c = (trie-parts c.args.own.now c.deref.result.now c.deref.ensures.value c.requires.own).0

pub make_each_loss-make_place_loss-requires : goal.make_each_loss-make_place_loss-requires
make_each_loss-make_place_loss-requires t c =
    let lost = trie-parts c.args.lost.now c.deref-child-items.result.now c.deref-child-items.ensures.value c.requires.lost in (
      search (rules, the_lemmas),
      (
        child-trie c.deref-child-items.result.now c.loop-child.child-index c.child-item.result (omega arith) c.child-item.is lost.1,
        (c.place_or-place.ensures.trie, nothing-out),
      ),
    )

pub make_each_loss-loop-child-preserved : goal.make_each_loss-loop-child-preserved
make_each_loss-loop-child-preserved t c =
    let cs = c.deref-child-items.result.now in
    let ds = (out-Trie c.args.own.now).below.items in
    let i = c.loop-child.child-index in
    let ps = paths_below ds in
    let d = c.child-item.result in
    let qs = paths d.1 in
    let both = c.loop-child.has_all in
    let tries = (trie-parts c.args.lost.now cs c.deref-child-items.ensures.value c.requires.lost).1 in
    let filled = both_second (is_trie d.1) _ (filled-at cs i d (omega arith) c.child-item.is tries) in
    let own = trie-parts c.args.own.now ds refl c.requires.own in
    let place = c.place_or-place.result.now in
    let behind = c.place_or-place.ensures.paths ∙ ap (λ l. tails (element_view d.0) (paths_below l)) c.deref.ensures.value in
    let room = ap (λ l. lose_room d.1 (left l qs) c.make_place_loss.new.room) (sym behind) ∙ c.in_ok-child_has_all.ensures.room in
    let one = c.from-going.ensures ∙ goes-once _ (paths place) qs c.in_ok-child_has_all.ensures.goes in
    let gone = one ∙ ap (λ l. fresh (left l qs)) behind in
    let leaves = c.count_whole-leaving.ensures.one ∙ whole-gone (element_view d.0) ds place _ qs own.0 own.1 behind c.in_ok-child_has_all.ensures.goes in
    let few = c.loop-child.invariant.few in
    let few_leave = c.loop-child.invariant.few_leave in
    let most = fresh-most (left (paths place) qs) in
    let most_leave = c.count_whole-leaving.ensures.most in
    record {
      rooms = (λ j. losses (taken-at cs i d (omega arith) c.child-item.is j) ps (c.in_ok-push.ensures.items j))
          ∙ losses-more (take i cs) d ps c.loop-child.below.items _ c.loop-child.invariant.rooms room;
      count = going-one-more cs ps i c.loop-child.going c.from-going.result d (omega arith) c.child-item.is c.loop-child.invariant.count gone;
      few = omega arith;
      leave = leaving-one-more cs ds i c.loop-child.leaving c.count_whole-leaving.result d (omega arith) c.child-item.is c.loop-child.invariant.leave leaves;
      few_leave = omega arith;
      here = λ all. c.loop-child.invariant.here (both_first both c.in_ok-child_has_all.child_has_all all);
      all = λ all. has-more cs ds i d (paths c.place_or-place.result.now) (omega arith) c.child-item.is own.0 filled behind
          (c.in_ok-child_has_all.ensures.all (both_second both c.in_ok-child_has_all.child_has_all all))
          (c.loop-child.invariant.all (both_first both c.in_ok-child_has_all.child_has_all all));
    }

pub make_each_loss-returns-clause-room : goal.make_each_loss-returns-clause-room
make_each_loss-returns-clause-room t c =
    let all = take_all c.loop-child.child-index c.deref-child-items.result.now c.loop-child-test.false ∙ c.deref-child-items.ensures.value in
    let ps = paths_below (out-Trie c.args.own.now).below.items in
    let own = (out-Trie c.args.own.now).below.ok.0 in
    let len = c.len-2.ensures in
    let counted : c.loop-child.going ≡ going (out-Trie c.args.lost.now).below.items ps =
    c.loop-child.invariant.count ∙ ap (λ l. going l ps) all in
    let left : c.loop-child.leaving ≡ leaving (children c.args.lost.now) (children c.args.own.now) =
    c.loop-child.invariant.leave ∙ ap (λ l. leaving l (children c.args.own.now)) all in
    loss-held c.args.lost.now c.args.own.now _ _ (each-out _ _) c.requires.lost c.in_ok-children.ensures.items (λ lt. refl)
    (λ lt. left-fits c.args.own.now c.args.lost.now (vec_capacity c.in_ok-children.children) c.requires.own c.requires.lost
    (λ some. let fits = c.in_ok-children.ensures.fits (omega arith) (omega arith) in omega arith))
    (ap (λ l. losses l ps c.loop-child.below.items) (sym all) ∙ c.loop-child.invariant.rooms)

pub make_each_loss-returns-clause-all : goal.make_each_loss-returns-clause-all
make_each_loss-returns-clause-all t c =
    let cs = c.deref-child-items.result.now in
    let ds = (out-Trie c.args.own.now).below.items in
    let all = take_all c.loop-child.child-index cs c.loop-child-test.false in
    λ has. within-all c.args.lost.now c.args.own.now cs ds c.deref-child-items.ensures.value refl (c.loop-child.invariant.here has)
    (subst (λ l. AreWithin l ds) all (c.loop-child.invariant.all has))

pub make_each_loss-goes_whole-requires-clause-gone : goal.make_each_loss-goes_whole-requires-clause-gone
make_each_loss-goes_whole-requires-clause-gone t c =
    c.loop-child.invariant.leave
    ∙ ap (λ l. leaving l (children c.args.own.now)) (take_all c.loop-child.child-index c.deref-child-items.result.now c.loop-child-test.false
    ∙ c.deref-child-items.ensures.value)

-- ---- one child

-- a place has the paths behind the element of this child
abbrev IsPlaceOf : Trie → Trie → Elem × Trie → Type 0
IsPlaceOf own place d = paths place ≡ tails (element_view d.0) (paths_below (children own))

-- what is the place of each child that is lost is that of the one
one-place : (lost own place : Trie) (d : Elem × Trie) → children lost ≡ d ∷ [] → All (IsPlaceOf own place) (children lost)
    → IsPlaceOf own place d
one-place lost own place d all at = All-head (IsPlaceOf own place) d [] (subst (All (IsPlaceOf own place)) all at)

-- as many go whole as the one child tells
one-leaves : (lost own place : Trie) (d : Elem × Trie) (whole : Bool) (n : ℕ) → children lost ≡ d ∷ []
    → is_trie own ≡ true → IsPlaceOf own place d
    → n ≡ (if is_filled place && whole then 1 else 0) → whole ≡ goes (paths place) (paths d.1) → n ≡ leaving (children lost) (children own)
one-leaves lost own place d whole n all trie at count told =
    let rest = trie-parts own (children own) refl trie in
    let leaves = count ∙ whole-gone (element_view d.0) (children own) place whole (paths d.1) rest.0 rest.1 at told in
    let once : n ≡ leaving (d ∷ []) (children own) = omega arith in
    once ∙ ap (λ l. leaving l (children own)) (sym all)

told-once : (b : Bool) → 0 < from_bool b → b ≡ true
told-once true some = refl
told-once false some = absurd (omega arith)

pub make_loss_at-goes_whole-requires-clause-gone : goal.make_loss_at-goes_whole-requires-clause-gone
make_loss_at-goes_whole-requires-clause-gone t c =
    let d = c.index-child.result.now in
    let place = c.args.place.now in
    let all = alone _ d c.requires.one c.index-child.ensures in
    let behind = one-place c.args.lost.now c.args.own.now place d all c.requires.place in
    one-leaves c.args.lost.now c.args.own.now place d _ _ all c.requires.own behind
    c.count_whole-leaving.ensures.one c.in_ok-child_has_all.ensures.goes

pub make_loss_at-returns-clause-room : goal.make_loss_at-returns-clause-room
make_loss_at-returns-clause-room t c =
    let d = c.index-child.result.now in
    let place = c.args.place.now in
    let whole = c.in_ok-child_has_all.goes in
    let ps = paths_below (children c.args.own.now) in
    let all : children c.args.lost.now ≡ d ∷ [] = alone _ d c.requires.one c.index-child.ensures in
    let behind = one-place c.args.lost.now c.args.own.now place d all c.requires.place in
    let one : from_bool whole ≡ fresh (left (tails (element_view d.0) ps) (paths d.1)) =
    goes-once _ (paths place) (paths d.1) c.in_ok-child_has_all.ensures.goes ∙ ap (λ l. fresh (left l (paths d.1))) behind in
    let count : from_bool whole ≡ going (d ∷ []) ps = omega arith in
    let counted : from_bool whole ≡ going (children c.args.lost.now) ps = count ∙ ap (λ l. going l ps) (sym all) in
    let gone : c.count_whole-leaving.result ≡ leaving (children c.args.lost.now) (children c.args.own.now) =
    one-leaves c.args.lost.now c.args.own.now place d _ _ all c.requires.own behind
    c.count_whole-leaving.ensures.one c.in_ok-child_has_all.ensures.goes in
    let own = (out-Trie c.args.own.now).below.ok.0 in
    let len = c.len.ensures in
    let made = c.in_ok-put_loss_above.ensures in
    one-lost c.args.lost.now c.args.own.now d c.make_place_loss.new.room c.put_loss_above.new.room c.requires.lost all made.rooms made.own
    (λ lt. made.place (told-once whole (subst (λ n. 0 < n) (sym counted) lt)))
    (λ lt. left-fits c.args.own.now c.args.lost.now _ c.requires.own c.requires.lost
    (λ some. let fits = made.fits (told-once whole (subst (λ n. 0 < n) (sym counted) lt)) (omega arith) in omega arith))
    (ap (λ l. lose_room d.1 (left l (paths d.1)) c.make_place_loss.new.room) (sym behind) ∙ c.in_ok-child_has_all.ensures.room)

pub make_loss_at-returns-clause-all : goal.make_loss_at-returns-clause-all
make_loss_at-returns-clause-all t c has =
    let d = c.index-child.result.now in
    let cs = children c.args.lost.now in
    let ds = children c.args.own.now in
    let place = c.args.place.now in
    let own = trie-parts c.args.own.now ds refl c.requires.own in
    let tries = (trie-parts c.args.lost.now cs refl c.requires.lost).1 in
    let all = alone cs d c.requires.one c.index-child.ensures in
    let behind = one-place c.args.lost.now c.args.own.now place d all c.requires.place in
    let long = c.requires.one in
    let filled = both_second (is_trie d.1) _ (filled-at cs 0 d (omega arith) c.index-child.ensures tries) in
    let here : (out-Trie c.args.lost.now).here ≡ true → (out-Trie c.args.own.now).here ≡ true =
    elim c.if-own.branch [
      | make_loss_at-then-own w ↦ λ k. w.if-own.true
      | make_loss_at-else-own w ↦ λ k. absurd (true≢false (sym k ∙ not_true _ (sym w.has_all-is ∙ both_first _ _ has)))
    ] in
    within-all c.args.lost.now c.args.own.now cs ds refl refl here
    (subst (λ l. AreWithin l ds) (take_all 1 cs (omega arith))
    (has-more cs ds 0 d (paths place) (omega arith) c.index-child.ensures own.0 filled behind
    (c.in_ok-child_has_all.ensures.all (both_second c.if-own.has_all _ has)) (λ e p k. absurd (true≢false (sym k)))))

-- ---- the place of the one child

pub make_one_loss-counterpart-requires : goal.make_one_loss-counterpart-requires
make_one_loss-counterpart-requires t c = (trie-parts c.args.own.now c.deref.result.now c.deref.ensures.value c.requires.own).0

-- what is told of the one child that is lost is told of each
each-alone : (P : Elem × Trie → Type 0) (ds : List (Elem × Trie)) (d : Elem × Trie) → ds ≡ d ∷ [] → P d → All P ds
each-alone P ds d all held = subst (All P) (sym all) (All-cons P d [] held (All-nil P))

pub make_one_loss-make_loss_at-requires : goal.make_one_loss-make_loss_at-requires
make_one_loss-make_loss_at-requires t c =
    let d = c.index.result.now in
    let e = element_view d.0 in
    let own = c.args.own.now in
    let place = c.in-Some.place.now in
    let parts = trie-parts own (children own) refl c.requires.own in
    let at : child_at e (children own) ≡ Some place =
    ap (child_at e) (sym c.deref.ensures.value) ∙ sym c.counterpart.ensures ∙ ap option_copied c.in-Some.is in
    let behind : IsPlaceOf own place d = sym (tails-below e (children own) parts.0 ∙ ap paths_of at) in
    let each = each-alone (IsPlaceOf own place) (children c.args.lost.now) d (alone _ d c.requires.one c.index.ensures) behind in
    let trie = both_first (is_trie place) _ (found-child e (children own) place parts.1 at) in
    (search (rules, the_lemmas), (c.requires.lost, (c.requires.own, (c.requires.one, (each, (trie, c.requires.nothing))))))

pub make_one_loss-make_absent_loss-requires : goal.make_one_loss-make_absent_loss-requires
make_one_loss-make_absent_loss-requires t c =
    let d = c.index.result.now in
    let own = c.args.own.now in
    let at : child_at (element_view d.0) (children own) ≡ None =
    ap (child_at (element_view d.0)) (sym c.deref.ensures.value) ∙ sym c.counterpart.ensures ∙ ap option_copied c.in-None.is in
    let each = each-alone (λ x. child_at (element_view x.0) (children own) ≡ None) (children c.args.lost.now) d
    (alone _ d c.requires.one c.index.ensures) at in
    (search (rules, the_lemmas), (c.requires.lost, (c.requires.own, (c.requires.one, (each, c.requires.nothing)))))

pub make_absent_loss-make_loss_at-requires : goal.make_absent_loss-make_loss_at-requires
make_absent_loss-make_loss_at-requires t c =
    let ds = children c.args.own.now in
    let rise = (trie-parts c.args.own.now ds refl c.requires.own).0 in (
      search (rules, the_lemmas),
      (
        c.requires.lost,
        (
          c.requires.own,
          (
            c.requires.one,
            (
              λ k d lt. bare-paths _ (record { here = refl; below = c.new.ensures.items })
                  ∙ sym (tails-below _ ds rise ∙ ap paths_of (c.requires.absent k d lt)),
              (bare-trie _ (record { here = refl; below = c.new.ensures.items }), c.requires.nothing),
            ),
          ),
        ),
      ),
    )
