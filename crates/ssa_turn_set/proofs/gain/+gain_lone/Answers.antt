use Rattle.std.proofs.Common.{rules, ◌≡◌, ℕ, ◌≤◌, ◌+◌, ◌-◌, ◌||◌, suc, ap, sym, refl, ◌∙◌, length, arith, subst}
use Rattle.std.specs.Prelude.{vec_capacity}
use Rattle.ssa_path.specs.declared.trie.Trie.{the_lemmas}
use Rattle.ssa_path.specs.declared.trie.Trie.TheViews.{out-Trie}
use Rattle.ssa_path.specs.Children.{child_at, elements, rises, IsChildAt}
use Rattle.ssa_path.specs.Trie.{is_one_of, paths_below}
use Rattle.ssa_path.specs.View.{element_view}
use Rattle.ssa_path.proofs.Levels.{is_trie-made, trie-parts}
use Rattle.ssa_path.proofs.Lists.{child-trie}
use Rattle.ssa_turn_set.specs.Room.{freshes, gains, lone_rooms, loses, own_children, rooms_of, width}
use Rattle.ssa_turn_set.proofs.Gaining.{gained-place}
use Rattle.ssa_turn_set.proofs.LoneStaying.{gain-back, gain-gathered, gain-inner, gain-one, gain-present}
use Rattle.ssa_turn_set.proofs.Places.{coming, comes-wide, gain-below, gain-own, lose-held}
use Rattle.ssa_turn_set.proofs.Rooms.{lone-at, lone-out}
use Rattle.ssa_turn_set.proofs.gain.+gain_lone.Goals.{then-gained, else-gained}
use Rattle.ssa_turn_set.proofs.gain.+gain_lone.Goals as goal

-- ---- the child that comes, or is there

pub exchange_where_wider-requires : goal.exchange_where_wider-requires
exchange_where_wider-requires t c =
    record {
      empty = ap own_children (sym (lone-out _ _ _ _))
          ∙ (gain-own c.args.gained.now c.args.set.now _ c.requires.set c.requires.room.1).empty;
    }

pub put_lone_in-requires-clause-gained_rise : goal.put_lone_in-requires-clause-gained_rise
put_lone_in-requires-clause-gained_rise t c =
    (trie-parts c.args.gained.now c.deref.result.now c.deref.ensures.value c.requires.gained).0

pub put_lone_in-requires-clause-rise : goal.put_lone_in-requires-clause-rise
put_lone_in-requires-clause-rise t c =
    ap (λ l. rises (elements l)) c.exchange_where_wider.ensures.items ∙ (trie-parts c.args.set.now _ refl c.requires.set).0

pub put_lone_in-requires-clause-fits : goal.put_lone_in-requires-clause-fits
put_lone_in-requires-clause-fits t c =
    let own = gain-own c.args.gained.now c.args.set.now _ c.requires.set c.requires.room.1 in
    let wider = c.exchange_where_wider.ensures in
    let capacity = vec_capacity c.exchange_where_wider.new.items in
    let cs = (out-Trie c.args.set.now).below.items in
    let fits : length cs + coming c.args.gained.now c.args.set.now ≤ capacity =
    let len = (out-Trie c.args.set.now).below.ok.0 in
    let most = (out-Trie c.args.set.now).below.ok.1 in
    let kept = wider.kept in
    comes-wide _ _ _ _ own.fits (omega arith) (subst (λ n. n ≤ capacity) (ap width (sym (lone-out _ _ _ _))) wider.wide) in
    subst (λ l. length l + freshes c.deref.result.now (paths_below l) ≤ capacity) (sym wider.items)
    (subst (λ l. length cs + freshes l (paths_below cs) ≤ capacity) (sym c.deref.ensures.value) fits)

pub put_lone_in-requires-clause-room : goal.put_lone_in-requires-clause-room
put_lone_in-requires-clause-room t c =
    (λ j. gains (c.deref.ensures.value j) (paths_below (c.exchange_where_wider.ensures.items j)) (rooms_of (sym (lone-at c.args.above 0 c.requires.room.0 c.args.children.now c.args.spare.now c.if-above-eq0.true) j)))
    ∙ gain-below c.args.gained.now c.args.set.now _ c.requires.room.1

pub returns-then-above-eq0-clause-paths : goal.returns-then-above-eq0-clause-paths
returns-then-above-eq0-clause-paths t c =
    let same = c.exchange_where_wider.ensures.items in
    gained-place _ c.args.gained.now c.args.set.now
    (elim c.if-gained.branch [
      | then-gained w ↦ w.own-is ∙ w.if-gained.true ∙ sym (ap (λ b. b || (out-Trie c.args.set.now).here) w.if-gained.true)
      | else-gained w ↦ w.own-is ∙ sym (ap (λ b. b || (out-Trie c.args.set.now).here) w.if-gained.false)
    ])
    (λ p. c.put_lone_in.ensures.gathered.paths_are p
    ∙ (λ j. is_one_of (paths_below (c.deref.ensures.value j)) p || is_one_of (paths_below (same j)) p))

pub returns-then-above-eq0-clause-trie : goal.returns-then-above-eq0-clause-trie
returns-then-above-eq0-clause-trie t c = is_trie-made _ c.put_lone_in.ensures.gathered.risen c.put_lone_in.ensures.gathered.tries

pub returns-then-above-eq0-clause-room : goal.returns-then-above-eq0-clause-room
returns-then-above-eq0-clause-room t c near =
    let own = gain-own c.args.gained.now c.args.set.now _ c.requires.set c.requires.room.1 in
    let below = (out-Trie c.args.set.now).below in
    let len = below.ok.0 in
    let wide = ap width (lone-out c.args.above c.requires.room.0 c.args.children.now c.args.spare.now) in
    let wider = c.exchange_where_wider.ensures in
    lose-held c.args.gained.now c.args.set.now _ _ (lone-at _ 0 near _ _ c.if-above-eq0.true) c.requires.set wider.empty (λ lt. refl)
    (λ lt. let fits = own.fits lt in let left = wider.room (omega arith) in omega arith)
    ((λ j. loses (sym c.deref.ensures.value j) (paths_below (sym wider.items j)) (lone_rooms c.put_lone_in.new.spare)) ∙ c.put_lone_in.ensures.room)

-- ---- a place above

next : (n : ℕ) → ¬ (n ≡ 0) → suc (n - 1) ≡ n
next n some = omega arith

pub index-child-requires : goal.index-child-requires
index-child-requires t c =
    let one = gain-one c.args.gained.now c.args.set.now _ _ _ (next _ c.if-above-eq0.false) _ _ c.requires.gained c.requires.set c.requires.room.1 in
    let len = (out-Trie c.args.gained.now).below.ok.0 in
    omega arith

pub place_of-place-requires-clause-rise : goal.place_of-place-requires-clause-rise
place_of-place-requires-clause-rise t c = (trie-parts c.args.set.now c.deref-2.result.now c.deref-2.ensures.value c.requires.set).0

pub place_of-place-requires-clause-present : goal.place_of-place-requires-clause-present
place_of-place-requires-clause-present t c none =
    gain-present c.args.gained.now c.args.set.now _ _ _ (next _ c.if-above-eq0.false) _ _ c.requires.gained c.requires.set c.requires.room.1 c.index-child.result.now c.index-child.ensures
    (ap (child_at (element_view c.index-child.result.now.0)) (sym c.deref-2.ensures.value) ∙ none)

pub gain_lone-requires : goal.gain_lone-requires
gain_lone-requires t c =
    let d = c.index-child.result.now in
    let at : IsChildAt (element_view d.0) (out-Trie c.args.set.now).below.items c.place_of-place.result = rw c.deref-2.ensures.value at c.place_of-place.ensures in
    let own = trie-parts c.args.set.now _ refl c.requires.set in
    let gained = trie-parts c.args.gained.now _ refl c.requires.gained in
    let one = gain-one c.args.gained.now c.args.set.now _ _ _ (next _ c.if-above-eq0.false) _ _ c.requires.gained c.requires.set c.requires.room.1 in (
      search (rules, the_lemmas),
      (
        child-trie _ c.place_of-place.result c.index_mut.result.now at.within c.index_mut.ensures.value own.1,
        (
          child-trie _ 0 d (omega arith) c.index-child.ensures gained.1,
          (
            c.requires.room.0,
            gain-inner c.args.gained.now c.args.set.now _ _ _ (next _ c.if-above-eq0.false) _ _ c.requires.gained c.requires.set c.requires.room.1 d
                c.index-child.ensures c.place_of-place.result c.index_mut.result.now at c.index_mut.ensures.value,
          ),
        ),
      ),
    )

pub returns-clause-paths : goal.returns-clause-paths
returns-clause-paths t c =
    let d = c.index-child.result.now in
    let at : IsChildAt (element_view d.0) (out-Trie c.args.set.now).below.items c.place_of-place.result = rw c.deref-2.ensures.value at c.place_of-place.ensures in
    let below = c.gain_lone.ensures in
    gained-place _ c.args.gained.now c.args.set.now
    (elim c.if-gained.branch [
      | then-gained w ↦ w.own-is ∙ w.if-gained.true ∙ sym (ap (λ b. b || (out-Trie c.args.set.now).here) w.if-gained.true)
      | else-gained w ↦ w.own-is ∙ sym (ap (λ b. b || (out-Trie c.args.set.now).here) w.if-gained.false)
    ])
    (gain-gathered c.args.gained.now c.args.set.now _ _ _ (next _ c.if-above-eq0.false) _ _ c.requires.gained c.requires.set c.requires.room.1 d c.index-child.ensures
    c.place_of-place.result c.index_mut.result.now at c.index_mut.ensures.value c.gain_lone.new.set c.requires.room.0 c.gain_lone.new.children c.gain_lone.new.spare
    below.paths below.trie (below.room c.requires.room.0)).paths_are

pub returns-clause-trie : goal.returns-clause-trie
returns-clause-trie t c =
    let d = c.index-child.result.now in
    let at : IsChildAt (element_view d.0) (out-Trie c.args.set.now).below.items c.place_of-place.result = rw c.deref-2.ensures.value at c.place_of-place.ensures in
    let below = c.gain_lone.ensures in
    let gathered = gain-gathered c.args.gained.now c.args.set.now _ _ _ (next _ c.if-above-eq0.false) _ _ c.requires.gained c.requires.set c.requires.room.1 d c.index-child.ensures
    c.place_of-place.result c.index_mut.result.now at c.index_mut.ensures.value c.gain_lone.new.set c.requires.room.0 c.gain_lone.new.children c.gain_lone.new.spare
    below.paths below.trie (below.room c.requires.room.0) in
    is_trie-made _ gathered.risen gathered.tries

pub returns-clause-room : goal.returns-clause-room
returns-clause-room t c near =
    let d = c.index-child.result.now in
    let at : IsChildAt (element_view d.0) (out-Trie c.args.set.now).below.items c.place_of-place.result = rw c.deref-2.ensures.value at c.place_of-place.ensures in
    let below = c.gain_lone.ensures in
    gain-back c.args.gained.now c.args.set.now _ _ _ (next _ c.if-above-eq0.false) _ _ c.requires.gained c.requires.set c.requires.room.1 d c.index-child.ensures
    c.place_of-place.result c.index_mut.result.now at c.index_mut.ensures.value c.gain_lone.new.set near c.gain_lone.new.children c.gain_lone.new.spare
    below.paths below.trie (below.room near)
