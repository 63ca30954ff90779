use Rattle.std.proofs.Common.{rules, ◌≡◌, ◌-◌, ◌+◌, ◌&&◌, true, false, not, suc, ℕ, [], ◌∷◌, ◌++◌, ap, sym, refl, ◌∙◌, arith}
use Rattle.std.proofs.Common.{length, set, take, drop, get_or-set_same}
use Rattle.ssa_path.specs.declared.trie.Trie.TheViews.{out-Trie}
use Rattle.ssa_path.specs.declared.element.Elem.{Elem}
use Rattle.ssa_path.specs.declared.trie.Trie.{Trie, the_lemmas}
use Rattle.ssa_path.specs.Children.{child_at, elements, rises, IsChildAt}
use Rattle.ssa_path.specs.Trie.{are_filled_tries, is_filled, is_one_of, paths_below}
use Rattle.ssa_path.specs.View.{element_view}
use Rattle.ssa_path.proofs.Levels.{is_trie-made, trie-parts}
use Rattle.ssa_turn_set.specs.declared.room.Room.TheVariants.{Lone}
use Rattle.ssa_turn_set.specs.declared.spare.Spare.TheVariants.{Kept, Nothing}
use Rattle.ssa_turn_set.specs.Room.{children, lone_rooms, loses, own_children, rooms_of, width}
use Rattle.ssa_turn_set.specs.Siblings.{AreTaken}
use Rattle.ssa_turn_set.proofs.LoneStaying.{fewer, lose-back, lose-goes, lose-inner, lose-one, lose-present, lose-short, lose-stays}
use Rattle.ssa_turn_set.proofs.Losing.{lost-place, lost-room, start-form, start-within, taken-same}
use Rattle.ssa_turn_set.proofs.Rooms.{lone-at, lone-out}
use Rattle.ssa_turn_set.proofs.lose.+lose_lone_below.Goals.{then-own, else-own, After-has_paths, Else-above-eq0, Joined-own}
use Rattle.ssa_turn_set.proofs.lose.+lose_lone_below.Goals as goal

-- the place's own path goes where it is lost
own-goes : (t : ℕ) (c : Joined-own t) → c.if-own.own ≡ ((out-Trie c.args.set.now).here && not (out-Trie c.args.lost.now).here)
own-goes t c =
    elim c.if-own.branch [
      | then-own w ↦ w.own-is ∙ sym (ap (λ b. b && not (out-Trie c.args.lost.now).here) w.if-own.true)
      | else-own w ↦ w.own-is ∙ w.if-own.false ∙ sym (ap (λ b. b && not (out-Trie c.args.lost.now).here) w.if-own.false)
    ]

-- ---- the child that goes, or stays

pub take_lone_out-requires-clause-rise : goal.take_lone_out-requires-clause-rise
take_lone_out-requires-clause-rise t c = (trie-parts c.args.set.now _ refl c.requires.set).0

pub take_lone_out-requires-clause-lost_rise : goal.take_lone_out-requires-clause-lost_rise
take_lone_out-requires-clause-lost_rise t c = (trie-parts c.args.lost.now c.deref.result.now c.deref.ensures.value c.requires.lost).0

pub take_lone_out-requires-clause-within : goal.take_lone_out-requires-clause-within
take_lone_out-requires-clause-within t c p k =
    start-within c.args.lost.now c.args.set.now c.requires.within p (ap (λ l. is_one_of (paths_below l) p) (sym c.deref.ensures.value) ∙ k)

pub take_lone_out-requires-clause-form : goal.take_lone_out-requires-clause-form
take_lone_out-requires-clause-form t c =
    let form = start-form c.args.lost.now c.requires.form.0 _ c.requires.form.1 in
    let is = lone-at c.args.above 0 c.args.near c.args.children.now c.args.spare.now c.if-above-eq0.true in
    (c.requires.form.0, (λ j. loses (c.deref.ensures.value j) c.requires.form.0 (rooms_of (sym is j))) ∙ form.1)

pub exchange_where_short-requires-clause-empty : goal.exchange_where_short-requires-clause-empty
exchange_where_short-requires-clause-empty t c =
    ap own_children (sym (lone-out _ _ _ _)) ∙ (start-form c.args.lost.now c.requires.form.0 _ c.requires.form.1).0

pub returns-then-above-eq0-clause-paths : goal.returns-then-above-eq0-clause-paths
returns-then-above-eq0-clause-paths t c =
    let taken = c.take_lone_out.ensures.taken in
    let now = c.exchange_where_short.ensures.items in
    lost-place _ c.args.lost.now c.args.set.now
    (own-goes t (goal.at.returns-then-above-eq0-clause-paths t c).Joined-own)
    (λ p. ap (λ l. is_one_of (paths_below l) p) now ∙ taken.paths_are p
    ∙ ap (λ l. is_one_of (paths_below (out-Trie c.args.set.now).below.items) p && not (is_one_of (paths_below l) p)) c.deref.ensures.value)

pub returns-then-above-eq0-clause-trie : goal.returns-then-above-eq0-clause-trie
returns-then-above-eq0-clause-trie t c =
    let now = c.exchange_where_short.ensures.items in
    is_trie-made _ (ap (λ l. rises (elements l)) now ∙ c.take_lone_out.ensures.taken.risen) (ap are_filled_tries now ∙ c.take_lone_out.ensures.taken.tries)

pub returns-then-above-eq0-clause-room : goal.returns-then-above-eq0-clause-room
returns-then-above-eq0-clause-room t c =
    let ds = (out-Trie c.args.lost.now).below.items in
    let is = lone-at c.args.above 0 c.args.near c.args.children.now c.args.spare.now c.if-above-eq0.true in
    let rs = lone_rooms c.args.spare.now in
    let news = lone_rooms c.take_lone_out.new.spare in
    let taken : AreTaken ds (out-Trie c.args.set.now).below.items rs c.exchange_where_short.new.items.items news =
    taken-same _ ds _ _ _ rs rs news c.deref.ensures.value refl (sym c.exchange_where_short.ensures.items) c.take_lone_out.ensures.taken in
    let old = (out-Trie c.args.set.now).below.ok.0 in
    let told = c.len-before.ensures in
    let now = c.take_lone_out.new.below.ok.0 in
    let same = ap length c.exchange_where_short.ensures.items in
    let wide = ap width is in
    let counted = taken.len in
    lost-room c.args.lost.now _ (Lone c.args.above c.args.near c.args.children.now c.args.spare.now) _ _
    (lone-at _ 0 _ _ _ c.if-above-eq0.true)
    (returns-then-above-eq0-clause-trie t c) c.exchange_where_short.ensures.empty
    (λ place fits. let left = c.exchange_where_short.ensures.room (omega arith) in (refl, omega arith))
    (λ k. taken.room (ap (λ x. loses ds (paths_below c.exchange_where_short.new.items.items) (rooms_of x)) (sym is) ∙ k))

-- ---- a place above

next : (n : ℕ) → ¬ (n ≡ 0) → suc (n - 1) ≡ n
next n some = omega arith

-- the lost set has one child there
one-child : (t : ℕ) (c : Else-above-eq0 t) → length (children c.args.lost.now) ≡ 1
one-child t c =
    lose-one _ _ _ _ _ (next _ c.if-above-eq0.false) _ _ c.requires.lost c.requires.set c.requires.within _ c.requires.form.1

pub index-child-requires : goal.index-child-requires
index-child-requires t c =
    let one = one-child t (goal.at.index-child-requires t c).Else-above-eq0 in
    let len = (out-Trie c.args.lost.now).below.ok.0 in
    omega arith

pub place_of-place-requires-clause-rise : goal.place_of-place-requires-clause-rise
place_of-place-requires-clause-rise t c = (trie-parts c.args.set.now c.deref-2.result.now c.deref-2.ensures.value c.requires.set).0

pub place_of-place-requires-clause-present : goal.place_of-place-requires-clause-present
place_of-place-requires-clause-present t c none =
    lose-present _ _ _ _ _ (next _ c.if-above-eq0.false) _ _ c.requires.lost c.requires.set c.requires.within _ c.requires.form.1
    c.index-child.result.now c.index-child.ensures
    (ap (child_at (element_view c.index-child.result.now.0)) (sym c.deref-2.ensures.value) ∙ none)

pub lose_lone_below-requires : goal.lose_lone_below-requires
lose_lone_below-requires t c =
    let asked = lose-inner _ _ _ _ _ (next _ c.if-above-eq0.false) _ _ c.requires.lost c.requires.set c.requires.within _ c.requires.form.1
    c.index-child.result.now c.index-child.ensures c.place_of-place.result c.index_mut.result.now
    (rw c.deref-2.ensures.value at c.place_of-place.ensures) c.index_mut.ensures.value in
    let one = one-child t (goal.at.lose_lone_below-requires t c).Else-above-eq0 in (
      search (rules, the_lemmas),
      (asked.0, (asked.1, (asked.2, asked.3))),
    )

-- ---- the child, once the rest is taken out below it

-- it stands at the place that was found
stands : (t : ℕ) (c : After-has_paths t) → IsChildAt (element_view c.index-child.result.now.0) (children c.args.set.now) c.place_of-place.result
stands t c = rw c.deref-2.ensures.value at c.place_of-place.ensures

-- it was asked whether it has some path left
told : (t : ℕ) (c : After-has_paths t) → is_filled c.lose_lone_below.new.set ≡ c.has_paths.result
told t c =
    sym (ap (λ (x : Elem × Trie). is_filled x.1) (c.index.ensures ∙ get_or-set_same (children c.args.set.now) c.place_of-place.result
    (c.index_mut.result.now.0, c.lose_lone_below.new.set) c.index.result.now (stands t c).within))
    ∙ sym c.has_paths.ensures

-- where it has, it stays among the others
stays : (t : ℕ) (c : After-has_paths t) → c.has_paths.result ≡ true → AreTaken (children c.args.lost.now) (children c.args.set.now)
    ((Nothing, Lone (c.args.above - 1) c.args.near c.args.children.now c.args.spare.now) ∷ [])
    (set (children c.args.set.now) c.place_of-place.result (c.index_mut.result.now.0, c.lose_lone_below.new.set))
    ((Nothing, Lone (c.args.above - 1) c.args.near c.lose_lone_below.new.children c.lose_lone_below.new.spare) ∷ [])
stays t c some =
    lose-stays _ _ _ _ _ (next _ c.if-above-eq0.false) _ _ c.requires.lost c.requires.set c.requires.within _ c.requires.form.1
    _ c.index-child.ensures _ _ (stands t c) c.index_mut.ensures.value
    _ _ _ c.lose_lone_below.ensures.paths c.lose_lone_below.ensures.trie c.lose_lone_below.ensures.room (told t c ∙ some)

-- where it has none, it goes
goes : (t : ℕ) (c : After-has_paths t) → c.has_paths.result ≡ false → AreTaken (children c.args.lost.now) (children c.args.set.now)
    ((Nothing, Lone (c.args.above - 1) c.args.near c.args.children.now c.args.spare.now) ∷ [])
    (take c.place_of-place.result (set (children c.args.set.now) c.place_of-place.result (c.index_mut.result.now.0, c.lose_lone_below.new.set))
    ++ drop (c.place_of-place.result + 1) (set (children c.args.set.now) c.place_of-place.result (c.index_mut.result.now.0, c.lose_lone_below.new.set)))
    ((Kept c.index-child.result.now.0, Lone (c.args.above - 1) c.args.near c.lose_lone_below.new.children c.lose_lone_below.new.spare) ∷ [])
goes t c none =
    lose-goes _ _ _ _ _ (next _ c.if-above-eq0.false) _ _ c.requires.lost c.requires.set c.requires.within _ c.requires.form.1
    _ c.index-child.ensures _ _ (stands t c) c.index_mut.ensures.value
    _ _ _ c.lose_lone_below.ensures.paths c.lose_lone_below.ensures.trie c.lose_lone_below.ensures.room (told t c ∙ none)

pub returns-else-not-has_paths-clause-paths : goal.returns-else-not-has_paths-clause-paths
returns-else-not-has_paths-clause-paths t c =
    lost-place _ c.args.lost.now c.args.set.now (own-goes t (goal.at.returns-else-not-has_paths-clause-paths t c).Joined-own)
    (stays t (goal.at.returns-else-not-has_paths-clause-paths t c).After-has_paths c.if-not-has_paths.false).paths_are

pub returns-else-not-has_paths-clause-trie : goal.returns-else-not-has_paths-clause-trie
returns-else-not-has_paths-clause-trie t c =
    let taken = stays t (goal.at.returns-else-not-has_paths-clause-trie t c).After-has_paths c.if-not-has_paths.false in
    is_trie-made _ taken.risen taken.tries

pub returns-else-not-has_paths-clause-room : goal.returns-else-not-has_paths-clause-room
returns-else-not-has_paths-clause-room t c k =
    lose-back _ _ _ _ _ (next _ c.if-above-eq0.false) _ _ _ _ (returns-else-not-has_paths-clause-trie t c) _
    (stays t (goal.at.returns-else-not-has_paths-clause-room t c).After-has_paths c.if-not-has_paths.false) k

pub returns-then-not-has_paths-clause-paths : goal.returns-then-not-has_paths-clause-paths
returns-then-not-has_paths-clause-paths t c =
    let taken = goes t (goal.at.returns-then-not-has_paths-clause-paths t c).After-has_paths c.if-not-has_paths.true in
    lost-place _ c.args.lost.now c.args.set.now (own-goes t (goal.at.returns-then-not-has_paths-clause-paths t c).Joined-own)
    (λ p. ap (λ l. is_one_of (paths_below l) p) c.remove.ensures.by_index.2 ∙ taken.paths_are p)

pub returns-then-not-has_paths-clause-trie : goal.returns-then-not-has_paths-clause-trie
returns-then-not-has_paths-clause-trie t c =
    let taken = goes t (goal.at.returns-then-not-has_paths-clause-trie t c).After-has_paths c.if-not-has_paths.true in
    let removed = c.remove.ensures.by_index.2 in
    is_trie-made _ (ap (λ l. rises (elements l)) removed ∙ taken.risen) (ap are_filled_tries removed ∙ taken.tries)

pub returns-then-not-has_paths-clause-room : goal.returns-then-not-has_paths-clause-room
returns-then-not-has_paths-clause-room t c k =
    let after = (goal.at.returns-then-not-has_paths-clause-room t c).After-has_paths in
    absurd (lose-short _ _ _ _ _ (next _ c.if-above-eq0.false) _ c.lose_lone_below.new.children _ c.lose_lone_below.new.spare
    (returns-then-not-has_paths-clause-trie t c) _ _ _ _ c.remove.ensures.by_index.2 (goes t after c.if-not-has_paths.true)
    (fewer _ c.place_of-place.result _ (stands t after).within) k)
