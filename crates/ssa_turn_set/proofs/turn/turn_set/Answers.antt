use Rattle.std.proofs.Common.{◌≡◌, true, ap, sym, ◌∙◌, subst}
use Rattle.ssa_model.specs.definitions.Path.{Path}
use Rattle.ssa_model.specs.definitions.PathMap.{listed, minus, union, paths as set_paths}
use Rattle.ssa_path.specs.Trie.{is_one_of, paths}
use Rattle.ssa_path.proofs.Orders.{both_first, both_second}
use Rattle.ssa_turn_set.specs.Room.{gain_room, lose_room}
use Rattle.ssa_turn_set.specs.Turn.{SetFits, set_steps, set_back, set_target}
use Rattle.ssa_turn_set.proofs.Turning.{fits-back, target-back, middle-back, lost-set, gained-set, listed-paths, within-sets}
use Rattle.ssa_turn_set.proofs.turn.turn_set.Goals as goal
use Rattle.ssa_model.proofs.Basics.{both-true as both}

pub lose-requires-clause-within : goal.lose-requires-clause-within
lose-requires-clause-within c =
    subst (λ t. (p : Path) → is_one_of (paths t) p ≡ true → is_one_of (paths c.args.set.now) p ≡ true) (sym c.as_trie.ensures)
    (within-sets c.args.delta.now.lose c.args.set.now c.requires.fits.has_lost)

pub gain-requires-clause-room : goal.gain-requires-clause-room
gain-requires-clause-room c =
    let d = c.args.delta.now in
    let s = listed (paths c.args.set.now) in
    let t = c.lose.new.set in
    let left = lost-set c.as_trie.result.now c.args.set.now t c.lose.ensures.paths c.lose.ensures.trie in
    let middle : paths t ≡ set_paths (minus s (listed (paths d.lose))) = sym (listed-paths t c.lose.ensures.trie)
    ∙ ap set_paths (left ∙ ap (λ l. minus s (listed (paths l))) c.as_trie.ensures) in
    (λ i. gain_room (c.as_trie-2.ensures i) (middle i) d.room.gain) ∙ both_first _ _ c.requires.room

pub returns-clause-value : goal.returns-clause-value
returns-clause-value c =
    let s = listed (paths c.args.set.now) in
    let t = c.lose.new.set in
    let left = lost-set c.as_trie.result.now c.args.set.now t c.lose.ensures.paths c.lose.ensures.trie in
    let full = gained-set c.as_trie-2.result.now t c.gain.new.set c.gain.ensures.paths c.gain.ensures.trie in
    full ∙ (λ i. union ((left ∙ ap (λ l. minus s (listed (paths l))) c.as_trie.ensures) i) (listed (paths (c.as_trie-2.ensures i))))

turned_steps : (c : goal.After-swap-2) → set_steps record {
  gain = c.swap.new.x;
  lose = c.swap.new.y;
  room = record { gain = c.swap-2.new.x; lose = c.swap-2.new.y };
} ≡ set_back (set_steps c.args.delta.now)
turned_steps c = λ i. record { gain = listed (paths (c.swap.ensures.x_after i)); lose = listed (paths (c.swap.ensures.y_after i)) }

pub returns-clause-back : goal.returns-clause-back
returns-clause-back c =
    let s = listed (paths c.args.set.now) in
    let d = set_steps c.args.delta.now in
    let first : SetFits (set_back d) (listed (paths c.gain.new.set)) =
    subst (SetFits (set_back d)) (sym (returns-clause-value c)) (fits-back d s c.requires.fits) in
    subst (λ e. SetFits e (listed (paths c.gain.new.set))) (sym (turned_steps c)) first

pub returns-clause-leads_back : goal.returns-clause-leads_back
returns-clause-leads_back c = (λ i. set_target (turned_steps c i) (returns-clause-value c i))
    ∙ target-back (set_steps c.args.delta.now) (listed (paths c.args.set.now)) c.requires.fits

pub returns-clause-room : goal.returns-clause-room
returns-clause-room c =
    let d = c.args.delta.now in
    let s = listed (paths c.args.set.now) in
    let t = c.lose.new.set in
    let left = lost-set c.as_trie.result.now c.args.set.now t c.lose.ensures.paths c.lose.ensures.trie in
    let middle : paths t ≡ set_paths (minus s (listed (paths d.lose))) = sym (listed-paths t c.lose.ensures.trie)
    ∙ ap set_paths (left ∙ ap (λ l. minus s (listed (paths l))) c.as_trie.ensures) in
    let ps : set_paths (minus (listed (paths c.gain.new.set)) (listed (paths c.swap.new.y))) ≡ paths t =
    (λ i. set_paths (minus (returns-clause-value c i) (listed (paths (c.swap.ensures.y_after i)))))
    ∙ ap set_paths (middle-back (set_steps d) s c.requires.fits) ∙ sym middle in
    let lost : lose_room c.as_trie.result.now (paths t) d.room.lose ≡ true = (λ i. lose_room (c.as_trie.ensures i) (middle i) d.room.lose)
    ∙ both_second (gain_room d.gain (set_paths (minus s (listed (paths d.lose)))) d.room.gain) _ c.requires.room in
    both _ _
    ((λ i. gain_room ((c.swap.ensures.x_after ∙ sym c.as_trie.ensures) i) (ps i) (c.swap-2.ensures.x_after i)) ∙ c.lose.ensures.room lost)
    ((λ i. lose_room ((c.swap.ensures.y_after ∙ sym c.as_trie-2.ensures) i) (ps i) (c.swap-2.ensures.y_after i)) ∙ c.gain.ensures.room)
