-- The record of a set that loses some of its paths.
use Rattle.std.proofs.Common.{◌≡◌, ℕ, ◌+◌, ◌<◌, List, [], length, get_or, take, Option, Some, None, true, false, not, ◌&&◌, Bool, refl, sym, ap, ◌∙◌, subst, true≢false}
use Rattle.std.proofs.Math.Bool.{and_comm}
use Rattle.ssa_model.specs.definitions.Path.{Path}
use Rattle.ssa_model.specs.definitions.PathMap.{PathSet, has, listed, minus, paths as set_paths}
use Rattle.ssa_model.proofs.PathMaps.{has-minus, same_sets}
use Rattle.ssa_model.specs.definitions.FieldsV1.{tails}
use Rattle.ssa_path.specs.declared.element.Elem.{Elem}
use Rattle.ssa_path.specs.declared.trie.Trie.{Trie}
use Rattle.ssa_path.specs.Children.{child_at, elements, rises}
use Rattle.ssa_path.specs.View.{element_view}
use Rattle.ssa_path.specs.Trie.{is_filled, is_one_of, is_trie, paths, paths_below, IsWithin}
use Rattle.ssa_path.proofs.LyingWithin.{AreWithin, some-path, within-more}
use Rattle.ssa_path.specs.Combine.{IsCombination}
use Rattle.ssa_path.specs.declared.combine.Combination.TheVariants.{Meet}
use Rattle.ssa_turn_set.specs.declared.turn.SetDelta.{SetDelta}
use Rattle.ssa_turn_set.specs.Room.{gain_room, left, lose_room}
use Rattle.ssa_turn_set.specs.Turn.{IsBetween, IsLed, set_between, set_steps}
use Rattle.ssa_turn_set.proofs.Tails.{paths_of, tails-below}
use Rattle.ssa_turn_set.proofs.Turning.{led-between, left-paths, meets}
use Rattle.ssa_model.proofs.Lists.{has-listed}
use Rattle.ssa_model.proofs.Basics.{both-true as both}

nothing-new : (s l : Bool) → ((s && not l) && not s) ≡ false
nothing-new true true = refl
nothing-new true false = refl
nothing-new false l = refl

-- ---- whether a set has all the paths that are lost

-- one child more that is lost, all of whose paths the set has behind its element
pub has-more : (cs ds : List (Elem × Trie)) (i : ℕ) (c : Elem × Trie) (qs : List Path) → i < length cs → c ≡ get_or cs i c → rises (elements ds) ≡ true
    → is_filled c.1 ≡ true → qs ≡ tails (element_view c.0) (paths_below ds) → IsWithin (paths c.1) qs → AreWithin (take i cs) ds → AreWithin (take (i + 1) cs) ds
has-more cs ds i c qs lt is rise filled behind within before = by (child_at (element_view c.0) ds) refl
  where
    by : (o : Option Trie) → child_at (element_view c.0) ds ≡ o → AreWithin (take (i + 1) cs) ds
    by None at =
        let none = behind ∙ tails-below (element_view c.0) ds rise ∙ ap paths_of at in
        let some = some-path (paths c.1) filled in
        absurd (true≢false (sym (within some.0 some.1) ∙ ap (λ l. is_one_of l some.0) none))
    by (Some place) at =
        within-more cs ds i c place lt is rise at
        (subst (IsWithin (paths c.1)) (behind ∙ tails-below (element_view c.0) ds rise ∙ ap paths_of at) within) before

within-both : (a b : Bool) → (a ≡ true → b ≡ true) → a ≡ (a && b)
within-both true b h = sym (h refl)
within-both false b h = refl

-- where a set has all the paths that are lost, these are what it has of them
pub own-meet : (l s : Trie) → is_trie l ≡ true → IsWithin (paths l) (paths s) → IsCombination Meet l s l
own-meet l s trie within = record {
  paths_are = λ p. within-both (is_one_of (paths l) p) (is_one_of (paths s) p) (within p);
  trie = trie;
}

-- ---- the record

-- nothing comes, what goes is what the set has of the lost paths, and there is room for it
pub loss-between : (s o : Trie) (d : SetDelta) → is_trie s ≡ true → paths d.gain ≡ [] → is_trie d.gain ≡ true → IsCombination Meet o s d.lose
    → ((ps : List Path) → gain_room d.gain ps d.room.gain ≡ true) → lose_room d.lose (left (paths s) (paths d.lose)) d.room.lose ≡ true
    → IsBetween (listed (paths s)) (minus (listed (paths s)) (listed (paths o))) d
loss-between s o d trie none bare lost gain lose =
    let own : PathSet = listed (paths s) in
    let other : PathSet = listed (paths o) in
    let rest : PathSet = minus own other in
    let gained : listed (paths d.gain) ≡ minus rest own =
    ap listed none ∙ same_sets _ _ (λ p. has-listed [] p ∙ sym (has-minus rest own p ∙ ap (λ b. b && not (has own p)) (has-minus own other p)
    ∙ nothing-new (has own p) (has other p))) in
    let taken : listed (paths d.lose) ≡ minus own rest =
    same_sets _ _ (λ p.
    has-listed (paths d.lose) p ∙ lost.paths_are p ∙ and_comm (is_one_of (paths o) p) (is_one_of (paths s) p)
    ∙ (λ i. sym (has-listed (paths s) p) i && sym (has-listed (paths o) p) i) ∙ meets (has own p) (has other p)
    ∙ sym (has-minus own rest p ∙ ap (λ b. has own p && not b) (has-minus own other p))) in
    let steps : set_steps d ≡ set_between own rest = λ i. record { gain = gained i; lose = taken i } in
    let led : IsLed (set_steps d) own rest = subst (λ x. IsLed x own rest) (sym steps) (led-between own rest) in
    record {
      led = subst (IsLed (set_steps d) own) (sym led.leads) led;
      leads = led.leads;
      room = record {
        gain_trie = bare;
        lose_trie = lost.trie;
        room = both _ _ (gain (set_paths (minus own (listed (paths d.lose))))) (ap (λ l. lose_room d.lose l d.room.lose) (left-paths s d.lose trie) ∙ lose);
      };
    }

-- a record of a loss between the sets of two tries is one between equal sets
pub loss-sets : (s o : Trie) (u v : PathSet) (d : SetDelta) → listed (paths s) ≡ u → listed (paths o) ≡ v
    → IsBetween (listed (paths s)) (minus (listed (paths s)) (listed (paths o))) d → IsBetween u (minus u v) d
loss-sets s o u v d own other h = subst (λ y. IsBetween u (minus u y) d) other (subst (λ x. IsBetween x (minus x (listed (paths o))) d) own h)
