-- A set that stays, and what becomes of its entry.
use Rattle.std.proofs.Common.{◌≡◌, List, [], ◌∷◌, true, ◌&&◌, Some, None, refl, ap, sym, ◌∙◌}
use Rattle.std.specs.Cmp.Lexicographic.{pointwise}
use Rattle.std.specs.Prelude.{if◌then◌else◌}
use Rattle.ssa_model.specs.definitions.Json.{Text, same_text}
use Rattle.ssa_model.specs.definitions.Path.{Path, same_path}
use Rattle.ssa_model.specs.definitions.PathMap.{PathSet, has, listed, minus, paths as set_paths}
use Rattle.ssa_model.specs.definitions.Record.{change_of, change_to, is_unchanged}
use Rattle.ssa_model.specs.definitions.Table.{Entry}
use Rattle.ssa_model.proofs.PathMaps.{has-minus, same_path-itself, same_sets}
use Rattle.ssa_model.proofs.Tables.{manager-itself, text-itself}
use Rattle.ssa_path.specs.declared.trie.Trie.{Trie}
use Rattle.ssa_path.specs.declared.trie.Trie.TheOpen.{Trie-F}
use Rattle.ssa_path.specs.declared.trie.Trie.TheViews.{roll-Trie}
use Rattle.ssa_path.specs.Trie.{paths}
use Rattle.ssa_merge.proofs.GivenUp.{never}
use Rattle.ssa_merge.specs.TableChanges.{changed_entry}
use Rattle.ssa_merge.specs.declared.table_change.EntryChange.TheVariants.{Stays}
use Rattle.ssa_turn_set.specs.declared.room.Room.TheVariants.{Nothing}
use Rattle.ssa_turn_set.specs.Turn.{IsBetween, SetSteps, set_between, set_target}
use Rattle.ssa_turn_set.proofs.Bare.{IsBare, bare-gain, bare-lose, bare-paths, bare-trie}
use Rattle.ssa_turn_set.proofs.Turning.{led-between}
use Rattle.ssa_turn_table.specs.Changing.{change_in, owning}
use Rattle.ssa_turn_table.proofs.Changes.{led-steps}
use Rattle.ssa_model.proofs.Lists.{has-listed}
use Rattle.ssa_model.proofs.Basics.{both-true as both}

-- ---- its record

-- a set without itself has no path
pub minus-itself : (s : PathSet) → listed [] ≡ minus s s
minus-itself s = same_sets _ _ (λ p. has-listed [] p ∙ sym (has-minus s s p ∙ never (has s p)))

-- nothing is gained and lost, and no room is needed
pub stays-between : (x y : Trie-F Trie) → IsBare x → IsBare y
    → (s : PathSet) → IsBetween s s (record { gain = roll-Trie x; lose = roll-Trie y; room = record { gain = Nothing; lose = Nothing } })
stays-between x y bare_x bare_y s =
    let d : SetSteps = record { gain = listed (paths (roll-Trie x)); lose = listed (paths (roll-Trie y)) } in
    let gained = ap listed (bare-paths x bare_x) ∙ minus-itself s in
    let lost = ap listed (bare-paths y bare_y) ∙ minus-itself s in
    let steps : d ≡ set_between s s = λ i. record { gain = gained i; lose = lost i } in
    let without = set_paths (minus s d.lose) in
    record {
      led = led-steps d s s steps;
      leads = ap (λ (e : SetSteps). set_target e s) steps ∙ (led-between s s).leads;
      room = record {
        gain_trie = bare-trie x bare_x;
        lose_trie = bare-trie y bare_y;
        room = both _ _ (bare-gain x bare_x without) (bare-lose y bare_y without);
      };
    }

-- ---- its entry

paths-themselves : (ps : List Path) → pointwise same_path ps ps ≡ true
paths-themselves [] = refl
paths-themselves (p ∷ ps) = λ i. same_path-itself p i && paths-themselves ps i

-- of an entry whose set stays the moment alone tells whether it changes
pub moment-tells : (e : Entry) (at : Text) → is_unchanged e (owning e e.owned at) ≡ same_text e.moment at
moment-tells e at = ap (λ b. b && same_text e.moment at) (paths-themselves (set_paths e.owned))

-- an entry that keeps its set and its moment has no change
pub renewed-none : (e : Entry) (at : Text) → same_text e.moment at ≡ true → None ≡ change_of e (Some (owning e e.owned at))
renewed-none e at same = sym (ap (λ b. if b then None else Some (change_to e (owning e e.owned at))) (moment-tells e at ∙ same))

-- the entry of a table of one is the one of its manager
pub lone-owning : (e : Entry) (s : PathSet) (at : Text) → change_in (owning e s at ∷ []) e ≡ change_of e (Some (owning e s at))
lone-owning e s at = ap (λ b. change_of e (if b then Some (owning e s at) else None)) (manager-itself e.manager)

-- an entry that stays has no change
pub stays-none : (e : Entry) → None ≡ change_in (changed_entry Stays e) e
stays-none e = renewed-none e e.moment (text-itself e.moment) ∙ sym (lone-owning e e.owned e.moment)
