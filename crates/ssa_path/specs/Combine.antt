-- Two sets of paths put together.
use Rattle.std.specs.Prelude.{◌≡◌, List, [], ◌∷◌, ◌++◌, Bool, true, not, ◌&&◌, ◌||◌}
use Rattle.std.specs.Bool.{MatchBool}
use Rattle.std.specs.List.{list_any}
use Rattle.ssa_model.specs.definitions.Path.{Element, Path, same_path, under}
use Rattle.ssa_path.specs.declared.combine.Combination.{Combination}
use Rattle.ssa_path.specs.declared.combine.Combination.TheVariants.{Union, Minus, Meet, WithoutOver, Over}
use Rattle.ssa_path.specs.declared.element.Elem.{Elem}
use Rattle.ssa_path.specs.declared.trie.Trie.{Trie}
use Rattle.ssa_path.specs.Children.{elements, is_below, rises}
use Rattle.ssa_path.specs.View.{element_view}
use Rattle.ssa_path.specs.Trie.{is_one_of, paths, paths_below, is_trie, is_filled, are_filled_tries, IsCopy}

-- the path q of the other set has a say in whether p is kept
abbrev pub concerns : Combination → Path → Path → Bool
concerns Union p q = same_path p q
concerns Minus p q = same_path p q
concerns Meet p q = same_path p q
concerns WithoutOver p q = under p q
concerns Over p q = under p q

abbrev pub is_concerned : Combination → List Path → Path → Bool
is_concerned how qs p = list_any (concerns how p) qs

-- whether the combination has a path that the one set has or lacks, and that the other concerns or not
abbrev pub keeps : Combination → Bool → Bool → Bool
keeps Union own other = own || other
keeps Minus own other = own && not other
keeps Meet own other = own && other
keeps WithoutOver own other = own && not other
keeps Over own other = own && other

pub record IsCombination (how : Combination) (own other t : Trie) : Type 0 where
  pub paths_are : (p : Path) → is_one_of (paths t) p ≡ keeps how (is_one_of (paths own) p) (is_concerned how (paths other) p)
  pub trie : is_trie t ≡ true

-- these children have what the combination keeps of those of two lists
pub record IsCombined (how : Combination) (cs ds us : List (Elem × Trie)) : Type 0 where
  pub paths_are : (e : Element) (p : Path) → is_one_of (paths_below us) (e ∷ p)
      ≡ keeps how (is_one_of (paths_below cs) (e ∷ p)) (is_concerned how (paths_below ds) (e ∷ p))
  pub risen : rises (elements us) ≡ true
  pub tries : are_filled_tries us ≡ true
  pub lower : (e : Element) → is_below e (elements cs) ≡ true → is_below e (elements ds) ≡ true → is_below e (elements us) ≡ true

-- one more child, a copy, or none
abbrev pub IsKept : Bool → Elem × Trie → List (Elem × Trie) → List (Elem × Trie) → Type 0
IsKept kept c old new = MatchBool kept ((u : Elem × Trie) × IsCopy c u × (new ≡ old ++ u ∷ [])) (new ≡ old)

-- one more child, where it has some path
abbrev pub IsGrown : Element → Trie → List (Elem × Trie) → List (Elem × Trie) → Type 0
IsGrown e t old new = MatchBool (is_filled t) ((d : Elem) × (element_view d ≡ e) × (new ≡ old ++ (d, t) ∷ [])) (new ≡ old)
