-- Children whose elements rise, told from the last one back.
use Rattle.std.proofs.Common.{◌≡◌, ℕ, zero, suc, List, [], ◌∷◌, drop, true, Some, Less, refl}
use Rattle.ssa_model.proofs.Basics.{both-true as both}
use Rattle.ssa_path.specs.Children.{elements, heads_order, rises}
use Rattle.ssa_path.specs.declared.element.Elem.{Elem}
use Rattle.ssa_path.proofs.Combining.{own-first}

-- those from a place on rise, where the first is below the next and the others rise
pub rising-before : {A : Type 0} (cs : List (Elem × A)) (k : ℕ) → heads_order (drop k cs) (drop (suc k) cs) ≡ Some Less
    → rises (elements (drop (suc k) cs)) ≡ true → rises (elements (drop k cs)) ≡ true
rising-before [] zero h rise = refl
rising-before [] (suc k) h rise = refl
rising-before (c ∷ cs) zero h rise = both _ _ (own-first c cs cs h rise) rise
rising-before (c ∷ cs) (suc k) h rise = rising-before cs k h rise
