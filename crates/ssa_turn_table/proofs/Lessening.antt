-- Whether a set that loses paths is another set.
use Rattle.std.proofs.Common.{◌≡◌, true, false, not, Bool, refl, sym, ap, ◌∙◌, true≢false}
use Rattle.ssa_model.specs.definitions.Path.{Path}
use Rattle.ssa_model.specs.definitions.PathMap.{PathSet, has, is_empty, minus, same_set}
use Rattle.ssa_model.proofs.FittingTables.{same_set-itself}
use Rattle.ssa_model.proofs.PathMaps.{has-minus, same_set-true, same_sets}
use Rattle.ssa_model.proofs.Tables.{apart_by}
use Rattle.ssa_model.proofs.TakenTables.{none-left}
use Rattle.ssa_path.specs.Trie.{has_some, paths}
use Rattle.ssa_path.proofs.Orders.{both_first}
use Rattle.ssa_path.proofs.Sets.{empty-listed}
use Rattle.ssa_turn_set.specs.declared.turn.SetDelta.{SetDelta}
use Rattle.ssa_turn_set.specs.Turn.{SetSteps, set_between, set_steps}
use Rattle.ssa_turn_table.proofs.Staying.{minus-itself}

same-by : (b : Bool) → (s t : PathSet) → is_empty (minus s t) ≡ b → ((p : Path) → has t p ≡ true → has s p ≡ true) → b ≡ same_set s t
same-by true s t none below =
    let same : s ≡ t = same_sets s t (λ p. alike (has s p) (has t p) (none-left s t none p) (below p)) in
    sym (ap (λ x. same_set s x) (sym same) ∙ same_set-itself s)
  where
    alike : (a b : Bool) → (a ≡ true → b ≡ true) → (b ≡ true → a ≡ true) → a ≡ b
    alike true b f g = sym (f refl)
    alike false true f g = g refl
    alike false false f g = refl
same-by false s t some below =
    sym (apart_by (same_set s t) (λ same. true≢false (sym (sym (ap (λ x. is_empty (minus s x)) (same_set-true s t same)) ∙ ap is_empty (sym (minus-itself s)))
    ∙ some)))

-- a set that loses paths stays where the record loses none
pub lessened : (s l : PathSet) (d : SetDelta) → set_steps d ≡ set_between s (minus s l) → not (has_some (paths d.lose)) ≡ same_set s (minus s l)
lessened s l d steps =
    sym (empty-listed (paths d.lose)) ∙ ap (λ (x : SetSteps). is_empty x.lose) steps
    ∙ same-by (is_empty (minus s (minus s l))) s (minus s l) refl (λ p there. both_first (has s p) (not (has l p)) (sym (has-minus s l p) ∙ there))
