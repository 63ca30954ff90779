use Rattle.std.proofs.Common.{◌≡◌, ℕ, List, length, Bool, true, false, refl, sym, ap, ◌∙◌}
use Rattle.std.proofs.lemmas.Map.Text.{is_eq-slice_cmp}
use Rattle.std.proofs.lemmas.Bool.{ne_eqb}
use Rattle.ssa_model.specs.definitions.Json.{same_text}
use Rattle.ssa_model.proofs.Tables.{same_text-true}
use Rattle.ssa_json.proofs.text.is_same_text.Goals as goal

pub returns-then-text-other : goal.returns-then-text-other
returns-then-text-other c = c.eq.ensures ∙ sym (is_eq-slice_cmp c.args.text.now c.args.other.now)

-- texts of different lengths are different
longer : (s t : List ℕ) → (length s ≡ length t → ⊥) → (b : Bool) → same_text s t ≡ b → false ≡ b
longer s t h true e = absurd (h (ap length (same_text-true s t e)))
longer s t h false e = refl

pub returns-else-text-other : goal.returns-else-text-other
returns-else-text-other c =
    ne_eqb _ _ c.if-text-other.false
    ∙ longer c.args.text.now c.args.other.now c.if-text-other.false _ refl
