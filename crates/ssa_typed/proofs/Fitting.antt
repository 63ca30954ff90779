-- Values without faults: their items are apart, and there is no first fault.
use Rattle.std.proofs.Common.{◌≡◌, List, [], ◌∷◌, true, false, not, ◌&&◌, refl, sym, ap, ◌∙◌, true≢false, is_some}
use Rattle.std.specs.Prelude.{None, Some, option_map}
use Rattle.ssa_schema.specs.Finds.{told}
use Rattle.ssa_schema.specs.Refusals.{first_of}
use Rattle.ssa_model.specs.definitions.Json.{Text, Items}
use Rattle.ssa_model.specs.definitions.Path.{Element}
use Rattle.ssa_model.specs.definitions.Kind.{ScalarKind, Fields, FaultAt, is_among}
use Rattle.ssa_model.specs.definitions.Body.{value_order, key_order}
use Rattle.ssa_model.specs.definitions.Operations.{is_none}
use Rattle.ssa_model.specs.laws.Faultless.{ValuesFit, ItemsFit}
use Rattle.ssa_model.specs.definitions.Fitting.{are_distinct}
use Rattle.ssa_model.proofs.FaultlessParts.{values-distinct, items-distinct}
use Rattle.ssa_typed.specs.Rows.{are_apart}

-- ---- no item stands twice

-- being apart and being distinct are one test of elements
pub apart-distinct : (es : List Element) → are_apart es ≡ are_distinct es
apart-distinct [] = refl
apart-distinct (e ∷ es) = ap (λ b. not (is_among e es) && b) (apart-distinct es)

-- the values of a fitting set are apart
pub values-apart : (k : ScalarKind) (vs : Items) → ValuesFit k vs → are_apart (value_order vs) ≡ true
values-apart k vs h = apart-distinct (value_order vs) ∙ values-distinct k vs h

-- the keys of a fitting map list's items are apart
pub items-apart : (ns : List Text) (fs : Fields) (vs : Items) → ItemsFit ns fs vs → are_apart (key_order ns vs) ≡ true
items-apart ns fs vs h = apart-distinct (key_order ns vs) ∙ items-distinct ns fs vs h

-- ---- no first fault

-- where no fault is told as the first, there is none
pub no-first : (fs : List FaultAt) → None ≡ option_map told (first_of fs) → fs ≡ []
no-first [] e = refl
no-first (f ∷ fs) e = absurd (true≢false (sym (ap is_some e)))

-- where a fault is told as the first, there is one
pub one-first : (fs : List FaultAt) (t : _) → Some t ≡ option_map told (first_of fs) → is_none fs ≡ false
one-first [] t e = absurd (true≢false (ap is_some e))
one-first (f ∷ fs) t e = refl
