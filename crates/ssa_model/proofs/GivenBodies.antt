-- The body of a value, or its first fault.
use Rattle.std.proofs.Common.{◌≡◌, ◌≤◌, ℕ, nat_lt, arith, List, [], ◌∷◌, Bool, true, false, refl, ap, ◌∙◌, subst}
use Rattle.std.proofs.lemmas.Bool.Decides.{nat_tests}
use Rattle.std.proofs.lemmas.Option.{same_Some}
use Rattle.std.specs.Prelude.{if◌then◌else◌, Result, Ok, Err}
use Rattle.std.specs.Result.{result_ok}
use Rattle.ssa_model.specs.definitions.Limits.{most_places}
use Rattle.ssa_model.specs.definitions.Json.{Json}
use Rattle.ssa_model.specs.definitions.PathMap.{size}
use Rattle.ssa_model.specs.definitions.Kind as kinds
use Rattle.ssa_model.specs.definitions.Kind.{Kind, faults}
use Rattle.ssa_model.specs.definitions.Body.{Body, flat}
use Rattle.ssa_model.specs.definitions.Operations.{too_many_paths}
use Rattle.ssa_model.specs.definitions.Answers.{Fault, refused, body_fault, body_or_fault}
use Rattle.ssa_model.proofs.Basics.{at_most}

-- what these faults of a value make of it
abbrev pub by_faults : Kind → Json → List kinds.FaultAt → Result Body Fault
by_faults kind v fs = elim fs [
  | [] ↦ if nat_lt most_places (size (flat kind v)) then Err (refused too_many_paths) else Ok (flat kind v)
  | f ∷ rest ↦ Err (body_fault f.fault f.path)
]

-- a value without faults gives its flattening, where this has no more places than a body may
pub body_or_fault-fits : (kind : Kind) (v : Json) (b : Body) → faults kind v [] ≡ [] → flat kind v ≡ b → size b ≤ most_places → body_or_fault kind v ≡ Ok b
body_or_fault-fits kind v b none is few =
    ap (by_faults kind v) none ∙ ap (λ c. if nat_lt most_places (size c) then Err (refused too_many_paths) else Ok c) is
    ∙ ap (λ t. if t then Err (refused too_many_paths) else Ok b) (at_most most_places (size b) few)

-- what is made of a value without a fault
pub record IsGivenBody (kind : Kind) (v : Json) (b : Body) : Type 0 where
  -- the value has no fault
  pub faultless : faults kind v [] ≡ []
  -- its flattening is the body
  pub is : flat kind v ≡ b
  -- the body has no more places than it may
  pub few : size b ≤ most_places

few-places : (n : ℕ) → nat_lt most_places n ≡ false → n ≤ most_places
few-places n h = grind (arith, nat_tests)

-- where a value gives a body, this is the flattening of a value without faults
pub body_or_fault-back : (kind : Kind) (v : Json) (b : Body) → body_or_fault kind v ≡ Ok b → IsGivenBody kind v b
body_or_fault-back kind v b h = by (faults kind v []) refl h
  where
    sized : (large : Bool) (c : Body) → nat_lt most_places (size c) ≡ large
        → ◌≡◌ {A = Result Body Fault} (if large then Err (refused too_many_paths) else Ok c) (Ok b) → (c ≡ b) × (size b ≤ most_places)
    sized true c few h = absurd cc
    sized false c few h =
        let same = same_Some c b (ap result_ok h) in
        (same, subst (λ x. size x ≤ most_places) same (few-places (size c) few))

    by : (fs : List kinds.FaultAt) → faults kind v [] ≡ fs → by_faults kind v fs ≡ Ok b → IsGivenBody kind v b
    by [] none h = let own = sized (nat_lt most_places (size (flat kind v))) (flat kind v) refl h in record { faultless = none; is = own.0; few = own.1 }
    by (f ∷ fs) none h = absurd cc
