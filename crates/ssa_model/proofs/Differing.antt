-- Contents that differ, differ both ways.
use Rattle.std.proofs.Common.{◌≡◌, Bool, true, false, not, Option, Some, None, refl, sym, ap, ◌∙◌, true≢false}
use Rattle.std.specs.Cmp.Lexicographic.{pointwise}
use Rattle.std.specs.Prelude.{is_some}
use Rattle.ssa_model.specs.definitions.Json.{same_scalar, same_json}
use Rattle.ssa_model.specs.definitions.Path.{same_element}
use Rattle.ssa_model.specs.definitions.Body.{Content, leaf, atom, list_branch, is_other_leaf}
use Rattle.ssa_model.specs.definitions.Record.{common, is_reordered}
use Rattle.ssa_model.proofs.Fitting.{same_element-true}
use Rattle.ssa_model.proofs.Scalars.{same_scalar-true}
use Rattle.ssa_model.proofs.SameValues.{same_json-true}
use Rattle.ssa_model.proofs.Tests.{same_tests, symmetric, pointwise-true}

-- a test of two contents answers alike both ways, and passes only where both are there
pub record IsBothWays (test : Option Content → Option Content → Bool) : Type 0 where
  -- it answers alike both ways
  pub same : (a b : Option Content) → test a b ≡ test b a
  -- where it passes, the first content is there
  pub first : (a b : Option Content) → test a b ≡ true → is_some a ≡ true
  -- where it passes, the second content is there
  pub second : (a b : Option Content) → test a b ≡ true → is_some b ≡ true

both_ways : (test : Option Content → Option Content → Bool) → ((a b : Option Content) → test a b ≡ true → test b a ≡ true)
    → ((b : Option Content) → test None b ≡ false) → IsBothWays test
both_ways test back none = record {
  same = λ a b. same_tests (test a b) (test b a) (back a b) (back b a);
  first = there;
  second = λ a b h. there b a (back a b h);
}
  where
    there : (a b : Option Content) → test a b ≡ true → is_some a ≡ true
    there (Some c) b h = refl
    there None b h = sym (none b) ∙ h

other_leaf-back : (a b : Option Content) → is_other_leaf a b ≡ true → is_other_leaf b a ≡ true
other_leaf-back (Some (leaf x)) (Some (leaf y)) h = ap not (symmetric same_scalar same_scalar-true y x) ∙ h
other_leaf-back (Some (atom x)) (Some (atom y)) h = ap not (symmetric same_json same_json-true y x) ∙ h
other_leaf-back _ _ h = absurd (true≢false (sym h))

-- whether leaves differ is such a test
pub other_leaves : IsBothWays is_other_leaf
other_leaves = both_ways is_other_leaf other_leaf-back (λ b. refl)

reordered-back : (a b : Option Content) → is_reordered a b ≡ true → is_reordered b a ≡ true
reordered-back (Some (list_branch es)) (Some (list_branch fs)) h =
    ap not (symmetric (pointwise same_element) (pointwise-true same_element same_element-true) (common fs es) (common es fs)) ∙ h
reordered-back _ _ h = absurd (true≢false (sym h))

-- whether the common items of lists stand in another order is such a test
pub reordered_lists : IsBothWays is_reordered
reordered_lists = both_ways is_reordered reordered-back (λ b. refl)
