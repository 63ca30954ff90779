-- What is known of the parts of an option that is there.
use Rattle.std.proofs.Common.{◌≡◌, Bool, true, false, Option, Some, None, option_map, option_and_then, refl}
use Rattle.std.proofs.lemmas.Option.{same_Some, none-some}
use Rattle.std.specs.Prelude.{if◌then◌else◌}
use Rattle.ssa_model.specs.definitions.BenchOfStates.{given_if}

-- what is given is the value, and the test holds
pub given-back : {X : Type 0} (b : Bool) (x y : X) → given_if b x ≡ Some y → (b ≡ true) × (x ≡ y)
given-back true x y h = (refl, same_Some x y h)
given-back false x y h = absurd (none-some y h)

-- what comes behind a test is there
pub tested-back : {X : Type 0} (b : Bool) (o : Option X) (y : X) → (if b then o else None) ≡ Some y → o ≡ Some y
tested-back true o y h = h
tested-back false o y h = absurd (none-some y h)

-- what is made of a value comes from one that is there
pub and_then-back : {X Y : Type 0} (f : X → Option Y) (o : Option X) (y : Y) → option_and_then f o ≡ Some y → (x : X) × (o ≡ Some x) × (f x ≡ Some y)
and_then-back f (Some x) y h = (x, refl, h)
and_then-back f None y h = absurd (none-some y h)

-- what a value is turned into comes from one that is there
pub map-back : {X Y : Type 0} (f : X → Y) (o : Option X) (y : Y) → option_map f o ≡ Some y → (x : X) × (o ≡ Some x) × (f x ≡ y)
map-back f (Some x) y h = (x, refl, same_Some (f x) y h)
map-back f None y h = absurd (none-some y h)
