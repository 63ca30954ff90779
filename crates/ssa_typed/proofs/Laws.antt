-- Small laws of tests and options.
use Rattle.std.proofs.Common.{◌≡◌, Option, Some, None, sym, ap, true≢false}
use Rattle.std.specs.Prelude.{is_some}

-- nothing is not something
pub none≢some : {A : Type 0} {x : A} → ◌≡◌ {A = Option A} None (Some x) → ⊥
none≢some e = true≢false (sym (ap is_some e))
