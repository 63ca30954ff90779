-- The records of a valid history hold no more than the facts in which their states differ.
use Rattle.std.proofs.Common.{◌≡◌, ℕ, ◌+◌, ◌-◌, ◌^◌, ◌≤◌, min, length, Bool, true, false, Option, Some, None, option_map, sym, arith}
use Rattle.std.proofs.lemmas.Option.{none-some, same_Some}
use Rattle.std.specs.Prelude.{IfSome, nat_lt, if◌then◌else◌}
use Rattle.ssa_model.specs.definitions.Facts.{record_size}
use Rattle.ssa_model.specs.definitions.History.{Timeline}
use Rattle.ssa_model.specs.definitions.HistoryRecords.{kept_facts, kept_from, kept_size, kept_to}
use Rattle.ssa_model.specs.definitions.Kind.{Kind}
use Rattle.ssa_model.specs.definitions.Record.{record_of}
use Rattle.ssa_model.specs.definitions.Valid.{AllValid}
use Rattle.ssa_model.specs.laws.RecordSizes.{SizeBound}
use Rattle.ssa_model.proofs.ValidTimelines.{state-valid}

-- the n-th record of a valid history holds at most as much as there are facts in which its two states differ
pub size-within : (kind : Kind) (t : Timeline) (n : ℕ) (r : Option ℕ) → SizeBound → AllValid kind t
    → r ≡ option_map (λ s. min s (2 ^ 64 - 1)) (kept_size t n) → IfSome r (λ s. s ≤ kept_facts t n)
size-within kind t n r bound valid is = by r (nat_lt n (length t.later)) is
  where
    holds : record_size (record_of (kept_from t n) (kept_to t n)) ≤ kept_facts t n
    holds = bound kind (kept_from t n) (kept_to t n) (state-valid kind t (if nat_lt n t.place then n + 1 else n) valid).fits

    by : (r : Option ℕ) (b : Bool)
        → r ≡ option_map (λ s. min s (2 ^ 64 - 1)) (if b then Some (record_size (record_of (kept_from t n) (kept_to t n))) else None)
        → IfSome r (λ s. s ≤ kept_facts t n)
    by None b e = tt
    by (Some s) true e = let same = same_Some s _ e in let le = holds in omega (arith, same, le)
    by (Some s) false e = absurd (none-some s (sym e))
