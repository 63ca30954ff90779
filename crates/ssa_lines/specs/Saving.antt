-- What a save writes, and why a bench is not saved.
use Rattle.std.specs.Prelude.{◌≡◌, ◌<◌, ◌≤◌, ℕ, List, Option, Bool, true, length}
use Rattle.ssa_model.specs.definitions.Limits.{most_bench_bytes}
use Rattle.ssa_model.specs.definitions.Json.{Text}
use Rattle.ssa_json.specs.Devices.{AppendsPart}
use Rattle.ssa_lines.specs.declared.saving.SaveFault.{SaveFault}
use Rattle.ssa_lines.specs.declared.saving.SaveFault.TheVariants.{BenchTooLong, Io, OutOfMemory}

-- Why the text was not written, and what was: by a device that fails a beginning of it, else nothing.
abbrev pub NotSaved : {S : Type 0} → (S → Option (List ℕ)) → (S → Bool) → S → S → Text → SaveFault → Type 0
NotSaved contents has_failed old new text BenchTooLong = (most_bench_bytes < length text) × (new ≡ old)
NotSaved contents has_failed old new text Io = AppendsPart (contents old) (contents new) text × ((length text ≤ most_bench_bytes) × (has_failed new ≡ true))
NotSaved contents has_failed old new text OutOfMemory = new ≡ old

-- Why a text is not made: it is too long, or memory was refused.
abbrev pub CannotHold : SaveFault → Text → Type 0
CannotHold BenchTooLong text = most_bench_bytes < length text
CannotHold Io text = ⊥
CannotHold OutOfMemory text = Unit {0}
