-- Laws of loading a bench part by part.
use Rattle.std.proofs.Common.{◌≡◌, ℕ, List, Option, Some, None, sym, ap, subst, ◌∙◌}
use Rattle.std.proofs.lemmas.Result.{err_from_is_err_and}
use Rattle.std.specs.Prelude.{Result, Ok, Err}
use Rattle.std.specs.Result.{IsErrAnd}
use Rattle.ssa_model.specs.definitions.Json.{Json}
use Rattle.ssa_model.specs.laws.LineByLine.{after_part, after_value}
use Rattle.ssa_json.specs.View.{view}
use Rattle.ssa_lines.specs.Loading.{ReadsValue}
use Rattle.ssa_lines.specs.declared.loading.FileLine.{FileLine}
use Rattle.ssa_lines.specs.declared.loading.LoadFault.{LoadFault}
use Rattle.ssa_lines.specs.declared.loading.LoadFault.TheVariants.{BenchText, RecordDoesNotFit, Io, OutOfMemory}
use Rattle.ssa_bench.specs.Loading.{ReadsLine, ReadsPart}
use Rattle.ssa_bench.specs.Taking.{IsTaken}

-- ---- a line that must be there

-- where a value is read, the line that must be there is that value's
pub line-found : (a b : Option (List ℕ)) (room room_after : ℕ) (l : FileLine) → ReadsValue a b room room_after (Ok (Some l))
    → ReadsLine a b room room_after (Ok l)
line-found None b room room_after l h = tt
line-found (Some xs) b room room_after l h = h

-- where no line is left, one that must be there is a fault of the bench's text
pub line-missing : (a b : Option (List ℕ)) (room room_after : ℕ) → ReadsValue a b room room_after (Ok None) → ReadsLine a b room room_after (Err BenchText)
line-missing None b room room_after h = tt
line-missing (Some xs) b room room_after h = λ go. ap (after_value go) h.0

-- a fault of reading a value is that of the line that must be there
pub line-fault : (a b : Option (List ℕ)) (room room_after : ℕ) (f : LoadFault) → ReadsValue a b room room_after (Err f) → ReadsLine a b room room_after (Err f)
line-fault None b room room_after f h = tt
line-fault (Some xs) b room room_after BenchText h = λ go. ap (after_value go) h
line-fault (Some xs) b room room_after RecordDoesNotFit h = absurd h
line-fault (Some xs) b room room_after Io h = λ go. tt
line-fault (Some xs) b room room_after OutOfMemory h = λ go. tt

-- ---- a part of a line

-- what is taken of the value of the line that was read
pub part-read : {X : Type 0} (take : Json → Option X) (a b : Option (List ℕ)) (room room_after : ℕ) (l : FileLine) (r : Result X LoadFault)
    → ReadsLine a b room room_after (Ok l) → IsTaken r (take (view l.value)) → ReadsPart take a b room room_after r
part-read take None b room room_after l r line h = tt
part-read take (Some xs) b room room_after l (Ok x) line h = record {
  rest = line.rest;
  left = line.left;
  goes_on = λ go. ap (after_value (λ v. after_part go (take v))) line.next ∙ ap (λ o. after_part go o line.rest room_after) h;
}
part-read take (Some xs) b room room_after l (Err BenchText) line h =
    λ go. ap (after_value (λ v. after_part go (take v))) line.next ∙ ap (λ o. after_part go o line.rest room_after) h
part-read take (Some xs) b room room_after l (Err RecordDoesNotFit) line h = absurd h
part-read take (Some xs) b room room_after l (Err Io) line h = absurd h
part-read take (Some xs) b room room_after l (Err OutOfMemory) line h = λ go. tt

-- where no line was read, no part is taken
pub part-unread : {X : Type 0} (take : Json → Option X) (a b : Option (List ℕ)) (room room_after : ℕ) (f : LoadFault)
    → ReadsLine a b room room_after (Err f) → ReadsPart take a b room room_after (Err f)
part-unread take None b room room_after f line = tt
part-unread take (Some xs) b room room_after f line = λ go. line (λ v. after_part go (take v))

-- ---- faults that are handed on

-- what holds of the fault that was told holds of the result
pub fault-handed : {X : Type 0} (r : Result X LoadFault) (f : LoadFault) (P : Result X LoadFault → Type 0) → IsErrAnd r (λ g. g ≡ f) → P (Err f) → P r
fault-handed r f P h told =
    let e = err_from_is_err_and r h in
    subst P (sym (e.1 ∙ ap Err e.2)) told

-- what is taken never fails as the source does
pub taken-no-io : {X : Type 0} (r : Result X LoadFault) (o : Option X) → IsTaken r o → r ≡ Err Io → ⊥
taken-no-io r o h e = subst (λ q. IsTaken q o) e h
