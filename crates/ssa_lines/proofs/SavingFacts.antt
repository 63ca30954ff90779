-- Laws of the lines of a bench file's text.
use Rattle.std.proofs.Common.{◌≡◌, ◌≤◌, [], ◌∷◌, ◌++◌, length, ap, ◌∙◌, append_assoc, arith, length-append}
use Rattle.ssa_model.specs.definitions.BenchText.{line}
use Rattle.ssa_model.specs.definitions.Json.{Text, Json, compact}
use Rattle.ssa_lines.specs.Saving.{CannotHold}
use Rattle.ssa_lines.specs.declared.saving.SaveFault.{SaveFault}
use Rattle.ssa_lines.specs.declared.saving.SaveFault.TheVariants.{BenchTooLong, Io, OutOfMemory}

-- what is too long stays so with more after it
pub CannotHold-longer : (f : SaveFault) (t u : Text) → length t ≤ length u → CannotHold f t → CannotHold f u
CannotHold-longer BenchTooLong t u longer h = omega (arith, h, longer)
CannotHold-longer Io t u longer h = h
CannotHold-longer OutOfMemory t u longer h = tt

-- where the next line is too much, so are all
pub lines-refused : (fault : SaveFault) (made line rest whole : Text) → made ++ (line ++ rest) ≡ whole → CannotHold fault (made ++ line)
    → CannotHold fault whole
lines-refused fault made line rest whole is h =
    let all : length (made ++ (line ++ rest)) ≡ length whole = ap (λ t. length t) is in
    let first = length-append made line in
    let behind = length-append line rest in
    let both = length-append made (line ++ rest) in
    CannotHold-longer fault (made ++ line) whole (omega (arith, all, first, behind, both)) h

-- a value with a line feed behind it is its line
pub line-ended : (before : Text) {mid : Text} (v : Json) → mid ≡ before ++ compact v → mid ++ 10 ∷ [] ≡ before ++ line v
line-ended before v is = ap (λ t. t ++ 10 ∷ []) is ∙ append_assoc before (compact v) (10 ∷ [])
