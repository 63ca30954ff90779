-- Laws of the bytes that a device tells.
use Rattle.std.proofs.Common.{◌≡◌, ℕ, List, [], Option, None, Some, IfSome, OnSome, ◌∙◌}
use Rattle.std.specs.Io.KnownBytes.{Keeps, IsAtEnd}

-- a source that showed nothing, and kept its bytes, is at its end
pub IsAtEnd-shown : (old new : Option (List ℕ)) (shown : ℕ) → Keeps old new → IfSome old (λ xs. shown ≡ 0 → xs ≡ []) → shown ≡ 0 → OnSome old (IsAtEnd new)
IsAtEnd-shown None new shown keeps end none = tt
IsAtEnd-shown (Some xs) None shown keeps end none = tt
IsAtEnd-shown (Some xs) (Some ys) shown keeps end none = keeps ∙ end none
