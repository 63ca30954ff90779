-- A list that is changed in place and keeps its length is what it is changed to.
use Rattle.std.proofs.Common.{◌≡◌, ℕ, List, [], ◌∷◌, ◌++◌, length, take, drop, refl, ap, ◌∙◌}
use Rattle.std.specs.List.{refill}
use Rattle.std.proofs.lemmas.List.{append-nil}

drop-all : {X : Type 0} (xs : List X) → drop (length xs) xs ≡ []
drop-all [] = refl
drop-all (x ∷ xs) = drop-all xs

take-all : {X : Type 0} (xs : List X) → take (length xs) xs ≡ xs
take-all [] = refl
take-all (x ∷ xs) = ap (λ ys. x ∷ ys) (take-all xs)

-- a list whose places are all filled again from another of its length is that other
pub refilled-whole : {X : Type 0} (n : ℕ) (xs ws : List X) → n ≡ length ws → length ws ≡ length xs → refill n xs ws ≡ ws
refilled-whole n xs ws a b =
    (λ i. take (a i) (ws ++ drop (b i) xs)) ∙ (λ i. take (length ws) (ws ++ drop-all xs i)) ∙ ap (take (length ws)) (append-nil ws) ∙ take-all ws
