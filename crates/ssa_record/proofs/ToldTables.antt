-- Lists made of what is told, element by element.
use Rattle.std.proofs.Common.{◌≡◌, List, [], ◌∷◌, ◌++◌, map, refl, ap, append_assoc, ◌∙◌}
use Rattle.std.proofs.lemmas.List.{map-append}
use Rattle.ssa_told.specs.Told.{told_here}
use Rattle.ssa_told.specs.declared.told.ToldHere.{ToldHere}

-- one more is made of the next that is told
pub made-more : {X Y Z : Type 0} (f : X → Z) (g : Y → Z) (xs made : List X) (x : X) (y : Y) (rest : List Y) (all : List Z)
    → map f xs ++ map g (y ∷ rest) ≡ all → f x ≡ g y → made ≡ xs ++ x ∷ [] → map f made ++ map g rest ≡ all
made-more f g xs made x y rest all before one is =
    ap (λ zs. map f zs ++ map g rest) is ∙ ap (λ zs. zs ++ map g rest) (map-append f xs (x ∷ []))
    ∙ append_assoc (map f xs) (f x ∷ []) (map g rest) ∙ ap (λ z. map f xs ++ z ∷ map g rest) one ∙ before

-- the places told of those who are here are those that the record has of them
pub places-told : (hs : List ToldHere) → map (λ h. h.place) hs ≡ map (λ e. e.0) (map told_here hs)
places-told [] = refl
places-told (h ∷ hs) = ap (λ ps. h.place ∷ ps) (places-told hs)
