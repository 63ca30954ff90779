-- The items that stay in a list, with those that are put at their places.
use Rattle.std.specs.Prelude.{◌≡◌, ℕ, nat_lt, List, [], ◌∷◌, ◌++◌, map, Bool, true, ◌&&◌, Option, Some, None}
use Rattle.std.specs.Borrow.{Bor}
use Rattle.std.specs.Option.{option_map}
use Rattle.ssa_model.specs.definitions.Path.{Element, Path}
use Rattle.ssa_model.specs.definitions.PathMap.{get}
use Rattle.ssa_path.specs.View.{element_view}
use Rattle.ssa_path.specs.declared.element.Elem.{Elem}
use Rattle.ssa_record.specs.Places.{ToldMaps}

-- elements that are lent
abbrev pub lent_elements : List (Bor Elem) → List Element
lent_elements = map (λ e. element_view e.now)

abbrev pub lent_puts : List (ℕ × Bor Elem) → List (ℕ × Element)
lent_puts = map (λ x. (x.0, element_view x.1.now))

-- whether something is put as the child of an element, and the place that is told of it
abbrev pub place_told : ToldMaps → Path → Element → Option (Option ℕ)
place_told m p e = option_map (λ x. x.1) (get m.put (p ++ e ∷ []))

abbrev pub with_put : Option (Option ℕ) → Element → Option (List (ℕ × Element)) → Option (List (ℕ × Element))
with_put None e rest = rest
with_put (Some None) e rest = None
with_put (Some (Some i)) e rest = option_map (λ ps. (i, e) ∷ ps) rest

-- those elements that are put, each with its place, unless one has no place
abbrev pub puts_told : (Element → Option (Option ℕ)) → List Element → Option (List (ℕ × Element))
puts_told at [] = Some []
puts_told at (e ∷ es) = with_put (at e) e (puts_told at es)

module _ {X : Type 0} where
  -- all places are below a number
  abbrev pub all_below : ℕ → List (ℕ × X) → Bool
  all_below n [] = true
  all_below n (x ∷ xs) = nat_lt x.0 n && all_below n xs

  -- what stands in the slots, and in the free ones the rest, one after the other
  abbrev pub woven : List (Option X) → List X → List X
  woven [] xs = []
  woven (Some y ∷ ss) xs = y ∷ woven ss xs
  woven (None ∷ ss) [] = woven ss []
  woven (None ∷ ss) (x ∷ xs) = x ∷ woven ss xs

-- elements that are lent are these
abbrev pub IsLentOrder : Option (List (Bor Elem)) → List Element → Type 0
IsLentOrder o es = option_map lent_elements o ≡ Some es
