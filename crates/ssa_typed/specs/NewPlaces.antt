-- How many places a tree has that another one lacks.
use Rattle.std.specs.Prelude.{◌≡◌, ◌+◌, ◌-◌, ◌^◌, ℕ, suc, List, [], ◌∷◌, length, min, Bool, cond, is_some, Option, None, Some}
use Rattle.ssa_model.specs.definitions.Body.{Body, over}
use Rattle.ssa_model.specs.definitions.Path.{Element, Path}
use Rattle.ssa_model.specs.definitions.PathMap.{size}
use Rattle.ssa_path.specs.Children.{child_at}
use Rattle.ssa_path.specs.declared.element.Elem.{Elem}
use Rattle.ssa_path.specs.View.{element_view}
use Rattle.ssa_typed.specs.Rows.{Row, content_at, rows}
use Rattle.ssa_typed.specs.declared.node.Node.{Node}

-- how many of these rows have paths that fail a test
abbrev pub count_absent : (Path → Bool) → List Row → ℕ
count_absent there [] = 0
count_absent there (r ∷ rs) = cond (there r.0) (count_absent there rs) (suc (count_absent there rs))

-- how many places the second tree has at which nothing stands in the first
abbrev pub new_places : Node → Node → ℕ
new_places before after = count_absent (λ p. is_some (content_at (rows before) p)) (rows after)

-- how many of a child are new: all where there was none of its element
abbrev pub new_in : Option Node → Node → ℕ
new_in None c = length (rows c)
new_in (Some b) c = new_places b c

-- the sum of what the children count for
abbrev pub total_below : (Element → Node → ℕ) → List (Elem × Node) → ℕ
total_below g [] = 0
total_below g (d ∷ ds) = g (element_view d.0) d.1 + total_below g ds

-- how many are new at and below the second children
abbrev pub new_below : List (Elem × Node) → List (Elem × Node) → ℕ
new_below cs = total_below (λ e d. new_in (child_at e cs) d)

-- so many more are counted, as far as 64 bits go
abbrev pub IsCountOn : ℕ → ℕ → ℕ → Type 0
IsCountOn old new more = (k : ℕ) → old ≡ min k (2 ^ 64 - 1) → new ≡ min (k + more) (2 ^ 64 - 1)

-- a part that is put over the body brings so many places, as far as 64 bits go
abbrev pub Brings : Body → Body → ℕ → Type 0
Brings body part count = (more : ℕ) × (size (over body part) ≡ size body + more) × (count ≡ min more (2 ^ 64 - 1))
