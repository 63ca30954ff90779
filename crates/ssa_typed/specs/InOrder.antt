-- Children in the order of their elements.
use Rattle.std.specs.Prelude.{◌≡◌, List, map, true}
use Rattle.std.specs.Borrow.{Bor}
use Rattle.ssa_model.specs.definitions.Path.{Element}
use Rattle.ssa_path.specs.Children.{child_at, elements, rises}
use Rattle.ssa_path.specs.declared.element.Elem.{Elem}

-- what these references refer to
abbrev pub referred : {A : Type 0} → List (Bor A) → List A
referred = map (λ r. r.now)

-- the same children, with elements that rise
pub record IsInOrder {A : Type 0} (cs ds : List (Elem × A)) : Type 0 where
  pub rise : rises (elements ds) ≡ true
  pub same : (e : Element) → child_at e ds ≡ child_at e cs
