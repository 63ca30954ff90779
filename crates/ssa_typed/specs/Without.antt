-- A tree without places, each of which goes with all that is below it.
use Rattle.std.specs.Prelude.{◌≡◌, List, ◌∷◌, true, not, ◌&&◌, is_some, Option}
use Rattle.ssa_model.specs.definitions.Path.{Element, Path, under}
use Rattle.ssa_path.specs.Children.{child_at}
use Rattle.ssa_path.specs.Trie.{is_one_of}
use Rattle.ssa_path.specs.declared.element.Elem.{Elem}
use Rattle.ssa_typed.specs.Cut.{IsLeft}
use Rattle.ssa_typed.specs.Points.{content_in}
use Rattle.ssa_typed.specs.Restricted.{AreRestricted, IsRestricted}
use Rattle.ssa_typed.specs.Rows.{below, content_at, rows}
use Rattle.ssa_typed.specs.declared.node.Node.{Node}

-- with each place of a tree that goes goes all that the tree has below it
abbrev pub GoesWhole : Node → List Path → Type 0
GoesWhole n gone = (p q : Path) → is_one_of gone p ≡ true → under p q ≡ true → is_some (content_at (rows n) q) ≡ true → is_one_of gone q ≡ true

-- with each place below these children that goes goes all that they have below it
abbrev pub GoWhole : List (Elem × Node) → List Path → Type 0
GoWhole cs gone = (e : Element) (p q : Path)
    → is_one_of gone (e ∷ p) ≡ true → under p q ≡ true → is_some (content_in (child_at e cs) q) ≡ true → is_one_of gone (e ∷ q) ≡ true

-- these paths are the places at and below these children that do not go
abbrev pub AreKept : List (Elem × Node) → List Path → List Path → Type 0
AreKept cs gone ps = (e : Element) (p : Path) → is_one_of ps (e ∷ p) ≡ (is_some (content_in (child_at e cs) p) && not (is_one_of gone (e ∷ p)))

-- these paths are the places of the tree that do not go
abbrev pub IsKept : Node → List Path → List Path → Type 0
IsKept n gone ps = (p : Path) → is_one_of ps p ≡ (is_some (content_at (rows n) p) && not (is_one_of gone p))

-- the children without the places that go
abbrev pub AreWithout : List Path → List (Elem × Node) → List (Elem × Node) → Type 0
AreWithout gone cs made = (ps : List Path) → AreKept cs gone ps → AreRestricted ps cs made

-- the tree without the places that go, of which its root is none
abbrev pub IsWithout : List Path → Node → Node → Type 0
IsWithout gone n made = (ps : List Path) → AreKept (below n) gone ps → IsRestricted ps n made

-- the child without the places that go, if it stays itself
abbrev pub IsChildWithout : List Path → Node → Option Node → Type 0
IsChildWithout gone n made = (ps : List Path) → IsKept n gone ps → IsLeft ps n made
