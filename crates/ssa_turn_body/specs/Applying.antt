-- A live tree with a configuration over it, of which some places go.
use Rattle.std.specs.Prelude.{◌≡◌, ℕ, List, [], ◌∷◌, ◌++◌, Bool, true, false, not, Option, Some, None, is_some, option_map}
use Rattle.ssa_model.specs.definitions.Body.{Content, leaf, atom, record_branch, dict_branch, list_branch, over_content}
use Rattle.ssa_model.specs.definitions.Path.{Element, Path, under}
use Rattle.ssa_model.specs.definitions.Record.{is_reordered}
use Rattle.ssa_path.specs.Children.{child_at, elements}
use Rattle.ssa_path.specs.Trie.{is_one_of, paths_below}
use Rattle.ssa_path.specs.View.{element_view}
use Rattle.ssa_path.specs.declared.element.Elem.{Elem}
use Rattle.ssa_path.specs.declared.trie.Trie.{Trie}
use Rattle.ssa_typed.specs.Over.{AreAlikeTrees}
use Rattle.ssa_typed.specs.Points.{content_in}
use Rattle.ssa_typed.specs.Restricted.{part_at}
use Rattle.ssa_typed.specs.Rows.{below, content_at, is_tree, own_content, rows}
use Rattle.ssa_typed.specs.declared.node.Node.{Node}
use Rattle.ssa_turn_body.specs.Led.{AreLeading}
use Rattle.ssa_turn_body.specs.Marks.{Child, marks, with_order}
use Rattle.ssa_turn_body.specs.Turnovers.{Passing, with_gone}
use Rattle.ssa_turn_body.specs.declared.steps.Step.{Step}

-- the places that go
abbrev pub Gone : Type 0
Gone = Path → Bool

abbrev pub gone_below : List (Elem × Trie) → Gone
gone_below ts p = is_one_of (paths_below ts) p

-- those behind an element
abbrev pub behind : Element → Gone → Gone
behind e gone p = gone (e ∷ p)

abbrev pub stays_of : Gone → Path → Bool
stays_of gone p = not (gone p)

-- what is there is kept, its items in the order in which the live ones stand, and with each of the places that go goes all that is below it
pub record MayPart (gone : Gone) (live : Node) (config : Option Node) : Type 0 where
  pub order : (p : Path) → is_reordered (content_at (rows live) p) (content_in config p) ≡ false
  pub kept : (p : Path) → is_some (content_in config p) ≡ true → gone p ≡ false
  pub whole : (p q : Path) → gone p ≡ true → under p q ≡ true → is_some (content_at (rows live) q) ≡ true → gone q ≡ true

-- the second tree is the live one with the configuration over it, if there is one, without the places that go
pub record IsApplied (gone : Gone) (live : Node) (config : Option Node) (to : Node) : Type 0 where
  pub tree : is_tree to ≡ true
  pub content : (p : Path) → content_at (rows to) p ≡ part_at (stays_of gone) p (over_content (content_at (rows live) p) (content_in config p))

-- the changes lead from the live tree to such a tree
abbrev pub IsApplying : Path → Gone → Node → Option Node → List Step → List Step → Type 0
IsApplying p gone live config old new = (to : Node) × IsApplied gone live config to × AreLeading p (marks live) (marks to) old new

-- a live child, over which this is put if anything is: it stays and is led, or goes
abbrev pub IsMet : Bool → ℕ → Path → Gone → Child → Option Node → Passing → Passing → List Step → List Step → Type 0
IsMet true k p gone c config t u old new = (u ≡ t) × IsApplying (p ++ element_view c.0 ∷ []) (behind (element_view c.0) gone) c.1 config old new
IsMet false k p gone c config t u old new =
    (config ≡ None) × (u ≡ with_gone k (element_view c.0) t) × (gone (element_view c.0 ∷ []) ≡ true) × (new ≡ old)

-- ---- a place, and the configuration's children there

pub record MayPartBelow (gone : Gone) (live : Node) (config : List Child) : Type 0 where
  pub items : is_reordered (Some (own_content live)) (Some (list_branch (elements config))) ≡ false
  pub order : (e : Element) (p : Path) → is_reordered (content_in (child_at e (below live)) p) (content_in (child_at e config) p) ≡ false
  pub root : gone [] ≡ false
  pub kept : (e : Element) (p : Path) → is_some (content_in (child_at e config) p) ≡ true → gone (e ∷ p) ≡ false
  pub whole : (p q : Path) → gone p ≡ true → under p q ≡ true → is_some (content_at (rows live) q) ≡ true → gone q ≡ true

-- the second place is the live one with these children over its own, without those that go
pub record IsAppliedBelow (gone : Gone) (live : Node) (config : List Child) (to : Node) : Type 0 where
  pub tree : is_tree to ≡ true
  pub own : Some (own_content to) ≡ part_at (stays_of gone) [] (over_content (Some (own_content live)) (Some (with_order (own_content live) (elements
      config))))
  pub contents : (e : Element) (p : Path) → content_at (rows to) (e ∷ p)
      ≡ part_at (stays_of gone) (e ∷ p) (over_content (content_in (child_at e (below live)) p) (content_in (child_at e config) p))

abbrev pub IsApplyingBelow : Path → Gone → Node → List Child → List Step → List Step → Type 0
IsApplyingBelow p gone live config old new = (to : Node) × IsAppliedBelow gone live config to × AreLeading p (marks live) (marks to) old new

-- the place is a record's or a Dict's, whose children rise
abbrev pub is_named : Content → Bool
is_named (leaf s) = false
is_named (atom v) = false
is_named record_branch = true
is_named dict_branch = true
is_named (list_branch es) = false

-- a child's node, if there is a child
abbrev pub node_of : Option Child → Option Node
node_of o = option_map (λ c. c.1) o

-- a tree, if there is one, that may be put over the live one
abbrev pub IsAlikeOver : Node → Option Node → Type 0
IsAlikeOver live None = Unit {0}
IsAlikeOver live (Some config) = (is_tree config ≡ true) × AreAlikeTrees live config
