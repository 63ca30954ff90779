-- What is said of one path: by changes, and by two bodies.
use Rattle.std.specs.Prelude.{◌≡◌, ℕ, List, ◌++◌, Bool, true, false, not, ◌&&◌, Option, Some, None, is_some, option_map, if◌then◌else◌}
use Rattle.std.specs.List.{position_from}
use Rattle.std.specs.FinMap.Entries.{find}
use Rattle.ssa_model.specs.definitions.Json.{same_scalar, same_json}
use Rattle.ssa_model.specs.definitions.Body.{Content, leaf, atom, record_branch, dict_branch, list_branch, order_at}
use Rattle.ssa_model.specs.definitions.Path.{Element, Path, path_cmp, same_element, parent, last_element, under}
use Rattle.ssa_model.specs.definitions.PathMap.{get}
use Rattle.ssa_model.specs.definitions.Record.{Part, new_order}
use Rattle.ssa_turn_body.specs.Marks.{Marks}
use Rattle.ssa_turn_body.specs.Told.{content_told}
use Rattle.ssa_turn_body.specs.Records.{cuts_in, leaves_in, orders_in, parts_in, told_by}
use Rattle.ssa_turn_body.specs.declared.steps.Step.{Step}

abbrev pub Contents : Type 0
Contents = Path → Option Content

abbrev pub contents : Marks → Contents
contents m p = content_told (m p)

pub record Said : Type 0 where
  pub cut : Option (Unit {0})
  pub leaf : Option Content
  pub order : Option (List Element)
  pub put : Option (Contents × Option ℕ)

abbrev pub silent : Said
silent = record { cut = None; leaf = None; order = None; put = None }

-- a part, by the content at each of its paths
abbrev pub shown : Part → Contents × Option ℕ
shown x = (get x.below, x.place)

-- what changes say of a path
abbrev pub says : List Step → Path → Said
says ss p = record {
  cut = find path_cmp p (told_by cuts_in ss);
  leaf = find path_cmp p (told_by leaves_in ss);
  order = find path_cmp p (told_by orders_in ss);
  put = option_map shown (find path_cmp p (told_by parts_in ss));
}

-- both are leaves, and differ
abbrev pub is_swapped : Content → Content → Bool
is_swapped (leaf a) (leaf b) = not (same_scalar a b)
is_swapped (leaf a) (atom b) = true
is_swapped (leaf a) record_branch = false
is_swapped (leaf a) dict_branch = false
is_swapped (leaf a) (list_branch fs) = false
is_swapped (atom a) (leaf b) = true
is_swapped (atom a) (atom b) = not (same_json a b)
is_swapped (atom a) record_branch = false
is_swapped (atom a) dict_branch = false
is_swapped (atom a) (list_branch fs) = false
is_swapped record_branch d = false
is_swapped dict_branch d = false
is_swapped (list_branch es) d = false

abbrev pub swapped : Option Content → Option Content → Option Content
swapped None b = None
swapped (Some c) None = None
swapped (Some c) (Some d) = if is_swapped c d then Some d else None

-- where an item stands in its list
abbrev pub stands_in : Contents → Path → Option ℕ
stands_in n p = elim (last_element p) [ None ↦ None | Some e ↦ position_from (same_element e) 0 (order_at (n (parent p))) ]

-- the topmost of the paths that only the second has
abbrev pub is_topmost : Contents → Contents → Path → Bool
is_topmost m n p = is_some (n p) && (not (is_some (m p)) && is_some (m (parent p)))

-- what two bodies say of a path
abbrev pub between : Contents → Contents → Path → Said
between m n p = record {
  cut = if is_topmost n m p then Some tt else None;
  leaf = swapped (m p) (n p);
  order = new_order (m p) (n p);
  put = if is_topmost m n p then Some (λ q. n (p ++ q), stands_in n p) else None;
}

-- the changes say at and below the path what changes there, and nothing elsewhere
pub record AreTold (p : Path) (before after : Contents) (ss : List Step) : Type 0 where
  pub inside : (q : Path) → says ss (p ++ q) ≡ between before after q
  pub outside : (q : Path) → under p q ≡ false → says ss q ≡ silent
