-- A configuration put over a live body, of which some places go, told by trees.
use Rattle.std.proofs.Common.{◌≡◌, List, [], ◌∷◌, true, not, Some, sym, ap, subst, subst₂, ◌∙◌}
use Rattle.std.specs.Prelude.{is_some}
use Rattle.ssa_model.specs.definitions.Body.{Body, over, over_content}
use Rattle.ssa_model.specs.definitions.Path.{Path, same_path}
use Rattle.ssa_model.specs.definitions.PathMap.{PathSet, get, has, listed}
use Rattle.ssa_model.proofs.Lists.{has-listed}
use Rattle.ssa_model.proofs.PathMaps.{get-over, get-restricted, same_map}
use Rattle.ssa_path.specs.Trie.{is_one_of, paths}
use Rattle.ssa_path.specs.declared.element.Elem.{Elem}
use Rattle.ssa_path.specs.declared.trie.Trie.{Trie}
use Rattle.ssa_path.proofs.Levels.{any-level, one-below-root, same_path-reading}
use Rattle.ssa_typed.specs.Applied.{applied, MayGo}
use Rattle.ssa_typed.specs.KeepsOrder.{KeepsItemOrder}
use Rattle.ssa_typed.specs.Restricted.{part_at}
use Rattle.ssa_typed.specs.Rows.{body_of, content_at, is_tree, rows}
use Rattle.ssa_typed.specs.declared.node.Node.{Node}
use Rattle.ssa_typed.proofs.KeepingOrder.{order-trees}
use Rattle.ssa_typed.proofs.Looks.{get-body}
use Rattle.ssa_typed.proofs.Lookups.{content-root}
use Rattle.ssa_typed.proofs.Restricting.{below_set}
use Rattle.ssa_turn_body.specs.Applying.{IsApplied, IsApplying, MayPart, gone_below}
use Rattle.ssa_turn_body.specs.Led.{AreLeading}
use Rattle.ssa_turn_body.specs.Marks.{marks}
use Rattle.ssa_turn_body.specs.declared.steps.Step.{Step}

module _ (live config : Body) (gone : PathSet) (n m : Node) (t : Trie) (is_live : body_of n ≡ live) (is_config : body_of m ≡ config)
    (is_gone : listed (paths t) ≡ gone) (may : MayGo live config gone) where
  in-live : (p : Path) → has live p ≡ is_some (content_at (rows n) p)
  in-live p = ap (λ b. has b p) (sym is_live) ∙ ap is_some (get-body n p)

  in-config : (p : Path) → has config p ≡ is_some (content_at (rows m) p)
  in-config p = ap (λ b. has b p) (sym is_config) ∙ ap is_some (get-body m p)

  in-paths : (p : Path) → has gone p ≡ is_one_of (paths t) p
  in-paths p = ap (λ s. has s p) (sym is_gone) ∙ has-listed (paths t) p

  -- the places that go are told by the tries below the root
  pub in-gone : (p : Path) → has gone p ≡ gone_below (below_set t) p
  in-gone [] = may.kept [] (in-config [] ∙ ap is_some (content-root m)) ∙ sym (one-below-root (below_set t))
  in-gone (e ∷ p) = in-paths (e ∷ p) ∙ any-level same_path same_path-reading t e p

  -- what may go of the body may part of its tree, where the configuration keeps the order
  pub may-part : KeepsItemOrder live config → MayPart (gone_below (below_set t)) n (Some m)
  may-part order = record {
    order = order-trees n m (subst₂ KeepsItemOrder (sym is_live) (sym is_config) order);
    kept = λ p some. sym (in-gone p) ∙ may.kept p (in-config p ∙ some);
    whole = λ p q goes below_it some. sym (in-gone q) ∙ may.whole p q (in-gone p ∙ goes) below_it (in-live q ∙ some);
  }

  -- such a tree's body is the configuration over the live body, without the places that go
  pub applied-body : (to : Node) → IsApplied (gone_below (below_set t)) n (Some m) to → body_of to ≡ applied live config gone
  applied-body to h =
      same_map (body_of to) (applied live config gone) (λ p.
      get-body to p ∙ h.content p
      ∙ (λ i. part_at (λ q. not (sym (in-gone q) i)) p (over_content (content_at (rows n) p) (content_at (rows m) p)))
      ∙ ap (part_at (λ q. not (has gone q)) p)
      ((λ i. over_content ((sym (get-body n p) ∙ ap (λ b. get b p) is_live) i) ((sym (get-body m p) ∙ ap (λ b. get b p) is_config) i))
      ∙ sym (get-over live config p))
      ∙ sym (get-restricted (over live config) (λ q. not (has gone q)) p))

  -- changes below the root lead to a tree of this body
  pub applied-tree : (p : Path) (ts : List (Elem × Trie)) (old new : List Step) → p ≡ [] → ts ≡ below_set t → IsApplying p (gone_below ts) n (Some m) old new
      → (to : Node) × (is_tree to ≡ true) × (body_of to ≡ applied live config gone) × AreLeading [] (marks n) (marks to) old new
  applied-tree p ts old new root below h =
      let made = subst (λ q. IsApplying q (gone_below (below_set t)) n (Some m) old new) root
      (subst (λ us. IsApplying p (gone_below us) n (Some m) old new) below h) in
      (made.0, made.1.tree, applied-body made.0 made.1, made.2)
