-- What is carried below a path.
use Rattle.std.proofs.Common.{[], ◌∷◌, ◌++◌, ◌&&◌, sym, ap, ◌∙◌, append_assoc, append-nil}
use Rattle.ssa_model.specs.definitions.Path.{Path, is_item_element}
use Rattle.ssa_model.specs.definitions.PathMap.{has, below}
use Rattle.ssa_model.specs.definitions.Kind.{is_among}
use Rattle.ssa_model.specs.definitions.Body.{Body, order_at}
use Rattle.ssa_model.specs.definitions.Fitting.{are_distinct}
use Rattle.ssa_model.specs.definitions.Carry.{carry_body}
use Rattle.ssa_model.specs.laws.RecordWalks.{AreAlike, PartIsTree, CarryBelow}
use Rattle.ssa_model.proofs.PutParts.{get-below, has-below}
use Rattle.ssa_model.proofs.BodyLeads.{tree_leads}
use Rattle.ssa_model.proofs.RecordWalks.{record_below_is}

-- what a tree has at and below a path of it is a tree
pub part_is_tree : PartIsTree
part_is_tree v p a there =
    record {
      root = has-below v p [] ∙ ap (has v) (append-nil p) ∙ there;
      closed = λ r e one. has-below v p r ∙ a.closed (p ++ r) e (ap (has v) (append_assoc p r (e ∷ [])) ∙ sym (has-below v p (r ++ e ∷ [])) ∙ one);
      once = λ r. ap (λ o. are_distinct (order_at o)) (get-below v p r) ∙ a.once (p ++ r);
      items = λ r e. ap (λ o. is_among e (order_at o)) (get-below v p r) ∙ a.items (p ++ r) e
          ∙ ap (λ b. is_item_element e && b) (ap (has v) (append_assoc p r (e ∷ [])) ∙ sym (has-below v p (r ++ e ∷ [])));
    }

alike-below : (v w : Body) (p : Path) → AreAlike v w → AreAlike (below v p) (below w p)
alike-below v w p alike r c e is_v is_w = alike (p ++ r) c e (sym (get-below v p r) ∙ is_v) (sym (get-below w p r) ∙ is_w)

-- below a path of both trees, their record leads to what its part below the path leads to
pub carry_below : CarryBelow
carry_below v w p a b alike there_v there_w =
    ap (λ x. below x p) (tree_leads v w a b alike)
    ∙ sym (tree_leads (below v p) (below w p) (part_is_tree v p a there_v) (part_is_tree w p b there_w) (alike-below v w p alike))
    ∙ sym (ap (λ d. carry_body d (below v p)) (record_below_is v w p there_v there_w))
