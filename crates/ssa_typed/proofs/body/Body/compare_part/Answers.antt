use Rattle.std.proofs.Common.{◌≡◌, ◌+◌, ◌∙◌, subst₂, sym}
use Rattle.ssa_model.specs.definitions.Body.{added, modified, over}
use Rattle.ssa_model.specs.definitions.PathMap.{size}
use Rattle.ssa_typed.specs.Differences.{Added, Modified}
use Rattle.ssa_typed.specs.KeepsOrder.{KeepsItemOrder}
use Rattle.ssa_typed.specs.NewPlaces.{new_places}
use Rattle.ssa_typed.proofs.Bringing.{size-over}
use Rattle.ssa_typed.proofs.Differing.{difference-listed}
use Rattle.ssa_typed.proofs.KeepingOrder.{repeated-body}
use Rattle.ssa_typed.proofs.body.Body.compare_part.Goals as goal

pub returns : goal.returns
returns c =
    let n = c.self.inside.root in
    let m = c.part.inside.root in
    let told = c.in_ok-told.told in
    record {
      added_are = c.from_root.ensures
          ∙ difference-listed Added n m told.added c.self.invariant.tree c.part.invariant.tree c.in_ok-told.ensures.told.added_trie
          ∙ (λ i. added (c.self.view_is i) (c.part.view_is i));
      modified_are = c.from_root-2.ensures
          ∙ difference-listed Modified n m told.modified c.self.invariant.tree c.part.invariant.tree c.in_ok-told.ensures.told.modified_trie
          ∙ (λ i. modified (c.self.view_is i) (c.part.view_is i));
      brings = (
        new_places n m,
        subst₂ (λ b d. size (over b d) ≡ size b + new_places n m) c.self.view_is c.part.view_is (size-over n m c.part.invariant.tree),
        c.in_ok-told.ensures.told.new_are,
      );
      repeats = λ repeats order.
          sym (λ i. over (c.self.view_is i) (c.part.view_is i))
          ∙ repeated-body n m (c.in_ok-told.ensures.repeats repeats) (subst₂ KeepsItemOrder (sym c.self.view_is) (sym c.part.view_is) order) ∙ c.self.view_is;
    }
