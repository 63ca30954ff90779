use Rattle.std.proofs.Common.{◌≡◌, ◌≤◌, length, sym, ap, subst, ◌∙◌}
use Rattle.ssa_model.specs.definitions.Parts.{main, status}
use Rattle.ssa_path.specs.Children.{elements, rises}
use Rattle.ssa_path.specs.Subresources.{in_part, other_part, part_view}
use Rattle.ssa_path.proofs.InPart.{part-rises}
use Rattle.ssa_typed.specs.Copies.{kept_below}
use Rattle.ssa_typed.specs.InPart.{AreSpliced, IsNew, IsPut}
use Rattle.ssa_typed.proofs.InPart.{copies-all, copies-few, copies-rise, counted, one-new, one-status, part-all, popped, spliced-main, spliced-status}
use Rattle.ssa_typed.proofs.in_part.spliced_children.Goals as goal

pub put_child-requires-clause-rise : goal.put_child-requires-clause-rise
put_child-requires-clause-rise c =
    ap (λ l. rises (elements l)) c.keep_children.ensures ∙ part-rises (part_view c.args.part) c.args.object.items c.requires.object

pub put_child-requires-clause-new : goal.put_child-requires-clause-new
put_child-requires-clause-new c =
    let object = c.args.object.items in
    let live = c.args.live.now in
    let rest = c.in_ok-rest.rest.items in
    let kept_is : c.keep_children.new.children.items ≡ in_part main object = c.keep_children.ensures ∙ ap (λ p. in_part (part_view p) object) c.in-Main.is in
    let same : kept_below rest ≡ kept_below (in_part status live) = c.in_ok-rest.ensures
    ∙ ap (λ p. kept_below (in_part (other_part (part_view p)) live)) c.in-Main.is in
    let single = popped rest c.pop.new.self.items c.pop.result c.pop.ensures.items (copies-few live rest same c.requires.live)
    (counted c.pop.result c.in_ok-rest.rest.ok.0 c.pop.new.self.ok.0 c.pop.ensures.cases) in
    subst (IsNew c.pop.result) (sym kept_is)
    (one-new main (in_part main object) rest rest (part-all main object) (copies-all status (in_part status live) rest same (part-all status live)) c.pop.result single)

pub put_child-requires-in-Status-clause-rise : goal.put_child-requires-in-Status-clause-rise
put_child-requires-in-Status-clause-rise c =
    let live = c.args.live.now in
    let rest = c.in_ok-rest.rest.items in
    let same : kept_below rest ≡ kept_below (in_part main live) = c.in_ok-rest.ensures
    ∙ ap (λ p. kept_below (in_part (other_part (part_view p)) live)) c.in-Status.is in
    copies-rise main live rest same c.requires.live

pub put_child-requires-in-Status-clause-new : goal.put_child-requires-in-Status-clause-new
put_child-requires-in-Status-clause-new c =
    let object = c.args.object.items in
    let live = c.args.live.now in
    let rest = c.in_ok-rest.rest.items in
    let own = c.keep_children.new.children.items in
    let kept_is : own ≡ in_part status object = c.keep_children.ensures ∙ ap (λ p. in_part (part_view p) object) c.in-Status.is in
    let same : kept_below rest ≡ kept_below (in_part main live) = c.in_ok-rest.ensures
    ∙ ap (λ p. kept_below (in_part (other_part (part_view p)) live)) c.in-Status.is in
    let few = subst (λ l. length l ≤ 1) (sym kept_is) (one-status object c.requires.object) in
    let pop = c.pop-in-Status in
    let single = sym kept_is ∙ popped own pop.new.self.items pop.result pop.ensures.items few
    (counted pop.result c.keep_children.new.children.ok.0 pop.new.self.ok.0 pop.ensures.cases) in
    one-new main rest (in_part status object) rest (copies-all main (in_part main live) rest same (part-all main live)) (part-all status object) pop.result single

pub returns-in_ok-put_child-in-Main : goal.returns-in_ok-put_child-in-Main
returns-in_ok-put_child-in-Main c =
    let object = c.args.object.items in
    let live = c.args.live.now in
    let rest = c.in_ok-rest.rest.items in
    let made = c.put_child.new.children.items in
    let kept_is : c.keep_children.new.children.items ≡ in_part main object = c.keep_children.ensures ∙ ap (λ p. in_part (part_view p) object) c.in-Main.is in
    let same : kept_below rest ≡ kept_below (in_part status live) = c.in_ok-rest.ensures
    ∙ ap (λ p. kept_below (in_part (other_part (part_view p)) live)) c.in-Main.is in
    let single = popped rest c.pop.new.self.items c.pop.result c.pop.ensures.items (copies-few live rest same c.requires.live)
    (counted c.pop.result c.in_ok-rest.rest.ok.0 c.pop.new.self.ok.0 c.pop.ensures.cases) in
    let put = subst (λ l. IsPut c.pop.result l made) kept_is c.in_ok-put_child-in-Main.ensures in
    subst (λ p. AreSpliced (part_view p) object live made) (sym c.in-Main.is)
    (spliced-main object live rest made c.pop.result c.requires.object c.requires.live same single put)

pub returns-in_ok-put_child-in-Status : goal.returns-in_ok-put_child-in-Status
returns-in_ok-put_child-in-Status c =
    let object = c.args.object.items in
    let live = c.args.live.now in
    let rest = c.in_ok-rest.rest.items in
    let own = c.keep_children.new.children.items in
    let made = c.put_child-in-Status.new.children.items in
    let kept_is : own ≡ in_part status object = c.keep_children.ensures ∙ ap (λ p. in_part (part_view p) object) c.in-Status.is in
    let same : kept_below rest ≡ kept_below (in_part main live) = c.in_ok-rest.ensures
    ∙ ap (λ p. kept_below (in_part (other_part (part_view p)) live)) c.in-Status.is in
    let few = subst (λ l. length l ≤ 1) (sym kept_is) (one-status object c.requires.object) in
    let pop = c.pop-in-Status in
    let single = sym kept_is ∙ popped own pop.new.self.items pop.result pop.ensures.items few
    (counted pop.result c.keep_children.new.children.ok.0 pop.new.self.ok.0 pop.ensures.cases) in
    subst (λ p. AreSpliced (part_view p) object live made) (sym c.in-Status.is)
    (spliced-status object live rest made pop.result c.requires.object c.requires.live same single c.in_ok-put_child-in-Status.ensures)
