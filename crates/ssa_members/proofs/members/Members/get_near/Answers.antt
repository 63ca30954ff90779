use Rattle.std.proofs.Common.{◌≡◌, sym, ap, subst, Some, ◌∙◌}
use Rattle.ssa_members.specs.Members.{get, IsNameAt}
use Rattle.ssa_members.proofs.Searching.{value-found}
use Rattle.ssa_members.proofs.members.Members.get_near.Goals as goal

pub returns-in-Some : goal.returns-in-Some
returns-in-Some g c =
    let place = subst (λ es. IsNameAt c.args.name.now es c.in-Some.i) c.deref.ensures.value c.in-Some.ensures in
    let found = value-found c.args.name.now c.self.inside.entries.items c.in-Some.i c.index.result.now c.self.invariant place in
    record { value = subst (λ m. Some c.index.result.now.1 ≡ get m c.args.name.now) c.self.view_is (ap (λ e. Some e.1) c.index.ensures ∙ sym found) }
