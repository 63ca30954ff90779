use Rattle.std.proofs.Common.{◌≡◌, sym, ap, subst, Some, ◌∙◌}
use Rattle.ssa_members.specs.Members.{get, IsNameAt}
use Rattle.ssa_members.proofs.Searching.{value-found}
use Rattle.ssa_members.proofs.members.Members.get.Goals as goal

pub returns-in-Some : goal.returns-in-Some
returns-in-Some g c =
    let seen = c.self.view_is in
    let place = subst (λ m. IsNameAt c.args.name.now m.entries c.in-Some.i) (sym seen) c.in-Some.ensures in
    let found = value-found c.args.name.now c.self.inside.entries.items c.in-Some.i c.index.result.now c.self.invariant place in
    record { value = subst (λ m. Some c.index.result.now.1 ≡ get m c.args.name.now) seen (ap (λ e. Some e.1) c.index.ensures ∙ sym found) }

pub returns-in-None : goal.returns-in-None
returns-in-None g c = record { value = sym c.in-None.ensures }
