use Rattle.std.proofs.Common.{ap, rules, sym, subst, tests, ◌∙◌}
use Rattle.std.proofs.lemmas.Fn.{always_returns_same}
use Rattle.ssa_members.specs.Members.{IsRising, IsPlaceOf}
use Rattle.ssa_members.proofs.Searching.{compared, place-found}
use Rattle.ssa_members.proofs.members.Members.place.Goals as goal

pub returns : goal.returns
returns g c =
    let seen = c.deref.ensures.value in
    subst (λ es. IsPlaceOf c.args.name.now es c.binary_search_by.result) (seen ∙ ap (λ m. m.entries) c.self.view_is)
    (place-found c.args.name.now c.deref.result.now c.binary_search_by.result (subst IsRising (sym seen) c.self.invariant) c.binary_search_by.ensures.bound
    (c.binary_search_by.ensures.position (compared c.args.name.now) (always_returns_same _ _ _ (λ a r f k. search (rules, tests)))))
