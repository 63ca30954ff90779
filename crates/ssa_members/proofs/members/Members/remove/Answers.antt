use Rattle.std.proofs.Common.{sym, ap, subst, ◌∙◌, Some, refl}
use Rattle.std.specs.BTreeMap.{is_at}
use Rattle.std.specs.Map.{remove_entry}
use Rattle.ssa_members.specs.Members.{get, text_cmp, IsRising}
use Rattle.ssa_members.proofs.Searching.{absent-stays, name-inside, taken-out, value-found}
use Rattle.ssa_members.proofs.Rising.{rising-taken-out}
use Rattle.ssa_members.proofs.members.Members.remove.Goals as goal

pub invariant_of-self : goal.invariant_of-self
invariant_of-self g c =
    subst IsRising (sym c.take_entry-name.ensures.items) (rising-taken-out c.self.inside.entries.items c.in-Some.i c.self.invariant)

pub returns-in-Some-clause-value : goal.returns-in-Some-clause-value
returns-in-Some-clause-value g c =
    let es = c.self.inside.entries.items in
    let place = name-inside es _ _ c.args.name.now c.in-Some.i c.self.view_is refl c.in-Some.ensures in
    ap (λ e. Some e.1) c.take_entry-name.ensures.value ∙ sym (value-found c.args.name.now es c.in-Some.i c.take_entry-name.result c.self.invariant place)
    ∙ ap (λ m. get m c.args.name.now) c.self.view_is

pub returns-in-Some-clause-entries : goal.returns-in-Some-clause-entries
returns-in-Some-clause-entries g c =
    let es = c.self.inside.entries.items in
    let place = name-inside es _ _ c.args.name.now c.in-Some.i c.self.view_is refl c.in-Some.ensures in
    c.take_entry-name.ensures.items ∙ sym (taken-out c.args.name.now es c.in-Some.i c.take_entry-name.result c.self.invariant place)
    ∙ ap (λ m. remove_entry (is_at (text_cmp c.args.name.now)) m.entries) c.self.view_is

pub returns-in-Some-clause-ordered : goal.returns-in-Some-clause-ordered
returns-in-Some-clause-ordered g c = invariant_of-self g c

pub returns-in-None-clause-value : goal.returns-in-None-clause-value
returns-in-None-clause-value g c = sym c.in-None.ensures

pub returns-in-None-clause-entries : goal.returns-in-None-clause-entries
returns-in-None-clause-entries g c = sym (absent-stays c.args.name.now c.args.self.now.entries c.in-None.ensures)
