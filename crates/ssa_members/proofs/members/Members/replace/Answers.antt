use Rattle.std.proofs.Common.{sym, ap, subst, ◌∙◌, Some, get_or, refl}
use Rattle.std.specs.BTreeMap.{is_at}
use Rattle.std.specs.List.{slice_set}
use Rattle.std.specs.Map.{set_value}
use Rattle.ssa_members.specs.Members.{get, text_cmp, IsRising}
use Rattle.ssa_members.proofs.Searching.{exchanged, name-inside, value-found}
use Rattle.ssa_members.proofs.Rising.{rising-exchanged}
use Rattle.ssa_members.proofs.members.Members.replace.Goals as goal

pub invariant_of-self : goal.invariant_of-self
invariant_of-self g c =
    let es = c.self.inside.entries.items in
    let place = name-inside es _ _ c.args.name.now c.in-Some.i c.self.view_is refl c.in-Some.ensures in
    subst (λ k. IsRising (slice_set es c.in-Some.i (k, c.replace.new.dest))) (sym (ap (λ e. e.0) c.index_mut.ensures.value))
    (rising-exchanged es c.in-Some.i c.replace.new.dest c.index_mut.result.now place.within c.self.invariant)

pub returns-in-Some-clause-old : goal.returns-in-Some-clause-old
returns-in-Some-clause-old g c =
    let es = c.self.inside.entries.items in
    let place = name-inside es _ _ c.args.name.now c.in-Some.i c.self.view_is refl c.in-Some.ensures in
    ap (λ m. get m c.args.name.now) (sym c.self.view_is) ∙ value-found c.args.name.now es c.in-Some.i c.index_mut.result.now c.self.invariant place
    ∙ ap Some (sym (c.replace.ensures.value ∙ ap (λ e. e.1) c.index_mut.ensures.value))

pub returns-in-Some-clause-entries : goal.returns-in-Some-clause-entries
returns-in-Some-clause-entries g c =
    let es = c.self.inside.entries.items in
    let e = c.index_mut.result.now in
    let place = name-inside es _ _ c.args.name.now c.in-Some.i c.self.view_is refl c.in-Some.ensures in
    ap (λ k. slice_set es c.in-Some.i (k, c.replace.new.dest)) (ap (λ e. e.0) c.index_mut.ensures.value)
    ∙ ap (λ v. slice_set es c.in-Some.i ((get_or es c.in-Some.i e).0, v)) c.replace.ensures.after
    ∙ sym (exchanged c.args.name.now es c.in-Some.i c.args.value e c.self.invariant place)
    ∙ ap (λ m. set_value (is_at (text_cmp c.args.name.now)) m.entries c.args.value) c.self.view_is

pub returns-in-None-clause-absent : goal.returns-in-None-clause-absent
returns-in-None-clause-absent g c = (refl, c.in-None.ensures, refl)
