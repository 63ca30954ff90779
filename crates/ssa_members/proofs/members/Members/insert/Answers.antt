use Rattle.std.proofs.Common.{sym, ap, subst, ◌∙◌, Some, get_or, string_bytes, string_cmp}
use Rattle.std.specs.BTreeMap.{insert_entry}
use Rattle.std.specs.List.{slice_set}
use Rattle.std.specs.Result.{is_ok}
use Rattle.ssa_members.specs.Members.{get, IsRising}
use Rattle.ssa_members.proofs.Searching.{gap-inside, name-inside, value-found, value-absent, put-in, put-over}
use Rattle.ssa_members.proofs.Rising.{rising-either, rising-put-in, rising-exchanged}
use Rattle.ssa_members.proofs.members.Members.insert.Goals as goal

pub invariant_of-self : goal.invariant_of-self
invariant_of-self g c =
    let es = c.self.inside.entries.items in
    let e = c.index_mut.result.now in
    let place = name-inside es _ _ _ c.in-Ok.i c.self.view_is c.as_str.ensures.value c.in-Ok.ensures in
    subst (λ k. IsRising (slice_set es c.in-Ok.i (k, c.replace.new.dest))) (sym (ap (λ e. e.0) c.index_mut.ensures.value))
    (rising-exchanged es c.in-Ok.i c.replace.new.dest e place.within c.self.invariant)

pub invariant_of-self-in-Err : goal.invariant_of-self-in-Err
invariant_of-self-in-Err g c =
    let es = c.self.inside.entries.items in
    let gap = gap-inside _ _ _ _ c.in-Err.i c.self.view_is c.as_str.ensures.value c.in-Err.ensures in
    subst IsRising (sym c.insert.ensures.items)
    (rising-either (is_ok c.insert.result) es _ (rising-put-in es c.in-Err.i c.args.name c.args.value c.self.invariant gap) c.self.invariant)

pub returns-in-Ok-clause-old : goal.returns-in-Ok-clause-old
returns-in-Ok-clause-old g c =
    let bs = string_bytes c.args.name in
    let es = c.self.inside.entries.items in
    let place = name-inside es _ _ _ c.in-Ok.i c.self.view_is c.as_str.ensures.value c.in-Ok.ensures in
    let found = value-found bs es c.in-Ok.i c.index_mut.result.now c.self.invariant place in
    ap Some (c.replace.ensures.value ∙ ap (λ e. e.1) c.index_mut.ensures.value) ∙ sym found ∙ ap (λ m. get m bs) c.self.view_is

pub returns-in-Ok-clause-entries : goal.returns-in-Ok-clause-entries
returns-in-Ok-clause-entries g c =
    let es = c.self.inside.entries.items in
    let e = c.index_mut.result.now in
    let place = name-inside es _ _ _ c.in-Ok.i c.self.view_is c.as_str.ensures.value c.in-Ok.ensures in
    ap (λ k. slice_set es c.in-Ok.i (k, c.replace.new.dest)) (ap (λ e. e.0) c.index_mut.ensures.value)
    ∙ ap (λ v. slice_set es c.in-Ok.i ((get_or es c.in-Ok.i e).0, v)) c.replace.ensures.after
    ∙ sym (put-over es c.in-Ok.i c.args.name c.args.value e c.self.invariant place)
    ∙ ap (λ m. insert_entry string_cmp m.entries c.args.name c.args.value) c.self.view_is

pub returns-in-Ok-clause-ordered : goal.returns-in-Ok-clause-ordered
returns-in-Ok-clause-ordered g c = invariant_of-self g c

pub returns-in_ok-insert-in-Err-clause-old : goal.returns-in_ok-insert-in-Err-clause-old
returns-in_ok-insert-in-Err-clause-old g c =
    let bs = string_bytes c.args.name in
    let gap = gap-inside _ _ _ _ c.in-Err.i c.self.view_is c.as_str.ensures.value c.in-Err.ensures in
    sym (value-absent bs c.self.inside.entries.items c.in-Err.i gap) ∙ ap (λ m. get m bs) c.self.view_is

pub returns-in_ok-insert-in-Err-clause-entries : goal.returns-in_ok-insert-in-Err-clause-entries
returns-in_ok-insert-in-Err-clause-entries g c =
    let gap = gap-inside _ _ _ _ c.in-Err.i c.self.view_is c.as_str.ensures.value c.in-Err.ensures in
    c.in_ok-insert-in-Err.ensures.items ∙ sym (put-in c.self.inside.entries.items c.in-Err.i c.args.name c.args.value gap)
    ∙ ap (λ m. insert_entry string_cmp m.entries c.args.name c.args.value) c.self.view_is

pub returns-in_ok-insert-in-Err-clause-ordered : goal.returns-in_ok-insert-in-Err-clause-ordered
returns-in_ok-insert-in-Err-clause-ordered g c =
    let gap = gap-inside _ _ _ _ c.in-Err.i c.self.view_is c.as_str.ensures.value c.in-Err.ensures in
    subst IsRising (sym c.in_ok-insert-in-Err.ensures.items)
    (rising-put-in c.self.inside.entries.items c.in-Err.i c.args.name c.args.value c.self.invariant gap)
