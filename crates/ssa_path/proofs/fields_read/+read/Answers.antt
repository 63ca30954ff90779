use Rattle.std.proofs.Common.{◌≡◌, [], ◌∷◌, ◌++◌, ◌+◌, arith, drop, true, false, refl, sym, ap, subst, ◌∙◌}
use Rattle.std.proofs.lemmas.List.{drop_all}
use Rattle.std.proofs.lemmas.Result.{err_from_is_err_and}
use Rattle.std.specs.Prelude.{codes, not}
use Rattle.ssa_members.proofs.Lent.{next-lent}
use Rattle.ssa_model.specs.definitions.Json.{same_text}
use Rattle.ssa_json.specs.View.{view}
use Rattle.ssa_path.proofs.FieldsMembers.{Found, below-some}
use Rattle.ssa_path.proofs.FieldsReadings.{IsReading, reading-none, child-first, child-more, dot-more, reading-all, dot-refused, alone-read, place-read}
use Rattle.ssa_path.proofs.fields_read.+read.Goals as goal

pub read_members-loop-name-init : goal.read_members-loop-name-init
read_members-loop-name-init t c = reading-none c.args.members.now.entries _ _ c.new-below.ensures.items c.entries-name-items.ensures.all

pub read_members-returns-in_err-child-clause-answers : goal.read_members-returns-in_err-child-clause-answers
read_members-returns-in_err-child-clause-answers t c =
    let l = c.loop-name in
    let es = c.entries-name-items.result.now in
    let e : Found = c.loop-name-item.result in
    let left = drop (l.name-index + 1) es in
    let step = next-lent es l.name-index e (omega arith) c.loop-name-item.is in
    let fault = c.in_err-child.field-0.0 in
    let other : same_text c.as_str.result.now (codes ".") ≡ false = sym c.is_dot.ensures ∙ c.if-not-is_dot.true in
    let same : c.as_str-then-not-is_dot.result.now ≡ c.as_str.result.now = c.as_str-then-not-is_dot.ensures.value ∙ sym c.as_str.ensures.value in
    let first = child-first c.args.members.now.entries l.here l.below.items e left (drop l.name-index es) l.invariant step
    c.as_str-then-not-is_dot.result.now fault
    c.as_str-then-not-is_dot.ensures.value (ap (λ n. same_text n (codes ".")) same ∙ other) c.in_err-child.ensures.answers in
    let p = err_from_is_err_and c.from_residual.result c.from_residual.ensures.1 in
    rw (p.1, p.2) first

pub read_members-loop-name-preserved-then-not-is_dot : goal.read_members-loop-name-preserved-then-not-is_dot
read_members-loop-name-preserved-then-not-is_dot t c =
    let l = c.loop-name in
    let es = c.entries-name-items.result.now in
    let e : Found = c.loop-name-item.result in
    let left = drop (l.name-index + 1) es in
    let step = next-lent es l.name-index e (omega arith) c.loop-name-item.is in
    let other : same_text c.as_str.result.now (codes ".") ≡ false = sym c.is_dot.ensures ∙ c.if-not-is_dot.true in
    let same : c.as_str-then-not-is_dot.result.now ≡ c.as_str.result.now = c.as_str-then-not-is_dot.ensures.value ∙ sym c.as_str.ensures.value in
    let more = child-more c.args.members.now.entries l.here l.below.items e left (drop l.name-index es) l.invariant step
    c.as_str-then-not-is_dot.result.now c.in_ok-child.child
    c.as_str-then-not-is_dot.ensures.value (ap (λ n. same_text n (codes ".")) same ∙ other) c.in_ok-child.ensures.answers c.in_ok-child.ensures.child in
    let pushed : c.push.new.self.items ≡ l.below.items ++ c.in_ok-child.child ∷ [] = c.in-Ok.ensures.items in
    subst (λ cs. IsReading c.args.members.now.entries l.here cs left) (sym pushed) more

pub read_members-loop-name-preserved : goal.read_members-loop-name-preserved
read_members-loop-name-preserved t c =
    let l = c.loop-name in
    let es = c.entries-name-items.result.now in
    let e : Found = c.loop-name-item.result in
    let left = drop (l.name-index + 1) es in
    let step = next-lent es l.name-index e (omega arith) c.loop-name-item.is in
    dot-more c.args.members.now.entries l.here l.below.items e left (drop l.name-index es) c.as_str.result.now l.invariant step
    c.entries-name-items.ensures.ordered
    c.as_str.ensures.value (sym c.is_dot.ensures ∙ c.if-not-is_dot.false) (sym c.is_nothing_inside.ensures ∙ c.if-not-is_nothing_inside.false)

pub read_members-returns-clause-place : goal.read_members-returns-clause-place
read_members-returns-clause-place t c =
    let l = c.loop-name in
    let es = c.entries-name-items.result.now in
    (reading-all c.args.members.now.entries _ (drop l.name-index es) (drop_all l.name-index es (omega arith)) c.entries-name-items.ensures.ordered l.invariant).1

pub read_below-returns-then-not-is_empty-clause-answers : goal.read_below-returns-then-not-is_empty-clause-answers
read_below-returns-then-not-is_empty-clause-answers t c =
    let place = c.in_ok-place.place in
    let some = below-some place c.is_empty.result c.is_empty.ensures ∙ ap not c.if-not-is_empty.true in
    (place-read (view c.args.value.now) place c.in_ok-place.ensures.place some c.in_ok-place.ensures.answers).0

pub read_below-returns-then-not-is_empty-clause-place : goal.read_below-returns-then-not-is_empty-clause-place
read_below-returns-then-not-is_empty-clause-place t c =
    let place = c.in_ok-place.place in
    let some = below-some place c.is_empty.result c.is_empty.ensures ∙ ap not c.if-not-is_empty.true in
    (place-read (view c.args.value.now) place c.in_ok-place.ensures.place some c.in_ok-place.ensures.answers).1

pub read_below-returns-then-place-clause-answers : goal.read_below-returns-then-place-clause-answers
read_below-returns-then-place-clause-answers t c =
    let place = c.in_ok-place.place in
    let none = below-some place c.is_empty.result c.is_empty.ensures ∙ ap not c.if-not-is_empty.false in
    dot-refused (view c.args.value.now) place c.in_ok-place.ensures.place none c.if-place.true

pub read_below-returns-clause-answers : goal.read_below-returns-clause-answers
read_below-returns-clause-answers t c =
    let place = c.in_ok-place.place in
    let none = below-some place c.is_empty.result c.is_empty.ensures ∙ ap not c.if-not-is_empty.false in
    (alone-read (view c.args.value.now) place (record { here = true; below = c.new.result }) c.in_ok-place.ensures.place none c.if-place.false refl
    c.new.ensures.items).0

pub read_below-returns-clause-place : goal.read_below-returns-clause-place
read_below-returns-clause-place t c =
    let place = c.in_ok-place.place in
    let none = below-some place c.is_empty.result c.is_empty.ensures ∙ ap not c.if-not-is_empty.false in
    (alone-read (view c.args.value.now) place (record { here = true; below = c.new.result }) c.in_ok-place.ensures.place none c.if-place.false refl
    c.new.ensures.items).1
