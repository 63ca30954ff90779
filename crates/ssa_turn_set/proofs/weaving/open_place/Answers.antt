use Rattle.std.proofs.Common.{◌≡◌, ◌++◌, ◌∷◌, ap, sym, ◌∙◌, cond, reverse, true≢false}
use Rattle.ssa_path.specs.Children.{elements, rises}
use Rattle.ssa_path.specs.Trie.{has_some, is_trie}
use Rattle.ssa_path.specs.View.{element_view}
use Rattle.ssa_path.proofs.Orders.{both_second}
use Rattle.ssa_turn_set.specs.Room.{serves}
use Rattle.ssa_turn_set.specs.Spare.{fits, is_nothing}
use Rattle.ssa_turn_set.specs.Weaving.{starts_with}
use Rattle.ssa_turn_set.proofs.Coming.{between-all, between-tails, middle-filled, opened-found, opened-new, opened-tails}
use Rattle.ssa_turn_set.proofs.weaving.open_place.Goals as goal

pub unreachable-requires : goal.unreachable-requires
unreachable-requires c =
    let e = element_view c.args.element.now in
    let started = ap (λ l. starts_with e (reverse l)) (sym c.deref.ensures.value) ∙ sym c.is_next.ensures ∙ c.if-is_next.true in
    true≢false (sym started ∙ ap (λ l. starts_with e (reverse l)) c.in_default.ensures.none)

pub returns-then-is_next-clause-opened : goal.returns-then-is_next-clause-opened
returns-then-is_next-clause-opened c =
    let e = element_view c.args.element.now in
    let next : reverse c.pass_before.new.left.items ≡ c.in-Some.child ∷ reverse c.next.new.left.items = c.in-Some.ensures.items in
    let started = ap (starts_with e) (sym next) ∙ ap (λ l. starts_with e (reverse l)) (sym c.deref.ensures.value) ∙ sym c.is_next.ensures ∙ c.if-is_next.true in
    opened-found e _ c.pass_before.new.passed.items c.in-Some.child (reverse c.next.new.left.items)
    (ap (λ l. c.pass_before.new.passed.items ++ l) (sym next) ∙ c.pass_before.ensures.items) c.requires.rise c.requires.tries started

pub returns-then-is_next-clause-spare : goal.returns-then-is_next-clause-spare
returns-then-is_next-clause-spare c =
    let e = element_view c.args.element.now in
    let next : reverse c.pass_before.new.left.items ≡ c.in-Some.child ∷ reverse c.next.new.left.items = c.in-Some.ensures.items in
    let whole = ap (λ l. c.pass_before.new.passed.items ++ l) (sym next) ∙ c.pass_before.ensures.items in
    let filled = both_second (is_trie c.in-Some.child.1) _
    (middle-filled e _ c.pass_before.new.passed.items c.in-Some.child (reverse c.next.new.left.items) whole c.requires.tries) in
    let left = opened-tails e _ _ _ _ (returns-then-is_next-clause-opened c) in
    ap (λ b. cond b (is_nothing c.args.spare.now) (fits e c.args.spare.now)) (sym (ap has_some left ∙ filled)) ∙ c.requires.spare

pub new_child-requires : goal.new_child-requires
new_child-requires c =
    let e = element_view c.args.element.now in
    let value = c.deref.ensures.value in
    let gap = between-all e c.pass_before.new.passed.items (reverse c.pass_before.new.left.items)
    (ap (λ l. rises (elements l)) c.pass_before.ensures.items ∙ c.requires.rise) c.pass_before.ensures.passed c.pass_before.ensures.left
    (ap (λ l. starts_with e (reverse l)) (sym value) ∙ sym c.is_next.ensures ∙ c.if-is_next.false) in
    ap (λ l. serves e l c.args.spare.now) (sym (between-tails e _ c.pass_before.new.passed.items (reverse c.pass_before.new.left.items) c.pass_before.ensures.items c.requires.rise gap)) ∙ c.requires.spare

pub returns-clause-opened : goal.returns-clause-opened
returns-clause-opened c =
    let e = element_view c.args.element.now in
    let value = c.deref.ensures.value in
    let made = c.new_child.ensures in
    opened-new e (c.args.passed.now.items ++ reverse c.args.left.now.items) c.pass_before.new.passed.items c.new_child.result
    (reverse c.pass_before.new.left.items)
    c.pass_before.ensures.items c.requires.rise c.requires.tries c.pass_before.ensures.passed c.pass_before.ensures.left
    (ap (λ l. starts_with e (reverse l)) (sym value) ∙ sym c.is_next.ensures ∙ c.if-is_next.false) made.element made.trie made.paths
