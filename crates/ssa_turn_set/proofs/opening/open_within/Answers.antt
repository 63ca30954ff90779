use Rattle.std.proofs.Common.{ap, sym, ◌∙◌, arith, cond}
use Rattle.ssa_path.specs.Children.{IsChildAt, IsGapFor}
use Rattle.ssa_path.specs.View.{element_view}
use Rattle.ssa_turn_set.specs.Room.{fresh, serves}
use Rattle.ssa_turn_set.specs.Spare.{fits, is_nothing}
use Rattle.ssa_turn_set.proofs.Coming.{child-some, opened-at, opened-in-gap}
use Rattle.ssa_turn_set.proofs.Places.{gap-paths}
use Rattle.ssa_turn_set.proofs.opening.open_within.Goals as goal

pub returns-in-Ok-clause-opened : goal.returns-in-Ok-clause-opened
returns-in-Ok-clause-opened c =
    let e = element_view c.args.element.now in
    let cs = c.args.children.now.items in
    let at : IsChildAt e cs c.in-Ok.place = rw c.deref.ensures.value at c.in-Ok.ensures in
    record {
      within = at.within;
      opened = λ x j. opened-at e cs c.in-Ok.place x at j c.requires.rise c.requires.tries;
    }

pub returns-in-Ok-clause-spare : goal.returns-in-Ok-clause-spare
returns-in-Ok-clause-spare c =
    let e = element_view c.args.element.now in
    let s = c.args.spare.now in
    let at : IsChildAt e c.args.children.now.items c.in-Ok.place = rw c.deref.ensures.value at c.in-Ok.ensures in
    let some = child-some e c.args.children.now.items c.in-Ok.place at c.requires.rise c.requires.tries in
    ap (λ b. cond b (is_nothing s) (fits e s)) (sym some) ∙ c.requires.spare

pub new_child-child-requires : goal.new_child-child-requires
new_child-child-requires c =
    let e = element_view c.args.element.now in
    let cs = c.args.children.now.items in
    let gap : IsGapFor e cs c.in-Err.gap = rw c.deref.ensures.value at c.in-Err.ensures in
    ap (λ l. serves e l c.args.spare.now) (sym (gap-paths e cs c.in-Err.gap c.requires.rise gap.between)) ∙ c.requires.spare

pub unreachable-requires : goal.unreachable-requires
unreachable-requires c =
    let e = element_view c.args.element.now in
    let cs = c.args.children.now.items in
    let gap : IsGapFor e cs c.in-Err.gap = rw c.deref.ensures.value at c.in-Err.ensures in
    let one = ap fresh (gap-paths e cs c.in-Err.gap c.requires.rise gap.between) in
    let fits = c.requires.fits in
    let len = c.args.children.now.ok.0 in
    let full = c.in-Err-insert.ensures.full in
    omega arith

pub returns-clause-opened : goal.returns-clause-opened
returns-clause-opened c =
    let e = element_view c.args.element.now in
    let cs = c.args.children.now.items in
    let gap : IsGapFor e cs c.in-Err.gap = rw c.deref.ensures.value at c.in-Err.ensures in
    let made = c.new_child-child.ensures in
    opened-in-gap e cs _ c.in-Err.gap c.new_child-child.result c.in-Ok-insert.ensures.items gap c.requires.tries made.element made.trie made.paths
