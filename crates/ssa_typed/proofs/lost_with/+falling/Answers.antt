use Rattle.std.proofs.Common.{◌+◌, ◌*◌, ◌<◌, ◌∙◌, drop, length, sym, ap, subst₂, arith, rules}
use Rattle.std.proofs.lemmas.List.{drop_all}
use Rattle.std.specs.Option.{option_copied}
use Rattle.ssa_path.specs.Trie.{paths_below}
use Rattle.ssa_path.specs.View.{element_view}
use Rattle.ssa_path.proofs.Levels.{trie-parts}
use Rattle.ssa_path.proofs.Lists.{child-trie as trie-at}
use Rattle.ssa_typed.specs.Cut.{is_filled_in}
use Rattle.ssa_typed.specs.LostWith.{IsFree}
use Rattle.ssa_typed.specs.Rows.{rows}
use Rattle.ssa_typed.proofs.Cutting.{child-filled}
use Rattle.ssa_typed.proofs.Falling.{falling-all, falling-more, falling-none, falling-skip, free-child, free-level, own-trie, parts-in, tree-in}
use Rattle.ssa_typed.proofs.FallenChildren.{child-falls, whole-falls}
use Rattle.ssa_typed.proofs.Lookups.{tree-child}
use Rattle.ssa_typed.proofs.Sizes.{smaller}
use Rattle.ssa_typed.proofs.lost_with.+falling.Goals as goal

pub fallen_below-loop-part-init : goal.fallen_below-loop-part-init
fallen_below-loop-part-init t c =
    rw c.new-fallen.ensures.items (falling-none c.args.live.now (option_copied c.args.config) c.args.gone.now c.args.held.now c.requires.live c.requires.config
    c.requires.gone_rise c.requires.held_rise)

pub fallen_below-find-requires : goal.fallen_below-find-requires
fallen_below-find-requires t c = c.in_ok-own.ensures.ready

pub fallen_below-find-other-requires : goal.fallen_below-find-other-requires
fallen_below-find-other-requires t c = c.in_ok-beside.ensures.ready

pub fallen_below-loop-part-preserved-in_default : goal.fallen_below-loop-part-preserved-in_default
fallen_below-loop-part-preserved-in_default t c =
    falling-skip c.args.live.now (option_copied c.args.config) c.args.gone.now c.args.held.now c.requires.live c.requires.config c.requires.gone_rise
    c.requires.held_rise c.loop-part.part-index c.part-item.result c.loop-part.fallen.items c.loop-part-test.true c.part-item.is c.loop-part.invariant
    (sym (c.in_default.ensures ∙ c.in_ok-own.ensures.same (element_view c.part-item.result.0)))

pub fallen_below-fallen_child-requires : goal.fallen_below-fallen_child-requires
fallen_below-fallen_child-requires t c =
    let n = c.args.live.now in
    let config = option_copied c.args.config in
    let gs = c.args.gone.now in
    let hs = c.args.held.now in
    let part = c.part-item.result in
    let e = element_view part.0 in
    let x = c.in-Some.child.now in
    let there = sym (c.in-Some.ensures ∙ c.in_ok-own.ensures.same e) in
    let beside = sym (c.find-other.ensures ∙ c.in_ok-beside.ensures.same e) in
    let small = smaller n e x there in
    let falls : 2 * length (rows x) + 1 < 2 * length (rows n) = omega arith in
    let own = own-trie n config gs hs c.requires.live c.requires.config c.requires.gone_rise c.requires.held_rise c.loop-part.part-index part
    c.loop-part.fallen.items c.loop-part-test.true c.part-item.is c.loop-part.invariant in (
      search (rules, falls),
      (
        tree-child n e x c.requires.live there,
        (
          tree-in config e _ c.requires.config beside,
          (
            trie-at gs c.loop-part.part-index part c.loop-part-test.true c.part-item.is c.requires.gone_tries,
            (
              ap is_filled_in c.find_child-above.ensures ∙ child-filled e hs c.requires.held_tries,
              free-child config gs hs e part.1 _ _ c.requires.config c.requires.gone_rise c.requires.held_rise own (sym c.find_child-above.ensures) beside
                  c.requires.free,
            ),
          ),
        ),
      ),
    )

pub fallen_below-loop-part-preserved : goal.fallen_below-loop-part-preserved
fallen_below-loop-part-preserved t c =
    let n = c.args.live.now in
    let config = option_copied c.args.config in
    let part = c.part-item.result in
    let e = element_view part.0 in
    let x = c.in-Some.child.now in
    let there = sym (c.in-Some.ensures ∙ c.in_ok-own.ensures.same e) in
    let beside = sym (c.find-other.ensures ∙ c.in_ok-beside.ensures.same e) in
    let fallen = rw c.is_dict-in_dict.ensures at (rw c.is_point-point.ensures at c.in_ok-trie.ensures) in
    falling-more n config c.args.gone.now c.args.held.now c.requires.live c.requires.config c.requires.gone_rise c.requires.held_rise
    c.loop-part.part-index part c.loop-part.fallen.items c.loop-part-test.true c.part-item.is c.loop-part.invariant c.push_filled.new.children.items x
    c.in_ok-trie.trie _ _ there (sym c.find_child-above.ensures) beside fallen c.in_ok-push_filled.ensures.ok

pub fallen_below-returns : goal.fallen_below-returns
fallen_below-returns t c =
    let gs = c.args.gone.now in
    falling-all c.args.live.now (option_copied c.args.config) gs c.args.held.now c.requires.live c.requires.config c.requires.gone_rise c.requires.held_rise
    (drop c.loop-part.part-index gs) c.loop-part.fallen.items (drop_all c.loop-part.part-index gs c.loop-part-test.false) c.loop-part.invariant

pub fallen_child-returns-then-gone : goal.fallen_child-returns-then-gone
fallen_child-returns-then-gone t c =
    whole-falls c.args.point c.args.live.now (option_copied c.args.config) c.args.gone.now (option_copied c.args.held) c.in_ok-all.all c.if-gone.true
    c.requires.free c.in_ok-all.ensures

pub fallen_child-fallen_below-requires : goal.fallen_child-fallen_below-requires
fallen_child-fallen_below-requires t c =
    let gone = trie-parts c.args.gone.now c.deref.result.now c.deref.ensures.value c.requires.gone in
    let held = parts-in (option_copied c.args.held) c.tries_below.result.now c.tries_below.ensures c.requires.held in
    let y = option_copied c.args.config in
    let free = subst₂ (λ gs hs. IsFree y (paths_below gs) (paths_below hs)) (sym c.deref.ensures.value) (sym c.tries_below.ensures)
    (free-level y c.args.gone.now (option_copied c.args.held) c.requires.free) in
    (search rules, (c.requires.live, (c.requires.config, (gone.0, (gone.1, (held.0, (held.1, free)))))))

pub fallen_child-returns : goal.fallen_child-returns
fallen_child-returns t c =
    let n = c.args.live.now in
    let y = option_copied c.args.config in
    let o = option_copied c.args.held in
    let fallen = rw c.tries_below.ensures at (rw c.deref.ensures.value at c.in_ok-below.ensures) in
    let itself = rw c.deref-2.ensures.value at (rw c.stays_itself.ensures at c.goes_itself-here.ensures) in
    child-falls c.args.point n y c.args.gone.now o c.requires.live c.requires.held c.if-gone.false _ fallen itself
