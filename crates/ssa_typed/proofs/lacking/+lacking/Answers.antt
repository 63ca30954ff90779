use Rattle.std.proofs.Common.{◌+◌, ◌*◌, ◌<◌, ◌∙◌, [], length, drop, refl, sym, arith, rules}
use Rattle.std.proofs.lemmas.List.{drop_all}
use Rattle.ssa_path.specs.View.{element_view}
use Rattle.ssa_path.proofs.Levels.{trie-parts}
use Rattle.ssa_typed.specs.Rows.{rows}
use Rattle.ssa_typed.proofs.LackingPaths.{lacks, part-there, part-nowhere, lacking-more, lacking-all, lacking-place}
use Rattle.ssa_typed.proofs.Lookups.{tree-child}
use Rattle.ssa_typed.proofs.Making.{making-none}
use Rattle.ssa_typed.proofs.Sizes.{smaller}
use Rattle.ssa_typed.proofs.lacking.+lacking.Goals.{lacking_below-in-Some+in_ok-trie-in-Some+in_ok-push_filled-in-Some, lacking_below-in-None+in_ok-trie-in-None+in_ok-push_filled-in-None}
use Rattle.ssa_typed.proofs.lacking.+lacking.Goals as goal
use Rattle.ssa_path.proofs.Lists.{child-trie as trie-at}

pub lacking_below-loop-part-init : goal.lacking_below-loop-part-init
lacking_below-loop-part-init t c = rw c.new-lacking.ensures.items (making-none (lacks c.args.node.now) c.args.set.now [] c.requires.rise refl)

pub lacking_below-lacking_paths-requires : goal.lacking_below-lacking_paths-requires
lacking_below-lacking_paths-requires t c =
    let n = c.args.node.now in
    let part = c.part-item.result in
    let e = element_view part.0 in
    let there = sym (c.in-Some.ensures ∙ c.in_ok-own.ensures.same e) in
    let small = smaller n e c.in-Some.child.now there in
    let falls : 2 * length (rows c.in-Some.child.now) + 1 < 2 * length (rows n) = omega arith in (
      search (rules, falls),
      (
        tree-child n e c.in-Some.child.now c.requires.tree there,
        trie-at c.args.set.now c.loop-part.part-index part (omega arith) c.part-item.is c.requires.tries,
      ),
    )

pub lacking_below-push_filled-requires-in-None : goal.lacking_below-push_filled-requires-in-None
lacking_below-push_filled-requires-in-None t c =
    let n = c.args.node.now in
    let part = c.part-item.result in
    let e = element_view part.0 in
    let none = sym (c.in-None.ensures ∙ c.in_ok-own.ensures.same e) in
    let trie = trie-at c.args.set.now c.loop-part.part-index part (omega arith) c.part-item.is c.requires.tries in
    (part-nowhere n part c.in_ok-trie-in-None.trie none trie c.in_ok-trie-in-None.ensures).trie

pub lacking_below-loop-part-preserved : goal.lacking_below-loop-part-preserved
lacking_below-loop-part-preserved t c =
    let n = c.args.node.now in
    let ts = c.args.set.now in
    let part = c.part-item.result in
    let e = element_view part.0 in
    let i = c.loop-part.part-index in
    let lt : i < length ts = omega arith in
    let out = c.loop-part.lacking.items in
    elim c.match-find.branch [
      | lacking_below-in-Some+in_ok-trie-in-Some+in_ok-push_filled-in-Some w ↦
          let there = sym (w.in-Some.ensures ∙ c.in_ok-own.ensures.same e) in
          let trie = w.in_ok-trie-in-Some.trie in
          rw w.lacking-is (lacking-more n ts i part out w.push_filled.new.children.items trie lt c.part-item.is
          (part-there n w.in-Some.child.now part trie there w.in_ok-trie-in-Some.ensures) w.in_ok-push_filled-in-Some.ensures.ok c.loop-part.invariant)
      | lacking_below-in-None+in_ok-trie-in-None+in_ok-push_filled-in-None w ↦
          let none = sym (w.in-None.ensures ∙ c.in_ok-own.ensures.same e) in
          let trie = w.in_ok-trie-in-None.trie in
          let is_trie = trie-at ts i part lt c.part-item.is c.requires.tries in
          rw w.lacking-is (lacking-more n ts i part out w.push_filled-in-None.new.children.items trie lt c.part-item.is
          (part-nowhere n part trie none is_trie w.in_ok-trie-in-None.ensures) w.in_ok-push_filled-in-None.ensures.ok c.loop-part.invariant)
    ]

pub lacking_below-returns : goal.lacking_below-returns
lacking_below-returns t c =
    let ts = c.args.set.now in
    let i = c.loop-part.part-index in
    lacking-all c.args.node.now ts (drop i ts) c.loop-part.lacking.items c.requires.tree c.requires.rise (drop_all i ts c.loop-part-test.false)
    c.loop-part.invariant

pub lacking_paths-lacking_below-requires : goal.lacking_paths-lacking_below-requires
lacking_paths-lacking_below-requires t c =
    let parts = trie-parts c.args.set.now c.deref.result.now c.deref.ensures.value c.requires.trie in
    (search rules, (c.requires.tree, (parts.0, parts.1)))

pub lacking_paths-returns : goal.lacking_paths-returns
lacking_paths-returns t c = lacking-place c.args.node.now c.args.set.now _ refl (rw c.deref.ensures.value at c.in_ok-below.ensures)
