use Rattle.std.proofs.Common.{◌≡◌, ◌∙◌, ap, false, not, ◌&&◌, length, arith}
use Rattle.std.specs.Prelude.{◌==◌}
use Rattle.ssa_path.specs.declared.trie.Trie.TheViews.{out-Trie}
use Rattle.ssa_turn_set.specs.Room.{children}
use Rattle.ssa_turn_set.proofs.Staying.{goes-is, root-stays}
use Rattle.ssa_turn_set.proofs.loss.goes_whole.Goals as goal
use Rattle.ssa_turn_set.proofs.loss.goes_whole.Goals.{else-own-via-then-own+else-not-lost, else-own-via-else-own}

pub returns-then-not-lost : goal.returns-then-not-lost
returns-then-not-lost c = root-stays c.args.own.now c.args.lost.now c.if-own.true c.if-not-lost.true

pub returns : goal.returns
returns c =
    let root : ((out-Trie c.args.own.now).here && not (out-Trie c.args.lost.now).here) ≡ false =
    elim c.else-own.branch [
      | else-own-via-then-own+else-not-lost w ↦ λ i. w.if-own.true i && not (w.if-not-lost.false i)
      | else-own-via-else-own w ↦ ap (λ b. b && not (out-Trie c.args.lost.now).here) w.if-own.false
    ] in
    let own = (out-Trie c.args.own.now).below.ok.0 in
    let len : c.len.result ≡ length (children c.args.own.now) = omega arith in
    ap (λ n. c.args.gone == n) len
    ∙ goes-is c.args.own.now c.args.lost.now c.args.gone c.requires.own c.requires.lost root c.requires.gone
