use Rattle.std.proofs.Common.{◌<◌, length, sym, subst, arith}
use Rattle.std.specs.Bool.{MatchBool}
use Rattle.ssa_path.specs.declared.trie.Trie.TheViews.{out-Trie}
use Rattle.ssa_path.specs.Trie.{paths, Exceeds, IsWithin}
use Rattle.ssa_turn_set.proofs.Left.{all-goes, some-stays}
use Rattle.ssa_turn_set.proofs.Staying.{more-stays}
use Rattle.ssa_turn_set.proofs.making.count_gone.Goals as goal

pub returns-then-len-clause-one : goal.returns-then-len-clause-one
returns-then-len-clause-one c =
    let own = (out-Trie c.args.place.now).below.ok.0 in
    let other = (out-Trie c.args.lost.now).below.ok.0 in
    let more : length (out-Trie c.args.lost.now).below.items < length (out-Trie c.args.place.now).below.items = omega arith in
    sym (more-stays c.args.place.now c.args.lost.now c.requires.place c.requires.lost more)

pub returns-then-lies_within-clause-one : goal.returns-then-lies_within-clause-one
returns-then-lies_within-clause-one c =
    let within = subst (λ b. MatchBool b (IsWithin (paths c.args.place.now) (paths c.args.lost.now)) (Exceeds (paths c.args.place.now) (paths c.args.lost.now)))
    c.if-lies_within.true c.lies_within.ensures in
    sym (all-goes (paths c.args.place.now) (paths c.args.lost.now) within)

pub returns-else-lies_within-clause-one : goal.returns-else-lies_within-clause-one
returns-else-lies_within-clause-one c =
    let more = subst (λ b. MatchBool b (IsWithin (paths c.args.place.now) (paths c.args.lost.now)) (Exceeds (paths c.args.place.now) (paths c.args.lost.now)))
    c.if-lies_within.false c.lies_within.ensures in
    sym (some-stays (paths c.args.place.now) (paths c.args.lost.now) more)
