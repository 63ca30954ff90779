use Rattle.std.proofs.Common.{sym, ◌∙◌}
use Rattle.ssa_schema.proofs.Rows.{sought-none, sought-found, sought-more, sought-all}
use Rattle.ssa_schema.proofs.fit.repeated.repeat_in_pairs.Goals as goal

pub loop-place-init : goal.loop-place-init
loop-place-init c = sought-none c.args.keys.now

pub returns-then-is_one_of : goal.returns-then-is_one_of
returns-then-is_one_of c =
    sought-found c.args.keys.now c.loop-place.place c.index-keys-place.result c.loop-place-test.true c.index-keys-place.is
    (sym c.if-is_one_of.true ∙ c.is_one_of.ensures) c.loop-place.invariant

pub loop-place-preserved : goal.loop-place-preserved
loop-place-preserved c =
    sought-more c.args.keys.now c.loop-place.place c.index-keys-place.result c.loop-place-test.true c.index-keys-place.is
    (sym c.if-is_one_of.false ∙ c.is_one_of.ensures) c.loop-place.invariant

pub returns : goal.returns
returns c = sought-all c.args.keys.now c.loop-place.place c.loop-place-test.false c.loop-place.invariant
