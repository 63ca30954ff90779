use Rattle.std.proofs.lemmas.Result.{on_ok_weaker}
use Rattle.ssa_session.proofs.Effects.{runs-all, runs-whole, runs-partly}
use Rattle.ssa_session.proofs.bench_session.watched_session.Goals as goal

pub returns-clause-ok : goal.returns-clause-ok
returns-clause-ok g c = on_ok_weaker c.session.result (runs-all
    (record {
      told = c.headline_holds.ensures.told;
      runs = c.headline_holds.ensures.runs;
      effect = c.headline_holds.ensures.effect;
      goes_on = c.headline_holds.ensures.any;
    }) _ _ _ _ c.args.bench.now c.session.new.machine c.is_valid.ensures.place) c.session.ensures.ok

pub returns-clause-reader : goal.returns-clause-reader
returns-clause-reader g c =
    λ h. runs-whole (record {
      told = c.headline_holds.ensures.told;
      runs = c.headline_holds.ensures.runs;
      effect = c.headline_holds.ensures.effect;
      goes_on = c.headline_holds.ensures.any;
    }) _ _ _ _ c.args.bench.now c.session.new.machine c.is_valid.ensures.place (c.session.ensures.reader h)

pub returns-clause-writer : goal.returns-clause-writer
returns-clause-writer g c =
    λ h. runs-partly (record {
      told = c.headline_holds.ensures.told;
      runs = c.headline_holds.ensures.runs;
      effect = c.headline_holds.ensures.effect;
      goes_on = c.headline_holds.ensures.any;
    }) _ _ _ _ c.args.bench.now c.session.new.machine c.is_valid.ensures.place (c.session.ensures.writer h)
