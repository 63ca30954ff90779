use Rattle.std.proofs.Common.{sym, subst}
use Rattle.ssa_model.specs.definitions.Fitting.{IsBodyOf}
use Rattle.ssa_model.specs.definitions.Valid.{IsRooted}
use Rattle.ssa_turn_body.proofs.live_body.turn_recorded.Goals as goal

pub turn_body-requires-clause-rooted : goal.turn_body-requires-clause-rooted
turn_body-requires-clause-rooted c t d turned = subst IsRooted (sym (c.requires.room.turns t d turned).leads) c.requires.fits.3

pub returns-clause-value : goal.returns-clause-value
returns-clause-value c = (c.requires.room.turns c.turn_body.new.changes c.turn_body.new.body c.turn_body.ensures.leads).leads

pub returns-clause-back : goal.returns-clause-back
returns-clause-back c =
    let fits = c.requires.fits in
    let turned = c.requires.room.turns c.turn_body.new.changes c.turn_body.new.body c.turn_body.ensures.leads in
    let led = sym turned.leads in
    (fits.0, record { from = subst (IsBodyOf fits.0) led fits.1.to; to = fits.1.from; is = turned.back }, subst IsRooted led fits.3, fits.2)
