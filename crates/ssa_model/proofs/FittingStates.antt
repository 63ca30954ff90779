-- A record fits a valid state exactly where it takes it to another.
use Rattle.std.proofs.Common.{◌≡◌, ◌≤◌, true, false, sym, ap, subst}
use Rattle.ssa_model.specs.definitions.Limits.{most_places}
use Rattle.ssa_model.specs.definitions.Path.{Path}
use Rattle.ssa_model.specs.definitions.PathMap.{has, has_at_or_above, size}
use Rattle.ssa_model.specs.definitions.Body.{Body}
use Rattle.ssa_model.specs.definitions.Operations.{State}
use Rattle.ssa_model.specs.definitions.Valid.{IsRooted}
use Rattle.ssa_model.specs.definitions.Record.{Record}
use Rattle.ssa_model.specs.definitions.Carry.{carry_body, carry}
use Rattle.ssa_model.specs.laws.FittingRecords.{TableFits, FittingLeads, TakenFits}
use Rattle.ssa_model.proofs.RecordTakes.{fixes_target, takes_by_parts}
use Rattle.ssa_model.proofs.FittingBodies.{stay-there}
use Rattle.ssa_model.proofs.FittingTells.{fitting_body_leads}
use Rattle.ssa_model.proofs.TakenBodies.{uncut, taken_body_fits}
use Rattle.ssa_model.proofs.FittingTables.{fitting_table_leads}
use Rattle.ssa_model.proofs.TakenTables.{taken_table_fits}

-- a record that fits a valid state takes it to what it leads to
pub fitting_leads : FittingLeads
fitting_leads kind d v a f =
    let body = fitting_body_leads kind d.body v.body a.fits f.body in
    let table = fitting_table_leads d.table v.table v.body (carry_body d.body v.body) d.body.cut a.table (stay-there kind d.body v.body a.fits f.body)
    f.table in
    takes_by_parts kind d v (carry d v) a (record { fits = body.to; rooted = f.rooted; few = f.few; table = table.1 }) body table.0

-- a record that takes a valid state anywhere fits it
pub taken_fits : TakenFits
taken_fits kind d v w h =
    let is = h.is in
    let after : w.body ≡ carry_body d.body v.body = ap (λ (s : State). s.body) (sym (fixes_target kind d v w h)) in
    let apart : (p : Path) → has w.body p ≡ true → has_at_or_above d.body.cut p ≡ false =
    subst (λ (e : Record). (p : Path) → has w.body p ≡ true → has_at_or_above e.body.cut p ≡ false) (sym is) (uncut kind v.body w.body h.from.fits h.to.fits) in
    record {
      body = taken_body_fits kind d.body v.body w.body (record { from = h.from.fits; to = h.to.fits; is = ap (λ (e : Record). e.body) is });
      table = subst (λ (b : Body). TableFits d.table v.table b d.body.cut) after (taken_table_fits d.table v.table w.table w.body d.body.cut h.to.table apart
          (record { from = h.from.table.managers.distinct; to = h.to.table.managers.distinct; order = h.order; is = ap (λ (e : Record). e.table) is }));
      rooted = subst IsRooted after h.to.rooted;
      few = subst (λ (b : Body). size b ≤ most_places) after h.to.few;
    }
