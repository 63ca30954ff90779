-- The state that a record leads to, by its body and its table.
use Rattle.std.proofs.Common.{◌≡◌, true, false, refl, sym, ap, subst, ◌∙◌}
use Rattle.ssa_model.specs.definitions.Path.{Path}
use Rattle.ssa_model.specs.definitions.PathMap.{has, has_at_or_above}
use Rattle.ssa_model.specs.definitions.Kind.{Kind}
use Rattle.ssa_model.specs.definitions.Body.{Body}
use Rattle.ssa_model.specs.definitions.Operations.{State}
use Rattle.ssa_model.specs.definitions.Carry.{carry, carry_body, carry_table}
use Rattle.ssa_model.specs.definitions.Record.{BodyRecord, TableRecord, Record, body_record, table_record}
use Rattle.ssa_model.specs.definitions.Takes.{BodyTakes, TableTakes, Takes}
use Rattle.ssa_model.specs.definitions.Valid.{IsRooted, IsValidBody, IsValidState, KeepsOrder}
use Rattle.ssa_model.specs.laws.FittingRecords.{KeepsUncut, TableFits}
use Rattle.ssa_model.proofs.BodyLeads.{bodies_are_trees, left, lost}
use Rattle.ssa_model.proofs.RecordTakes.{body_laws, fixes_target}
use Rattle.ssa_model.proofs.FittingTables.{fitting_table_leads}
use Rattle.ssa_model.proofs.Basics.{yes_no}
use Rattle.ssa_model.proofs.Tests.{by_test}
use Rattle.ssa_turn_body.specs.Rooms.{IsBodyTaken}
use Rattle.ssa_turn_state.specs.States.{IsTaken}
use Rattle.ssa_model.proofs.RecordPlaces.{led as leads-to}

-- a record of two rooted bodies of a kind is taken, to where it leads
pub taken-there : (kind : Kind) (d : BodyRecord) (v w : Body) → BodyTakes kind d v w → IsRooted v → IsRooted w → IsBodyTaken d v (carry_body d v)
taken-there kind d v w takes from to =
    let led = sym (body_laws kind d v w takes).0 in
    (kind, subst (BodyTakes kind d v) led takes, from, subst IsRooted led to)

-- such a record leads from the first body to the second
pub leads-there : (d : BodyRecord) (v w : Body) → IsBodyTaken d v w → carry_body d v ≡ w
leads-there d v w taken = (body_laws taken.0 d v w taken.1).0

-- what is cut is what the second body has not
pub keeps-uncut : (kind : Kind) (d : BodyRecord) (v w : Body) → BodyTakes kind d v w → KeepsUncut d.cut v w
keeps-uncut kind d v w takes p there uncut =
    let h = bodies_are_trees kind v w takes.from takes.to in
    left v w h.0 h.1 h.2 p there (ap (λ (x : BodyRecord). has_at_or_above x.cut p) (sym takes.is) ∙ uncut)

-- what the second body has lies under nothing that is cut
pub lost-cut : (kind : Kind) (d : BodyRecord) (v w : Body) → BodyTakes kind d v w → (p : Path) → has w p ≡ true → has_at_or_above d.cut p ≡ false
lost-cut kind d v w takes p there =
    let h = bodies_are_trees kind v w takes.from takes.to in
    by_test (has_at_or_above d.cut p)
    (λ t. yes_no (has w p) there (lost v w h.0 h.1 h.2 p (ap (λ (x : BodyRecord). has_at_or_above x.cut p) (sym takes.is) ∙ t)))
    (λ k. k)

-- the body of a valid state is valid
pub valid-body : (kind : Kind) (w : State) → IsValidState kind w → IsValidBody kind w.body
valid-body kind w valid = record { fits = valid.fits; rooted = valid.rooted; few = valid.few }

-- a record whose body takes that of a state to a valid one, and whose table fits there, takes the state to a valid one
pub state-taken : (kind : Kind) (v : State) (s : Record) (wb : Body) → IsValidState kind v → BodyTakes kind s.body v.body wb → IsValidBody kind wb
    → TableFits s.table v.table wb s.body.cut → (w : State) × Takes kind s v w
state-taken kind v s wb valid takes own fits =
    let leads = fitting_table_leads s.table v.table v.body wb s.body.cut valid.table (keeps-uncut kind s.body v.body wb takes) fits in
    let u = carry_table s.table v.table in (
      record { body = wb; table = u },
      record {
        from = valid;
        to = record { fits = own.fits; rooted = own.rooted; few = own.few; table = leads.1 };
        order = leads.0.order;
        is = λ i. record { body = takes.is i; table = leads.0.is i };
      },
    )

-- what is told of a table that a record takes a valid one to
pub table-taken : (kind : Kind) (v w : State) (d : TableRecord) → IsValidState kind v → IsValidState kind w → KeepsOrder v.table w.table
    → d ≡ table_record v.table w.table → TableTakes d v.table w.table
table-taken kind v w d valid own order is = record { from = valid.table.managers.distinct; to = own.table.managers.distinct; order = order; is = is }

-- the record of the bodies of two valid states takes the first of these to the second
pub body-taken : (kind : Kind) (v w : State) → IsValidState kind v → IsValidState kind w → BodyTakes kind (body_record v.body w.body) v.body w.body
body-taken kind v w valid own = record { from = valid.fits; to = own.fits; is = refl }
