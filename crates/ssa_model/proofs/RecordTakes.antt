-- Where a record takes one valid state to another, and back.
use Rattle.std.proofs.Common.{ap, sym, subst, ◌∙◌}
use Rattle.ssa_model.specs.definitions.Kind.{Kind}
use Rattle.ssa_model.specs.definitions.Operations.{State}
use Rattle.ssa_model.specs.definitions.Record.{BodyRecord, TableRecord, Record}
use Rattle.ssa_model.specs.definitions.Carry.{carry_body, carry_table, carry}
use Rattle.ssa_model.specs.definitions.Takes.{Takes, turned_body, turned_table, turned}
use Rattle.ssa_model.specs.laws.RecordLeads.{RecordLeads}
use Rattle.ssa_model.specs.laws.RecordTurns.{FixesTarget, FixesRecord, LeadsBack, TurnsTwice, BodyLaws, TableLaws, TakesByParts}
use Rattle.ssa_model.proofs.TableLeads.{table_leads}
use Rattle.ssa_model.proofs.BodyLeads.{body_leads}
use Rattle.ssa_model.proofs.RecordTurns.{body_turns, table_turns, record_turns}

-- the record of two valid states whose common managers stand in one order leads from the first to the second
pub record_leads : RecordLeads
record_leads kind v w a b order =
    let body = body_leads kind v.body w.body a.fits b.fits in
    let table = table_leads v.table w.table a.table.managers.distinct b.table.managers.distinct order in
    λ i. record { body = body i; table = table i }

-- the record and the first state fix the second
pub fixes_target : FixesTarget
fixes_target kind d v w h = ap (λ (e : Record). carry e v) h.is ∙ record_leads kind v w h.from h.to h.order

-- a record of two states leads from the first one to where it says
pub taken-there : (kind : Kind) (d : Record) (v w : State) → Takes kind d v w → (k : Kind) × Takes k d v (carry d v)
taken-there kind d v w takes = (kind, subst (Takes kind d v) (sym (fixes_target kind d v w takes)) takes)

-- the two states fix the record
pub fixes_record : FixesRecord
fixes_record kind d e v w h k = h.is ∙ sym k.is

-- the turned record takes the second state to the first
pub leads_back : LeadsBack
leads_back kind d v w h =
    record {
      from = h.to;
      to = h.from;
      order = sym h.order;
      is = ap (λ (e : Record). turned e v) h.is ∙ sym (record_turns v w h.from.table.managers.distinct h.to.table.managers.distinct h.order);
    }

-- turned twice it is the record again
pub turns_twice : TurnsTwice
turns_twice kind d v w h = let back = leads_back kind d v w h in let there = leads_back kind (turned d v) w v back in there.is ∙ sym h.is

-- ---- the parts

-- of bodies: a record that takes one to the other leads there, is the only one, and takes back where it is turned
pub body_laws : BodyLaws
body_laws kind d v w h = (
  ap (λ (e : BodyRecord). carry_body e v) h.is ∙ body_leads kind v w h.from h.to,
  λ e k. h.is ∙ sym k.is,
  record { from = h.to; to = h.from; is = ap (λ (e : BodyRecord). turned_body e v) h.is ∙ sym (body_turns v w) },
)

-- and so it is of tables
pub table_laws : TableLaws
table_laws d t u h = (
  ap (λ (e : TableRecord). carry_table e t) h.is ∙ table_leads t u h.from h.to h.order,
  λ e k. h.is ∙ sym k.is,
  record { from = h.to; to = h.from; order = sym h.order; is = ap (λ (e : TableRecord). turned_table e t) h.is ∙ sym (table_turns t u h.from h.to h.order) },
)

-- a record takes valid states one to the other where its parts do so with their bodies and tables
pub takes_by_parts : TakesByParts
takes_by_parts kind d v w a b body table =
    let body_is = body.is in
    let table_is = table.is in
    record { from = a; to = b; order = table.order; is = λ i. record { body = body_is i; table = table_is i } }
