use Rattle.std.proofs.Common.{◌≡◌, sym, ap, subst, ◌∙◌, true≢false}
use Rattle.std.specs.Prelude.{is_some, IfSome}
use Rattle.ssa_model.specs.definitions.Body.{Body}
use Rattle.ssa_model.specs.definitions.PathMap.{has, has_at_or_above}
use Rattle.ssa_model.specs.definitions.Record.{BodyRecord, body_record}
use Rattle.ssa_model.specs.definitions.Takes.{BodyTakes, TableTakes}
use Rattle.ssa_model.specs.definitions.Valid.{IsTable, IsValidBody}
use Rattle.ssa_model.specs.laws.FittingRecords.{TableFits}
use Rattle.ssa_merge.specs.Managers.{table_view}
use Rattle.ssa_merge.specs.States.{state_view}
use Rattle.ssa_turn_body.specs.Records.{body_told}
use Rattle.ssa_turn_body.specs.Rooms.{HasBodyRoom}
use Rattle.ssa_turn_state.specs.States.{state_steps}
use Rattle.ssa_turn_table.specs.Turning.{HasTableRoom, table_steps}
use Rattle.ssa_record.specs.LedBodies.{IsSaid}
use Rattle.ssa_told.specs.Told.{told_table}
use Rattle.ssa_record.proofs.LedStates.{body-taken, leads-there, lost-cut, state-taken, table-taken, taken-there, valid-body}
use Rattle.ssa_record.proofs.told_delta.told_delta.Goals as goal
use Rattle.ssa_model.proofs.RecordPlaces.{led as leads-to}

pub returns-in_default-clause-whole : goal.returns-in_default-clause-whole
returns-in_default-clause-whole c = λ w own order says_body says_table.
    let kind = c.args.schema.now.kind in
    let v = state_view c.args.state.now in
    let d = body_record v.body w.body in
    subst (λ o. IsSaid o d) c.in_default.is (c.in_ok-changes.ensures.whole d w.body (body-taken kind v w c.requires own) (valid-body kind w own) says_body)

pub turn_recorded-requires-clause-fits : goal.turn_recorded-requires-clause-fits
turn_recorded-requires-clause-fits c =
    let kind = c.args.schema.now.kind in
    let b = c.args.state.now.body in
    let taken = subst (λ o. IfSome o (λ s. (w : Body) × BodyTakes kind (body_told s) b w × IsValidBody kind w)) c.in-Some.is c.in_ok-changes.ensures.taken in
    taken-there kind (body_told c.in-Some.changes) b taken.0 taken.1 c.requires.rooted taken.2.rooted

pub turn_recorded-requires-2-clause-fits : goal.turn_recorded-requires-2-clause-fits
turn_recorded-requires-2-clause-fits c =
    let back = c.turn_recorded.ensures.back in
    taken-there back.0 (body_told c.turn_recorded.new.changes) c.turn_recorded.new.body c.args.state.now.body back.1 back.2 back.3

pub returns-in_err-table-clause-same : goal.returns-in_err-table-clause-same
returns-in_err-table-clause-same c =
    let e = c.turn_recorded-2.ensures.value ∙ leads-there (body_told c.turn_recorded.new.changes) c.turn_recorded.new.body c.args.state.now.body
    c.turn_recorded.ensures.back in
    λ i. record { body = e i; table = c.args.state.now.managers }

pub returns-in-Some-2-clause-same : goal.returns-in-Some-2-clause-same
returns-in-Some-2-clause-same c =
    let e = c.turn_recorded-2.ensures.value ∙ leads-there (body_told c.turn_recorded.new.changes) c.turn_recorded.new.body c.args.state.now.body
    c.turn_recorded.ensures.back in
    λ i. record { body = e i; table = c.args.state.now.managers }

pub returns-clause-same : goal.returns-clause-same
returns-clause-same c =
    let e = c.turn_recorded-2.ensures.value ∙ leads-there (body_told c.turn_recorded.new.changes) c.turn_recorded.new.body c.args.state.now.body
    c.turn_recorded.ensures.back in
    λ i. record { body = e i; table = c.args.state.now.managers }

pub returns-in-Some-2-clause-taken : goal.returns-in-Some-2-clause-taken
returns-in-Some-2-clause-taken c =
    let kind = c.args.schema.now.kind in
    let v = state_view c.args.state.now in
    let b = c.args.state.now.body in
    let there = c.turn_recorded.new.body in
    let s0 = c.in-Some.changes in
    let s2 = c.turn_recorded-2.new.changes in
    let taken = subst (λ o. IfSome o (λ s. (w : Body) × BodyTakes kind (body_told s) b w × IsValidBody kind w)) c.in-Some.is c.in_ok-changes.ensures.taken in
    let w = taken.0 in
    let e : c.turn_recorded-2.new.body ≡ b = c.turn_recorded-2.ensures.value
    ∙ leads-there (body_told c.turn_recorded.new.changes) there b c.turn_recorded.ensures.back in
    let led : there ≡ w = c.turn_recorded.ensures.value ∙ leads-to kind (body_told s0) b w taken.1 in
    let is : body_told s2 ≡ body_record b w = c.turn_recorded-2.ensures.back.1.is ∙ (λ i. body_record (e i) (led i)) in
    let takes : BodyTakes kind (body_told s2) b w = record { from = taken.1.from; to = taken.1.to; is = is } in
    let alike : body_told s0 ≡ body_told s2 = taken.1.is ∙ sym is in
    let cut = c.in_ok-cut.ensures ∙ ap (λ (x : BodyRecord). x.cut) alike in
    let told = told_table c.args.told.table in
    let fits = subst (λ o. IfSome o (λ d. TableFits told (table_view c.entries.result.now) there c.in_ok-cut.cut)) c.in-Some-2.is c.in_ok-table.ensures.fits in
    let steps : table_steps c.in-Some-2.table ≡ told = subst (λ o. IfSome o (λ d. table_steps d ≡ told)) c.in-Some-2.is c.in_ok-table.ensures.steps in
    let at_table = subst (λ t. TableFits told t there c.in_ok-cut.cut) c.entries.ensures.same fits in
    let at_body = subst (λ x. TableFits told v.table x c.in_ok-cut.cut) led at_table in
    let at_cut = subst (λ x. TableFits told v.table w x) cut at_body in
    state-taken kind v (state_steps (record { body = s2; table = c.in-Some-2.table })) w c.requires takes taken.2
    (subst (λ x. TableFits x v.table w (body_told s2).cut) (sym steps) at_cut)

pub returns-in-Some-2-clause-room : goal.returns-in-Some-2-clause-room
returns-in-Some-2-clause-room c =
    let b = c.args.state.now.body in
    let e : c.turn_recorded-2.new.body ≡ b =
    c.turn_recorded-2.ensures.value ∙ leads-there (body_told c.turn_recorded.new.changes) c.turn_recorded.new.body b c.turn_recorded.ensures.back in
    let table = subst (λ o. IfSome o (λ d. HasTableRoom d (table_view c.entries.result.now))) c.in-Some-2.is c.in_ok-table.ensures.room in
    record {
      body = subst (HasBodyRoom c.turn_recorded-2.new.changes) e c.turn_recorded-2.ensures.room;
      table = subst (HasTableRoom c.in-Some-2.table) c.entries.ensures.same table;
    }

pub returns-in-Some-2-clause-whole : goal.returns-in-Some-2-clause-whole
returns-in-Some-2-clause-whole c = λ w own order says_body says_table.
    let kind = c.args.schema.now.kind in
    let v = state_view c.args.state.now in
    let b = c.args.state.now.body in
    let there = c.turn_recorded.new.body in
    let s0 = c.in-Some.changes in
    let s2 = c.turn_recorded-2.new.changes in
    let d = body_record b w.body in
    let said : body_told s0 ≡ d = subst (λ o. IsSaid o d) c.in-Some.is
    (c.in_ok-changes.ensures.whole d w.body (body-taken kind v w c.requires own) (valid-body kind w own) says_body) in
    let takes : BodyTakes kind (body_told s0) b w.body = record { from = c.requires.fits; to = own.fits; is = said } in
    let e : c.turn_recorded-2.new.body ≡ b = c.turn_recorded-2.ensures.value
    ∙ leads-there (body_told c.turn_recorded.new.changes) there b c.turn_recorded.ensures.back in
    let led : there ≡ w.body = c.turn_recorded.ensures.value ∙ leads-to kind (body_told s0) b w.body takes in
    let body : body_told s2 ≡ d = c.turn_recorded-2.ensures.back.1.is ∙ (λ i. body_record (e i) (led i)) in
    let told = told_table c.args.told.table in
    let table = subst (λ o. IfSome o (λ x. table_steps x ≡ told)) c.in-Some-2.is c.in_ok-table.ensures.steps ∙ says_table in
    λ i. record { body = body i; table = table i }

pub returns-clause-whole : goal.returns-clause-whole
returns-clause-whole c = λ w own order says_body says_table.
    let kind = c.args.schema.now.kind in
    let v = state_view c.args.state.now in
    let b = c.args.state.now.body in
    let there = c.turn_recorded.new.body in
    let s0 = c.in-Some.changes in
    let d = body_record b w.body in
    let said : body_told s0 ≡ d = subst (λ o. IsSaid o d) c.in-Some.is
    (c.in_ok-changes.ensures.whole d w.body (body-taken kind v w c.requires own) (valid-body kind w own) says_body) in
    let takes : BodyTakes kind (body_told s0) b w.body = record { from = c.requires.fits; to = own.fits; is = said } in
    let led : there ≡ w.body = c.turn_recorded.ensures.value ∙ leads-to kind (body_told s0) b w.body takes in
    let told = told_table c.args.told.table in
    let table = subst (λ t. TableTakes told t w.table) (sym c.entries.ensures.same) (table-taken kind v w told c.requires own order says_table) in
    let some = c.in_ok-table.ensures.taken w.table table (subst (λ x. IsTable x w.table) (sym led) own.table)
    (λ p there_is. ap (λ s. has_at_or_above s p) c.in_ok-cut.ensures
    ∙ lost-cut kind (body_told s0) b w.body takes p (ap (λ x. has x p) (sym led) ∙ there_is)) in
    true≢false (sym some ∙ ap is_some c.in-None.is)
