use Rattle.std.proofs.Common.{sym, ◌∙◌}
use Rattle.ssa_told.proofs.Objects.{record-named, record-body, record-table, record-all}
use Rattle.ssa_told.proofs.told_reading.record_of.Goals as goal

pub returns-then-not-have_names_of : goal.returns-then-not-have_names_of
returns-then-not-have_names_of c =
    let es = c.args.members.now.entries in
    let sorted = c.have_names_of.ensures.ordered in
    let named = sym c.have_names_of.ensures.told ∙ c.if-not-have_names_of.true in
    record-named es sorted named

pub returns-in_default : goal.returns-in_default
returns-in_default c =
    let es = c.args.members.now.entries in
    let sorted = c.have_names_of.ensures.ordered in
    let named = sym c.have_names_of.ensures.told ∙ c.if-not-have_names_of.false in
    record-body es sorted named (rw c.in_default.is at c.in_ok-body.ensures)

pub returns-in_default-2 : goal.returns-in_default-2
returns-in_default-2 c =
    let es = c.args.members.now.entries in
    let sorted = c.have_names_of.ensures.ordered in
    let named = sym c.have_names_of.ensures.told ∙ c.if-not-have_names_of.false in
    let body = rw c.in-Some.is at c.in_ok-body.ensures in
    record-table es sorted named body.are (rw c.in_default-2.is at c.in_ok-table.ensures)

pub returns : goal.returns
returns c =
    let es = c.args.members.now.entries in
    let sorted = c.have_names_of.ensures.ordered in
    let named = sym c.have_names_of.ensures.told ∙ c.if-not-have_names_of.false in
    let body = rw c.in-Some.is at c.in_ok-body.ensures in
    let table = rw c.in-Some-2.is at c.in_ok-table.ensures in (record-all es sorted named body.are table.are, λ i. (body.is i, table.is i))
