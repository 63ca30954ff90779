use Rattle.std.proofs.Common.{sym, ◌∙◌}
use Rattle.ssa_told.proofs.Objects.{here-named, here-place, here-entry, here-all}
use Rattle.ssa_told.proofs.table_reading.here_of.Goals as goal

pub returns-then-not-have_names_of : goal.returns-then-not-have_names_of
returns-then-not-have_names_of c =
    let es = c.args.members.now.entries in
    let sorted = c.have_names_of.ensures.ordered in
    let named = sym c.have_names_of.ensures.told ∙ c.if-not-have_names_of.true in
    here-named es sorted named

pub returns-in_default : goal.returns-in_default
returns-in_default c =
    let es = c.args.members.now.entries in
    let sorted = c.have_names_of.ensures.ordered in
    let named = sym c.have_names_of.ensures.told ∙ c.if-not-have_names_of.false in
    here-place es sorted named (rw c.in_default.is at c.place_at.ensures)

pub returns-in_default-2 : goal.returns-in_default-2
returns-in_default-2 c =
    let es = c.args.members.now.entries in
    let sorted = c.have_names_of.ensures.ordered in
    let named = sym c.have_names_of.ensures.told ∙ c.if-not-have_names_of.false in
    let place = rw c.in-Some.is at c.place_at.ensures in
    here-entry es sorted named place.0 (rw c.in_default-2.is at c.in_ok-entry.ensures)

pub returns : goal.returns
returns c =
    let es = c.args.members.now.entries in
    let sorted = c.have_names_of.ensures.ordered in
    let named = sym c.have_names_of.ensures.told ∙ c.if-not-have_names_of.false in
    let place = rw c.in-Some.is at c.place_at.ensures in
    let entry = rw c.in-Some-2.is at c.in_ok-entry.ensures in (here-all es sorted named place.0 entry.0, λ i. (place.1 i, entry.1 i))
