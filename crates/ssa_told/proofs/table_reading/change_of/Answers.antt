use Rattle.std.proofs.Common.{sym, ◌∙◌}
use Rattle.ssa_told.proofs.Objects.{change-named, change-gain, change-lose, change-key, change-time, change-all}
use Rattle.ssa_told.proofs.table_reading.change_of.Goals as goal

pub returns-then-not-have_names_of : goal.returns-then-not-have_names_of
returns-then-not-have_names_of c =
    let es = c.args.members.now.entries in
    let sorted = c.have_names_of.ensures.ordered in
    let named = sym c.have_names_of.ensures.told ∙ c.if-not-have_names_of.true in
    change-named es sorted named

pub returns-in_default : goal.returns-in_default
returns-in_default c =
    let es = c.args.members.now.entries in
    let sorted = c.have_names_of.ensures.ordered in
    let named = sym c.have_names_of.ensures.told ∙ c.if-not-have_names_of.false in
    change-gain es sorted named (rw c.in_default.is at c.in_ok-gain.ensures)

pub returns-in_default-2 : goal.returns-in_default-2
returns-in_default-2 c =
    let es = c.args.members.now.entries in
    let sorted = c.have_names_of.ensures.ordered in
    let named = sym c.have_names_of.ensures.told ∙ c.if-not-have_names_of.false in
    let gain = rw c.in-Some.is at c.in_ok-gain.ensures in
    change-lose es sorted named gain.0 (rw c.in_default-2.is at c.in_ok-lose.ensures)

pub returns-in_default-3 : goal.returns-in_default-3
returns-in_default-3 c =
    let es = c.args.members.now.entries in
    let sorted = c.have_names_of.ensures.ordered in
    let named = sym c.have_names_of.ensures.told ∙ c.if-not-have_names_of.false in
    let gain = rw c.in-Some.is at c.in_ok-gain.ensures in
    let lose = rw c.in-Some-2.is at c.in_ok-lose.ensures in
    change-key es sorted named gain.0 lose.0 (rw c.in_default-3.is at c.in_ok-key.ensures)

pub returns-in_default-moment_if_told : goal.returns-in_default-moment_if_told
returns-in_default-moment_if_told c =
    let es = c.args.members.now.entries in
    let sorted = c.have_names_of.ensures.ordered in
    let named = sym c.have_names_of.ensures.told ∙ c.if-not-have_names_of.false in
    let gain = rw c.in-Some.is at c.in_ok-gain.ensures in
    let lose = rw c.in-Some-2.is at c.in_ok-lose.ensures in
    let key = rw c.in-Some-3.is at c.in_ok-key.ensures in
    change-time es sorted named gain.0 lose.0 key.0 (rw c.in_default-moment_if_told.is at c.moment_if_told.ensures)

pub returns : goal.returns
returns c =
    let es = c.args.members.now.entries in
    let sorted = c.have_names_of.ensures.ordered in
    let named = sym c.have_names_of.ensures.told ∙ c.if-not-have_names_of.false in
    let gain = rw c.in-Some.is at c.in_ok-gain.ensures in
    let lose = rw c.in-Some-2.is at c.in_ok-lose.ensures in
    let key = rw c.in-Some-3.is at c.in_ok-key.ensures in
    let time = rw c.in-Some-moment_if_told.is at c.moment_if_told.ensures in (
      change-all es sorted named gain.0 lose.0 key.0 time.0,
      λ i. record { manager = key.1 i; gain = gain.1 i; lose = lose.1 i; moment = time.1 i },
    )
