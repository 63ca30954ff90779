use Rattle.std.proofs.Common.{sym, ◌∙◌}
use Rattle.ssa_told.proofs.Objects.{entry-named, entry-texts, entry-fields, entry-key, entry-time, entry-all, moment-there}
use Rattle.ssa_told.proofs.table_reading.entry_of.Goals as goal

pub returns-then-not-have_names_of : goal.returns-then-not-have_names_of
returns-then-not-have_names_of c =
    let es = c.args.members.now.entries in
    let sorted = c.have_names_of.ensures.ordered in
    let named = sym c.have_names_of.ensures.told ∙ c.if-not-have_names_of.true in
    entry-named es sorted named

pub returns-then-not-has_entry_texts : goal.returns-then-not-has_entry_texts
returns-then-not-has_entry_texts c =
    let es = c.args.members.now.entries in
    let sorted = c.have_names_of.ensures.ordered in
    let named = sym c.have_names_of.ensures.told ∙ c.if-not-have_names_of.false in
    let texts = sym c.has_entry_texts.ensures ∙ c.if-not-has_entry_texts.true in
    entry-texts es sorted named texts

pub returns-in_default : goal.returns-in_default
returns-in_default c =
    let es = c.args.members.now.entries in
    let sorted = c.have_names_of.ensures.ordered in
    let named = sym c.have_names_of.ensures.told ∙ c.if-not-have_names_of.false in
    let texts = sym c.has_entry_texts.ensures ∙ c.if-not-has_entry_texts.false in
    entry-fields es sorted named texts (rw c.in_default.is at c.in_ok-set.ensures)

pub returns-in_default-2 : goal.returns-in_default-2
returns-in_default-2 c =
    let es = c.args.members.now.entries in
    let sorted = c.have_names_of.ensures.ordered in
    let named = sym c.have_names_of.ensures.told ∙ c.if-not-have_names_of.false in
    let texts = sym c.has_entry_texts.ensures ∙ c.if-not-has_entry_texts.false in
    let fields = rw c.in-Some.is at c.in_ok-set.ensures in
    entry-key es sorted named texts fields.0 (rw c.in_default-2.is at c.in_ok-key.ensures)

pub returns-in_default-moment_at : goal.returns-in_default-moment_at
returns-in_default-moment_at c =
    let es = c.args.members.now.entries in
    let sorted = c.have_names_of.ensures.ordered in
    let named = sym c.have_names_of.ensures.told ∙ c.if-not-have_names_of.false in
    let texts = sym c.has_entry_texts.ensures ∙ c.if-not-has_entry_texts.false in
    let fields = rw c.in-Some.is at c.in_ok-set.ensures in
    let key = rw c.in-Some-2.is at c.in_ok-key.ensures in
    entry-time es sorted named texts fields.0 key.0 (rw c.in_default-moment_at.is at c.moment_at.ensures)

pub returns : goal.returns
returns c =
    let es = c.args.members.now.entries in
    let sorted = c.have_names_of.ensures.ordered in
    let named = sym c.have_names_of.ensures.told ∙ c.if-not-have_names_of.false in
    let texts = sym c.has_entry_texts.ensures ∙ c.if-not-has_entry_texts.false in
    let fields = rw c.in-Some.is at c.in_ok-set.ensures in
    let key = rw c.in-Some-2.is at c.in_ok-key.ensures in
    let time = rw c.in-Some-moment_at.is at c.moment_at.ensures in
    let moment = time.1 ∙ moment-there es sorted time.0 in (
      entry-all es sorted named texts fields.0 key.0 time.0,
      λ i. record { manager = key.1 i; owned = fields.1 i; moment = moment i },
    )
