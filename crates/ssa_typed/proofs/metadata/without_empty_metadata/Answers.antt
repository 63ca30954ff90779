use Rattle.std.proofs.Common.{sym, ap, ◌∙◌}
use Rattle.ssa_json.specs.View.{members_view}
use Rattle.ssa_typed.specs.Reads.{has_empty_metadata}
use Rattle.ssa_typed.proofs.EmptyMetadata.{gone, removed, kept}
use Rattle.ssa_typed.proofs.metadata.without_empty_metadata.Goals as goal

pub returns-then-has_empty_metadata-clause-members : goal.returns-then-has_empty_metadata-clause-members
returns-then-has_empty_metadata-clause-members c = ap members_view c.remove.ensures.entries
    ∙ removed c.args.members.entries (sym c.has_empty_metadata.ensures.told ∙ c.if-has_empty_metadata.true)

pub returns-else-has_empty_metadata-clause-members : goal.returns-else-has_empty_metadata-clause-members
returns-else-has_empty_metadata-clause-members c = kept c.args.members.entries c.has_empty_metadata.ensures.ordered (sym c.has_empty_metadata.ensures.told
    ∙ c.if-has_empty_metadata.false)

pub returns-then-has_empty_metadata-clause-gone : goal.returns-then-has_empty_metadata-clause-gone
returns-then-has_empty_metadata-clause-gone c = ap (λ es. has_empty_metadata (members_view es)) c.remove.ensures.entries
    ∙ gone c.args.members.entries c.has_empty_metadata.ensures.ordered
