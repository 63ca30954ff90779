use Rattle.std.proofs.Common.{sym, ap, ◌∙◌}
use Rattle.ssa_json.specs.View.{members_view}
use Rattle.ssa_path.specs.Keys as keys
use Rattle.ssa_schema.specs.Kinds.{fields_view, names_view}
use Rattle.ssa_typed.proofs.ItemKeys.{keys-some}
use Rattle.ssa_typed.proofs.item_keys.keys_of.Goals as goal

pub unreachable-requires : goal.unreachable-requires
unreachable-requires c =
    keys-some (names_view c.args.names.now) (fields_view c.args.fields.now.entries) (members_view c.args.members.now.entries) c.requires.fits.0
    c.requires.names c.requires.fits.1
    (sym c.in-None.is ∙ c.new.ensures ∙ ap keys.keys_of c.in_ok-key_members.ensures)
