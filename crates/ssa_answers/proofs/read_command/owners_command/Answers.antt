use Rattle.std.proofs.Common.{option_map, ap, ◌∙◌, sym}
use Rattle.ssa_json.specs.View.{items_view, members_view}
use Rattle.ssa_answers.proofs.CommandFacts.{path-there, path-texts}
use Rattle.ssa_answers.proofs.read_command.owners_command.Goals as goal

pub unreachable-requires : goal.unreachable-requires
unreachable-requires c =
    path-there (members_view c.args.members.now.entries) c.requires.shape (sym c.list_of.ensures ∙ ap (option_map (λ t. items_view t.now)) c.in_default.is)

pub path_of_texts-requires : goal.path_of_texts-requires
path_of_texts-requires c =
    path-texts (members_view c.args.members.now.entries) (items_view c.in-Some.texts.now) c.requires.shape (sym c.list_of.ensures
    ∙ ap (option_map (λ t. items_view t.now)) c.in-Some.is)
