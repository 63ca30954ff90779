use Rattle.std.proofs.Common.{sym, ap, ◌∙◌, option_map}
use Rattle.std.specs.List.{list_any}
use Rattle.ssa_model.specs.definitions.Schema.{is_one_of_texts, names, reserved_names}
use Rattle.ssa_json.specs.View.{members_view}
use Rattle.ssa_schema.specs.Words.{members_found}
use Rattle.ssa_schema.proofs.read.rules.has_reserved_property.Goals as goal

pub returns-in-Some : goal.returns-in-Some
returns-in-Some c =
    c.some_name_is_among.ensures
    ∙ ap (λ ps. list_any (λ n. is_one_of_texts n reserved_names) (names ps))
    (ap (λ r. members_found (option_map (λ ms. members_view ms.now.entries) r)) (sym c.in-Some.is) ∙ c.property_members.ensures)
