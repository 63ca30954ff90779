use Rattle.std.proofs.Common.{[], ◌∷◌, ◌++◌, ap, ◌∙◌, append_assoc}
use Rattle.std.proofs.lemmas.Str.{is_utf8-from_IsUtf8}
use Rattle.ssa_model.specs.definitions.Json.{comma_if, quoted}
use Rattle.ssa_json.specs.MemberTexts.{name_text}
use Rattle.ssa_json.proofs.write.push_name.Goals as goal

pub returns-clause-text : goal.returns-clause-text
unfolding name_text
returns-clause-text c =
    let old = c.args.text.now.items in
    let comma = comma_if c.args.is_later in
    let name = quoted c.args.name.now in
    c.in_ok-push.ensures.items ∙ ap (λ t. t ++ 58 ∷ []) (c.in_ok-push_string.ensures ∙ ap (λ t. t ++ name) c.in_ok-push_comma.ensures)
    ∙ append_assoc (old ++ comma) name (58 ∷ []) ∙ append_assoc old comma (name ++ 58 ∷ [])

pub returns-clause-utf8 : goal.returns-clause-utf8
returns-clause-utf8 c = is_utf8-from_IsUtf8 c.args.name.now c.utf8.name
