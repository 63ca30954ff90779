-- The texts of replies.
use Rattle.std.proofs.Common.{◌≡◌, ◌∷◌, [], ◌++◌, ap, ◌∙◌}
use Rattle.std.specs.Prelude.{codes}
use Rattle.ssa_model.specs.definitions.Entries.{operation_text, text_json}
use Rattle.ssa_model.specs.definitions.Json.{Text, compact}
use Rattle.ssa_model.specs.definitions.Table.{ManagerKey}
use Rattle.ssa_model.specs.definitions.Replies.{key_json}
use Rattle.ssa_path.specs.PartMembers.{part_text}
use Rattle.ssa_path.specs.PartMembers.{part-closed}
use Rattle.ssa_model.proofs.ItemTexts.{joined}

-- a manager's text is that of its members, one behind another
pub key-written : (k : ManagerKey) (t0 : Text) {t1 t2 t3 t4 t5 t6 : Text}
    → t1 ≡ t0 ++ codes "{\"manager\":" → t2 ≡ t1 ++ compact (text_json k.name)
    → t3 ≡ t2 ++ codes ",\"operation\":" → t4 ≡ t3 ++ compact (text_json (operation_text k.operation))
    → t5 ≡ t4 ++ part_text k.part → t6 ≡ t5 ++ 125 ∷ [] → t6 ≡ t0 ++ compact (key_json k)
key-written k t0 {t1 = t1} {t2 = t2} {t3 = t3} {t4 = t4} {t5 = t5} e0 e1 e2 e3 e4 e5 =
    let from_part = joined t4 (part_text k.part) (125 ∷ []) e4 e5 ∙ ap (λ t. t4 ++ t) (part-closed k.part) in
    let from_operation = joined t2 (codes ",\"operation\":") _ e2 (joined t3 (compact (text_json (operation_text k.operation))) _ e3 from_part) in
    joined t0 (codes "{\"manager\":") _ e0 (joined t1 (compact (text_json k.name)) _ e1 from_operation)
