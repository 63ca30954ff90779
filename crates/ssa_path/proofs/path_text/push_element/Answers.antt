use Rattle.std.proofs.lemmas.Result.{on_ok_weaker}
use Rattle.ssa_path.proofs.ElementTexts.{text-of-program}
use Rattle.ssa_path.proofs.OwnTexts.{field-of-program, key-of-program, value-of-program}
use Rattle.ssa_path.proofs.path_text.push_element.Goals as goal

pub returns-in-Field-clause-of_program : goal.returns-in-Field-clause-of_program
returns-in-Field-clause-of_program c =
    rw c.in-Field.is (on_ok_weaker c.push_plain_field.result (λ _. text-of-program _ (field-of-program c.in-Field.name)) c.push_plain_field.ensures)

pub returns-in_ok-name-in-Field-2-clause-of_program : goal.returns-in_ok-name-in-Field-2-clause-of_program
returns-in_ok-name-in-Field-2-clause-of_program c =
    on_ok_weaker c.push_quoted.result (λ _. text-of-program _ c.in_ok-name-in-Field-2.ensures.of_program) c.push_quoted.ensures

pub returns-in-Key-clause-of_program : goal.returns-in-Key-clause-of_program
returns-in-Key-clause-of_program c =
    let fields = c.members.result.now in
    let own = c.members.ensures in
    rw c.in-Key.is (on_ok_weaker c.push_key.result (λ narrow. text-of-program _ (key-of-program _ fields own.same own.rise narrow))
    c.push_key.ensures.narrow)

pub returns-in-Value-clause-of_program : goal.returns-in-Value-clause-of_program
returns-in-Value-clause-of_program c =
    rw c.in-Value.is (on_ok_weaker c.push_value.result (λ narrow. text-of-program _ (value-of-program c.in-Value.scalar narrow))
    c.push_value.ensures.narrow)
