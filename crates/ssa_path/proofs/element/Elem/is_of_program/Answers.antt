use Rattle.ssa_path.proofs.OwnTexts.{field-of-program, key-of-program, value-of-program}
use Rattle.ssa_path.proofs.element.Elem.is_of_program.Goals as goal

pub returns-in-Field : goal.returns-in-Field
returns-in-Field c = rw c.in-Field.is (field-of-program c.in-Field.field-0)

pub returns-in-Key : goal.returns-in-Key
returns-in-Key c = rw c.in-Key.is (key-of-program _ c.members.result.now c.members.ensures.same c.members.ensures.rise c.numbers_fit.ensures)

pub returns-in-Value : goal.returns-in-Value
returns-in-Value c = rw c.in-Value.is (value-of-program c.in-Value.scalar c.number_fits.ensures)
