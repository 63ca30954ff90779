use Rattle.std.proofs.Common.{rules, ap, ◌∙◌}
use Rattle.ssa_model.specs.definitions.ElementTexts.{element_of}
use Rattle.ssa_json.specs.Reading.{json_reading}
use Rattle.ssa_path.proofs.OwnTexts.{own-text-is-read, field-of-program, key-of-program, value-of-program}
use Rattle.ssa_path.proofs.element.Elem.text.Goals.{in-Field+in_ok-extend_from_slice-in-Field+in_ok-extend_from_slice-in-Field-2, in-Key+in_ok-extend_from_slice-in-Key+in_ok-push_members-in-Key, in-Value+in_ok-extend_from_slice-in-Value+in_ok-push_scalar-in-Value}
use Rattle.ssa_path.proofs.element.Elem.text.Goals as goal

pub returns-clause-text : goal.returns-clause-text
returns-clause-text c = search rules

pub returns-clause-of_program : goal.returns-clause-of_program
returns-clause-of_program c = elim c.match-self.branch [
  | in-Field+in_ok-extend_from_slice-in-Field+in_ok-extend_from_slice-in-Field-2 w ↦ rw w.in-Field.is (field-of-program w.in-Field.name)
  | in-Key+in_ok-extend_from_slice-in-Key+in_ok-push_members-in-Key w ↦
      rw w.in-Key.is (key-of-program _ w.members.result.now w.members.ensures.same w.members.ensures.rise w.in_ok-push_members-in-Key.ensures.narrow)
  | in-Value+in_ok-extend_from_slice-in-Value+in_ok-push_scalar-in-Value w ↦ rw w.in-Value.is
      (value-of-program w.in-Value.scalar w.in_ok-push_scalar-in-Value.ensures.narrow)
]

pub returns-clause-is_read : goal.returns-clause-is_read
returns-clause-is_read c = ap (element_of json_reading) (returns-clause-text c) ∙ own-text-is-read _ (returns-clause-of_program c)
