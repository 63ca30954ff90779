use Rattle.std.proofs.Common.{◌&&◌, ◌∙◌, sym}
use Rattle.ssa_model.specs.definitions.Subcommands.{is_change}
use Rattle.ssa_answers.specs.Commands.{command_view}
use Rattle.ssa_program.proofs.Unchanged.{unchanged}
use Rattle.ssa_program.proofs.answer.answer.Goals as goal
use Rattle.ssa_program.proofs.answer.answer.Goals.{then-answered, else-answered}

pub returns-after-answered-clause-unchanged : goal.returns-after-answered-clause-unchanged
returns-after-answered-clause-unchanged c kept =
    let command = command_view c.in-Ok.command in
    let told = sym c.in_ok-answered-in-Ok.ensures.accepted in
    c.in_ok-answered-in-Ok.ensures.after
    ∙ elim c.if-answered.branch [
      | then-answered w ↦ unchanged c.args.bench.now command
          (λ i. (told ∙ w.if-answered.true) i && (sym c.is_change-is_change.ensures ∙ sym w.result-is ∙ kept) i)
      | else-answered w ↦ unchanged c.args.bench.now command (λ i. (told ∙ w.if-answered.false) i && is_change command)
    ]
