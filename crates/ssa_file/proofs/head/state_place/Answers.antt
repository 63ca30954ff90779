-- A place that is none of a state is refused, and more states than a bench keeps are.
use Rattle.std.proofs.Common.{◌+◌, sym, ap, ◌∙◌}
use Rattle.std.proofs.lemmas.Bool.{le-ltb, lt-leb}
use Rattle.std.specs.Prelude.{◌&&◌, nat_le, nat_lt}
use Rattle.ssa_model.specs.definitions.Limits.{most_past}
use Rattle.ssa_model.proofs.Basics.{and-false}
use Rattle.ssa_json.specs.View.{view}
use Rattle.ssa_file.proofs.HeadFacts.{no-head}
use Rattle.ssa_file.proofs.head.state_place.Goals.{then-place-states-via-then-place-states, then-place-states-via-else-place-states+then-states}
use Rattle.ssa_file.proofs.head.state_place.Goals as goal

pub returns-then-place-states-clause-is : goal.returns-then-place-states-clause-is
returns-then-place-states-clause-is c =
    let place = c.in-Some.place in
    let states = c.in-Some-number_in.states in
    no-head (view c.args.value.now) place states (sym c.in-Some.is ∙ c.number_in.ensures.is) (sym c.in-Some-number_in.is ∙ c.number_in-2.ensures.is)
    (elim c.then-place-states.branch [
      | then-place-states-via-then-place-states w ↦ ap (λ b. b && nat_le states (most_past + 1)) (le-ltb place states w.if-place-states.true)
      | then-place-states-via-else-place-states+then-states w ↦
          ap (λ b. nat_lt place states && b) (lt-leb states (most_past + 1) w.if-states.true) ∙ and-false (nat_lt place states)
    ])
