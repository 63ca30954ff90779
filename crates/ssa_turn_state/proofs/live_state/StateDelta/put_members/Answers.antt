use Rattle.std.proofs.Common.{ap, ◌∙◌}
use Rattle.std.specs.Prelude.{codes}
use Rattle.ssa_model.specs.definitions.Json.{object}
use Rattle.ssa_model.specs.definitions.Objects.{with_member}
use Rattle.ssa_model.specs.definitions.Record.{Record}
use Rattle.ssa_turn_state.specs.States.{state_steps}
use Rattle.ssa_turn_state.proofs.Parts.{here_small}
use Rattle.ssa_turn_state.proofs.live_state.StateDelta.put_members.Goals as goal

pub put_to_json-requires : goal.put_to_json-requires
put_to_json-requires c = c.requires.room.1.body.writable

pub here_to_json-requires : goal.here_to_json-requires
here_to_json-requires c = here_small (state_steps c.args.self.now) c.requires.taken.0 c.requires.taken.1 c.requires.taken.2

pub changed_to_json-requires : goal.changed_to_json-requires
changed_to_json-requires c = (c.requires.room.0.table, c.requires.room.1.table.sets)

pub returns : goal.returns
returns c = λ kind v w ordered takes.
    let put = c.in_ok-put_to_json.ensures kind v.body w.body ordered
    (record { from = takes.from.fits; to = takes.to.fits; is = ap (λ (r : Record). r.body) takes.is }) in
    let one = c.in_ok-put_member.ensures.ok ∙ (λ i. with_member (codes "put") (put i) (c.requires.empty i)) in
    let two = c.in_ok-put_member-2.ensures.ok ∙ (λ i. with_member (codes "order") (c.in_ok-order_to_json.ensures i) (one i)) in
    let three = c.in_ok-put_member-3.ensures.ok ∙ (λ i. with_member (codes "leaves") (c.in_ok-leaves_to_json.ensures i) (two i)) in
    let four = c.in_ok-put_member-4.ensures.ok ∙ (λ i. with_member (codes "here") (c.in_ok-here_to_json.ensures i) (three i)) in
    let five = c.in_ok-put_member-5.ensures.ok ∙ (λ i. with_member (codes "gone") (c.in_ok-gone_to_json.ensures i) (four i)) in
    let six = c.in_ok-put_member-6.ensures.ok ∙ (λ i. with_member (codes "cut") (c.in_ok-cut_to_json.ensures i) (five i)) in
    ap object (c.in_ok-put_member-7.ensures.ok ∙ (λ i. with_member (codes "changed") (c.in_ok-changed_to_json.ensures i) (six i)))
