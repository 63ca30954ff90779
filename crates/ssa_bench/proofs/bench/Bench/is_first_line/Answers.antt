use Rattle.std.proofs.Common.{◌≡◌, true, ap, subst, ◌∙◌}
use Rattle.std.specs.Prelude.{IfOk}
use Rattle.ssa_model.specs.definitions.Entries.{object_of_state}
use Rattle.ssa_model.specs.definitions.BenchText.{state_json, whole_object}
use Rattle.ssa_model.specs.definitions.History.{present}
use Rattle.ssa_model.specs.definitions.Json as model
use Rattle.ssa_model.specs.definitions.Json.{compact, object, no_members, same_text}
use Rattle.ssa_json.specs.View.{view, members_view}
use Rattle.ssa_json.specs.Views.{view-Object}
use Rattle.ssa_bench.proofs.bench.Bench.is_first_line.Goals as goal

pub returns : goal.returns
returns c =
    let b = c.args.self.now in
    let command = view-Object c.new.result ∙ ap (λ ms. object (members_view ms)) c.new.ensures.empty in
    let shown = c.in_ok-object.ensures ∙ ap (λ n. object_of_state b.identity b.schema.kind true n) (ap present c.requires) in
    subst (λ (v : model.Json). IfOk c.is_line_of.result (λ same. same ≡ same_text (compact v) c.args.text.now)) (λ i. state_json (command i) (shown i))
    c.is_line_of.ensures
