use Rattle.std.proofs.Common.{sym, subst, ◌∙◌}
use Rattle.ssa_model.specs.definitions.FieldsV1.{IsCanonical}
use Rattle.ssa_json.proofs.Views.{view-Object}
use Rattle.ssa_path.proofs.FieldsBack.{set-back}
use Rattle.ssa_path.proofs.FieldsSays.{json-of-set, written-set}
use Rattle.ssa_path.proofs.field_set.FieldSet.to_fields_v1.Goals as goal

pub returns-clause-json : goal.returns-clause-json
returns-clause-json c =
    let members = c.in_ok-members.members in
    view-Object members ∙ c.in_ok-members.ensures.json ∙ sym (json-of-set c.root.result.now c.args.self.now c.root.ensures.trie c.root.ensures.same)

pub returns-clause-written : goal.returns-clause-written
returns-clause-written c =
    let members = c.in_ok-members.members in
    written-set c.root.result.now c.args.self.now _ c.root.ensures.same (view-Object members
    ∙ c.in_ok-members.ensures.json) (subst IsCanonical (sym (view-Object members)) c.in_ok-members.ensures.canonical)

pub returns-clause-is_read : goal.returns-clause-is_read
returns-clause-is_read c = set-back c.root.result.now c.args.self.now c.root.ensures.trie c.root.ensures.same c.in_ok-members.ensures.back
