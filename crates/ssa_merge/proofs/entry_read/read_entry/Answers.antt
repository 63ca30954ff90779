use Rattle.std.proofs.Common.{string_bytes, refl, sym, ◌∙◌}
use Rattle.std.proofs.lemmas.Result.{err_from_is_err_and}
use Rattle.ssa_model.specs.definitions.FieldsV1.{fields_json}
use Rattle.ssa_json.specs.View.{view}
use Rattle.ssa_model.proofs.Tables.{same_text-true}
use Rattle.ssa_merge.specs.Managers.{table_view}
use Rattle.ssa_merge.proofs.EntryFaults.{no-fault, owned-fault, passed, whole}
use Rattle.ssa_merge.proofs.entry_read.read_entry.Goals as goal

pub returns-in_err-check_owned-clause-answers : goal.returns-in_err-check_owned-clause-answers
returns-in_err-check_owned-clause-answers c =
    let body = c.args.body.now in
    let version = c.args.api_version.now in
    let before = table_view c.args.before.now in
    let v = view c.args.entry.now in
    let said = c.in-Some.said in
    let named = sym c.is_manager_name.ensures ∙ c.if-not-is_manager_name.false in
    let same = sym c.is_same_text.ensures ∙ c.if-not-is_same_text.false in
    let timed = c.in-Ok.ensures.succeeds.0 refl in
    let is = passed body version before v said (string_bytes c.in_ok-name.name) c.in_ok-set.set c.in-Ok.at c.in-Some.ensures named same timed
    c.in_ok-set.ensures.answers c.in_ok-name.ensures.ok c.in_ok-set.ensures.said c.in-Ok.ensures.value in
    let p = err_from_is_err_and c.from_residual-in_err-check_owned.result c.from_residual-in_err-check_owned.ensures.1 in
    rw (p.1, p.2) (owned-fault body version before v _ _ c.in_err-check_owned.field-0.0 is c.in_err-check_owned.ensures)

pub returns-clause-answers : goal.returns-clause-answers
returns-clause-answers c =
    let body = c.args.body.now in
    let version = c.args.api_version.now in
    let before = table_view c.args.before.now in
    let v = view c.args.entry.now in
    let said = c.in-Some.said in
    let named = sym c.is_manager_name.ensures ∙ c.if-not-is_manager_name.false in
    let same = sym c.is_same_text.ensures ∙ c.if-not-is_same_text.false in
    let timed = c.in-Ok.ensures.succeeds.0 refl in
    let is = passed body version before v said (string_bytes c.in_ok-name.name) c.in_ok-set.set c.in-Ok.at c.in-Some.ensures named same timed
    c.in_ok-set.ensures.answers c.in_ok-name.ensures.ok c.in_ok-set.ensures.said c.in-Ok.ensures.value in
    no-fault body version before v _ _ is c.in_ok-check_owned.ensures

pub returns-clause-back : goal.returns-clause-back
returns-clause-back c =
    let said = c.in-Some.said in
    let same = sym c.is_same_text.ensures ∙ c.if-not-is_same_text.false in
    whole (view c.args.entry.now) said c.args.api_version.now (string_bytes c.in_ok-name.name) (fields_json c.in_ok-set.set) c.in-Ok.at c.in-Some.ensures
    (same_text-true said.version.now c.args.api_version.now same) c.in_ok-name.ensures.ok c.in_ok-set.ensures.back c.in-Ok.ensures.value
