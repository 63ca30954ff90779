use Rattle.std.proofs.Common.{◌++◌, ap, refl, subst, sym, ◌∙◌}
use Rattle.std.proofs.lemmas.Result.{on_ok_weaker}
use Rattle.ssa_model.specs.definitions.Json.{compact}
use Rattle.ssa_model.specs.definitions.PathMap.{listed}
use Rattle.ssa_json.specs.Writable.{IsOfProgram}
use Rattle.ssa_path.specs.Trie.{paths}
use Rattle.ssa_path.proofs.FieldsSays.{json-of-set}
use Rattle.ssa_path.proofs.trie.Trie.push_fields_v1.Goals as goal

pub returns-clause-text : goal.returns-clause-text
returns-clause-text c =
    let same = json-of-set c.args.self.now (listed (paths c.args.self.now)) c.requires refl in
    on_ok_weaker c.push_place.result (λ written. written ∙ ap (λ v. c.args.text.now.items ++ compact v) (sym same)) c.push_place.ensures.text

pub returns-clause-of_program : goal.returns-clause-of_program
returns-clause-of_program c =
    let same = json-of-set c.args.self.now (listed (paths c.args.self.now)) c.requires refl in
    on_ok_weaker c.push_place.result (λ own. subst IsOfProgram (sym same) own) c.push_place.ensures.of_program
