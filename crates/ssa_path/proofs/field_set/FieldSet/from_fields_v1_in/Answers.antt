use Rattle.std.proofs.Common.{ap, sym, ◌∙◌}
use Rattle.ssa_model.specs.definitions.PathMap.{listed}
use Rattle.ssa_path.proofs.FieldsSays.{json-of-set, written-set}
use Rattle.ssa_path.proofs.field_set.FieldSet.from_fields_v1_in.Goals as goal

pub returns-clause-written : goal.returns-clause-written
returns-clause-written c =
    let place = c.in_ok-root.ensures.place in
    written-set c.in_ok-root.root c.from_root.result _ (sym c.from_root.ensures) place.json place.canonical

pub returns-clause-back : goal.returns-clause-back
returns-clause-back c =
    let place = c.in_ok-root.ensures.place in
    json-of-set c.in_ok-root.root c.from_root.result place.trie (sym c.from_root.ensures) ∙ sym place.json

pub returns-clause-said : goal.returns-clause-said
returns-clause-said c = c.from_root.ensures ∙ ap listed c.in_ok-root.ensures.place.said
