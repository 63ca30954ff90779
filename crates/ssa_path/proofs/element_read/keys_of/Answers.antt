use Rattle.std.proofs.Common.{◌≡◌, ◌∷◌, ◌++◌, [], Some, arith, string_bytes, option_map, sym, ap, ◌∙◌}
use Rattle.std.proofs.lemmas.List.{nil_from_length}
use Rattle.std.specs.Vec.Iter.{into_iter_items}
use Rattle.ssa_model.specs.definitions.Path.{key}
use Rattle.ssa_model.specs.definitions.ElementTexts.{key_of}
use Rattle.ssa_json.specs.View.{view, scalar_view, members_view as json_members}
use Rattle.ssa_path.specs.Keys.{members_view}
use Rattle.ssa_path.specs.ElementReading.{as_scalar}
use Rattle.ssa_path.proofs.Readings.{with_keys, with_keys-more, with_keys-all, key_element-sorted}
use Rattle.ssa_path.proofs.Texts.{pushed}
use Rattle.ssa_path.proofs.element_read.keys_of.Goals as goal

pub loop-name-preserved : goal.loop-name-preserved
loop-name-preserved c =
    let l = c.loop-name in
    let left = json_members (into_iter_items c.next.new.self) in
    let scalar = c.in-Some-into_scalar.scalar in
    let is : as_scalar (view c.in-Some.member) ≡ Some (scalar_view scalar) = sym c.into_scalar.ensures ∙ ap (option_map scalar_view) c.in-Some-into_scalar.is in
    l.invariant
    ∙ ap (λ es. with_keys (members_view l.found.items) (key_of (json_members es))) c.in-Some.ensures.steps.0
    ∙ with_keys-more (members_view l.found.items) (string_bytes c.in-Some.name) (view c.in-Some.member) (scalar_view scalar) left is
    ∙ ap (λ n. with_keys (members_view l.found.items ++ (n, scalar_view scalar) ∷ []) (key_of left)) (sym c.into_text.ensures)
    ∙ ap (λ front. with_keys front (key_of left)) (pushed l.found.items c.into_text.result scalar c.push.new.self.items c.in_ok-push.ensures.items)

pub returns : goal.returns
returns c =
    let l = c.loop-name in
    let es = c.args.members.entries in
    let none : into_iter_items l.name-iterator ≡ [] = nil_from_length (into_iter_items l.name-iterator)
    (omega (arith, c.in-None.ensures.steps.0, l.name-iterator.rest.ok)) in
    let is = l.invariant ∙ ap (λ es. with_keys (members_view l.found.items) (key_of (json_members es))) none
    ∙ with_keys-all (members_view l.found.items) in
    ap (option_map key) c.new.ensures ∙ key_element-sorted es (members_view l.found.items) c.into_entries-name-items.ensures.ordered is
