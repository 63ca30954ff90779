use Rattle.std.proofs.Common.{◌+◌, map, drop, sym, ap, ◌∙◌}
use Rattle.std.proofs.lemmas.List.{at_drop_all, drop_more}
use Rattle.ssa_model.specs.definitions.Objects.{without}
use Rattle.ssa_json.specs.View.{members_view}
use Rattle.ssa_object.proofs.Values.{without-none, without-first, without-removed}
use Rattle.ssa_object.proofs.body_value.remove_members.Goals as goal

pub loop-name-preserved : goal.loop-name-preserved
loop-name-preserved c =
    let names = c.args.names.now in
    let i = c.loop-name.name-index in
    let old = c.loop-name.members.entries in
    let left = map (λ n. n.now) (drop (i + 1) names) in
    ap (without left) (without-removed _ old c.remove.new.self.entries c.remove.ensures.entries c.remove.ensures.was_ordered)
    ∙ sym (without-first _ left (members_view old))
    ∙ sym (ap (λ ns. without (map (λ n. n.now) ns) (members_view old)) (drop_more names i _ c.loop-name-test.true))
    ∙ c.loop-name.invariant

pub returns : goal.returns
returns c =
    let l = c.loop-name in
    sym (without-none (members_view l.members.entries))
    ∙ sym (at_drop_all (λ ns. without (map (λ n. n.now) ns) (members_view l.members.entries)) c.args.names.now l.name-index c.loop-name-test.false)
    ∙ l.invariant
