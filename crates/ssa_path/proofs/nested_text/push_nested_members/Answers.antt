use Rattle.std.proofs.Common.{◌∷◌, ◌++◌, take_all, sym, ap, arith, ◌∙◌}
use Rattle.ssa_model.specs.definitions.Json.{comma_if, escaped, quoted, scalar_text}
use Rattle.ssa_json.specs.View.{scalar_view}
use Rattle.ssa_path.proofs.OwnTexts.{are_narrow, are_narrow-more}
use Rattle.ssa_path.proofs.NestedTexts.{nested-member-written}
use Rattle.ssa_path.proofs.nested_text.push_nested_members.Goals as goal

pub loop-member-preserved : goal.loop-member-preserved
loop-member-preserved c =
    let l = c.loop-member in
    let k = c.member-item.result in
    let here = c.in_ok-push_nested_member.ensures.text
    ∙ ap (λ n. l.text.items ++ escaped (comma_if l.is_later ++ (quoted n ++ 58 ∷ scalar_text (scalar_view k.1)))) c.as_str.ensures.value in
    record {
      whole = nested-member-written _ l.text.items c.push_nested_member.new.text.items l.is_later c.args.members.now l.member-index k
          c.loop-member-test.true c.member-item.is l.invariant.whole here;
      narrow = are_narrow-more c.args.members.now l.member-index k c.loop-member-test.true c.member-item.is l.invariant.narrow
          c.in_ok-push_nested_member.ensures.narrow;
    }

pub returns-clause-narrow : goal.returns-clause-narrow
returns-clause-narrow c =
    let l = c.loop-member in
    ap are_narrow (sym (take_all l.member-index c.args.members.now (omega arith))) ∙ l.invariant.narrow
