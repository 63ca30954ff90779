use Rattle.std.proofs.Common.{◌≡◌, ◌++◌, None, ap, rules, string_cmp, subst, sym, ◌∙◌}
use Rattle.std.proofs.lemmas.Iterator.Adapters.{fact_from_collect, YieldsList-from_vec}
use Rattle.std.proofs.lemmas.List.{append-nil}
use Rattle.std.specs.BTreeMap.{is_at, IsFromIterResult}
use Rattle.std.specs.Map.{lookup, update_all}
use Rattle.std.specs.Ordering.{eq_by_cmp}
use Rattle.std.specs.Result.{IfOk}
use Rattle.ssa_members.specs.Members.{IsRising}
use Rattle.ssa_members.proofs.members.Members.of_unordered.Given.{Over}
use Rattle.ssa_members.proofs.members.Members.of_unordered.Goals as goal

taken-over : (g : Over) (c : goal.After-drop-entry-iterator-2 g) → c.in_ok-sorted.sorted.entries ≡ c.loop-entry.entries.items
taken-over g c =
    sym c.into_iter-entry-iterator.ensures.into_iter_gives.0 ∙ c.loop-entry.invariant
    ∙ ap (λ es. (es ++ c.loop-entry.entries.items) ++ c.loop-entry.entry-iterator) c.in_ok-entries.ensures.items
    ∙ ap (λ es. c.loop-entry.entries.items ++ es) c.in-None.ensures.steps.0 ∙ append-nil c.loop-entry.entries.items

pub invariant_of-result : goal.invariant_of-result
invariant_of-result g c = subst IsRising (taken-over g c) c.len.ensures.ordered

pub returns : goal.returns
returns g c =
    let ps = c.args.pairs.items in
    let road = YieldsList-from_vec ps (search rules) (search rules) in
    let made = fact_from_collect (IsFromIterResult string_cmp) c.collect.result c.collect.ensures.ran road in
    let sorted = subst (λ r. IfOk r (IsFromIterResult string_cmp ps)) c.in_ok-sorted.was made in
    record {
      found = λ q. subst (λ es. lookup (is_at (string_cmp q)) es ≡ update_all (eq_by_cmp string_cmp) (λ _. None) ps q) (taken-over g c) (sorted.0 q);
      rising = invariant_of-result g c;
    }
