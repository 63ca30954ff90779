use Rattle.std.proofs.Common.{◌≡◌, suc, ◌-◌, ◌≤◌, ◌++◌, length, take, vec_len, append-nil, sym, ap, ◌∙◌, arith, rules}
use Rattle.std.proofs.lemmas.List.{drop_all}
use Rattle.ssa_members.proofs.members.take_entry.Goals as goal

pub returns-clause-items : goal.returns-clause-items
returns-clause-items g c =
    let es = c.args.entries.now.items in
    let many : vec_len c.args.entries.now ≡ length es = search rules in
    let place : vec_len c.args.entries.now - 1 ≡ c.args.i = omega arith in
    let none : length es ≤ suc c.args.i = omega arith in
    c.pop.ensures.rest ∙ ap (λ k. take k es) place ∙ sym (append-nil (take c.args.i es)) ∙ ap (λ rest. take c.args.i es ++ rest) (sym (drop_all (suc c.args.i) es none))
