use Rattle.std.proofs.Common.{Ok, Err, sym, rules, tests}
use Rattle.std.proofs.lemmas.Fn.{always_returns_same}
use Rattle.ssa_path.specs.View.{element_view}
use Rattle.ssa_typed.specs.MergedOrder.{lent_place}
use Rattle.ssa_typed.proofs.Finding.{compared_with, search-found, entry-found, entry-absent}
use Rattle.ssa_typed.proofs.merged_order.find_place.Goals as goal

pub returns-in-Ok : goal.returns-in-Ok
returns-in-Ok c =
    let e = element_view c.args.element.now in
    let rs = c.args.sorted.now in
    let i = c.in-Ok.i in
    let compares = always_returns_same _ _ _ (λ a r f k. search (rules, tests)) in
    let found = search-found lent_place e rs (Ok i) c.requires c.in-Ok.ensures.bound (c.in-Ok.ensures.position (compared_with lent_place e) compares) in
    sym (entry-found lent_place e rs i c.index-sorted-i.result c.requires found c.in-Ok.ensures.bound c.index-sorted-i.is)

pub returns-in-Err : goal.returns-in-Err
returns-in-Err c =
    let e = element_view c.args.element.now in
    let rs = c.args.sorted.now in
    let i = c.in-Err.field-0 in
    let compares = always_returns_same _ _ _ (λ a r f k. search (rules, tests)) in
    let found = search-found lent_place e rs (Err i) c.requires c.in-Err.ensures.bound (c.in-Err.ensures.position (compared_with lent_place e) compares) in
    sym (entry-absent lent_place e rs i found)
