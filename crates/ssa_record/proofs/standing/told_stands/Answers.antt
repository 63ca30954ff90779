use Rattle.std.proofs.Common.{◌&&◌, refl, ap, sym, ◌∙◌}
use Rattle.std.specs.List.{list_all}
use Rattle.ssa_record.specs.Standing.{stands}
use Rattle.ssa_record.proofs.Stands.{told-parts}
use Rattle.ssa_record.proofs.standing.told_stands.Goals as goal

pub returns-then-not-leaves_stand : goal.returns-then-not-leaves_stand
returns-then-not-leaves_stand c =
    let v = c.args.body.now in
    let t = c.args.told.now in
    sym (λ i. c.if-not-cut_stands.false i && (c.if-not-leaves_stand.true i
    && (list_all (λ e. stands v e.path) t.order.items && list_all (λ e. stands v e.path) t.put.items)))
    ∙ told-parts v t _ _ _ _ (c.cut_stands.ensures ∙ ap (list_all (stands v)) c.deref.ensures.value) (c.leaves_stand.ensures
    ∙ ap (list_all (λ e. stands v e.path)) c.deref-2.ensures.value) refl refl

pub returns-then-not-orders_stand : goal.returns-then-not-orders_stand
returns-then-not-orders_stand c =
    let v = c.args.body.now in
    let t = c.args.told.now in
    sym (λ i. c.if-not-cut_stands.false i && (c.if-not-leaves_stand.false i && (c.if-not-orders_stand.true i && list_all (λ e. stands v e.path) t.put.items)))
    ∙ told-parts v t _ _ _ _ (c.cut_stands.ensures ∙ ap (list_all (stands v)) c.deref.ensures.value) (c.leaves_stand.ensures
    ∙ ap (list_all (λ e. stands v e.path)) c.deref-2.ensures.value)
    (c.orders_stand.ensures ∙ ap (list_all (λ e. stands v e.path)) c.deref-3.ensures.value) refl

pub returns : goal.returns
returns c =
    let v = c.args.body.now in
    let t = c.args.told.now in
    sym (λ i. c.if-not-cut_stands.false i && (c.if-not-leaves_stand.false i && (c.if-not-orders_stand.false i && c.puts_stand.result)))
    ∙ told-parts v t _ _ _ _ (c.cut_stands.ensures ∙ ap (list_all (stands v)) c.deref.ensures.value) (c.leaves_stand.ensures
    ∙ ap (list_all (λ e. stands v e.path)) c.deref-2.ensures.value)
    (c.orders_stand.ensures ∙ ap (list_all (λ e. stands v e.path)) c.deref-3.ensures.value) (c.puts_stand.ensures
    ∙ ap (list_all (λ e. stands v e.path)) c.deref-4.ensures.value)
