use Rattle.std.proofs.Common.{◌∷◌, take, drop, sym, ap, subst, ◌∙◌}
use Rattle.std.proofs.lemmas.List.{take-append-drop}
use Rattle.ssa_path.specs.Children.{elements, rises, IsChildAt}
use Rattle.ssa_path.specs.View.{element_view}
use Rattle.ssa_path.proofs.Lists.{elements-append}
use Rattle.ssa_path.proofs.Searching.{child-found}
use Rattle.ssa_model.proofs.Basics.{some≢none}
use Rattle.ssa_typed.specs.InPart.{IsNew, IsPut}
use Rattle.ssa_typed.proofs.in_part.put_child.Goals as goal

pub unreachable-requires : goal.unreachable-requires
unreachable-requires c =
    let d = c.in-Some.child in
    let e = element_view d.0 in
    let items = c.args.children.now.items in
    let at = subst (λ l. IsChildAt e l c.in-Ok.field-0) c.deref.ensures.value c.in-Ok.ensures in
    let found = child-found e items c.in-Ok.field-0 d c.requires.rise at.within (at.same d) in
    some≢none _ (sym found ∙ subst (λ o. IsNew o items) c.in-Some.is c.requires.new)

pub returns : goal.returns
returns c =
    let d = c.in-Some.child in
    let items = c.args.children.now.items in
    let i = c.in-Err.place in
    let put = c.in_ok-insert-in-Err.ensures.items in
    let between = c.in-Err.ensures.between in
    subst (λ o. IsPut o items c.insert.new.self.items) (sym c.in-Some.is)
    (record {
      front = take i items;
      back = drop i items;
      parts = sym (take-append-drop i items);
      put = put;
      risen = ap (λ l. rises (elements l)) put ∙ ap rises (elements-append (take i items) (d ∷ drop i items))
          ∙ rw c.deref.ensures.value at between;
    })
