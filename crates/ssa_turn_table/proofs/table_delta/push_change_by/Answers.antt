use Rattle.std.proofs.Common.{Option, Some, None, ap, sym, ◌∙◌, subst}
use Rattle.std.proofs.lemmas.List.{append-nil}
use Rattle.std.specs.Prelude.{OnOk}
use Rattle.ssa_model.specs.definitions.PathMap.{minus}
use Rattle.ssa_model.specs.definitions.Record.{Change, change_of}
use Rattle.ssa_merge.specs.Managers.{entry_view}
use Rattle.ssa_merge.specs.TableChanges.{changed_entry}
use Rattle.ssa_turn_table.specs.Changing.{change_in, owning, IsPutBehind}
use Rattle.ssa_turn_table.proofs.Staying.{lone-owning, stays-none}
use Rattle.ssa_turn_table.proofs.table_delta.push_change_by.Goals as goal

pub returns-in-Stays : goal.returns-in-Stays
returns-in-Stays c =
    let e = entry_view c.args.entry.now in
    record {
      made = None;
      behind = sym (append-nil c.args.changed.now.items);
      tells = stays-none e ∙ ap (λ f. change_in (changed_entry f e) e) (sym c.in-Stays.is);
      room = tt;
    }

pub returns-in-Renewed : goal.returns-in-Renewed
returns-in-Renewed c =
    let e = entry_view c.args.entry.now in
    let put : Option Change → Type 0 = λ told. OnOk c.push_renewed.result (IsPutBehind e.owned told c.args.changed.now.items c.push_renewed.new.changed.items) in
    subst put (sym (lone-owning e e.owned c.in-Renewed.at) ∙ ap (λ f. change_in (changed_entry f e) e) (sym c.in-Renewed.is)) c.push_renewed.ensures

pub returns-in-Owns : goal.returns-in-Owns
returns-in-Owns c =
    let e = entry_view c.args.entry.now in
    let put : Option Change → Type 0 = λ told. OnOk c.push_owning.result (IsPutBehind e.owned told c.args.changed.now.items c.push_owning.new.changed.items) in
    subst put (sym (lone-owning e c.in-Owns.set c.in-Owns.at) ∙ ap (λ f. change_in (changed_entry f e) e) (sym c.in-Owns.is)) c.push_owning.ensures

pub returns-in_ok-share-in-Loses : goal.returns-in_ok-share-in-Loses
returns-in_ok-share-in-Loses c =
    let e = entry_view c.args.entry.now in
    let s = c.args.entry.now.set in
    let at = c.in-Loses.at in
    let put : Option Change → Type 0 = λ told. OnOk c.push_losing.result (IsPutBehind s told c.args.changed.now.items c.push_losing.new.changed.items) in
    let told = subst (λ l. put (change_of e (Some (owning e (minus s l) at)))) c.in_ok-share-in-Loses.ensures c.push_losing.ensures in
    subst put (sym (lone-owning e (minus s c.in-Loses.lost) at) ∙ ap (λ f. change_in (changed_entry f e) e) (sym c.in-Loses.is)) told
