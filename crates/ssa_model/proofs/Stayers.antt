-- Those who stay in a table, each led to what the other table has of its manager, are the other table's entries in its order.
use Rattle.std.proofs.Common.{◌≡◌, [], ◌∷◌, map, refl, sym, ap, ◌∙◌}
use Rattle.std.specs.Option.{unwrap_or}
use Rattle.std.specs.Prelude.{filter, false}
use Rattle.ssa_model.specs.definitions.Table.{Entry, Table, is_in_table, entry_of}
use Rattle.ssa_model.specs.definitions.Record.{change_of}
use Rattle.ssa_model.specs.definitions.Carry.{changed_entry}
use Rattle.ssa_model.specs.laws.InPlace.{StayersAreLed}
use Rattle.ssa_model.proofs.TableLeads.{entry-leads, entry_or, from_managers}
use Rattle.ssa_model.proofs.SharedManagers.{managers}
use Rattle.ssa_model.proofs.Tests.{by_test, filter-kept, filter-dropped}
use Rattle.ssa_model.proofs.ManagerEntries.{entry-there, entry-own}

-- no entry passes where none is asked for
none-pass : (es : Table) → filter (λ e. false) es ≡ []
none-pass [] = refl
none-pass (e ∷ es) = none-pass es

-- the entries of managers of the other table, each led to the other's
stay-led : (d : Entry) (u es : Table)
    → map (λ e. changed_entry (change_of e (entry_of u e.manager)) e) (filter (λ e. is_in_table u e.manager) es)
    ≡ map (entry_or d u) (filter (is_in_table u) (managers es))
stay-led d u [] = refl
stay-led d u (e ∷ es) =
    let led : Entry → Entry = λ e. changed_entry (change_of e (entry_of u e.manager)) e in
    let rest = stay-led d u es in
    by_test (is_in_table u e.manager)
    (λ there.
    let f = entry-there u e.manager there in
    let one : led e ≡ entry_or d u e.manager =
    ap (λ o. changed_entry (change_of e o) e) f.1 ∙ entry-leads e f.0 (sym f.2) ∙ sym (ap (λ o. unwrap_or o d) f.1) in
    ap (map led) (filter-kept (λ x. is_in_table u x.manager) e es there)
    ∙ (λ i. one i ∷ rest i)
    ∙ sym (ap (map (entry_or d u)) (filter-kept (is_in_table u) e.manager (managers es) there)))
    (λ off.
    ap (map led) (filter-dropped (λ x. is_in_table u x.manager) e es off) ∙ rest
    ∙ sym (ap (map (entry_or d u)) (filter-dropped (is_in_table u) e.manager (managers es) off)))

-- those who stay, each led to what the second table has of its manager, are the second table's, in its order
pub stayers_are_led : StayersAreLed
stayers_are_led [] u a b k = sym (none-pass u)
stayers_are_led (d ∷ ds) u a b k =
    let t = d ∷ ds in
    stay-led d u t ∙ ap (map (entry_or d u)) k ∙ from_managers d u (is_in_table t) u (entry-own u b)
