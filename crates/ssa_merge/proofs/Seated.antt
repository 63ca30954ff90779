-- How many entries a table has.
use Rattle.std.proofs.Common.{◌≡◌, ℕ, ◌+◌, ◌<◌, ◌≤◌, ◌==◌, List, [], ◌∷◌, ◌++◌, length, true, false, sym, ap, subst, ◌∙◌, arith}
use Rattle.std.proofs.lemmas.Bool.Decides.{nat_tests}
use Rattle.std.proofs.lemmas.List.{length-map, length-append}
use Rattle.ssa_model.specs.definitions.Table as model
use Rattle.ssa_model.specs.definitions.Table.{Table}
use Rattle.ssa_merge.specs.Managers.{entry_view, table_view}
use Rattle.ssa_merge.specs.declared.managers.Entry.{Entry}

abbrev AreFew : ℕ → Type 0
AreFew n = n ≤ 64

-- a table that is held in at most 64 entries has at most 64
pub few : (es : List Entry) (given : Table) → table_view es ≡ given → length es ≤ 64 → length given ≤ 64
few es given same h = subst AreFew (sym (length-map es entry_view) ∙ ap length same) h

one_more : (es : List Entry) (given : Table) (e : model.Entry) → table_view es ++ e ∷ [] ≡ given → length es + 1 ≡ length given
one_more es given e same = ap (λ n. n + 1) (sym (length-map es entry_view)) ∙ sym (length-append (table_view es) (e ∷ [])) ∙ ap length same

full : (n : ℕ) → (n == 64) ≡ true → 64 < n + 1
full n h = grind (arith, nat_tests)

not_full : (n : ℕ) → (n == 64) ≡ false → n ≤ 64 → n + 1 ≤ 64
not_full n h le = grind (arith, nat_tests)
