-- What clap's definitions make of the table.
use Rattle.std.proofs.Common.{◌≡◌, ℕ, ap, codes, refl, subst, sym, true, List, [], ◌∷◌}
use Rattle.std.specs.Prelude.{slice_index_or}
use Rattle.std.specs.Borrow.{Bor}
use Rattle.std.specs.List.{list_all}
use Rattle.clap.specs.Walk.{Text, texts}
use Rattle.clap.specs.Simple.{built, is_simple, subcommand_of}
use Rattle.clap.specs.Faults.{fault_of, is_simple_and_free}
use Rattle.ssa_words.specs.Table.{Choice, IsStatus, table}
use Rattle.ssa_words.specs.Calls.{IsWholeMatch}
use Rattle.ssa_words.proofs.Taken.{is_good, taken}

-- the one name is `status`, whose text lies there
abbrev status_at : (at text_at : ℕ × ℕ) → Choice
status_at at text_at = record { ref_ptr = at; now = record { ref_ptr = text_at; now = codes "status" } ∷ [] }

-- what holds wherever the name lies holds of each choice that is `status`
pub wherever : (P : Choice → Type 0) → ((at text_at : ℕ × ℕ) → P (status_at at text_at)) → (names : Choice) → IsStatus names → P names
wherever P each names is = go names.now is
  where
    go : (now : List (Bor Text)) → texts now ≡ codes "status" ∷ [] → P (record { ref_ptr = names.ref_ptr; now = now })
    go [] e = cc
    go (name ∷ []) e =
        let is : name.now ≡ codes "status" = ap (λ (ts : List Text). slice_index_or ts 0 []) e in
        subst (λ t. P (record { ref_ptr = names.ref_ptr; now = record { ref_ptr = name.ref_ptr; now = t } ∷ [] })) (sym is) (each names.ref_ptr name.ref_ptr)
    go (name ∷ other ∷ more) e = cc

module _ (names : Choice) where
  -- the table of words is a command of which clap's definitions give the matches
  pub table_is_simple : is_simple (table names) ≡ true
  table_is_simple = refl

  -- and no argument of it has a rule on another
  pub table_is_free : is_simple_and_free (table names) ≡ true
  table_is_free = refl

  table_requires : (built (table names)).top.subcommand_required ≡ true
  table_requires = refl

table_is_good : (names : Choice) → IsStatus names → list_all is_good (built (table names)).subs ≡ true
table_is_good names is = wherever (λ n. list_all is_good (built (table n)).subs ≡ true) (λ at text_at. refl) names is

-- where clap finds no fault in the words, the match is a whole one
pub table_taken : (names : Choice) → IsStatus names → (words : List Text) → fault_of (table names) words ≡ []
    → IsWholeMatch (subcommand_of (table names) words)
table_taken names is words e = taken (table names) words (table_is_good names is) (table_requires names) e
