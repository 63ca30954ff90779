-- What the getters of the matches read, in the rows that the definitions speak of.
use Rattle.std.proofs.Common.{◌≡◌, ◌∙◌, Bool, cond, true, false, sym, subst, refl, ap, ap₂, List, [], ◌∷◌, Option, Some, None, is_some, option_map}
use Rattle.std.specs.Prelude.{Box, IfSome, codes, find, option_and_then, unwrap_or}
use Rattle.std.specs.Borrow.{Bor}
use Rattle.std.specs.Box.{box_value}
use Rattle.std.specs.Str.{bytes_eq}
use Rattle.std.proofs.lemmas.Slice.Eq.{bytes_eq-Decides}
use Rattle.clap.specs.Facts.{Entry}
use Rattle.clap.specs.Matches.{first_value, found_of, matched_of}
use Rattle.clap.specs.Walk.{Row, Text, first_of, row_of, rows_of}
use Rattle.clap.specs.Simple.{subcommand_rows}
use Rattle.clap.specs.declared.parser.matches.Found.{Found}
use Rattle.clap.specs.declared.parser.matches.ArgMatches.TheViews.{out-SubCommand}
use Rattle.clap.specs.declared.parser.matches.SubCommand.{SubCommand}
use Rattle.clap.specs.declared.parser.matches.ValueSource.{ValueSource}
use Rattle.clap.proofs.WalkLemmas.{find_row, first_value-rows}
use Rattle.ssa_words.specs.Calls.{HasStatusAtMost, HasTexts, IsThrough, IsWhole, by_words, wanted, was_given}

-- ---- a text

-- the text that is read under a name is the first value of its row
pub text_is : (o : Option (Bor Text)) (f : Found) (id : Text) → option_map (λ s. s.now) o ≡ first_value f id
    → option_map (λ s. s.now) o ≡ first_of id (rows_of f)
text_is o f id e = e ∙ first_value-rows f id

-- where a row of the name has a value, a text is read
pub text_there : (o : Option (Bor Text)) (f : Found) (id : Text) → option_map (λ s. s.now) o ≡ first_value f id → is_some (first_of id (rows_of f)) ≡ true
    → is_some o ≡ true
text_there o f id e there = go o (ap is_some (text_is o f id e) ∙ there)
  where
    go : (o : Option (Bor Text)) → is_some (option_map (λ s. s.now) o) ≡ true → is_some o ≡ true
    go None e = e
    go (Some s) e = refl

-- the subresource is `status` where a text is read, and none where not
pub through : (o : Option (Bor Text)) (f : Found) → option_map (λ s. s.now) o ≡ first_value f (codes "subresource") → HasStatusAtMost (rows_of f)
    → IsThrough (rows_of f) (is_some o)
through o f e at_most = go o (first_of (codes "subresource") (rows_of f)) (text_is o f (codes "subresource") e) refl at_most
  where
    go : (o : Option (Bor Text)) (first : Option Text) → option_map (λ s. s.now) o ≡ first → first_of (codes "subresource") (rows_of f) ≡ first
        → IfSome first (λ t. t ≡ codes "status") → IsThrough (rows_of f) (is_some o)
    go None None e is at_most = is
    go None (Some t) e is at_most = cc
    go (Some s) None e is at_most = cc
    go (Some s) (Some t) e is at_most = is ∙ ap (λ (x : Text). Some x) at_most

-- ---- where a value came from

-- a value that is said to be given by the words was given
pub given_is : (f : Found) (id : Text) (o : Option ValueSource) → o ≡ option_and_then (λ a. a.source) (matched_of f id) → by_words o ≡ was_given id (rows_of f)
given_is f id o e =
    ap by_words e ∙ go (find (λ e. bytes_eq e.0.now id) f.entries.items)
    ∙ ap (λ (r : Option Row). by_words (option_and_then (λ r. r.source) r)) (sym (find_row f.entries.items id))
  where
    go : (o : Option Entry) → by_words (option_and_then (λ a. a.source) (option_map (λ e. e.1) o))
        ≡ by_words (option_and_then (λ r. r.source) (option_map row_of o))
    go None = refl
    go (Some e) = refl

-- ---- the subcommand

abbrev NamesNone : Text → List (Text × List Text) → Type 0
NamesNone name [] = Unit {0}
NamesNone name (w ∷ ws) = (name ≡ w.0 → ⊥) × NamesNone name ws

none_found : (name : Text) (ws : List (Text × List Text)) → NamesNone name ws → find (λ w. bytes_eq w.0 name) ws ≡ None
none_found name [] n = refl
none_found name (w ∷ ws) n = go (none_found name ws n.1) (bytes_eq w.0 name) refl
  where
    go : find (λ x. bytes_eq x.0 name) ws ≡ None → (b : Bool) → bytes_eq w.0 name ≡ b → cond b (Some w) (find (λ x. bytes_eq x.0 name) ws) ≡ None
    go rest true t = absurd (n.0 (sym ((bytes_eq-Decides w.0 name).0 t)))
    go rest false t = rest

-- no match that is whole names a word that is none of the table's
pub no_word : (name : Text) (rows : List Row) → NamesNone name wanted → IsWhole name rows → ⊥
no_word name rows n whole = subst (HasTexts rows) (none_found name wanted n) whole.0

module _ {Z : Type 0} where
  -- the subcommand that was met is the one of the matches, with its rows
  pub met_is : (sub : Option (Box SubCommand Z)) (name : Text) (rows : List Row) → Some name ≡ option_map (λ b. (out-SubCommand (box_value b)).name.now) sub
      → Some rows ≡ option_map (λ p. p.1) (subcommand_rows sub) → subcommand_rows sub ≡ Some (name, rows)
  met_is None name rows n r = cc
  met_is (Some b) name rows n r =
      let is_name : name ≡ (out-SubCommand (box_value b)).name.now = ap (λ (o : Option Text). unwrap_or o name) n in
      let are_rows : rows ≡ rows_of (found_of (out-SubCommand (box_value b)).matches) = ap (λ (o : Option (List Row)). unwrap_or o rows) r in
      ap₂ (λ (x : Text) (y : List Row). Some (x, y)) (sym is_name) (sym are_rows)
