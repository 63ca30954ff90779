-- Where clap finds no fault, the word that it met has a text for each argument that is required or
-- has a default, none for the subresource but `status`, and none for the depth but a number from 1 to 1,000.
use Rattle.std.proofs.Common.{◌≡◌, ◌∙◌, Bool, cond, true, false, not, refl, sym, subst, List, [], ◌∷◌, ◌++◌, Option, Some, None, is_some, true≢false, ◌&&◌, ◌||◌}
use Rattle.std.specs.Prelude.{IfSome, codes, find, fold, option_and_then, option_map, slice_get}
use Rattle.std.specs.List.{list_all, list_any}
use Rattle.std.specs.Option.{option_map_or}
use Rattle.std.specs.Str.{bytes_eq}
use Rattle.std.proofs.lemmas.Slice.Eq.{bytes_eq-Decides}
use Rattle.clap.specs.Facts.{explicit_source}
use Rattle.clap.specs.Walk.{Row, Rule, Text, answers_to, at_row, default_rows, finished, first_of, has_row, is_empty, more_values, nothing_held, reading_by, rows_after, settled, walk, walk_from, with_default}
use Rattle.clap.specs.Simple.{App, Shape, argument_words, built, entered, label_of, names_of, rows_at, subcommand_of}
use Rattle.clap.specs.Takes.{is_given}
use Rattle.clap.specs.Kinds.{check_kinds}
use Rattle.clap.specs.Faults.{defaults_fault, entered_fault, fault_of, level_fault, settle_fault, walk_fault}
use Rattle.clap.specs.declared.parser.matches.ValueSource.TheVariants.{DefaultValue}
use Rattle.clap.specs.declared.builder.value_parser.Reading.{Reading}
use Rattle.clap.proofs.WalkLemmas.{both}
use Rattle.ssa_words.specs.Calls.{HasDepthAtMost, HasStatusAtMost, HasTexts, IsWhole, IsWholeMatch, has_texts, wanted}
use Rattle.ssa_words.proofs.Filled.{AllAre, Filled, Fits, HasValue, IsDepthText, IsStatusText, defaults_filled, fed, or_else_nil, settle_filled, walk_filled}
use Rattle.std.proofs.lemmas.Bool.{or_parts, or_right}

-- ---- the text of a row

text_of_values : (vs : List Text) → HasValue vs → is_some (slice_get vs 0) ≡ true
text_of_values [] v = absurd v
text_of_values (x ∷ xs) v = refl

text_of_row : (id : Text) (rows : List Row) → is_some (find (λ r. bytes_eq r.id id) rows) ≡ true → Filled rows → is_some (first_of id rows) ≡ true
text_of_row id [] e f = absurd (true≢false (sym e))
text_of_row id (r ∷ rs) e f = go (λ t. text_of_row id rs t f.1) (bytes_eq r.id id) e
  where
    go : (is_some (find (λ x. bytes_eq x.id id) rs) ≡ true → is_some (first_of id rs) ≡ true) → (b : Bool)
        → is_some (cond b (Some r) (find (λ x. bytes_eq x.id id) rs)) ≡ true
        → is_some (option_and_then (λ x. slice_get x.values 0) (cond b (Some r) (find (λ x. bytes_eq x.id id) rs))) ≡ true
    go rest true e = text_of_values r.values f.0.0
    go rest false e = rest e

-- the first of values that all are so is so
first_is : (P : Text → Type 0) (values : List Text) → AllAre P values → IfSome (slice_get values 0) P
first_is P [] f = tt
first_is P (v ∷ vs) f = f.0

-- the text of a name is so, where there is one, if all values of its row are
first_fits : (id : Text) (P : Text → Type 0) (rows : List Row) → ((i : Text) (vs : List Text) → Fits i vs → i ≡ id → AllAre P vs) → Filled rows
    → IfSome (first_of id rows) P
first_fits id P [] each f = tt
first_fits id P (r ∷ rs) each f = go (first_fits id P rs each f.1) (bytes_eq r.id id) refl
  where
    go : IfSome (first_of id rs) P → (b : Bool) → bytes_eq r.id id ≡ b
        → IfSome (option_and_then (λ x. slice_get x.values 0) (cond b (Some r) (find (λ x. bytes_eq x.id id) rs))) P
    go rest true t = first_is P r.values (each r.id r.values f.0.1 ((bytes_eq-Decides r.id id).0 t))
    go rest false t = rest

-- the text of the subresource is `status`, where there is one
status_at_most : (rows : List Row) → Filled rows → HasStatusAtMost rows
status_at_most rows f = first_fits (codes "subresource") IsStatusText rows (λ i vs fits. fits.0) f

-- that of the depth is a number from 1 to 1,000
depth_at_most : (rows : List Row) → Filled rows → HasDepthAtMost rows
depth_at_most rows f = first_fits (codes "depth") IsDepthText rows (λ i vs fits. fits.1) f

given_row : (id : Text) (rows : List Row) → is_given id rows ≡ true → is_some (find (λ r. bytes_eq r.id id) rows) ≡ true
given_row id rows e = go (find (λ r. bytes_eq r.id id) rows) e
  where
    go : (o : Option Row) → option_map_or (λ (r : Row). explicit_source r.source) o false ≡ true → is_some o ≡ true
    go None e = e
    go (Some r) e = refl

found_row : (id : Text) (rows : List Row) → has_row id rows ≡ true → is_some (find (λ r. bytes_eq r.id id) rows) ≡ true
found_row id [] e = absurd (true≢false (sym e))
found_row id (r ∷ rs) e = go (found_row id rs) (bytes_eq r.id id) e
  where
    go : (has_row id rs ≡ true → is_some (find (λ x. bytes_eq x.id id) rs) ≡ true) → (b : Bool) → (b || has_row id rs) ≡ true
        → is_some (cond b (Some r) (find (λ x. bytes_eq x.id id) rs)) ≡ true
    go rest true e = refl
    go rest false e = rest e

-- ---- what is required was given

-- one of these arguments has the name and is required
abbrev pub requires_it : Text → List Rule → Bool
requires_it id = list_any (λ a. bytes_eq a.id id && a.required)

required_given : (c : List Rule) (rows : List Row) (id : Text) → list_any (λ a. a.required && not (is_given a.id rows)) c ≡ false → requires_it id c ≡ true
    → is_given id rows ≡ true
required_given [] rows id e w = absurd (true≢false (sym w))
required_given (a ∷ c) rows id e w = go (required_given c rows id) (bytes_eq a.id id) refl a.required e w
  where
    here : (g : Bool) (x : Bool) → (not g || x) ≡ false → g ≡ true
    here true x e = refl
    here false x e = absurd (true≢false e)

    go : (list_any (λ (x : Rule). x.required && not (is_given x.id rows)) c ≡ false → requires_it id c ≡ true → is_given id rows ≡ true)
        → (b : Bool) → bytes_eq a.id id ≡ b → (r : Bool) → ((r && not (is_given a.id rows))
        || list_any (λ (x : Rule). x.required && not (is_given x.id rows)) c) ≡ false
        → ((b && r) || requires_it id c) ≡ true → is_given id rows ≡ true
    go rest true t true e w =
        subst (λ i. is_given i rows ≡ true) ((bytes_eq-Decides a.id id).0 t)
        (here (is_given a.id rows) (list_any (λ (x : Rule). x.required && not (is_given x.id rows)) c) e)
    go rest true t false e w = rest e w
    go rest false t r e w = rest (or_parts (r && not (is_given a.id rows)) _ e).1 w

-- ---- a default makes a row

-- one of these arguments has the name and a default
abbrev pub defaults_it : Text → List Rule → Bool
defaults_it id = list_any (λ a. bytes_eq a.id id && not (is_empty a.defaults))

at_row_kept : (id other : Text) (how : Reading) (values : List Text) (missing rows : List Row) → has_row id rows ≡ true
    → has_row id (at_row other (more_values DefaultValue values) missing rows) ≡ true
at_row_kept id other how values missing [] e = absurd (true≢false (sym e))
at_row_kept id other how values missing (r ∷ rs) e = go (bytes_eq r.id other) (rest (at_row_kept id other how values missing rs) (bytes_eq r.id id) e)
  where
    rest : (has_row id rs ≡ true → has_row id (at_row other (more_values DefaultValue values) missing rs) ≡ true)
        → (b : Bool) → (b || has_row id rs) ≡ true → (b || has_row id (at_row other (more_values DefaultValue values) missing rs)) ≡ true
    rest under true e = refl
    rest under false e = under e

    go : (b : Bool) → has_row id (r ∷ at_row other (more_values DefaultValue values) missing rs) ≡ true
        → has_row id (cond b (more_values DefaultValue values r ++ rs) (r ∷ at_row other (more_values DefaultValue values) missing rs)) ≡ true
    go true under = e
    go false under = under

same_text : (id : Text) → bytes_eq id id ≡ true
same_text id = (bytes_eq-Decides id id).1 refl

at_row_put : (id : Text) (values : List Text) (missing : Row) (rows : List Row) → missing.id ≡ id
    → has_row id (at_row id (more_values DefaultValue values) (missing ∷ []) rows) ≡ true
at_row_put id values missing [] is = rw (is, same_text id) refl
at_row_put id values missing (r ∷ rs) is = go (at_row_put id values missing rs is) (bytes_eq r.id id) refl
  where
    go : has_row id (at_row id (more_values DefaultValue values) (missing ∷ []) rs) ≡ true → (b : Bool) → bytes_eq r.id id ≡ b
        → has_row id (cond b (more_values DefaultValue values r ++ rs) (r ∷ at_row id (more_values DefaultValue values) (missing ∷ []) rs)) ≡ true
    go rest true t = rw t refl
    go rest false t = or_right (bytes_eq r.id id) _ rest

abbrev made : Rule → List Text → Row
made a values = record { id = a.id; values = values; count = None; source = Some DefaultValue; reading = reading_by a }

default_kept : (a : Rule) (rows : List Row) (id : Text) → has_row id rows ≡ true → has_row id (with_default rows a) ≡ true
default_kept a rows id e = go (has_row a.id rows)
  where
    by_values : (vs : List Text) → has_row id (default_rows a.id (reading_by a) vs rows) ≡ true
    by_values [] = e
    by_values (v ∷ vs) = at_row_kept id a.id (reading_by a) (v ∷ vs) (made a (v ∷ vs) ∷ []) rows e

    go : (b : Bool) → has_row id (cond b rows (default_rows a.id (reading_by a) a.defaults rows)) ≡ true
    go true = e
    go false = by_values a.defaults

default_put : (a : Rule) (rows : List Row) → not (is_empty a.defaults) ≡ true → has_row a.id (with_default rows a) ≡ true
default_put a rows e = go (has_row a.id rows) refl
  where
    by_values : (vs : List Text) → not (is_empty vs) ≡ true → has_row a.id (default_rows a.id (reading_by a) vs rows) ≡ true
    by_values [] e = absurd (true≢false (sym e))
    by_values (v ∷ vs) e = at_row_put a.id (v ∷ vs) (made a (v ∷ vs)) rows refl

    go : (b : Bool) → has_row a.id rows ≡ b → has_row a.id (cond b rows (default_rows a.id (reading_by a) a.defaults rows)) ≡ true
    go true t = t
    go false t = by_values a.defaults e

defaults_kept : (c : List Rule) (rows : List Row) (id : Text) → has_row id rows ≡ true → has_row id (fold with_default rows c) ≡ true
defaults_kept [] rows id e = e
defaults_kept (a ∷ c) rows id e = defaults_kept c (with_default rows a) id (default_kept a rows id e)

default_made : (c : List Rule) (rows : List Row) (id : Text) → defaults_it id c ≡ true → has_row id (fold with_default rows c) ≡ true
default_made [] rows id e = absurd (true≢false (sym e))
default_made (a ∷ c) rows id e = go (default_made c (with_default rows a) id) (bytes_eq a.id id) refl (not (is_empty a.defaults)) refl e
  where
    go : (defaults_it id c ≡ true → has_row id (fold with_default (with_default rows a) c) ≡ true) → (b : Bool) → bytes_eq a.id id ≡ b → (d : Bool)
        → not (is_empty a.defaults) ≡ d → ((b && d) || defaults_it id c) ≡ true
        → has_row id (fold with_default (with_default rows a) c) ≡ true
    go rest true t true u e =
        defaults_kept c (with_default rows a) id (subst (λ i. has_row i (with_default rows a) ≡ true) ((bytes_eq-Decides a.id id).0 t) (default_put a rows u))
    go rest true t false u e = rest e
    go rest false t d u e = rest e

-- ---- one level

-- the argument of the name is required or has a default
abbrev pub wants : Text → List Rule → Bool
wants id c = requires_it id c || defaults_it id c

last_check : (a b x : Bool) → check_kinds a b x ≡ [] → (b ≡ false) × (x ≡ false)
last_check true b x e = cc
last_check false true x e = cc
last_check false false true e = cc
last_check false false false e = (refl, refl)

-- where no fault is found on a level, each row has a value, and those of the subresource and the depth fit
level_filled : (s : Shape) (words : List Text) → list_all fed s.rules ≡ true → level_fault s [] nothing_held words false [] ≡ []
    → Filled (rows_after s.rules [] words)
level_filled s words is_fed e =
    let end = (walk s.rules [] nothing_held words).held in
    let one = or_else_nil (walk_fault s [] (walk_from nothing_held) words) _ e in
    let two = or_else_nil (settle_fault s.rules s.args_override_self end) _ one.1 in
    let filled = walk_filled s [] is_fed (walk_from nothing_held) words one.0 tt in
    defaults_filled s.rules (settled s.rules end).rows is_fed (settle_filled s.rules s.args_override_self is_fed end two.0 filled)

-- where no fault is found on a level, each argument that is wanted has a text
pub level_text : (s : Shape) (words : List Text) (id : Text) → list_all fed s.rules ≡ true → level_fault s [] nothing_held words false [] ≡ []
    → wants id s.rules ≡ true → is_some (first_of id (rows_after s.rules [] words)) ≡ true
level_text s words id is_fed e w =
    let end = (walk s.rules [] nothing_held words).held in
    let again = s.args_override_self in
    let one = or_else_nil (walk_fault s [] (walk_from nothing_held) words) _ e in
    let two = or_else_nil (settle_fault s.rules again end) _ one.1 in
    let three = or_else_nil (defaults_fault (settled s.rules end).rows s.rules) _ two.1 in
    text_of_row id (finished s.rules end) (by_wants (requires_it id s.rules) refl w (last_check _ _ _ three.1).1) (level_filled s words is_fed e)
  where
    under : (n x : Bool) → (not (n && false) && x) ≡ false → x ≡ false
    under true x e = e
    under false x e = e

    by_wants : (r : Bool) → requires_it id s.rules ≡ r → (r || defaults_it id s.rules) ≡ true
        → (not (s.subcommand_negates_reqs && false)
        && list_any (λ (a : Rule). a.required && not (is_given a.id (finished s.rules (walk s.rules [] nothing_held words).held))) s.rules) ≡ false
        → is_some (find (λ r. bytes_eq r.id id) (finished s.rules (walk s.rules [] nothing_held words).held)) ≡ true
    by_wants true t w e =
        given_row id _ (required_given s.rules (finished s.rules (walk s.rules [] nothing_held words).held) id (under s.subcommand_negates_reqs _ e) t)
    by_wants false t w e =
        found_row id _ (default_made s.rules (settled s.rules (walk s.rules [] nothing_held words).held).rows id w)

-- ---- the word that was met

-- each text that the word's reading wants is required or has a default
abbrev pub are_wanted : List Rule → Option (Text × List Text) → Bool
are_wanted c None = false
are_wanted c (Some w) = list_all (λ id. wants id c) w.1

-- a word of the table, each of whose texts is wanted
abbrev pub is_good : Shape → Bool
is_good s = list_all fed s.rules && are_wanted s.rules (find (λ w. bytes_eq w.0 s.name) wanted)

each_text : (ids : List Text) (c : List Rule) (rows : List Row) → ((id : Text) → wants id c ≡ true → is_some (first_of id rows) ≡ true)
    → list_all (λ id. wants id c) ids ≡ true → has_texts rows ids ≡ true
each_text [] c rows each e = refl
each_text (id ∷ ids) c rows each e =
    let here = both _ _ e in rw (each id here.0, each_text ids c rows each here.1) refl

whole : (s : Shape) (words : List Text) → is_good s ≡ true → level_fault s [] nothing_held words false [] ≡ [] → IsWhole s.name (rows_after s.rules [] words)
whole s words good e =
    let rows = rows_after s.rules [] words in
    let filled = level_filled s words (both _ _ good).0 e in
    (go (find (λ w. bytes_eq w.0 s.name) wanted) (both _ _ good).1, status_at_most rows filled, depth_at_most rows filled)
  where
    go : (o : Option (Text × List Text)) → are_wanted s.rules o ≡ true → HasTexts (rows_after s.rules [] words) o
    go None w = absurd (true≢false (sym w))
    go (Some p) w = each_text p.1 s.rules (rows_after s.rules [] words) (λ id is. level_text s words id (both _ _ good).0 e is) w

abbrev GoodIf : Option Shape → Type 0
GoodIf None = Unit {0}
GoodIf (Some s) = is_good s ≡ true

found_good : (p : Shape → Bool) (subs : List Shape) → list_all is_good subs ≡ true → GoodIf (find p subs)
found_good p [] good = tt
found_good p (s ∷ subs) good =
    elim (p s) as (λ b. GoodIf (cond b (Some s) (find p subs))) [ true ↦ (both _ _ good).0 | false ↦ found_good p subs (both _ _ good).1 ]

entered_whole : (a : App) (stop : Option (Text × List Text)) → list_all is_good a.subs ≡ true → entered_fault a stop ≡ [] → is_some (entered a stop) ≡ true
    → IsWholeMatch (entered a stop)
entered_whole a None good e is = absurd (true≢false (sym is))
entered_whole a (Some p) good e is =
    go (find (λ s. answers_to p.0 (label_of s)) a.subs) (found_good (λ s. answers_to p.0 (label_of s)) a.subs good) e is
  where
    go : (o : Option Shape) → GoodIf o → option_map_or (λ s. level_fault s [] nothing_held p.1 false []) o [] ≡ []
        → is_some (option_map (λ s. rows_at s p.1) o) ≡ true → IsWholeMatch (option_map (λ s. rows_at s p.1) o)
    go None good e is = absurd (true≢false (sym is))
    go (Some s) good e is = whole s p.1 good e

-- where clap takes the words, it met a word of the table, and matched each of its texts
pub taken : (a : App) (words : List Text) → list_all is_good (built a).subs ≡ true → (built a).top.subcommand_required ≡ true → fault_of a words ≡ []
    → IsWholeMatch (subcommand_of a words)
taken a words good required e =
    let b = built a in
    let given = argument_words a words in
    let level = walk b.top.rules (names_of b) nothing_held given in
    let one = or_else_nil (walk_fault b.top (names_of b) (walk_from nothing_held) given) _ e in
    let two = or_else_nil (entered_fault b level.stopped) _ one.1 in
    let three = or_else_nil (settle_fault b.top.rules b.top.args_override_self level.held) _ two.1 in
    let four = or_else_nil (defaults_fault (settled b.top.rules level.held).rows b.top.rules) _ three.1 in
    entered_whole b level.stopped good two.0 (met (is_some (entered b level.stopped)) b.top.subcommand_required required (last_check _ _ _ four.1).0)
  where
    met : (has needs : Bool) → needs ≡ true → (not has && needs) ≡ false → has ≡ true
    met true needs t e = refl
    met false needs t e = absurd (true≢false (sym t ∙ e))
