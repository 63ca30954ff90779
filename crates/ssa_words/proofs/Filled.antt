-- A parse of one level that finds no fault leaves no row without a value, no subresource but `status`
-- and no depth but a number from 1 to 1,000, where each argument is fed: it wants a value, or has one of
-- its own, and the subresource and the depth can be no other.
use Rattle.std.proofs.Common.{◌≡◌, ◌∙◌, ◌==◌, ℕ, ℤ, ap, Bool, cond, true, false, not, zero, suc, refl, sym, subst, List, [], ◌∷◌, ◌++◌, length, Option, Some, None, is_some, true≢false, ◌&&◌, ◌||◌}
use Rattle.std.specs.Prelude.{codes, pos, negsuc, find, fold, nat_lt, slice_get, encode_utf8, drop}
use Rattle.std.specs.Borrow.{Bor}
use Rattle.std.specs.List.{list_all, list_any}
use Rattle.std.specs.Option.{option_map_or}
use Rattle.std.specs.Str.{bytes_eq, chars}
use Rattle.clap.specs.Lexer.{long_of, short_of}
use Rattle.clap.specs.Facts.{parser_of_value, unwrap_or_range}
use Rattle.clap.specs.Walk.{Held, Names, Outcome, Row, Rule, Step, Text, Waiting, Walk, action_of, after_flag, after_step, arg_by_id, arg_by_index, arg_by_long, arg_by_short, at_row, attached_value, bundle, bundle_met, bundle_step, default_rows, done, flag_met, idle, is_empty, is_pending, long_met, long_or_other, more_values, most_values, next, option, option_met, plain, plain_word, positional, positional_held, reacted, reading_by, refused, settled, settled_rows, short_met, short_or_plain, subcommand, subcommand_met, subcommand_or_other, takes_several, takes_values, to_positional, trailing, used, used_as, used_by_id, value, values_or_missing, waits, walked, walked_from, with_default, with_values, without, word_met, has_row, option_word}
use Rattle.clap.specs.Simple.{Shape}
use Rattle.clap.specs.Kinds.{Kinds, or_else, range_kinds, value_kinds, values_kinds}
use Rattle.clap.specs.Values.{IsSignedIn, same_text}
use Rattle.clap.specs.ValueTests.{is_signed_in}
use Rattle.clap.specs.Faults.{action_fault, bundle_fault, bundle_step_fault, flag_word_fault, flags_fault, long_fault, option_fault, other_fault, positional_fault, react_fault, repeat_fault, set_fault, settle_fault, short_fault, step_fault, turn_fault, use_fault, values_fault, walk_fault, word_fault}
use Rattle.std.proofs.lemmas.Slice.Eq.{bytes_eq-Decides}
use Rattle.clap.specs.declared.builder.value_parser.ValueParser.{ValueParser}
use Rattle.clap.specs.declared.builder.value_parser.ValueParser.TheVariants as vp
use Rattle.clap.specs.declared.error.kind.ErrorKind.{ErrorKind}
use Rattle.clap.specs.declared.builder.value_parser.Reading.{Reading}
use Rattle.clap.specs.declared.builder.action.ArgAction.{ArgAction}
use Rattle.clap.specs.declared.builder.action.ArgAction.TheVariants as action
use Rattle.clap.specs.declared.error.kind.ErrorKind.TheVariants as kind
use Rattle.clap.specs.declared.parser.matches.ValueSource.{ValueSource}
use Rattle.clap.specs.declared.parser.matches.ValueSource.TheVariants.{DefaultValue, CommandLine}
use Rattle.clap.proofs.ValueTestLemmas.{accepts-Accepts}
use Rattle.clap.proofs.WalkLemmas.{both}
use Rattle.std.proofs.lemmas.Bool.{eqb-true}

-- ---- rows with values

-- a row's values are at least one
abbrev pub HasValue : List Text → Type 0
HasValue [] = ⊥
HasValue (v ∷ vs) = Unit {0}

abbrev pub AllAre : (Text → Type 0) → List Text → Type 0
AllAre P [] = Unit {0}
AllAre P (v ∷ vs) = P v × AllAre P vs

abbrev pub IsStatusText : Text → Type 0
IsStatusText v = v ≡ codes "status"

-- a number from 1 to 1,000
abbrev pub IsDepthText : Text → Type 0
IsDepthText = IsSignedIn (pos 1) (pos 1000)

-- the subresource has no value but `status`, and the depth none but a number from 1 to 1,000
abbrev pub Fits : Text → List Text → Type 0
Fits id values = (id ≡ codes "subresource" → AllAre IsStatusText values) × (id ≡ codes "depth" → AllAre IsDepthText values)

abbrev pub IsRight : Text → List Text → Type 0
IsRight id values = HasValue values × Fits id values

-- each row has a value, and those of the subresource and the depth fit
abbrev pub Filled : List Row → Type 0
Filled [] = Unit {0}
Filled (r ∷ rs) = IsRight r.id r.values × Filled rs

filled_append : (xs ys : List Row) → Filled xs → Filled ys → Filled (xs ++ ys)
filled_append [] ys f g = g
filled_append (x ∷ xs) ys f g = (f.0, filled_append xs ys f.1 g)

value_more : (xs ys : List Text) → HasValue xs → HasValue (xs ++ ys)
value_more [] ys h = absurd h
value_more (x ∷ xs) ys h = tt

all_more : (P : Text → Type 0) (xs ys : List Text) → AllAre P xs → AllAre P ys → AllAre P (xs ++ ys)
all_more P [] ys f g = g
all_more P (x ∷ xs) ys f g = (f.0, all_more P xs ys f.1 g)

right_more : (id : Text) (xs ys : List Text) → IsRight id xs → IsRight id ys → IsRight id (xs ++ ys)
right_more id xs ys f g =
    (value_more xs ys f.0, (λ is. all_more IsStatusText xs ys (f.1.0 is) (g.1.0 is), λ is. all_more IsDepthText xs ys (f.1.1 is) (g.1.1 is)))

either_rows : (b : Bool) (xs ys : List Row) → Filled xs → Filled ys → Filled (cond b xs ys)
either_rows true xs ys f g = f
either_rows false xs ys f g = g

at_row_filled : (id : Text) (change : Row → List Row) (missing rows : List Row) → ((r : Row) → r.id ≡ id → IsRight r.id r.values → Filled (change r))
    → Filled missing → Filled rows → Filled (at_row id change missing rows)
at_row_filled id change missing [] each m f = m
at_row_filled id change missing (r ∷ rs) each m f = go (at_row_filled id change missing rs each m f.1) (bytes_eq r.id id) refl
  where
    go : Filled (at_row id change missing rs) → (b : Bool) → bytes_eq r.id id ≡ b → Filled (cond b (change r ++ rs) (r ∷ at_row id change missing rs))
    go rest true t = filled_append (change r) rs (each r ((bytes_eq-Decides r.id id).0 t) f.0) f.1
    go rest false t = (f.0, rest)

with_values_filled : (id : Text) (how : Reading) (s : ValueSource) (values : List Text) (rows : List Row) → IsRight id values → Filled rows
    → Filled (with_values id how s values rows)
with_values_filled id how s values rows v f =
    at_row_filled id (more_values s values) (record { id = id; values = values; count = None; source = Some s; reading = how } ∷ []) rows
    (λ r is h. (right_more r.id r.values values h (subst (λ i. IsRight i values) (sym is) v), tt)) (v, tt) f

without_filled : (id : Text) (rows : List Row) → Filled rows → Filled (without id rows)
without_filled id rows f = at_row_filled id (λ _. []) [] rows (λ r is h. tt) tt f

-- ---- one use of an argument

-- where one fault and another together are none, neither is there
pub or_else_nil : (a b : Kinds) → or_else a b ≡ [] → (a ≡ []) × (b ≡ [])
or_else_nil [] b e = (refl, e)
or_else_nil (k ∷ ks) b e = cc

abbrev fed_as : ArgAction → Rule → Bool
fed_as action.Set a = nat_lt 0 (unwrap_or_range a.range).start_inclusive
fed_as action.SetTrue a = not (is_empty a.missing)
fed_as action.Help a = true
fed_as action.Version a = true
fed_as _ a = false

abbrev one_status : List (Bor Text) → Bool
one_status (name ∷ []) = bytes_eq name.now (codes "status")
one_status _ = false

-- the argument takes the name `status` alone
abbrev takes_status : Option ValueParser → Bool
takes_status (Some (vp.Names names)) = one_status names.now
takes_status _ = false

abbrev are_none : List Text → Bool
are_none [] = true
are_none (v ∷ vs) = false

-- the subresource has no default, and takes the name `status` alone
abbrev narrow : Rule → Bool
narrow a = not (bytes_eq a.id (codes "subresource")) || (are_none a.defaults && (not a.ignore_case && takes_status a.parser))

abbrev is_pos : ℕ → ℤ → Bool
is_pos n (pos m) = m == n
is_pos n _ = false

-- the argument takes the numbers from 1 to 1,000 alone
abbrev takes_depths : Option ValueParser → Bool
takes_depths (Some (vp.Signed low high)) = is_pos 1 low && is_pos 1000 high
takes_depths _ = false

-- the depth has such numbers for a default, and takes them alone
abbrev bounded : Rule → Bool
bounded a = not (bytes_eq a.id (codes "depth")) || (list_all (is_signed_in (pos 1) (pos 1000)) a.defaults && takes_depths a.parser)

-- the argument wants a value, or has one of its own, the subresource can be `status` alone, and the depth a number from 1 to 1,000
abbrev pub fed : Rule → Bool
fed a = fed_as (action_of a) a && (narrow a && bounded a)

-- ---- the value of the subresource

accepted : (names : List (Bor Text)) (v : Text) → one_status names ≡ true → list_any (λ name. same_text false name.now v) names ≡ true → v ≡ codes "status"
accepted [] v t e = absurd (true≢false (sym t))
accepted (name ∷ []) v t e = go (bytes_eq name.now v) refl e
  where
    go : (b : Bool) → bytes_eq name.now v ≡ b → (b || false) ≡ true → v ≡ codes "status"
    go true same e = sym ((bytes_eq-Decides name.now v).0 same) ∙ (bytes_eq-Decides name.now (codes "status")).0 t
    go false same e = absurd (true≢false (sym e))
accepted (name ∷ other ∷ names) v t e = absurd (true≢false (sym t))

passed : (b : Bool) (k : ErrorKind) → cond b [] (k ∷ []) ≡ [] → b ≡ true
passed true k e = refl
passed false k e = cc

choice_fits : (names : Bor (List (Bor Text))) (values : List Text) → one_status names.now ≡ true → values_kinds false (vp.Names names) values ≡ []
    → AllAre IsStatusText values
choice_fits names [] t e = tt
choice_fits names (v ∷ vs) t e =
    let faults = or_else_nil (value_kinds false (vp.Names names) v) _ e in
    (accepted names.now v t (passed _ _ faults.0), choice_fits names vs t faults.1)

values_fit : (p : Option ValueParser) (values : List Text) → takes_status p ≡ true → values_kinds false (parser_of_value p) values ≡ [] → AllAre IsStatusText values
values_fit (Some (vp.Names names)) values t e = choice_fits names values t e
values_fit None values t e = absurd (true≢false (sym t))
values_fit (Some vp.String) values t e = absurd (true≢false (sym t))
values_fit (Some vp.NonEmptyString) values t e = absurd (true≢false (sym t))
values_fit (Some vp.Bool) values t e = absurd (true≢false (sym t))
values_fit (Some vp.Boolish) values t e = absurd (true≢false (sym t))
values_fit (Some vp.Falsey) values t e = absurd (true≢false (sym t))
values_fit (Some (vp.Signed low high)) values t e = absurd (true≢false (sym t))
values_fit (Some (vp.Unsigned low high)) values t e = absurd (true≢false (sym t))
values_fit (Some vp.Float) values t e = absurd (true≢false (sym t))
values_fit (Some vp.Char) values t e = absurd (true≢false (sym t))
values_fit (Some (vp.Values names)) values t e = absurd (true≢false (sym t))

under_name : (id name : Text) (x : Bool) → (not (bytes_eq id name) || x) ≡ true → id ≡ name → x ≡ true
under_name id name x n is = go (bytes_eq id name) ((bytes_eq-Decides id name).1 is) n
  where
    go : (b : Bool) → b ≡ true → (not b || x) ≡ true → x ≡ true
    go true t e = e
    go false t e = absurd (true≢false (sym t))

-- what is said of the subresource, at an argument that is it
of_subresource : (a : Rule) → narrow a ≡ true → a.id ≡ codes "subresource" → (are_none a.defaults && (not a.ignore_case && takes_status a.parser)) ≡ true
of_subresource a n is = under_name a.id (codes "subresource") _ n is

not_true : (b : Bool) → not b ≡ true → b ≡ false
not_true true e = absurd (true≢false (sym e))
not_true false e = refl

narrow_fits : (a : Rule) (values : List Text) → narrow a ≡ true → values_fault a values ≡ [] → a.id ≡ codes "subresource" → AllAre IsStatusText values
narrow_fits a values n e is =
    let is_so = both _ _ (both _ _ (of_subresource a n is)).1 in
    values_fit a.parser values is_so.1 (subst (λ b. values_kinds b (parser_of_value a.parser) values ≡ []) (not_true a.ignore_case is_so.0) e)

no_default_fits : (a : Rule) → narrow a ≡ true → a.id ≡ codes "subresource" → AllAre IsStatusText a.defaults
no_default_fits a n is = go a.defaults (both _ _ (of_subresource a n is)).0
  where
    go : (values : List Text) → are_none values ≡ true → AllAre IsStatusText values
    go [] e = tt
    go (v ∷ vs) e = absurd (true≢false (sym e))

-- ---- the value of the depth

is_pos_is : (n : ℕ) (z : ℤ) → is_pos n z ≡ true → z ≡ pos n
is_pos_is n (pos m) e = ap pos (eqb-true m n e)
is_pos_is n (negsuc m) e = absurd (true≢false (sym e))

depth_from : (v : Text) → is_signed_in (pos 1) (pos 1000) v ≡ true → IsDepthText v
depth_from v e = accepts-Accepts false (vp.Signed (pos 1) (pos 1000)) v e

signed_fit : (ignore_case : Bool) (low high : ℤ) (values : List Text) → low ≡ pos 1 → high ≡ pos 1000
    → values_kinds ignore_case (vp.Signed low high) values ≡ [] → AllAre IsDepthText values
signed_fit ignore_case low high [] l h e = tt
signed_fit ignore_case low high (v ∷ vs) l h e =
    let faults = or_else_nil (value_kinds ignore_case (vp.Signed low high) v) _ e in (
      depth_from v (subst (λ z. is_signed_in (pos 1) z v ≡ true) h (subst (λ z. is_signed_in z high v ≡ true) l (passed _ _ faults.0))),
      signed_fit ignore_case low high vs l h faults.1,
    )

depths_fit : (ignore_case : Bool) (p : Option ValueParser) (values : List Text) → takes_depths p ≡ true
    → values_kinds ignore_case (parser_of_value p) values ≡ [] → AllAre IsDepthText values
depths_fit ignore_case (Some (vp.Signed low high)) values t e =
    let ends = both _ _ t in signed_fit ignore_case low high values (is_pos_is 1 low ends.0) (is_pos_is 1000 high ends.1) e
depths_fit ignore_case None values t e = absurd (true≢false (sym t))
depths_fit ignore_case (Some vp.String) values t e = absurd (true≢false (sym t))
depths_fit ignore_case (Some vp.NonEmptyString) values t e = absurd (true≢false (sym t))
depths_fit ignore_case (Some vp.Bool) values t e = absurd (true≢false (sym t))
depths_fit ignore_case (Some vp.Boolish) values t e = absurd (true≢false (sym t))
depths_fit ignore_case (Some vp.Falsey) values t e = absurd (true≢false (sym t))
depths_fit ignore_case (Some (vp.Unsigned low high)) values t e = absurd (true≢false (sym t))
depths_fit ignore_case (Some vp.Float) values t e = absurd (true≢false (sym t))
depths_fit ignore_case (Some vp.Char) values t e = absurd (true≢false (sym t))
depths_fit ignore_case (Some (vp.Names names)) values t e = absurd (true≢false (sym t))
depths_fit ignore_case (Some (vp.Values names)) values t e = absurd (true≢false (sym t))

-- what is said of the depth, at an argument that is it
of_depth : (a : Rule) → bounded a ≡ true → a.id ≡ codes "depth" → (list_all (is_signed_in (pos 1) (pos 1000)) a.defaults && takes_depths a.parser) ≡ true
of_depth a b is = under_name a.id (codes "depth") _ b is

own_depths_fit : (a : Rule) → bounded a ≡ true → a.id ≡ codes "depth" → AllAre IsDepthText a.defaults
own_depths_fit a b is = go a.defaults (both _ _ (of_depth a b is)).0
  where
    go : (values : List Text) → list_all (is_signed_in (pos 1) (pos 1000)) values ≡ true → AllAre IsDepthText values
    go [] e = tt
    go (v ∷ vs) e = let parts = both _ _ e in (depth_from v parts.0, go vs parts.1)

-- ---- what is said of both

given_fit : (a : Rule) (values : List Text) → (narrow a && bounded a) ≡ true → values_fault a values ≡ [] → Fits a.id values
given_fit a values n e =
    let is_so = both _ _ n in
    (narrow_fits a values is_so.0 e, λ is. depths_fit a.ignore_case a.parser values (both _ _ (of_depth a is_so.1 is)).1 e)

defaults_fit : (a : Rule) → (narrow a && bounded a) ≡ true → Fits a.id a.defaults
defaults_fit a n = let is_so = both _ _ n in (no_default_fits a is_so.0, own_depths_fit a is_so.1)

-- ---- the values of a use

no_values : (least most : ℕ) → nat_lt 0 least ≡ true → range_kinds least most 0 ≡ [] → ⊥
no_values least most lt e = let bad : kind.InvalidValue ∷ [] ≡ [] = rw lt at e in cc

wanted_value : (a : Rule) (values : List Text) → nat_lt 0 (unwrap_or_range a.range).start_inclusive ≡ true
    → range_kinds (unwrap_or_range a.range).start_inclusive (most_values a) (length values) ≡ [] → HasValue (values_or_missing a values)
wanted_value a [] lt e = absurd (no_values (unwrap_or_range a.range).start_inclusive (most_values a) lt e)
wanted_value a (v ∷ vs) lt e = tt

some_value : (xs : List Text) → not (is_empty xs) ≡ true → HasValue xs
some_value [] e = absurd (true≢false (sym e))
some_value (x ∷ xs) e = tt

own_value : (a : Rule) (values : List Text) → not (is_empty a.missing) ≡ true → HasValue (values_or_missing a values)
own_value a [] e = some_value a.missing e
own_value a (v ∷ vs) e = tt

module _ (again : Bool) (a : Rule) (values : List Text) (rows : List Row) (n : (narrow a && bounded a) ≡ true) (f : Filled rows) where
  set_filled : HasValue (values_or_missing a values) → set_fault again a (values_or_missing a values) rows ≡ []
      → Filled (with_values a.id (reading_by a) CommandLine (values_or_missing a values) (without a.id rows))
  set_filled v e =
      with_values_filled a.id (reading_by a) CommandLine (values_or_missing a values) (without a.id rows)
      (v, given_fit a (values_or_missing a values) n (or_else_nil (repeat_fault again a.id rows) _ e).1) (without_filled a.id rows f)

  used_as_filled : (x : ArgAction) → fed_as x a ≡ true
      → range_kinds (unwrap_or_range a.range).start_inclusive (most_values a) (length values) ≡ []
      → action_fault x again a (values_or_missing a values) rows ≡ [] → Filled (used_as x a.id (reading_by a) (values_or_missing a values) rows)
  used_as_filled action.Set is r e = set_filled (wanted_value a values is r) e
  used_as_filled action.SetTrue is r e = set_filled (own_value a values is) e
  used_as_filled action.Help is r e = f
  used_as_filled action.Version is r e = f
  used_as_filled action.HelpShort is r e = f
  used_as_filled action.HelpLong is r e = f
  used_as_filled action.Append is r e = absurd (true≢false (sym is))
  used_as_filled action.SetFalse is r e = absurd (true≢false (sym is))
  used_as_filled action.Count is r e = absurd (true≢false (sym is))

use_filled : (a : Rule) (again : Bool) (values : List Text) (rows : List Row) → fed a ≡ true → use_fault again a values rows ≡ [] → Filled rows
    → Filled (used a values rows)
use_filled a again values rows is e f =
    let is_so = both _ _ is in
    let faults = or_else_nil _ _ e in
    used_as_filled again a values rows is_so.1 f (action_of a) is_so.0 faults.0 faults.1

abbrev FedIf : Option Rule → Type 0
FedIf None = Unit {0}
FedIf (Some a) = fed a ≡ true

found_fed : (p : Rule → Bool) (c : List Rule) → list_all fed c ≡ true → FedIf (find p c)
found_fed p [] e = tt
found_fed p (a ∷ c) e =
    elim (p a) as (λ b. FedIf (cond b (Some a) (find p c))) [ true ↦ (both _ _ e).0 | false ↦ found_fed p c (both _ _ e).1 ]

-- ---- the walk

module _ (c : List Rule) (again : Bool) (is_fed : list_all fed c ≡ true) where
  settle_found : (o : Option Rule) (values : List Text) (rows : List Row) → FedIf o → option_map_or (λ a. use_fault again a values rows) o [] ≡ []
      → Filled rows → Filled (used_by_id o values rows)
  settle_found None values rows is e f = f
  settle_found (Some a) values rows is e f = use_filled a again values rows is e f

  settle_pending : (p : Option (Text × List Text)) (rows : List Row)
      → option_map_or (λ q. option_map_or (λ a. use_fault again a q.1 rows) (arg_by_id c q.0) []) p [] ≡ []
      → Filled rows → Filled (settled_rows c p rows)
  settle_pending None rows e f = f
  settle_pending (Some p) rows e f = settle_found (arg_by_id c p.0) p.1 rows (found_fed (λ a. bytes_eq a.id p.0) c is_fed) e f

  -- the argument that was still waiting, once settled without a fault, leaves each row with a value
  pub settle_filled : (h : Held) → settle_fault c again h ≡ [] → Filled h.rows → Filled (settled c h).rows
  settle_filled h e f = settle_pending h.pending h.rows e f

  react_filled : (a : Rule) (values : List Text) (h : Held) → fed a ≡ true → react_fault c again a values h ≡ [] → Filled h.rows
      → Filled (reacted c a values h).rows
  react_filled a values h is e f =
      let faults = or_else_nil (settle_fault c again h) (use_fault again a values (settled c h).rows) e in
      use_filled a again values (settled c h).rows is faults.1 (settle_filled h faults.0 f)

  option_filled : (a : Rule) (v : Option Text) (h : Held) → fed a ≡ true → option_fault c again a v h ≡ [] → Filled h.rows → Filled (option_met c a v h).0.rows
  option_filled a (Some v) h is e f = react_filled a (v ∷ []) h is e f
  option_filled a None h is e f = settle_filled h e f

  flag_filled : (a : Rule) (v : Option Text) (h : Held) → fed a ≡ true → cond (is_some v) (kind.TooManyValues ∷ []) (react_fault c again a [] h) ≡ []
      → Filled h.rows → Filled (flag_met c a v h).0.rows
  flag_filled a (Some v) h is e f = f
  flag_filled a None h is e f = react_filled a [] h is e f

  long_filled : (o : Option Rule) (v : Option Text) (h : Held) → FedIf o → long_fault c again o v h ≡ [] → Filled h.rows → Filled (long_met c o v h).0.rows
  long_filled None v h is e f = f
  long_filled (Some a) v h is e f = go (takes_values a) e
    where
      go : (b : Bool) → cond b (option_fault c again a v h) (cond (is_some v) (kind.TooManyValues ∷ []) (react_fault c again a [] h)) ≡ []
          → Filled (cond b (option_met c a v h) (flag_met c a v h)).0.rows
      go true e = option_filled a v h is e f
      go false e = flag_filled a v h is e f

  short_filled : (o : Option Rule) (rest : Text) (h : Held) (then : Held → Held × Outcome) (faults : Held → Kinds) → FedIf o
      → ((k : Held) → faults k ≡ [] → Filled k.rows → Filled (then k).0.rows)
      → short_fault c again o rest h faults ≡ [] → Filled h.rows → Filled (short_met c o rest h then).0.rows
  short_filled None rest h then faults is each e f = f
  short_filled (Some a) rest h then faults is each e f = go (takes_values a) e
    where
      go : (b : Bool) → cond b (option_fault c again a (attached_value rest) h) (or_else (react_fault c again a [] h) (faults (reacted c a [] h))) ≡ []
          → Filled (cond b (option_met c a (attached_value rest) h) (then (reacted c a [] h))).0.rows
      go true e = option_filled a (attached_value rest) h is e f
      go false e =
          let both_pass = or_else_nil (react_fault c again a [] h) (faults (reacted c a [] h)) e in
          each (reacted c a [] h) both_pass.1 (react_filled a [] h is both_pass.0 f)

  step_filled : (o : Option ℕ) (flags : Text) (skip : ℕ) (so_far : Outcome) (h : Held) (then : Text → ℕ → Outcome → Held → Held × Outcome)
      (faults : Text → ℕ → Held → Kinds)
      → ((t : Text) (n : ℕ) (x : Outcome) (k : Held) → faults t n k ≡ [] → Filled k.rows → Filled (then t n x k).0.rows)
      → bundle_step_fault c again o flags skip h faults ≡ [] → Filled h.rows → Filled (bundle_step c o flags skip so_far h then).0.rows
  step_filled None flags skip so_far h then faults each e f = f
  step_filled (Some x) flags zero so_far h then faults each e f =
      let rest = drop (length (encode_utf8 x)) flags in
      short_filled (arg_by_short c x) rest h (then rest 0 done) (faults rest 0) (found_fed _ c is_fed) (λ k. each rest 0 done k) e f
  step_filled (Some x) flags (suc skip) so_far h then faults each e f = each (drop (length (encode_utf8 x)) flags) skip so_far h e f

  flags_filled : (k : ℕ) (flags : Text) (skip : ℕ) (so_far : Outcome) (h : Held) → flags_fault c again k flags skip h ≡ [] → Filled h.rows
      → Filled (bundle_met c k flags skip so_far h).0.rows
  unfolding bundle_met flags_fault
  flags_filled zero flags skip so_far h e f = f
  flags_filled (suc k) flags skip so_far h e f =
      step_filled (slice_get (chars flags) 0) flags skip so_far h (bundle_met c k) (flags_fault c again k) (λ t n x j. flags_filled k t n x j) e f

  plain_filled : (waiting : Waiting) (word : Text) (h : Held) → Filled h.rows → Filled (plain_word c waiting word h).0.rows
  plain_filled idle word h f = f
  plain_filled positional word h f = f
  plain_filled (option id) word h f = go (arg_by_id c id)
    where
      go : (o : Option Rule) → Filled (option_word o id word h).0.rows
      go None = f
      go (Some a) = f

  after_filled : (waiting : Waiting) (word : Text) (h : Held) (o : Outcome) → Filled h.rows → Filled (after_flag c waiting word h o).0.rows
  after_filled waiting word h done f = f
  after_filled waiting word h (waits id) f = f
  after_filled waiting word h plain f = plain_filled waiting word h f
  after_filled waiting word h refused f = plain_filled waiting word h f

  short_word_filled : (o : Option Text) (waiting : Waiting) (word : Text) (h : Held) → option_map_or (λ flags. bundle_fault c again flags h) o [] ≡ []
      → Filled h.rows
      → Filled (short_or_plain c waiting word o h).0.rows
  short_word_filled None waiting word h e f = plain_filled waiting word h f
  short_word_filled (Some flags) waiting word h e f =
      after_filled waiting word (bundle c flags h).0 (bundle c flags h).1 (flags_filled (length flags) flags h.skip plain (record h { skip = 0 }) e f)

  flag_word_filled : (o : Option (Text × Option Text)) (waiting : Waiting) (word : Text) (h : Held) → flag_word_fault c again o word h ≡ [] → Filled h.rows
      → Filled (long_or_other c waiting word o h).0.rows
  flag_word_filled None waiting word h e f = short_word_filled (short_of word) waiting word h e f
  flag_word_filled (Some p) waiting word h e f =
      after_filled waiting word (long_met c (arg_by_long c p.0) p.1 h).0 (long_met c (arg_by_long c p.0) p.1 h).1
      (long_filled (arg_by_long c p.0) p.1 h (found_fed _ c is_fed) e f)

  positional_filled : (a : Rule) (word : Text) (h : Held) → positional_fault c again a h ≡ [] → Filled h.rows → Filled (positional_held c a word h).rows
  positional_filled a word h e f = go (is_pending a h.pending && takes_several a) e
    where
      go : (b : Bool) → cond b [] (settle_fault c again h) ≡ [] → Filled (cond b h (settled c h)).rows
      go true e = f
      go false e = settle_filled h e f

module _ (s : Shape) (names : Names) (is_fed : list_all fed s.rules ≡ true) where
  other_filled : (o : Option Text) (waiting : Waiting) (position : ℕ) (word : Text) (h : Held) → other_fault s o word h ≡ [] → Filled h.rows
      → Filled (subcommand_or_other s.rules o waiting position word h).0.rows
  other_filled (Some name) waiting position word h e f = f
  other_filled None waiting position word h e f = go (bytes_eq word (45 ∷ 45 ∷ [])) e
    where
      go : (b : Bool) → cond b [] (flag_word_fault s.rules s.args_override_self (long_of word) word h) ≡ []
          → Filled (cond b (h, trailing position) (long_or_other s.rules waiting word (long_of word) h)).0.rows
      go true e = f
      go false e = flag_word_filled s.rules s.args_override_self is_fed (long_of word) waiting word h e f

  word_filled : (is_trailing : Bool) (waiting : Waiting) (position : ℕ) (word : Text) (h : Held) → word_fault s names is_trailing waiting word h ≡ []
      → Filled h.rows
      → Filled (word_met s.rules names is_trailing waiting position word h).0.rows
  word_filled true waiting position word h e f = f
  word_filled false waiting position word h e f = other_filled (subcommand_met names waiting word) waiting position word h e f

  place_filled : (o : Option Rule) (word : Text) (w : Walk) (h : Held) (stray : Kinds)
      → option_map_or (λ a. positional_fault s.rules s.args_override_self a h) o stray ≡ [] → Filled h.rows
      → Filled (to_positional s.rules o word w h).held.rows
  place_filled None word w h stray e f = f
  place_filled (Some a) word w h stray e f = positional_filled s.rules s.args_override_self is_fed a word h e f

  taken_filled : (word : Text) (w : Walk) (h : Held) (step : Step) → step_fault s w.position h step ≡ [] → Filled h.rows
      → Filled (after_step s.rules word w h step).held.rows
  taken_filled word w h (next waiting) e f = f
  taken_filled word w h (trailing position) e f = f
  taken_filled word w h (subcommand name) e f = f
  taken_filled word w h value e f = place_filled (arg_by_index s.rules w.position) word w h _ e f

  turn_filled : (stopped : Option (Text × List Text)) (w : Walk) (word : Text) → turn_fault s names (record w { stopped = stopped }) word ≡ []
      → Filled w.held.rows
      → Filled (walked_from s.rules names stopped (record w { stopped = stopped }) word).held.rows
  turn_filled (Some p) w word e f = f
  turn_filled None w word e f =
      let met = word_met s.rules names w.is_trailing w.waiting w.position word w.held in
      let faults = or_else_nil (word_fault s names w.is_trailing w.waiting word w.held) (step_fault s w.position met.0 met.1) e in
      taken_filled word (record w { stopped = None }) met.0 met.1 faults.1 (word_filled w.is_trailing w.waiting w.position word w.held faults.0 f)

  -- a walk over the words without a fault leaves each row with a value
  pub walk_filled : (w : Walk) (words : List Text) → walk_fault s names w words ≡ [] → Filled w.held.rows
      → Filled (fold (walked s.rules names) w words).held.rows
  unfolding walked walk_fault
  walk_filled w [] e f = f
  walk_filled w (word ∷ rest) e f =
      let faults = or_else_nil (turn_fault s names w word) (walk_fault s names (walked s.rules names w word) rest) e in
      walk_filled (walked s.rules names w word) rest faults.1 (turn_filled w.stopped w word faults.0 f)

-- ---- defaults

defaulted_filled : (values : List Text) (id : Text) (how : Reading) (rows : List Row) → Fits id values → Filled rows → Filled (default_rows id how values rows)
defaulted_filled [] id how rows fit f = f
defaulted_filled (v ∷ vs) id how rows fit f = with_values_filled id how DefaultValue (v ∷ vs) rows (tt, fit) f

-- with the defaults put in, each row still has a value, and those of the subresource and the depth fit
pub defaults_filled : (c : List Rule) (rows : List Row) → list_all fed c ≡ true → Filled rows → Filled (fold with_default rows c)
defaults_filled [] rows is_fed f = f
defaults_filled (a ∷ c) rows is_fed f =
    let is_so = both _ _ is_fed in
    let fit = defaults_fit a (both _ _ is_so.0).1 in
    defaults_filled c (with_default rows a) is_so.1
    (either_rows (has_row a.id rows) rows (default_rows a.id (reading_by a) a.defaults rows) f (defaulted_filled a.defaults a.id (reading_by a) rows fit f))
