-- What stands next among the lines of some bytes, and how the values of all lines begin there.
use Rattle.std.proofs.Common.{◌≡◌, ◌≢◌, ◌≤◌, ◌<◌, ℕ, suc, ◌+◌, ◌-◌, length, List, [], ◌∷◌, ◌++◌, drop, Bool, true, false, cond, eqb, Option, Some, None, option_map, refl, sym, ap, ◌∙◌, subst, arith, length-append, eqb-true}
use Rattle.std.proofs.Math.Seq.{drop-append_seam}
use Rattle.std.proofs.lemmas.Bool.Decides.{nat_tests}
use Rattle.std.proofs.lemmas.Bool.{false≢true}
use Rattle.std.proofs.lemmas.Option.{same_Some}
use Rattle.std.specs.Prelude.{if◌then◌else◌, nat_lt}
use Rattle.ssa_model.specs.definitions.Json.{Text, Json}
use Rattle.ssa_model.specs.definitions.Lines.{line_feed, split_lines, with_first, whole_lines, unfinished_line, HasNoLineFeed}
use Rattle.ssa_model.specs.definitions.Readings.{Readings}
use Rattle.ssa_model.specs.definitions.BenchOfStates.{text_lines, spelled_value, spelled_values, values_of}
use Rattle.ssa_model.specs.definitions.BenchFaults.{lines_within}
use Rattle.ssa_model.specs.definitions.NextLines.{Next, at_end, no_value, value_then, first_value, next_value}
use Rattle.ssa_model.proofs.FirstValues.{values-found}
use Rattle.ssa_model.proofs.Given.{and_then-back, map-back}
use Rattle.ssa_model.proofs.LinesFacts.{split_lines-first, split_lines-plain}
use Rattle.ssa_model.proofs.LinesRead.{lines_within-all}
use Rattle.ssa_model.proofs.RecordedFaults.{whole-is}
use Rattle.ssa_model.proofs.SpelledValues.{text-of-lines, text-of-values}

-- ---- lists with a first element

module _ {X : Type 0} where
  abbrev has_first : List X → Bool
  has_first [] = false
  has_first (x ∷ xs) = true

  abbrev first_or : X → List X → X
  first_or d [] = d
  first_or d (x ∷ xs) = x

  abbrev tail_of : List X → List X
  tail_of [] = []
  tail_of (x ∷ xs) = xs

  -- a list with a first element is not empty
  pub nil-cons : (x : X) (xs : List X) → [] ≡ x ∷ xs → ⊥
  nil-cons x xs e = false≢true (ap has_first e)

  -- where two lists are one, so are their first elements
  pub same-first : (x y : X) (xs ys : List X) → x ∷ xs ≡ y ∷ ys → x ≡ y
  same-first x y xs ys e = ap (first_or x) e

  -- and so are the elements behind the first
  pub same-tail : (x y : X) (xs ys : List X) → x ∷ xs ≡ y ∷ ys → xs ≡ ys
  same-tail x y xs ys e = ap tail_of e

-- ---- the first line

-- the bytes begin with the line, and these follow it
record IsFirstLine (xs : List ℕ) (t : Text) (ts : List Text) : Type 0 where
  -- the bytes behind the line
  pub rest : List ℕ
  -- the bytes are the line, its line feed and these
  pub bytes : xs ≡ (t ++ line_feed ∷ []) ++ rest
  -- these are left where the line and its line feed are dropped
  pub dropped : drop (length t + 1) xs ≡ rest
  -- the other lines are the whole lines of these
  pub lines : ts ≡ whole_lines rest
  -- the line has no line feed in it
  pub plain : HasNoLineFeed t

at-feed : (x : ℕ) (xs : List ℕ) (t : Text) (ts : List Text) → x ≡ line_feed → [] ∷ whole_lines xs ≡ t ∷ ts → IsFirstLine (x ∷ xs) t ts
at-feed x xs t ts feed is =
    subst (λ u. IsFirstLine (x ∷ xs) u ts) (same-first [] t (whole_lines xs) ts is)
    (record { rest = xs; bytes = ap (λ y. y ∷ xs) feed; dropped = refl; lines = sym (same-tail [] t (whole_lines xs) ts is); plain = tt })

goes-on : (x : ℕ) (xs : List ℕ) (t : Text) (ts ls : List Text) → x ≢ line_feed → ((l : Text) (ks : List Text) → ls ≡ l ∷ ks → IsFirstLine xs l ks)
    → (with_first x ls (unfinished_line xs)).0 ≡ t ∷ ts → IsFirstLine (x ∷ xs) t ts
goes-on x xs t ts [] other again is = absurd (nil-cons t ts is)
goes-on x xs t ts (l ∷ ls) other again is =
    let first = again l ls refl in
    let more : length (x ∷ l) + 1 ≡ suc (length l + 1) = omega arith in
    subst (λ u. IsFirstLine (x ∷ xs) u ts) (same-first (x ∷ l) t ls ts is)
    (record {
      rest = first.rest;
      bytes = ap (λ bs. x ∷ bs) first.bytes;
      dropped = ap (λ n. drop n (x ∷ xs)) more ∙ first.dropped;
      lines = sym (same-tail (x ∷ l) t ls ts is) ∙ first.lines;
      plain = (other, first.plain);
    })

first-line : (xs : List ℕ) (t : Text) (ts : List Text) → whole_lines xs ≡ t ∷ ts → IsFirstLine xs t ts
unfolding split_lines
first-line [] t ts is = absurd (nil-cons t ts is)
first-line (x ∷ xs) t ts is =
    elim (eqb x line_feed) as
    (λ b. eqb x line_feed ≡ b → (cond b ([] ∷ whole_lines xs, unfinished_line xs) (with_first x (whole_lines xs) (unfinished_line xs))).0 ≡ t ∷ ts
    → IsFirstLine (x ∷ xs) t ts) [
      | true ↦ λ e k. at-feed x xs t ts (eqb-true x line_feed e) k
      | false ↦ λ e k. goes-on x xs t ts (whole_lines xs) (λ same. false≢true (sym e ∙ ap (λ y. eqb y line_feed) same)) (first-line xs) k
    ] refl is

-- ---- what stands next

-- the whole lines of the bytes that end within the room
abbrev pub lines_left : List ℕ → ℕ → List Text
lines_left xs room = lines_within room (whole_lines xs)

-- without bytes there are no lines
pub no-lines : (room : ℕ) → lines_left [] room ≡ []
unfolding split_lines
no-lines room = refl

-- without bytes there are no values, and nothing is amiss
pub no-values : (readings : Readings) → values_of readings [] ≡ Some []
unfolding split_lines
no-values readings = refl

-- what lines there are within the room, where there is a first
record IsWithin (room : ℕ) (ls : List Text) (t : Text) (ts : List Text) : Type 0 where
  -- the lines behind the first
  pub later : List Text
  -- the lines are the first and these
  pub all : ls ≡ t ∷ later
  -- the first line ends within the room
  pub fits : length t < room
  -- the others within the room are those of these within the room that is left
  pub rest : ts ≡ lines_within (room - (length t + 1)) later

is-within : (room : ℕ) (ls : List Text) (t : Text) (ts : List Text) → lines_within room ls ≡ t ∷ ts → IsWithin room ls t ts
is-within room [] t ts is = absurd (nil-cons t ts is)
is-within room (l ∷ ls) t ts is = by (nat_lt (length l) room) refl is
  where
    by : (b : Bool) → nat_lt (length l) room ≡ b → (if b then l ∷ lines_within (room - (length l + 1)) ls else []) ≡ t ∷ ts → IsWithin room (l ∷ ls) t ts
    by true e h =
        let less : length l < room = grind (arith, nat_tests, e) in
        let same = same-first l t (lines_within (room - (length l + 1)) ls) ts h in
        subst (λ u. IsWithin room (l ∷ ls) u ts) same
        (record { later = ls; all = refl; fits = less; rest = sym (same-tail l t (lines_within (room - (length l + 1)) ls) ts h) })
    by false e h = absurd (nil-cons t ts h)

module _ (readings : Readings) where
  -- a value's line, and what follows it
  pub record HasNext (xs : List ℕ) (room : ℕ) (v : Json) (ys : List ℕ) (left : ℕ) : Type 0 where
    -- the text of the line
    pub text : Text
    -- the value is read from the text, which is its compact text
    pub spelled : spelled_value readings text ≡ Some v
    -- the text has no line feed in it
    pub plain : HasNoLineFeed text
    -- the bytes are the text, a line feed and the bytes behind
    pub bytes : xs ≡ (text ++ line_feed ∷ []) ++ ys
    -- the lines within the room are this one and those of the bytes behind, within the room that is left
    pub lines : lines_left xs room ≡ text ∷ lines_left ys left
    -- the line, its line feed and the room that is left are the room
    pub counted : length text + 1 + left ≡ room

  -- what is known of the bytes by what stands next
  abbrev pub Stands : List ℕ → ℕ → Next → Type 0
  Stands xs room at_end = xs ≡ []
  Stands xs room no_value = (xs ≢ []) × ((t : Text) (ts : List Text) → lines_left xs room ≡ t ∷ ts → spelled_value readings t ≡ None)
  Stands xs room (value_then v ys left) = HasNext xs room v ys left

  has-next : (xs : List ℕ) (room : ℕ) (t : Text) (ts : List Text) (v : Json) → lines_left xs room ≡ t ∷ ts → spelled_value readings t ≡ Some v
      → HasNext xs room v (drop (length t + 1) xs) (room - (length t + 1))
  has-next xs room t ts v is spelled =
      let within = is-within room (whole_lines xs) t ts is in
      let line = first-line xs t within.later within.all in
      let left = room - (length t + 1) in
      let fits = within.fits in
      record {
        text = t;
        spelled = spelled;
        plain = line.plain;
        bytes = line.bytes ∙ ap (λ ys. (t ++ line_feed ∷ []) ++ ys) (sym line.dropped);
        lines = is ∙ ap (λ us. t ∷ us) (within.rest ∙ ap (lines_within left) (line.lines ∙ ap whole_lines (sym line.dropped)));
        counted = omega (arith, fits);
      }

  first-stands : (xs : List ℕ) (room : ℕ) (ts : List Text) → xs ≢ [] → lines_left xs room ≡ ts → Stands xs room (first_value readings xs room ts)
  first-stands xs room [] some is = (some, λ t us h. absurd (nil-cons t us (sym is ∙ h)))
  first-stands xs room (t ∷ ts) some is = by (spelled_value readings t) refl
    where
      by : (o : Option Json) → spelled_value readings t ≡ o
          → Stands xs room (elim o [ Some v ↦ value_then v (drop (length t + 1) xs) (room - (length t + 1)) | None ↦ no_value ])
      by (Some v) e = has-next xs room t ts v is e
      by None e = (some, λ u us h. ap (spelled_value readings) (sym (same-first t u ts us (sym is ∙ h))) ∙ e)

  -- so it is known of all bytes what stands next
  pub stands : (xs : List ℕ) (room : ℕ) → Stands xs room (next_value readings room xs)
  stands [] room = refl
  stands (x ∷ xs) room = first-stands (x ∷ xs) room (lines_left (x ∷ xs) room) (λ e. nil-cons x xs (sym e)) refl

  -- ---- the values of all lines

  -- they are the next value, and those of the bytes that follow
  pub next-values : (xs : List ℕ) (room : ℕ) (v : Json) (ys : List ℕ) (left : ℕ) → HasNext xs room v ys left
      → values_of readings xs ≡ option_map (λ vs. v ∷ vs) (values_of readings ys)
  next-values xs room v ys left next = ap (values_of readings) next.bytes ∙ values-found readings next.text ys v next.plain next.spelled

  -- behind a value's line the room has become smaller by the bytes of the line
  pub next-counts : (xs : List ℕ) (room : ℕ) (v : Json) (ys : List ℕ) (left : ℕ) → HasNext xs room v ys left → length xs + left ≡ length ys + room
  next-counts xs room v ys left next =
      let all = ap length next.bytes in
      let both = length-append (next.text ++ line_feed ∷ []) ys in
      let own = length-append next.text (line_feed ∷ []) in
      let counted = next.counted in
      omega (arith, all, both, own, counted)

  -- where all bytes are lines of values within the room, their first line is the first value's
  pub lines-of-values : (xs : List ℕ) (room : ℕ) (v : Json) (vs : List Json) → values_of readings xs ≡ Some (v ∷ vs) → length xs ≤ room
      → (t : Text) × (ts : List Text) × (lines_left xs room ≡ t ∷ ts) × (spelled_value readings t ≡ Some v)
  lines-of-values xs room v vs is fits =
      let ls = and_then-back (spelled_values readings) (text_lines xs) (v ∷ vs) is in
      by ls.0 ls.2 (ap (lines_within room) (whole-is (whole_lines xs) (unfinished_line xs) ls.0 ls.1)
      ∙ lines_within-all room ls.0 (subst (λ (n : List ℕ). length n ≤ room) (text-of-lines xs ls.0 ls.1) fits))
    where
      by : (ls : List Text) → spelled_values readings ls ≡ Some (v ∷ vs) → lines_left xs room ≡ ls
          → (t : Text) × (ts : List Text) × (lines_left xs room ≡ t ∷ ts) × (spelled_value readings t ≡ Some v)
      by [] h all = absurd (nil-cons v vs (same_Some [] (v ∷ vs) h))
      by (t ∷ ts) h all =
          let first = and_then-back (λ w. option_map (λ ws. w ∷ ws) (spelled_values readings ts)) (spelled_value readings t) (v ∷ vs) h in
          let rest = map-back (λ ws. first.0 ∷ ws) (spelled_values readings ts) (v ∷ vs) first.2 in
          (t, ts, all, first.1 ∙ ap Some (same-first first.0 v rest.0 vs rest.2))

  -- bytes without values are none
  pub none-left : (xs : List ℕ) → values_of readings xs ≡ Some [] → xs ≡ []
  none-left xs is =
      let ls = and_then-back (spelled_values readings) (text_lines xs) [] is in
      text-of-values readings xs ls.0 [] ls.1 ls.2

-- ---- what stands next, by the first line

next-some : (readings : Readings) (xs : List ℕ) (room : ℕ) → xs ≢ [] → next_value readings room xs ≡ first_value readings xs room (lines_left xs room)
next-some readings [] room some = absurd (some refl)
next-some readings (x ∷ xs) room some = refl

line-some : (t : Text) (ys : List ℕ) → (t ++ line_feed ∷ []) ++ ys ≢ []
line-some [] ys e = nil-cons line_feed ys (sym e)
line-some (b ∷ bs) ys e = nil-cons b ((bs ++ line_feed ∷ []) ++ ys) (sym e)

line-behind : (t : Text) (ys : List ℕ) → drop (length t + 1) ((t ++ line_feed ∷ []) ++ ys) ≡ ys
line-behind t ys = ap (λ n. drop n ((t ++ line_feed ∷ []) ++ ys)) (sym (length-append t (line_feed ∷ []))) ∙ drop-append_seam (t ++ line_feed ∷ []) ys

line-within : (t : Text) (ys : List ℕ) (room : ℕ) → HasNoLineFeed t → length t < room
    → lines_left ((t ++ line_feed ∷ []) ++ ys) room ≡ t ∷ lines_left ys (room - (length t + 1))
line-within t ys room plain less =
    let test : nat_lt (length t) room ≡ true = grind (arith, nat_tests, less) in
    ap (λ s. lines_within room s.0) (split_lines-first t ys plain)
    ∙ ap (λ b. if b then t ∷ lines_left ys (room - (length t + 1)) else []) test

line-beyond : (t : Text) (ys : List ℕ) (room : ℕ) → HasNoLineFeed t → room ≤ length t → lines_left ((t ++ line_feed ∷ []) ++ ys) room ≡ []
line-beyond t ys room plain more =
    let test : nat_lt (length t) room ≡ false = grind (arith, nat_tests, more) in
    ap (λ s. lines_within room s.0) (split_lines-first t ys plain)
    ∙ ap (λ b. if b then t ∷ lines_left ys (room - (length t + 1)) else []) test

-- a value's line within the room
pub next-of-line : (readings : Readings) (t : Text) (ys : List ℕ) (room : ℕ) (v : Json) → HasNoLineFeed t → spelled_value readings t ≡ Some v → length t < room
    → next_value readings room ((t ++ line_feed ∷ []) ++ ys) ≡ value_then v ys (room - (length t + 1))
next-of-line readings t ys room v plain spelled less =
    let xs = (t ++ line_feed ∷ []) ++ ys in
    let left = room - (length t + 1) in
    next-some readings xs room (line-some t ys)
    ∙ ap (first_value readings xs room) (line-within t ys room plain less)
    ∙ ap (λ (o : Option Json). elim o [ Some w ↦ value_then w (drop (length t + 1) xs) left | None ↦ no_value ]) spelled
    ∙ ap (λ zs. value_then v zs left) (line-behind t ys)

-- a line that is no value's
pub next-unspelled : (readings : Readings) (t : Text) (ys : List ℕ) (room : ℕ) → HasNoLineFeed t → spelled_value readings t ≡ None → length t < room
    → next_value readings room ((t ++ line_feed ∷ []) ++ ys) ≡ no_value
next-unspelled readings t ys room plain none less =
    let xs = (t ++ line_feed ∷ []) ++ ys in
    next-some readings xs room (line-some t ys)
    ∙ ap (first_value readings xs room) (line-within t ys room plain less)
    ∙ ap (λ (o : Option Json). elim o [ Some w ↦ value_then w (drop (length t + 1) xs) (room - (length t + 1)) | None ↦ no_value ]) none

-- a line beyond the room
pub next-beyond : (readings : Readings) (t : Text) (ys : List ℕ) (room : ℕ) → HasNoLineFeed t → room ≤ length t
    → next_value readings room ((t ++ line_feed ∷ []) ++ ys) ≡ no_value
next-beyond readings t ys room plain more =
    let xs = (t ++ line_feed ∷ []) ++ ys in
    next-some readings xs room (line-some t ys) ∙ ap (first_value readings xs room) (line-beyond t ys room plain more)

-- bytes that no line feed ends
pub next-unended : (readings : Readings) (t : Text) (room : ℕ) → HasNoLineFeed t → t ≢ [] → next_value readings room t ≡ no_value
next-unended readings t room plain some =
    next-some readings t room some ∙ ap (first_value readings t room) (ap (λ s. lines_within room s.0) (split_lines-plain t plain))

-- a line that is no value's, within the room or not
pub next-refused : (readings : Readings) (t : Text) (ys : List ℕ) (room : ℕ) → HasNoLineFeed t → spelled_value readings t ≡ None
    → next_value readings room ((t ++ line_feed ∷ []) ++ ys) ≡ no_value
next-refused readings t ys room plain none = by (nat_lt (length t) room) refl
  where
    by : (b : Bool) → nat_lt (length t) room ≡ b → next_value readings room ((t ++ line_feed ∷ []) ++ ys) ≡ no_value
    by true e = next-unspelled readings t ys room plain none (grind (arith, nat_tests, e))
    by false e = next-beyond readings t ys room plain (grind (arith, nat_tests, e))
