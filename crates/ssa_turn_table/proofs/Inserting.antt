-- Those who come, put in one after the other at rising places.
use Rattle.std.proofs.Common.{◌≡◌, ℕ, ◌+◌, ◌<◌, ◌≤◌, List, [], ◌∷◌, ◌++◌, length, map, take, drop, Bool, true, not, refl, ap, sym, ◌∙◌, append_assoc, length-append, get_or, subst, eqb, arith}
use Rattle.std.proofs.lemmas.List.{map-append, take-map, drop-map, length-map}
use Rattle.std.proofs.lemmas.Bool.{eqb-true}
use Rattle.std.specs.List.{insert, remove}
use Rattle.std.specs.Prelude.{filter, if◌then◌else◌}
use Rattle.ssa_model.specs.definitions.Table.{Entry, Table}
use Rattle.ssa_model.specs.definitions.Record.{placed}
use Rattle.ssa_turn_table.proofs.Changes.{heads}
use Rattle.ssa_model.proofs.InPlace.{insert_at}
use Rattle.ssa_model.proofs.Tests.{by_test, filter-kept, filter-dropped}
use Rattle.ssa_merge.specs.Managers.{key_view, entry_view, table_view}
use Rattle.ssa_merge.specs.declared.manager.ManagerKey.{ManagerKey as Key}
use Rattle.ssa_turn_table.specs.declared.delta.Here.{Here}
use Rattle.ssa_merge.specs.declared.managers.Entry as merge
use Rattle.ssa_turn_table.specs.Going.{AllKeysAgree}
use Rattle.ssa_turn_table.specs.Tables.{keys_view, here_view, heres_view}

module _ {X : Type 0} (comes : X → Bool) where
  -- those who do not come
  abbrev pub others : List X → List X
  others xs = filter (λ x. not (comes x)) xs

  others-fewer : (xs : List X) → length (others xs) ≤ length xs
  others-fewer [] = omega arith
  others-fewer (x ∷ xs) =
      let rest = others-fewer xs in
      by_test (comes x)
      (λ t. let e = ap (λ zs. length zs) (filter-dropped (λ y. not (comes y)) x xs (ap not t)) in omega arith)
      (λ f. let e = ap (λ zs. length zs) (filter-kept (λ y. not (comes y)) x xs (ap not f)) in omega arith)

  -- where none comes, all stand
  none-come : (i : ℕ) (xs : List X) → [] ≡ placed comes i xs → others xs ≡ xs
  none-come i [] e = refl
  none-come i (x ∷ xs) e =
      by_test (comes x)
      (λ t. absurd (nothing (e ∙ ap (λ b. if b then (i, x) ∷ placed comes (i + 1) xs else placed comes (i + 1) xs) t)))
      (λ f.
      filter-kept (λ y. not (comes y)) x xs (ap not f)
      ∙ ap (λ zs. x ∷ zs) (none-come (i + 1) xs (e ∙ ap (λ b. if b then (i, x) ∷ placed comes (i + 1) xs else placed comes (i + 1) xs) f)))
    where
      nothing : {Y : Type 0} {y : Y} {ys : List Y} → [] ≡ y ∷ ys → ⊥
      nothing h = cc

  -- the first of those who come, behind others who stand already
  pub record IsNext (i : ℕ) (xs : List X) (h : ℕ × X) (hs : List (ℕ × X)) : Type 0 where
    -- those before the next one who comes
    pub passed : List X
    -- those behind it
    pub left : List X
    -- together they are the list
    pub split : xs ≡ passed ++ h.1 ∷ left
    -- those before it stand already, with those behind it who do not come
    pub stand : others xs ≡ passed ++ others left
    -- its place is behind those who stand before it
    pub place : h.0 ≡ i + length passed
    -- the others who come are those behind it, each at its place
    pub told : hs ≡ placed comes (h.0 + 1) left

  next : (i : ℕ) (xs : List X) (h : ℕ × X) (hs : List (ℕ × X)) → h ∷ hs ≡ placed comes i xs → IsNext i xs h hs
  next i [] h hs e = absurd (let f : h ∷ hs ≡ [] = e in cc)
  next i (x ∷ xs) h hs e =
      by_test (comes x)
      (λ t.
      let parts = heads h (i, x) hs (placed comes (i + 1) xs) (e ∙ ap (λ b. if b then (i, x) ∷ placed comes (i + 1) xs else placed comes (i + 1) xs) t) in
      let place : h.0 ≡ i = ap (λ (p : ℕ × X). p.0) parts.0 in
      record {
        passed = [];
        left = xs;
        split = ap (λ (p : ℕ × X). p.1 ∷ xs) (sym parts.0);
        stand = filter-dropped (λ y. not (comes y)) x xs (ap not t);
        place = omega arith;
        told = parts.1 ∙ ap (λ k. placed comes (k + 1) xs) (sym place);
      })
      (λ f.
      let later = next (i + 1) xs h hs (e ∙ ap (λ b. if b then (i, x) ∷ placed comes (i + 1) xs else placed comes (i + 1) xs) f) in
      let place = later.place in
      record {
        passed = x ∷ later.passed;
        left = later.left;
        split = ap (λ zs. x ∷ zs) later.split;
        stand = filter-kept (λ y. not (comes y)) x xs (ap not f) ∙ ap (λ zs. x ∷ zs) later.stand;
        place = omega arith;
        told = later.told;
      })

  -- a front stands already; of the rest those stand who do not come
  pub record IsInserting (u now : List X) (heres : List (ℕ × X)) : Type 0 where
    -- those at whose places all stand
    pub front : List X
    -- those of whom only some stand
    pub rest : List X
    -- front and rest are the whole list
    pub whole : front ++ rest ≡ u
    -- what stands is the front, and those of the rest who do not come
    pub stand : now ≡ front ++ others rest
    -- those still to be put in are those of the rest who come, each at its place
    pub told : heres ≡ placed comes (length front) rest

  -- where nobody is left to be put in, what stands is the whole list
  pub inserting_ends : (u now : List X) → IsInserting u now [] → now ≡ u
  inserting_ends u now h = h.stand ∙ ap (λ zs. h.front ++ zs) (none-come (length h.front) h.rest h.told) ∙ h.whole

  -- the next one's place is within what stands, for which there is a place left
  pub record IsStep (u now : List X) (h : ℕ × X) (hs : List (ℕ × X)) : Type 0 where
    -- the place is within the list that stands
    pub within : h.0 ≤ length now
    -- what stands is shorter than the whole
    pub fewer : length now < length u
    -- with the next one put in at its place, the others are still to be put in
    pub more : IsInserting u (insert now h.0 h.1) hs

  -- the next one's place is there, and the list goes on with it put in
  pub inserting_step : (u now : List X) (h : ℕ × X) (hs : List (ℕ × X)) → IsInserting u now (h ∷ hs) → IsStep u now h hs
  inserting_step u now h hs was =
      let n = next (length was.front) was.rest h hs was.told in
      let front = was.front ++ n.passed in
      let place : length front ≡ h.0 = length-append was.front n.passed ∙ sym n.place in
      let standing : now ≡ front ++ others n.left = was.stand ∙ ap (λ zs. was.front ++ zs) n.stand ∙ sym (append_assoc was.front n.passed (others n.left)) in
      let whole : front ++ h.1 ∷ n.left ≡ u = append_assoc was.front n.passed (h.1 ∷ n.left) ∙ ap (λ zs. was.front ++ zs) (sym n.split) ∙ was.whole in
      let now_long = ap (λ zs. length zs) standing ∙ length-append front (others n.left) in
      let whole_long = sym (ap (λ zs. length zs) whole) ∙ length-append front (h.1 ∷ n.left) in
      let fewer = others-fewer n.left in
      let long : h.0 + 1 ≡ length (front ++ h.1 ∷ []) = sym (length-append front (h.1 ∷ []) ∙ ap (λ k. k + 1) place) in
      record {
        within = omega arith;
        fewer = omega arith;
        more = record {
          front = front ++ h.1 ∷ [];
          rest = n.left;
          whole = append_assoc front (h.1 ∷ []) n.left ∙ whole;
          stand = ap (λ zs. insert zs h.0 h.1) standing ∙ insert_at front (others n.left) h.0 h.1 place;
          told = n.told ∙ ap (λ k. placed comes k n.left) long;
        };
      }

-- ---- of the program's lists

-- what is inserted is inserted in the view
pub view-insert : (es : List merge.Entry) (i : ℕ) (e : merge.Entry) → table_view (insert es i e) ≡ insert (table_view es) i (entry_view e)
view-insert es i e =
    map-append entry_view (take i es) (e ∷ drop i es)
    ∙ (λ j. sym (take-map entry_view i es) j ++ entry_view e ∷ sym (drop-map entry_view i es) j)

-- a list that has an element is its first one and the list without it
pub first-of : {X : Type 0} (xs : List X) (x : X) → 0 < length xs → x ≡ get_or xs 0 x → xs ≡ x ∷ remove xs 0
first-of [] x lt e = absurd (omega arith)
first-of (y ∷ ys) x lt e = λ i. sym e i ∷ ys

-- a list counted as none is empty
pub none-left : {X : Type 0} (n : ℕ) (xs : List X) → true ≡ eqb n 0 → n ≡ length xs → xs ≡ []
none-left n [] e l = refl
none-left n (x ∷ xs) e l = let zero : n ≡ 0 = eqb-true n 0 (sym e) in absurd (omega (arith, zero, l))

-- the next of those who are here is put in
pub record IsHereStep (comes : Entry → Bool) (u : Table) (es : List merge.Entry) (hs : List Here) (h : Here) : Type 0 where
  -- the place is within the entries that stand
  pub within : h.place ≤ length es
  -- there are fewer entries than in the whole table
  pub fewer : length es < length u
  -- with the entry put in at its place, the others are still to be put in
  pub more : IsInserting comes u (table_view (insert es h.place h.entry)) (heres_view (remove hs 0))

-- the next entry's place is there, and the table goes on with it put in
pub here_step : (comes : Entry → Bool) (u : Table) (es : List merge.Entry) (hs : List Here) (h : Here) → hs ≡ h ∷ remove hs 0
    → IsInserting comes u (table_view es) (heres_view hs) → IsHereStep comes u es hs h
here_step comes u es hs h front was =
    let step = inserting_step comes u (table_view es) (here_view h) (heres_view (remove hs 0))
    (subst (λ ks. IsInserting comes u (table_view es) (heres_view ks)) front was) in
    let long = length-map es entry_view in
    let within = step.within in
    let fewer = step.fewer in
    record {
      within = omega arith;
      fewer = omega arith;
      more = subst (λ t. IsInserting comes u t (heres_view (remove hs 0))) (sym (view-insert es h.place h.entry)) step.more;
    }

-- its manager is listed
pub listed_step : (out : List Key) (hs : List Here) (h : Here) → hs ≡ h ∷ remove hs 0 → AllKeysAgree hs
    → keys_view (out ++ h.key ∷ []) ++ map (λ g. g.1.manager) (heres_view (remove hs 0)) ≡ keys_view out ++ map (λ g. g.1.manager) (heres_view hs)
listed_step out hs h front agree =
    let own : key_view h.key ≡ key_view h.entry.key = (subst AllKeysAgree front agree).0 in
    (λ j. map-append key_view out (h.key ∷ []) j ++ map (λ g. g.1.manager) (heres_view (remove hs 0)))
    ∙ append_assoc (keys_view out) (key_view h.key ∷ []) (map (λ g. g.1.manager) (heres_view (remove hs 0)))
    ∙ (λ j. keys_view out ++ own j ∷ map (λ g. g.1.manager) (heres_view (remove hs 0)))
    ∙ ap (λ ks. keys_view out ++ map (λ g. g.1.manager) (heres_view ks)) (sym front)

-- without the first, each manager listed is still its entry's
pub agree_step : (hs : List Here) (h : Here) → hs ≡ h ∷ remove hs 0 → AllKeysAgree hs → AllKeysAgree (remove hs 0)
agree_step hs h front agree = (subst AllKeysAgree front agree).1
