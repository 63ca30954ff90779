-- The record of two tables, found entry by entry.
use Rattle.std.proofs.Common.{◌≡◌, ℕ, ◌+◌, ◌<◌, List, [], ◌∷◌, ◌++◌, length, take, drop, get_or, Bool, true, false, not, Option, Some, None, option_map, refl, ap, sym, ◌∙◌, subst, add-zero, arith}
use Rattle.std.proofs.lemmas.List.{append-nil, map-append, length-map, length-take-le}
use Rattle.std.proofs.lemmas.List.Elements.{filter_map-append}
use Rattle.std.specs.List.{cons_option}
use Rattle.std.specs.Prelude.{IfSome, if◌then◌else◌}
use Rattle.ssa_model.specs.definitions.PathMap.{PathSet}
use Rattle.ssa_model.specs.definitions.Table.{Entry, Table, is_in_table, entry_of, owned_by}
use Rattle.ssa_model.specs.definitions.Valid.{AllEntries, has_distinct_keys}
use Rattle.ssa_model.specs.definitions.Record.{change_of, change_to, changes, placed, is_unchanged, new_moment}
use Rattle.ssa_model.proofs.ManagerEntries.{entry-own}
use Rattle.ssa_merge.specs.Managers.{entry_view, key_view, table_view}
use Rattle.ssa_path.proofs.Lists.{taken-at, parted}
use Rattle.ssa_turn_set.specs.declared.turn.SetDelta.{SetDelta}
use Rattle.ssa_turn_set.specs.Turn.{HasRoom, IsBetween, set_between, set_steps}
use Rattle.ssa_turn_table.specs.Changing.{AllHaveRoom, change_in}
use Rattle.ssa_turn_table.specs.declared.delta.EntryChange.{EntryChange}
use Rattle.ssa_turn_table.specs.declared.delta.Here.{Here}
use Rattle.ssa_merge.specs.declared.managers.Entry as merge
use Rattle.ssa_turn_table.specs.Tables.{change_view, changes_view, here_view, heres_view}
use Rattle.ssa_turn_table.proofs.Changes.{change-manager, owned-entry}
use Rattle.ssa_turn_table.proofs.Taking.{is_off}

-- ---- one entry more

-- the first entries with the next one are the first entries and that one
pub table-more : (es : List merge.Entry) (i : ℕ) (e : merge.Entry) → i < length es → e ≡ get_or es i e
    → table_view (take (i + 1) es) ≡ table_view (take i es) ++ entry_view e ∷ []
table-more es i e lt is = ap table_view (taken-at es i e lt is) ∙ map-append entry_view (take i es) (e ∷ [])

-- the places of two lists that follow each other are those of the first, and those of the second behind it
pub placed-append : {X : Type 0} (test : X → Bool) (i : ℕ) (xs ys : List X) → placed test i (xs ++ ys) ≡ placed test i xs ++ placed test (i + length xs) ys
placed-append test i [] ys = ap (λ n. placed test n ys) (sym (add-zero i))
placed-append test i (x ∷ xs) ys =
    let far : i + 1 + length xs ≡ i + length (x ∷ xs) = omega arith in
    let rest = placed-append test (i + 1) xs ys ∙ ap (λ n. placed test (i + 1) xs ++ placed test n ys) far in
    elim (test x) as (λ b. (if b then (i, x) ∷ placed test (i + 1) (xs ++ ys) else placed test (i + 1) (xs ++ ys))
    ≡ (if b then (i, x) ∷ placed test (i + 1) xs else placed test (i + 1) xs) ++ placed test (i + length (x ∷ xs)) ys) [
      | true ↦ ap (λ zs. (i, x) ∷ zs) rest
      | false ↦ rest
    ]

-- what an entry more adds to those that have a place
pub placed-more : (test : Entry → Bool) (es : List merge.Entry) (i : ℕ) (e : merge.Entry) → i < length es → e ≡ get_or es i e
    → placed test 0 (table_view (take (i + 1) es)) ≡ placed test 0 (table_view (take i es)) ++ placed test i (entry_view e ∷ [])
placed-more test es i e lt is =
    let count : 0 + length (table_view (take i es)) ≡ i = (let n : 0 + length (table_view (take i es)) ≡ length (table_view (take i es)) = omega arith in n)
    ∙ length-map (take i es) entry_view ∙ length-take-le i es (omega arith) in
    ap (placed test 0) (table-more es i e lt is)
    ∙ placed-append test 0 (table_view (take i es)) (entry_view e ∷ [])
    ∙ ap (λ n. placed test 0 (table_view (take i es)) ++ placed test n (entry_view e ∷ [])) count

-- an entry that comes, at its place
pub here-more : (t : Table) (es : List merge.Entry) (i : ℕ) (e : merge.Entry) (hs ks : List Here) (h : Here) → i < length es → e ≡ get_or es i e
    → is_in_table t (key_view e.key) ≡ false → heres_view hs ≡ placed (is_off t) 0 (table_view (take i es))
    → heres_view (h ∷ []) ≡ (i, entry_view e) ∷ [] → ks ≡ hs ++ h ∷ []
    → heres_view ks ≡ placed (is_off t) 0 (table_view (take (i + 1) es))
here-more t es i e hs ks h lt is off before one made =
    ap heres_view made ∙ map-append here_view hs (h ∷ []) ∙ (λ j. before j ++ one j)
    ∙ ap (λ b. placed (is_off t) 0 (table_view (take i es)) ++ (if not b then (i, entry_view e) ∷ [] else [])) (sym off)
    ∙ sym (placed-more (is_off t) es i e lt is)

-- an entry whose manager the other table has adds nothing to those that have a place
pub here-passed : (t : Table) (es : List merge.Entry) (i : ℕ) (e : merge.Entry) (hs ks : List Here) → i < length es → e ≡ get_or es i e
    → is_in_table t (key_view e.key) ≡ true → heres_view hs ≡ placed (is_off t) 0 (table_view (take i es)) → ks ≡ hs
    → heres_view ks ≡ placed (is_off t) 0 (table_view (take (i + 1) es))
here-passed t es i e hs ks lt is there before made =
    ap heres_view made ∙ before ∙ sym (append-nil (placed (is_off t) 0 (table_view (take i es))))
    ∙ ap (λ b. placed (is_off t) 0 (table_view (take i es)) ++ (if not b then (i, entry_view e) ∷ [] else [])) (sym there)
    ∙ sym (placed-more (is_off t) es i e lt is)

-- ---- changes

-- a record made between two sets says what the one has gained and lost against the other
pub steps-between : (s t : PathSet) (d : SetDelta) → IsBetween s t d → set_steps d ≡ set_between s t
steps-between s t d h = h.led.between ∙ ap (set_between s) h.leads

-- what is made of two entries that differ is the change from one to the other
pub change-made : (e f : Entry) (c : EntryChange) → is_unchanged e f ≡ false → key_view c.key ≡ e.manager → set_steps c.set ≡ set_between e.owned f.owned
    → c.at ≡ new_moment e.moment f.moment → Some (change_view c) ≡ change_of e (Some f)
change-made e f c differ key steps at =
    (λ i. Some (record { manager = key i; gain = (steps i).gain; lose = (steps i).lose; moment = at i }))
    ∙ sym (ap (λ b. if b then None else Some (change_to e f)) differ)

-- what an entry more adds to the changes
pub told-more : (u : Table) (es : List merge.Entry) (i : ℕ) (e : merge.Entry) (cs ds : List EntryChange) (o : Option EntryChange) → i < length es
    → e ≡ get_or es i e → changes_view cs ≡ changes (table_view (take i es)) u
    → option_map change_view o ≡ change_in u (entry_view e) → ds ≡ cs ++ cons_option o []
    → changes_view ds ≡ changes (table_view (take (i + 1) es)) u
told-more u es i e cs ds o lt is before one made =
    ap changes_view made ∙ map-append change_view cs (cons_option o [])
    ∙ (λ j. before j ++ (lone o ∙ ap (λ p. cons_option p []) one) j)
    ∙ sym (ap (λ t. changes t u) (table-more es i e lt is) ∙ filter_map-append (change_in u) (table_view (take i es)) (entry_view e ∷ []))
  where
    lone : (p : Option EntryChange) → changes_view (cons_option p []) ≡ cons_option (option_map change_view p) []
    lone None = refl
    lone (Some c) = refl

-- ---- the room of changes

-- each entry of a table with distinct managers owns what its manager owns
pub own-at : (es : List merge.Entry) (i : ℕ) (e : merge.Entry) → has_distinct_keys (table_view es) ≡ true → i < length es → e ≡ get_or es i e
    → owned_by (table_view es) (key_view e.key) ≡ e.set
own-at es i e distinct lt is =
    owned-entry (table_view es) (key_view e.key) (entry_view e)
    (among (λ f. entry_of (table_view es) f.manager ≡ Some f) (table_view (take i es)) (entry_view e) (table_view (drop (i + 1) es))
    (subst (AllEntries (λ f. entry_of (table_view es) f.manager ≡ Some f)) split (entry-own (table_view es) distinct)))
  where
    split : table_view es ≡ table_view (take i es) ++ entry_view e ∷ table_view (drop (i + 1) es)
    split = ap table_view (parted es i e lt is) ∙ map-append entry_view (take i es) (e ∷ drop (i + 1) es)

    among : (P : Entry → Type 0) (front : Table) (f : Entry) (back : Table) → AllEntries P (front ++ f ∷ back) → P f
    among P [] f back h = h.0
    among P (g ∷ front) f back h = among P front f back h.1

-- one change more has its room
pub room-push : (t : Table) (cs : List EntryChange) (c : EntryChange) → AllHaveRoom t cs → HasRoom c.set (owned_by t (key_view c.key))
    → AllHaveRoom t (cs ++ c ∷ [])
room-push t [] c h room = (room, tt)
room-push t (d ∷ cs) c h room = (h.0, room-push t cs c h.1 room)

-- what an entry more adds has its room
pub room-more : (t u : Table) (e : merge.Entry) (cs ds : List EntryChange) (o : Option EntryChange) → owned_by t (key_view e.key) ≡ e.set
    → option_map change_view o ≡ change_in u (entry_view e) → IfSome o (λ d. HasRoom d.set e.set) → AllHaveRoom t cs
    → ds ≡ cs ++ cons_option o [] → AllHaveRoom t ds
room-more t u e cs ds None own one room h made = subst (AllHaveRoom t) (sym (made ∙ append-nil cs)) h
room-more t u e cs ds (Some c) own one room h made =
    subst (AllHaveRoom t) (sym made)
    (room-push t cs c h (subst (HasRoom c.set) (sym (ap (owned_by t) (change-manager u (entry_view e) (change_view c) (sym one)) ∙ own)) room))
