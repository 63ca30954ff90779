-- What becomes of entries and tables by a change.
use Rattle.std.proofs.Common.{◌≡◌, ℕ, zero, suc, ◌+◌, ◌<◌, List, [], ◌∷◌, ◌++◌, length, map, take, get_or, replicate, Bool, true, false, not, ◌||◌, cond, refl, sym, ap, ◌∙◌, arith}
use Rattle.std.proofs.lemmas.List.{map-append, append-nil, append_assoc, length-map, length-take-le}
use Rattle.std.proofs.lemmas.List.Elements.{filter-append}
use Rattle.std.specs.Prelude.{filter, if◌then◌else◌}
use Rattle.ssa_model.proofs.Basics.{or_true}
use Rattle.ssa_model.specs.definitions.Json.{Text}
use Rattle.ssa_model.specs.definitions.PathMap.{PathSet, is_empty, minus, same_set}
use Rattle.ssa_model.specs.definitions.Table.{Entry, Table}
use Rattle.ssa_model.proofs.PathMaps.{same_set-true}
use Rattle.ssa_path.proofs.Lists.{taken-at}
use Rattle.ssa_path.specs.Meet.{meet}
use Rattle.ssa_merge.specs.Managers.{entry_view, table_view}
use Rattle.ssa_merge.specs.Tables.{owns, less, acted}
use Rattle.ssa_merge.specs.TableChanges.{changed_entry, changed_entries, leaves}
use Rattle.ssa_merge.specs.declared.managers.Entry as merge
use Rattle.ssa_merge.specs.declared.table_change.EntryChange.{EntryChange}
use Rattle.ssa_merge.specs.declared.table_change.EntryChange.TheVariants.{Stays, Leaves, Renewed, Loses, Owns}
use Rattle.ssa_merge.proofs.GivenUp.{minus-meet, minus-none}

-- an entry that owns something is kept
pub kept-if : (e : Entry) (s : PathSet) → s ≡ e.owned → is_empty s ≡ false → e ∷ [] ≡ filter owns (e ∷ [])
kept-if e s same some = ap (λ b. cond (not b) (e ∷ []) []) (sym some ∙ ap is_empty same)

-- who loses nothing keeps all
pub less-none : (e : Entry) (lost : PathSet) → is_empty (meet e.owned lost) ≡ true → filter owns (e ∷ []) ≡ filter owns (less e lost ∷ [])
less-none e lost none = λ i. filter owns (record { manager = e.manager; owned = minus-none e.owned lost none i; moment = e.moment } ∷ [])

-- who loses some of its paths, and keeps others, loses what it has of the lost ones
pub less-taken : (e : Entry) (lost taken : PathSet) → taken ≡ meet e.owned lost → is_empty (minus e.owned lost) ≡ false
    → record { manager = e.manager; owned = minus e.owned taken; moment = e.moment } ∷ [] ≡ filter owns (less e lost ∷ [])
less-taken e lost taken is some =
    (λ i. record { manager = e.manager; owned = (ap (minus e.owned) is ∙ minus-meet e.owned lost) i; moment = e.moment } ∷ [])
    ∙ kept-if (less e lost) (minus e.owned lost) refl some

-- who owns the same paths has another moment where a field changed, and else stays as it is
pub acted-renewed : (e : Entry) (owned : PathSet) (changed : Bool) (at : Text) → is_empty owned ≡ false → same_set owned e.owned ≡ true → changed ≡ true
    → record { manager = e.manager; owned = e.owned; moment = at } ∷ [] ≡ filter owns (acted e owned changed at ∷ [])
acted-renewed e owned changed at some same renewed =
    (λ i. record {
      manager = e.manager;
      owned = sym (same_set-true owned e.owned same) i;
      moment = if sym renewed i || not (same_set owned e.owned) then at else e.moment;
    } ∷ [])
    ∙ kept-if (acted e owned changed at) owned refl some

-- who owns the same paths stays as it is where no field changed
pub acted-same : (e : Entry) (owned : PathSet) (changed : Bool) (at : Text) → is_empty owned ≡ false → same_set owned e.owned ≡ true → changed ≡ false
    → e ∷ [] ≡ filter owns (acted e owned changed at ∷ [])
acted-same e owned changed at some same stays =
    (λ i. record { manager = e.manager; owned = sym (same_set-true owned e.owned same) i; moment = if sym stays i || not (sym same i) then at else e.moment }
    ∷ [])
    ∙ kept-if (acted e owned changed at) owned refl some

-- who owns other paths has another moment
pub acted-other : (e : Entry) (owned : PathSet) (changed : Bool) (at : Text) → is_empty owned ≡ false → same_set owned e.owned ≡ false
    → record { manager = e.manager; owned = owned; moment = at } ∷ [] ≡ filter owns (acted e owned changed at ∷ [])
acted-other e owned changed at some other =
    let moves : (changed || not (same_set owned e.owned)) ≡ true = ap (λ b. changed || not b) other ∙ or_true changed true refl in
    (λ i. record { manager = e.manager; owned = owned; moment = if sym moves i then at else e.moment } ∷ [])
    ∙ kept-if (acted e owned changed at) owned refl some

-- ---- whole tables

-- where all leave, nobody stays
pub all-leave : (n : ℕ) (table : Table) → changed_entries (replicate n Leaves) table ≡ []
all-leave zero table = refl
all-leave (suc n) [] = refl
all-leave (suc n) (e ∷ es) = all-leave n es

abbrev kept : List EntryChange → ℕ
kept cs = length (filter (λ c. not (leaves c)) cs)

one-kept : (c : EntryChange) (cs : List EntryChange) (e : Entry) (es : Table) → kept cs ≡ length (changed_entries cs es)
    → kept (c ∷ cs) ≡ length (changed_entries (c ∷ cs) (e ∷ es))
one-kept Stays cs e es before = ap suc before
one-kept Leaves cs e es before = before
one-kept (Renewed at) cs e es before = ap suc before
one-kept (Loses lost at) cs e es before = ap suc before
one-kept (Owns set at) cs e es before = ap suc before

-- as many do not leave as there are entries after the change
pub kept-counted : (cs : List EntryChange) (table : Table) → length cs ≡ length table
    → length (filter (λ c. not (leaves c)) cs) ≡ length (changed_entries cs table)
kept-counted [] table same = refl
kept-counted (c ∷ cs) [] same = let no : ⊥ = omega arith in absurd no
kept-counted (c ∷ cs) (e ∷ es) same = one-kept c cs e es (kept-counted cs es (let rest : length cs ≡ length es = omega arith in rest))

-- one entry more, and what becomes of it
pub changed-more : (cs : List EntryChange) (c : EntryChange) (table : Table) (e : Entry) → length cs ≡ length table
    → changed_entries (cs ++ c ∷ []) (table ++ e ∷ []) ≡ changed_entries cs table ++ changed_entry c e
changed-more [] c [] e same = append-nil (changed_entry c e)
changed-more [] c (d ∷ ds) e same = let no : ⊥ = omega arith in absurd no
changed-more (b ∷ bs) c [] e same = let no : ⊥ = omega arith in absurd no
changed-more (b ∷ bs) c (d ∷ ds) e same =
    ap (λ es. changed_entry b d ++ es) (changed-more bs c ds e (let rest : length bs ≡ length ds = omega arith in rest))
    ∙ sym (append_assoc (changed_entry b d) (changed_entries bs ds) (changed_entry c e))

-- one entry more is kept if it owns something
pub kept-more : (table : Table) (e : Entry) (f : Entry → Entry) → filter owns (map f (table ++ e ∷ [])) ≡ filter owns (map f table) ++ filter owns (f e ∷ [])
kept-more table e f = ap (filter owns) (map-append f table (e ∷ [])) ∙ filter-append owns (map f table) (f e ∷ [])

-- where the first entries become what they shall and one more does, all of them do
pub each-more : (cs : List EntryChange) (c : EntryChange) (table : Table) (e : Entry) (f : Entry → Entry) → length cs ≡ length table
    → changed_entries cs table ≡ filter owns (map f table) → changed_entry c e ≡ filter owns (f e ∷ [])
    → changed_entries (cs ++ c ∷ []) (table ++ e ∷ []) ≡ filter owns (map f (table ++ e ∷ []))
each-more cs c table e f same before here = changed-more cs c table e same ∙ (λ i. before i ++ here i) ∙ sym (kept-more table e f)

-- what becomes of the first entries, and of one more
pub reseated-more : (es : List merge.Entry) (i : ℕ) (e : merge.Entry) (f : Entry → Entry) (cs : List EntryChange) (c : EntryChange) → i < length es
    → e ≡ get_or es i e
    → changed_entries cs (table_view (take i es)) ≡ filter owns (map f (table_view (take i es))) → length cs ≡ i
    → changed_entry c (entry_view e) ≡ filter owns (f (entry_view e) ∷ [])
    → changed_entries (cs ++ c ∷ []) (table_view (take (i + 1) es)) ≡ filter owns (map f (table_view (take (i + 1) es)))
reseated-more es i e f cs c within is before same here =
    let more : table_view (take (i + 1) es) ≡ table_view (take i es) ++ entry_view e ∷ [] =
    ap table_view (taken-at es i e within is) ∙ map-append entry_view (take i es) (e ∷ []) in
    let count : length (table_view (take i es)) ≡ i = length-map (take i es) entry_view ∙ length-take-le i es (omega arith) in
    ap (changed_entries (cs ++ c ∷ [])) more
    ∙ each-more cs c (table_view (take i es)) (entry_view e) f (same ∙ sym count) before here
    ∙ sym (ap (λ t. filter owns (map f t)) more)
