-- Members that are put together at once are those that each put in in turn leaves.
use Rattle.std.proofs.Common.{◌≡◌, List, [], ◌∷◌, ◌++◌, map, String, Global, Ordering, Less, Equal, Greater, Option, Some, None, string_bytes, string_cmp, nat_cmp, refl, sym, ap, subst, ◌∙◌}
use Rattle.std.proofs.lemmas.Cmp.{nat_list_cmp_total}
use Rattle.std.specs.Prelude.{option_map, cond, T, true, ◌&&◌}
use Rattle.std.specs.Cmp.Lexicographic.{slice_cmp}
use Rattle.std.specs.FinMap.{slice_cmp-IsAntisymmetric, nat_cmp-IsAntisymmetric}
use Rattle.std.specs.FinMap.Entries.{find, put, is_sorted, below_all, is_sorted-put, find-put, same_entries, by_order}
use Rattle.std.specs.Map.{lookup, keys_of, update_all}
use Rattle.std.specs.BTreeMap.{is_at}
use Rattle.std.specs.Ordering.{eq_by_cmp, is_eq, is_lt}
use Rattle.std.specs.List.{AllByRecursion}
use Rattle.std.specs.List.Sorted.{IsStrictlySortedBy}
use Rattle.ssa_members.specs.Members.{Members as Entries, IsMadeOf}
use Rattle.ssa_model.specs.definitions.Json as model
use Rattle.ssa_model.specs.definitions.Json.{Text, Members, no_members, member, same_text}
use Rattle.ssa_model.specs.definitions.Objects.{with_member}
use Rattle.ssa_model.proofs.Tables.{same_text-true}
use Rattle.ssa_model.proofs.Tests.{symmetric}
use Rattle.ssa_json.specs.View.{view, members_view}
use Rattle.ssa_json.specs.Lookups.{view-either}
use Rattle.ssa_json.specs.PutInTurn.{put_in_turn}
use Rattle.ssa_json.specs.declared.value.Json.{Json}
use Rattle.ssa_json.proofs.Converting.{Found, named, members_after, members_after-none}

-- ---- pairs put in turn

-- pairs that stand behind others are put in behind them
pub put-append : (ps qs : List Found) (ms : Members) → put_in_turn (ps ++ qs) ms ≡ put_in_turn qs (put_in_turn ps ms)
put-append [] qs ms = refl
put-append (p ∷ ps) qs ms = put-append ps qs (with_member (string_bytes p.0) (view p.1) ms)

-- ---- rows

-- members as names and what is seen under them
abbrev Rows : Type 0
Rows = List (Text × model.Json)

abbrev order : Text → Text → Ordering
order = slice_cmp nat_cmp

-- the rows with each pair put among them in turn
abbrev rows_with : List Found → Rows → Rows
rows_with [] rows = rows
rows_with (p ∷ ps) rows = rows_with ps (put order (string_bytes p.0) (view p.1) rows)

-- ---- the rows are the members

row-put : (k : Text) (v : model.Json) (rows : Rows) → members_after (put order k v rows) no_members ≡ with_member k v (members_after rows no_members)
unfolding members_after
row-put k v [] = refl
row-put k v (e ∷ es) =
    elim (order k e.0) as (λ o. order k e.0 ≡ o → members_after (by_order o ((k, v) ∷ e ∷ es) ((e.0, v) ∷ es) (e ∷ put order k v es)) no_members
    ≡ elim o [
      | Less ↦ member k v (member e.0 e.1 (members_after es no_members))
      | Equal ↦ member k v (members_after es no_members)
      | Greater ↦ member e.0 e.1 (with_member k v (members_after es no_members))
    ]) [
      | Less ↦ λ h. refl
      | Equal ↦ λ h. ap (λ t. member t v (members_after es no_members)) (sym (slice_cmp-IsAntisymmetric nat_cmp-IsAntisymmetric k e.0 h))
      | Greater ↦ λ h. ap (member e.0 e.1) (row-put k v es)
    ] refl

rows-put : (ps : List Found) (rows : Rows) → members_after (rows_with ps rows) no_members ≡ put_in_turn ps (members_after rows no_members)
rows-put [] rows = refl
rows-put (p ∷ ps) rows = rows-put ps (put order (string_bytes p.0) (view p.1) rows) ∙ ap (put_in_turn ps) (row-put (string_bytes p.0) (view p.1) rows)

-- ---- the rows rise

row_is_above : (x : String Global) (es : List Found) → AllByRecursion (λ y. string_cmp x y ≡ Less) (keys_of es)
    → below_all order (string_bytes x) (map named es) ≡ true
row_is_above x [] h = refl
row_is_above x (e ∷ es) h = λ i. is_lt (h.0 i) && row_is_above x es h.1 i

map-rises : (es : List Found) → IsStrictlySortedBy string_cmp (keys_of es) → is_sorted order (map named es) ≡ true
unfolding IsStrictlySortedBy
map-rises [] h = refl
map-rises (e ∷ es) h = λ i. row_is_above e.0 es h.0 i && map-rises es h.1 i

rows-rise : (ps : List Found) (rows : Rows) → T (is_sorted order rows) → T (is_sorted order (rows_with ps rows))
rows-rise [] rows h = h
rows-rise (p ∷ ps) rows h = rows-rise ps _ (is_sorted-put order nat_list_cmp_total (string_bytes p.0) (view p.1) rows h)

-- ---- looking up

find-map : (q : String Global) (es : List Found) → find order (string_bytes q) (map named es) ≡ option_map view (lookup (is_at (string_cmp q)) es)
find-map q [] = refl
find-map q (e ∷ es) =
    sym (view-either (is_eq (string_cmp q e.0)) e.1 (lookup (is_at (string_cmp q)) es) _ (sym (find-map q es)))

find-rows : (ps : List Found) (rows : Rows) (f : String Global → Option Json) → ((q : String Global) → find order (string_bytes q) rows ≡ option_map view (f q))
    → (q : String Global) → find order (string_bytes q) (rows_with ps rows) ≡ option_map view (update_all (eq_by_cmp string_cmp) f ps q)
find-rows [] rows f h q = h q
find-rows (p ∷ ps) rows f h q =
    find-rows ps (put order (string_bytes p.0) (view p.1) rows) (λ q. cond (eq_by_cmp string_cmp p.0 q) (Some p.1) (f q))
    (λ q. find-put order nat_list_cmp_total (string_bytes q) (string_bytes p.0) (view p.1) rows
    ∙ ap (λ b. cond b (Some (view p.1)) (find order (string_bytes q) rows)) (symmetric same_text same_text-true (string_bytes q) (string_bytes p.0))
    ∙ sym (view-either (eq_by_cmp string_cmp p.0 q) p.1 (f q) _ (sym (h q)))) q

-- ---- a name that is no string's names no row

abbrev Spelled : Rows → Type 0
Spelled rows = AllByRecursion (λ (r : Text × model.Json). (k : String Global) × (string_bytes k ≡ r.0)) rows

map-spelled : (es : List Found) → Spelled (map named es)
map-spelled [] = tt
map-spelled (e ∷ es) = ((e.0, refl), map-spelled es)

put-spelled : (k : String Global) (v : model.Json) (rows : Rows) → Spelled rows → Spelled (put order (string_bytes k) v rows)
put-spelled k v [] h = ((k, refl), tt)
put-spelled k v (e ∷ es) h =
    elim (order (string_bytes k) e.0) as (λ o. Spelled (by_order o ((string_bytes k, v) ∷ e ∷ es) ((e.0, v) ∷ es) (e ∷ put order (string_bytes k) v es))) [
      | Less ↦ ((k, refl), h)
      | Equal ↦ (h.0, h.1)
      | Greater ↦ (h.0, put-spelled k v es h.1)
    ]

rows-spelled : (ps : List Found) (rows : Rows) → Spelled rows → Spelled (rows_with ps rows)
rows-spelled [] rows h = h
rows-spelled (p ∷ ps) rows h = rows-spelled ps _ (put-spelled p.0 (view p.1) rows h)

-- what is so of no row and of each string's name is so of each name
by_name : (G : Text → Type 0) (q : Text) (rows : Rows) → Spelled rows → ((k : String Global) → G (string_bytes k)) → (find order q rows ≡ None → G q) → G q
by_name G q [] h some none = none refl
by_name G q (e ∷ es) h some none =
    elim (order q e.0) as (λ o. order q e.0 ≡ o → G q) [
      | Less ↦ λ o. by_name G q es h.1 some (λ n. none (ap (λ o. cond (is_eq o) (Some e.1) (find order q es)) o ∙ n))
      | Equal ↦ λ o. subst G (h.0.1 ∙ sym (slice_cmp-IsAntisymmetric nat_cmp-IsAntisymmetric q e.0 o)) (some h.0.0)
      | Greater ↦ λ o. by_name G q es h.1 some (λ n. none (ap (λ o. cond (is_eq o) (Some e.1) (find order q es)) o ∙ n))
    ] refl

-- rows of strings' names that answer alike for each string answer alike for each name
alike : (rs bs : Rows) → Spelled rs → Spelled bs → ((k : String Global) → find order (string_bytes k) rs ≡ find order (string_bytes k) bs)
    → (q : Text) → find order q rs ≡ find order q bs
alike rs bs g h same q =
    let G = λ (q : Text). find order q rs ≡ find order q bs in
    by_name G q rs g same (λ a. by_name G q bs h same (λ b. a ∙ sym b))

-- ---- the map

-- a map whose look-ups are those of entries with pairs put in turn has those members
made : (es ps : List Found) (f : String Global → Option Json) (m : Entries Json) → IsStrictlySortedBy string_cmp (keys_of es)
    → ((q : String Global) → lookup (is_at (string_cmp q)) es ≡ f q)
    → ((q : String Global) → lookup (is_at (string_cmp q)) m.entries ≡ update_all (eq_by_cmp string_cmp) f ps q) → IsStrictlySortedBy string_cmp (keys_of m.entries)
    → members_view m.entries ≡ put_in_turn ps (members_view es)
made es ps f m rises base found sorted =
    let old = map named es in
    let new = map named m.entries in
    let seen : (q : String Global) → find order (string_bytes q) old ≡ option_map view (f q) = λ q. find-map q es ∙ ap (option_map view) (base q) in
    let same = same_entries order nat_list_cmp_total (slice_cmp-IsAntisymmetric nat_cmp-IsAntisymmetric) new (rows_with ps old)
    (subst T (sym (map-rises m.entries sorted)) tt) (rows-rise ps old (subst T (sym (map-rises es rises)) tt))
    (alike new (rows_with ps old) (map-spelled m.entries) (rows-spelled ps old (map-spelled es))
    (λ q. find-map q m.entries ∙ ap (option_map view) (found q) ∙ sym (find-rows ps old f seen q))) in
    sym (members_after-none m.entries) ∙ ap (λ rows. members_after rows no_members) same ∙ rows-put ps old
    ∙ ap (put_in_turn ps) (members_after-none es)

-- pairs that are put together have the members that they leave when each is put in in turn
pub made-of-pairs : (ps : List Found) (m : Entries Json) → IsMadeOf ps m → members_view m.entries ≡ put_in_turn ps no_members
unfolding IsStrictlySortedBy
made-of-pairs ps m is = made [] ps (λ _. None) m tt (λ q. refl) is.found is.rising
