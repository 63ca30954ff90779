-- What a record puts: its entries, and what they say of a path.
use Rattle.std.proofs.Common.{◌≡◌, ◌⊎◌, inl, inr, List, [], ◌∷◌, ◌++◌, map, Bool, true, false, cond, Option, Some, None, Less, Equal, Greater, refl, sym, ap, subst, ◌∙◌, true≢false}
use Rattle.std.proofs.lemmas.Option.{none-some, same_Some}
use Rattle.std.specs.FinMap.Entries.{put, by_order, find}
use Rattle.std.specs.List.{cons_option}
use Rattle.std.specs.Prelude.{is_some, if◌then◌else◌, option_map, filter_map}
use Rattle.ssa_model.specs.definitions.Path.{Path, path_cmp, same_path, rest_of}
use Rattle.ssa_model.specs.definitions.PathMap.{PathMap, from_entries, get, has, paths, map_of, below}
use Rattle.ssa_model.specs.definitions.Body.{Content, Body}
use Rattle.ssa_model.specs.definitions.Record.{Part, is_top, part_at, puts}
use Rattle.ssa_model.specs.definitions.Carry.{put_content, put_paths}
use Rattle.ssa_model.proofs.PathMaps.{is_one_of, get-map_of, has-paths, same_path-true, same_path-itself, get-over_paths}
use Rattle.ssa_model.proofs.Texts.{same_path_same}
use Rattle.ssa_model.proofs.Tables.{either, true_or}
use Rattle.ssa_model.proofs.Tests.{by_test}
use Rattle.ssa_model.proofs.Beginnings.{rest_of-is, rest_of-append}
use Rattle.ssa_model.proofs.Basics.{or_true, none-there as nothing_there, yes_no}

-- ---- entries of maps

-- a fact of each entry, by its path and what it has there
abbrev pub AllAt : {X : Type 0} → (Path → X → Type 0) → List (Path × X) → Type 0
AllAt P [] = Unit {0}
AllAt P (e ∷ es) = P e.0 e.1 × AllAt P es

module _ {X : Type 0} (P : Path → X → Type 0) where
  all-put : (p : Path) (x : X) (es : List (Path × X)) → P p x → AllAt P es → AllAt P (put path_cmp p x es)
  all-put p x [] a h = (a, tt)
  all-put p x (e ∷ es) a h =
      elim (path_cmp p e.0) as (λ o. path_cmp p e.0 ≡ o → AllAt P (by_order o ((p, x) ∷ e ∷ es) ((e.0, x) ∷ es) (e ∷ put path_cmp p x es))) [
        | Less ↦ λ k. (a, h)
        | Equal ↦ λ k. (subst (λ q. P q x) (same_path_same p e.0 k) a, h.1)
        | Greater ↦ λ k. (h.0, all-put p x es a h.1)
      ] refl

  -- what holds of all listed entries holds of all entries of their map
  pub all-from_entries : (es : List (Path × X)) → AllAt P es → AllAt P (from_entries es).entries
  all-from_entries [] h = tt
  all-from_entries (e ∷ es) h = all-put e.0 e.1 (from_entries es).entries h.0 (all-from_entries es h.1)

  all-answer : (o : Option X) (p : Path) (es : List (Path × X)) → ((x : X) → o ≡ Some x → P p x) → AllAt P es
      → AllAt P (cons_option (option_map (λ x. (p, x)) o) es)
  all-answer None p es f h = h
  all-answer (Some x) p es f h = (f x refl, h)

  all-answers : (ps : List Path) (f : Path → Option X) → ((p : Path) (x : X) → f p ≡ Some x → P p x)
      → AllAt P (filter_map (λ p. option_map (λ x. (p, x)) (f p)) ps)
  all-answers [] f g = tt
  all-answers (p ∷ ps) f g = all-answer (f p) p (filter_map (λ p. option_map (λ x. (p, x)) (f p)) ps) (g p) (all-answers ps f g)

  -- what holds of each answer of a function holds of each entry of its map
  pub all-map_of : (ps : List Path) (f : Path → Option X) → ((p : Path) (x : X) → f p ≡ Some x → P p x) → AllAt P (map_of ps f).entries
  all-map_of ps f g = all-from_entries (filter_map (λ p. option_map (λ x. (p, x)) (f p)) ps) (all-answers ps f g)

-- where nothing is there unless a test passes, the test need not be asked
pub where_true : {A : Type 0} (b : Bool) (o : Option A) → (b ≡ false → o ≡ None) → cond b o None ≡ o
where_true true o h = refl
where_true false o h = sym (h refl)

-- ---- what a map has below a path

one-cons : (o : Option Path) (ps : List Path) (r : Path) → is_one_of ps r ≡ true → is_one_of (cons_option o ps) r ≡ true
one-cons None ps r h = h
one-cons (Some p) ps r h = or_true (same_path r p) (is_one_of ps r) h

one-first : (o : Option Path) (ps : List Path) (r : Path) → o ≡ Some r → is_one_of (cons_option o ps) r ≡ true
one-first None ps r h = absurd (none-some r h)
one-first (Some p) ps r h = true_or (same_path r p) (is_one_of ps r) (ap (same_path r) (same_Some p r h) ∙ same_path-itself r)

rests : (g r : Path) (ps : List Path) → is_one_of ps (g ++ r) ≡ true → is_one_of (filter_map (rest_of g) ps) r ≡ true
rests g r [] h = h
rests g r (p ∷ ps) h =
    either (same_path (g ++ r) p) (is_one_of ps (g ++ r)) h
    (λ same. one-first (rest_of g p) (filter_map (rest_of g) ps) r (ap (rest_of g) (sym (same_path-true (g ++ r) p same)) ∙ rest_of-append g r))
    (λ later. one-cons (rest_of g p) (filter_map (rest_of g) ps) r (rests g r ps later))

module _ {X : Type 0} (m : PathMap X) (g r : Path) where
  abbrev follow : List Path
  follow = filter_map (rest_of g) (paths m)

  -- what a map has below a path has, at what follows, what the map has at both in a row
  pub get-below : get (below m g) r ≡ get m (g ++ r)
  get-below =
      get-map_of follow (λ q. get m (g ++ q)) r
      ∙ where_true (is_one_of follow r) (get m (g ++ r))
      (λ off. nothing_there (get m (g ++ r)) (by_test (has m (g ++ r))
      (λ t. yes_no (is_one_of follow r) (rests g r (paths m) (sym (has-paths m (g ++ r)) ∙ t)) off) (λ f. f)))

  -- and it has just the paths that the map has so
  pub has-below : has (below m g) r ≡ has m (g ++ r)
  has-below = ap is_some get-below

-- ---- the entries of what is put

-- a part of the second body at a topmost path that the first has not
abbrev pub IsPut : Body → Body → Path → Part → Type 0
IsPut v w g x = (x ≡ part_at w g) × (is_top v g ≡ true)

-- what is put is a part of the second body, at a topmost path that the first has not
pub put-is : (v w : Body) (p : Path) (x : Part) → (if is_top v p then Some (part_at w p) else None) ≡ Some x → IsPut v w p x
put-is v w p x h =
    by_test (is_top v p)
    (λ t. (sym (same_Some (part_at w p) x (sym (ap (λ b. if b then Some (part_at w p) else None) t) ∙ h)), t))
    (λ f. absurd (none-some x (sym (ap (λ b. if b then Some (part_at w p) else None) f) ∙ h)))

-- so it is with all that the record of two bodies puts
pub all-puts : (v w : Body) → AllAt (IsPut v w) (puts v w).entries
all-puts v w = all-map_of (IsPut v w) (paths w) (λ p. if is_top v p then Some (part_at w p) else None) (put-is v w)

-- at each topmost path that only the second body has, its part is put
pub get-puts : (v w : Body) (p : Path) → has w p ≡ true → is_top v p ≡ true → get (puts v w) p ≡ Some (part_at w p)
get-puts v w p there top =
    get-over_paths w (λ p. if is_top v p then Some (part_at w p) else None) p
    ∙ (λ i. cond (there i) (if top i then Some (part_at w p) else None) None)

-- ---- what is put at a path

-- what a first entry puts, where the path follows it as o says
abbrev pub first_put : Option Path → Part → Option (Option Content) → Option (Option Content)
first_put o x rest = elim o [ Some r ↦ Some (get x.below r) | None ↦ rest ]

-- an entry at or above the path puts what the second body has there
pub put_case : (v w : Body) (es : List (Path × Part)) (q : Path) → AllAt (IsPut v w) es → (put_content es q ≡ Some (get w q)) ⊎ (put_content es q ≡ None)
put_case v w [] q h = inr refl
put_case v w (e ∷ es) q h =
    elim (rest_of e.0 q) as (λ o. rest_of e.0 q ≡ o → (first_put o e.1 (put_content es q) ≡ Some (get w q)) ⊎ (first_put o e.1 (put_content es q) ≡ None)) [
      | Some r ↦ λ is. inl (ap (λ c. Some c) (ap (λ (x : Part). get x.below r) h.0.0 ∙ get-below w e.0 r ∙ ap (get w) (rest_of-is e.0 q r is)))
      | None ↦ λ is. put_case v w es q h.1
    ] refl

content_none : (o : Option Path) (x : Part) (rest : Option (Option Content)) → first_put o x rest ≡ None → rest ≡ None
content_none (Some r) x rest h = absurd (none-some (get x.below r) (sym h))
content_none None x rest h = h

content_some : (o : Option Path) (x : Part) (rest : Option (Option Content)) (r : Path) → o ≡ Some r → first_put o x rest ≡ None → ⊥
content_some (Some s) x rest r is h = none-some (get x.below s) (sym h)
content_some None x rest r is h = none-some r is

-- where nothing is put, no entry is at or above the path
pub put_missed : (es : List (Path × Part)) (g : Path) (x : Part) (q r : Path) → find path_cmp g es ≡ Some x → rest_of g q ≡ Some r → put_content es q ≡ None → ⊥
put_missed [] g x q r found rest none = none-some x found
put_missed (e ∷ es) g x q r found rest none =
    by_test (same_path g e.0)
    (λ t. content_some (rest_of e.0 q) e.1 (put_content es q) r (ap (λ p. rest_of p q) (sym (same_path-true g e.0 t)) ∙ rest) none)
    (λ f. put_missed es g x q r (sym (ap (λ b. cond b (Some e.1) (find path_cmp g es)) f)
    ∙ found) rest (content_none (rest_of e.0 q) e.1 (put_content es q) none))

-- a path of a list, behind a beginning, is one of the list behind this beginning
pub prefixed : (g r : Path) (ps : List Path) → is_one_of ps r ≡ true → is_one_of (map (λ q. g ++ q) ps) (g ++ r) ≡ true
prefixed g r [] h = h
prefixed g r (p ∷ ps) h =
    either (same_path r p) (is_one_of ps r) h
    (λ same. true_or (same_path (g ++ r) (g ++ p)) (is_one_of (map (λ q. g ++ q) ps) (g ++ r))
    (ap (λ s. same_path (g ++ r) (g ++ s)) (sym (same_path-true r p same)) ∙ same_path-itself (g ++ r)))
    (λ later. or_true (same_path (g ++ r) (g ++ p)) (is_one_of (map (λ q. g ++ q) ps) (g ++ r)) (prefixed g r ps later))

-- a path of the first list is one of both in a row
pub one-append : (ps qs : List Path) (q : Path) → is_one_of ps q ≡ true → is_one_of (ps ++ qs) q ≡ true
one-append [] qs q h = absurd (true≢false (sym h))
one-append (p ∷ ps) qs q h =
    either (same_path q p) (is_one_of ps q) h (λ s. true_or (same_path q p) (is_one_of (ps ++ qs) q) s)
    (λ l. or_true (same_path q p) (is_one_of (ps ++ qs) q) (one-append ps qs q l))

-- and so is a path of the second
pub one-later : (ps qs : List Path) (q : Path) → is_one_of qs q ≡ true → is_one_of (ps ++ qs) q ≡ true
one-later [] qs q h = h
one-later (p ∷ ps) qs q h = or_true (same_path q p) (is_one_of (ps ++ qs) q) (one-later ps qs q h)

-- nothing is put at a path that is none of those of what is put
pub put_nothing : (es : List (Path × Part)) (q : Path) → is_one_of (put_paths es) q ≡ false → (put_content es q ≡ None) ⊎ (put_content es q ≡ Some None)
put_nothing [] q off = inl refl
put_nothing (e ∷ es) q off =
    elim (rest_of e.0 q) as (λ o. rest_of e.0 q ≡ o → (first_put o e.1 (put_content es q) ≡ None) ⊎ (first_put o e.1 (put_content es q) ≡ Some None)) [
      | Some r ↦ λ is. inr (ap (λ c. Some c) (nothing_there (get e.1.below r) (by_test (has e.1.below r)
          (λ t.
          let one = prefixed e.0 r (paths e.1.below) (sym (has-paths e.1.below r) ∙ t) in
          let here = ap (is_one_of (map (λ s. e.0 ++ s) (paths e.1.below))) (sym (rest_of-is e.0 q r is)) ∙ one in
          yes_no (is_one_of (put_paths (e ∷ es)) q) (one-append (map (λ s. e.0 ++ s) (paths e.1.below)) (put_paths es) q here) off)
          (λ f. f))))
      | None ↦ λ is. put_nothing es q (by_test (is_one_of (put_paths es) q)
          (λ t. yes_no (is_one_of (put_paths (e ∷ es)) q) (one-later (map (λ s. e.0 ++ s) (paths e.1.below)) (put_paths es) q t) off) (λ f. f))
    ] refl
