-- Lists of entries that tell what a body of a kind has at and below a path.
use Rattle.std.proofs.Common.{◌≡◌, List, [], ◌∷◌, ◌++◌, Bool, true, false, cond, ◌||◌, Option, Some, None, refl, sym, ap, ◌∙◌, true≢false, append_assoc, append-nil}
use Rattle.std.specs.Prelude.{is_some}
use Rattle.std.specs.Option.{option_or}
use Rattle.std.specs.List.{list_any}
use Rattle.std.specs.FinMap.Entries.{find}
use Rattle.ssa_model.specs.definitions.Path.{Element, Path, path_cmp, same_path, same_element, under}
use Rattle.ssa_model.specs.definitions.PathMap.{get, has}
use Rattle.ssa_model.specs.definitions.Kind.{Kind, is_among}
use Rattle.ssa_model.specs.definitions.Body.{Content, Body}
use Rattle.ssa_model.specs.definitions.Fitting.{Place, of_kind, place_below, place_at, IsBodyOf}
use Rattle.ssa_model.proofs.Fitting.{same_element-true}
use Rattle.ssa_model.proofs.PathMaps.{same_path-true, same_path-itself}
use Rattle.ssa_model.proofs.Places.{below}
use Rattle.ssa_model.proofs.Pruned.{under-append, under-rest, under-trans, beginning, above}
use Rattle.ssa_model.proofs.Tables.{either, true_or, under-itself}
use Rattle.ssa_model.proofs.Basics.{or_true, yes_no}

-- paths with their contents
abbrev pub Entries : Type 0
Entries = List (Path × Content)

-- ---- answers of lists

-- of two lists in a row, the first that has the path answers
pub find-both : (xs ys : Entries) (x : Path) → find path_cmp x (xs ++ ys) ≡ option_or (find path_cmp x xs) (find path_cmp x ys)
find-both [] ys x = refl
find-both (e ∷ xs) ys x =
    elim (same_path x e.0) as (λ t. cond t (Some e.1) (find path_cmp x (xs ++ ys)) ≡ option_or (cond t (Some e.1) (find path_cmp x xs)) (find path_cmp x ys))
    [ true ↦ refl | false ↦ find-both xs ys x ]

merged : (u v : Bool) (g : Option Content) → option_or (cond u g None) (cond v g None) ≡ cond (u || v) g None
merged true true None = refl
merged true false None = refl
merged true v (Some c) = refl
merged false v g = refl

-- two tests between which nothing stands
reach : (u v : Bool) (g : Option Content) → (u ≡ true → v ≡ true) → (v ≡ true → is_some g ≡ true → u ≡ true) → cond u g None ≡ cond v g None
reach true v g out back = ap (λ t. cond t g None) (sym (out refl))
reach false true None out back = refl
reach false true (Some c) out back = absurd (true≢false (sym (back refl refl)))
reach false false g out back = refl

any-below : (p x : Path) (es : List Element) → list_any (λ e. under (p ++ e ∷ []) x) es ≡ true → under p x ≡ true
any-below p x [] h = absurd (true≢false (sym h))
any-below p x (e ∷ es) h =
    either (under (p ++ e ∷ []) x) (list_any (λ f. under (p ++ f ∷ []) x) es) h
    (λ u. under-trans p (p ++ e ∷ []) x (under-append p (e ∷ [])) u)
    (λ later. any-below p x es later)

among-any : (test : Element → Bool) (es : List Element) (e : Element) → is_among e es ≡ true → test e ≡ true → list_any test es ≡ true
among-any test [] e h t = h
among-any test (f ∷ es) e h t =
    either (same_element e f) (is_among e es) h
    (λ same. true_or (test f) (list_any test es) (ap test (sym (same_element-true e f same)) ∙ t))
    (λ later. or_true (test f) (list_any test es) (among-any test es e later t))

module _ (kind : Kind) (b : Body) (k : IsBodyOf kind b) where
  -- the entries are those that the body has at and below the path
  abbrev pub Tells : Path → Entries → Type 0
  Tells p rs = (x : Path) → find path_cmp x rs ≡ cond (under p x) (get b x) None

  -- the entries are those that the body has at and below these elements of the path
  abbrev pub TellsBelow : Path → List Element → Entries → Type 0
  TellsBelow p es rs = (x : Path) → find path_cmp x rs ≡ cond (list_any (λ e. under (p ++ e ∷ []) x) es) (get b x) None

  -- the entries at and below one element, and those of the elements behind it, are those of all these elements
  pub told-next : (p : Path) (e : Element) (es : List Element) (xs ys : Entries) → Tells (p ++ e ∷ []) xs → TellsBelow p es ys
      → TellsBelow p (e ∷ es) (xs ++ ys)
  told-next p e es xs ys g h x =
      find-both xs ys x ∙ (λ i. option_or (g x i) (h x i)) ∙ merged (under (p ++ e ∷ []) x) (list_any (λ f. under (p ++ f ∷ []) x) es) (get b x)

  -- an element that isn't there has no entries
  pub told-skipped : (p : Path) (e : Element) (es : List Element) (ys : Entries) → has b (p ++ e ∷ []) ≡ false → TellsBelow p es ys → TellsBelow p (e ∷ es) ys
  told-skipped p e es ys gone h x =
      let later = list_any (λ f. under (p ++ f ∷ []) x) es in
      h x
      ∙ reach later (under (p ++ e ∷ []) x || later) (get b x) (λ t. or_true (under (p ++ e ∷ []) x) later t)
      (λ t one. either (under (p ++ e ∷ []) x) later t (λ u. yes_no (has b (p ++ e ∷ [])) (above kind b k (p ++ e ∷ []) x one u) gone) (λ l. l))

  first_element : (p x r : Path) (es : List Element) → x ≡ p ++ r → same_path x p ≡ false → has b x ≡ true
      → ((e : Element) → has b (p ++ e ∷ []) ≡ true → is_among e es ≡ true) → list_any (λ e. under (p ++ e ∷ []) x) es ≡ true
  first_element p x [] es is other one all = yes_no (same_path x p) (ap (λ y. same_path y p) (is ∙ append-nil p) ∙ same_path-itself p) other
  first_element p x (e ∷ r) es is other one all =
      let longer : (p ++ e ∷ []) ++ r ≡ x = append_assoc p (e ∷ []) r ∙ sym is in
      among-any (λ f. under (p ++ f ∷ []) x) es e (all e (beginning kind b k r (p ++ e ∷ []) (ap (has b) longer ∙ one)))
      (ap (under (p ++ e ∷ [])) (sym longer) ∙ under-append (p ++ e ∷ []) r)

  -- what stands at a path, and what stands at and below all elements there
  pub told-branch : (p : Path) (c : Content) (es : List Element) (rs : Entries) → get b p ≡ Some c → TellsBelow p es rs
      → ((e : Element) → has b (p ++ e ∷ []) ≡ true → is_among e es ≡ true) → Tells p ((p, c) ∷ rs)
  told-branch p c es rs here told all x =
      elim (same_path x p) as (λ t. same_path x p ≡ t → cond t (Some c) (find path_cmp x rs) ≡ cond (under p x) (get b x) None) [
        | true ↦ λ t.
            let is = same_path-true x p t in
            sym here ∙ ap (get b) (sym is) ∙ ap (λ u. cond u (get b x) None) (sym (ap (under p) is ∙ under-itself p))
        | false ↦ λ t. told x ∙ reach (list_any (λ e. under (p ++ e ∷ []) x) es) (under p x) (get b x) (any-below p x es)
            (λ u one. let r = under-rest p x u in first_element p x r.0 es r.1 t one all)
      ] refl

  -- a place below which the kind has none
  pub told-alone : (p : Path) (r : Place) (c : Content) → place_at (of_kind kind) p ≡ Some r → ((e : Element) (s : Place) → place_below r e ≡ Some s → ⊥)
      → get b p ≡ Some c → Tells p ((p, c) ∷ [])
  told-alone p r c at none here = told-branch p c [] [] here (λ x. refl) (λ e one. let s = below kind b k p r e at one in absurd (none e s.place s.below))
