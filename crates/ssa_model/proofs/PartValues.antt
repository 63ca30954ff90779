-- The value of a part of a body is the value that the body has at the part's path.
use Rattle.std.proofs.Common.{◌≡◌, List, [], ◌∷◌, ◌++◌, map, Bool, true, false, cond, not, ◌&&◌, T, Option, Some, None, refl, sym, ap, subst, ◌∙◌, true≢false, append_assoc, append-nil}
use Rattle.std.proofs.lemmas.Option.{none-some}
use Rattle.std.specs.Cmp.{first_so, second_so, tied_itself, on_total}
use Rattle.std.specs.Cmp.Lexicographic.{nat_list_cmp_total}
use Rattle.std.specs.FinMap.Entries.{below_all, is_sorted, find}
use Rattle.std.specs.List.{cons_option}
use Rattle.std.specs.Ordering.{is_lt, is_eq, ordering_then}
use Rattle.std.specs.Prelude.{if◌then◌else◌, filter_map, option_map}
use Rattle.ssa_model.specs.definitions.Json.{Text, Json, object, list, item, member}
use Rattle.ssa_model.specs.definitions.Path.{Element, field, Path, element_text, element_cmp, path_cmp, same_path, parent, rest_of}
use Rattle.ssa_model.specs.definitions.PathMap.{get, has, below}
use Rattle.ssa_model.specs.definitions.Kind as kinds
use Rattle.ssa_model.specs.definitions.Kind.{Kind, Fields, scalar_kind, atomic_of, record_of as record_kind, dict_of, items_of, no_fields, kind_field}
use Rattle.ssa_model.specs.definitions.Body.{Body, order_at}
use Rattle.ssa_model.specs.definitions.Objects.{content_value, name_below, names_below, entry_members, shown_items, shown, shown_fields}
use Rattle.ssa_model.specs.definitions.Fitting.{of_kind, item_of, value_of}
use Rattle.ssa_model.specs.laws.RecordWalks.{PartIsValue}
use Rattle.ssa_model.proofs.PathMaps.{same_map, same_path-true}
use Rattle.ssa_model.proofs.ShownNames.{name_of}
use Rattle.ssa_model.proofs.Tests.{by_test, holds, held}
use Rattle.ssa_model.proofs.Beginnings.{rest_of-is, rest_of-append}
use Rattle.ssa_model.proofs.PutParts.{get-below, has-below}

-- ---- order below a path

element-tied : (e : Element) → element_cmp e e ≡ Rattle.std.proofs.Common.Equal
element-tied e = tied_itself (on_total element_text nat_list_cmp_total) e

pub cmp-below : (p q r : Path) → path_cmp (p ++ q) (p ++ r) ≡ path_cmp q r
cmp-below [] q r = refl
cmp-below (e ∷ p) q r = ap (λ o. ordering_then o (path_cmp (p ++ q) (p ++ r))) (element-tied e) ∙ cmp-below p q r

-- two paths with one beginning are the same exactly where what follows it is
pub same-below : (p q r : Path) → same_path (p ++ q) (p ++ r) ≡ same_path q r
same-below p q r = ap is_eq (cmp-below p q r)

module _ {X : Type 0} (p : Path) where
  -- the entries under p, each at what follows p
  abbrev shifted_one : Option Path → X → Option (Path × X)
  shifted_one o x = option_map (λ r. (r, x)) o

  abbrev shifted : List (Path × X) → List (Path × X)
  shifted es = filter_map (λ e. shifted_one (rest_of p e.0) e.1) es

  below-cons : (q : Path) (o : Option Path) (x : X) (es : List (Path × X)) → ((s : Path) → o ≡ Some s → is_lt (path_cmp q s) ≡ true)
      → below_all path_cmp q es ≡ true
      → below_all path_cmp q (cons_option (shifted_one o x) es) ≡ true
  below-cons q None x es a h = h
  below-cons q (Some s) x es a h = λ i. a s refl i && h i

  below-shifted : (q : Path) (es : List (Path × X)) → below_all path_cmp (p ++ q) es ≡ true → below_all path_cmp q (shifted es) ≡ true
  below-shifted q [] h = refl
  below-shifted q (e ∷ es) h =
      below-cons q (rest_of p e.0) e.1 (shifted es)
      (λ s is. ap is_lt (sym (ap (path_cmp (p ++ q)) (sym (rest_of-is p e.0 s is)) ∙ cmp-below p q s)) ∙ first_so _ _ h)
      (below-shifted q es (second_so _ _ h))

  sorted-cons : (o : Option Path) (x : X) (es : List (Path × X)) → ((s : Path) → o ≡ Some s → below_all path_cmp s es ≡ true) → is_sorted path_cmp es ≡ true
      → is_sorted path_cmp (cons_option (shifted_one o x) es) ≡ true
  sorted-cons None x es a h = h
  sorted-cons (Some s) x es a h = λ i. a s refl i && h i

  sorted-shifted : (es : List (Path × X)) → is_sorted path_cmp es ≡ true → is_sorted path_cmp (shifted es) ≡ true
  sorted-shifted [] h = refl
  sorted-shifted (e ∷ es) h =
      sorted-cons (rest_of p e.0) e.1 (shifted es)
      (λ s is. below-shifted s es (ap (λ q. below_all path_cmp q es) (rest_of-is p e.0 s is) ∙ first_so _ _ h))
      (sorted-shifted es (second_so _ _ h))

  find-shifted : (r : Path) (es : List (Path × X)) → find path_cmp r (shifted es) ≡ find path_cmp (p ++ r) es
  find-shifted r [] = refl
  find-shifted r (e ∷ es) =
      let rest = find-shifted r es in
      elim (rest_of p e.0) as (λ o. rest_of p e.0 ≡ o → find path_cmp r (cons_option (shifted_one o e.1) (shifted es))
      ≡ cond (same_path (p ++ r) e.0) (Some e.1) (find path_cmp (p ++ r) es)) [
        | Some s ↦ λ is. (λ i. cond (sym (same-below p r s) i) (Some e.1) (rest i))
            ∙ ap (λ q. cond (same_path (p ++ r) q) (Some e.1) (find path_cmp (p ++ r) es)) (rest_of-is p e.0 s is)
        | None ↦ λ is. rest ∙ by_test (same_path (p ++ r) e.0)
            (λ t. absurd (none-some r (sym is ∙ ap (rest_of p) (sym (same_path-true (p ++ r) e.0 t)) ∙ rest_of-append p r)))
            (λ f. sym (ap (λ b. cond b (Some e.1) (find path_cmp (p ++ r) es)) f))
      ] refl

abbrev moved : Path → Body → Body
moved p w = record { entries = shifted p w.entries; in_order = held _ (sorted-shifted p w.entries (holds _ w.in_order)) }

below-moved : (w : Body) (p : Path) → below w p ≡ moved p w
below-moved w p = same_map (below w p) (moved p w) (λ r. get-below w p r ∙ sym (find-shifted p r w.entries))

-- ---- names below a place

name-prefixed : (p r s : Path) → name_below (p ++ r) (p ++ s) ≡ name_below r s
name-prefixed [] r s = refl
name-prefixed (e ∷ p) r s = name-prefixed p r s

if-none : (b : Bool) → ◌≡◌ {A = Option Text} (if b then None else None) None
if-none true = refl
if-none false = refl

-- where something follows a beginning, the parent is the parent of what follows, behind that beginning
pub parent-prefixed : (p : Path) (x : Element) (s : Path) → parent (p ++ x ∷ s) ≡ p ++ parent (x ∷ s)
parent-prefixed [] x s = refl
parent-prefixed (e ∷ []) x s = refl
parent-prefixed (e ∷ f ∷ p) x s = ap (λ q. e ∷ q) (parent-prefixed (f ∷ p) x s)

at-shifted : (p r s : Path) → name_of r s ≡ name_of (p ++ r) (p ++ s)
at-shifted p r [] =
    if-none (same_path [] r) ∙ sym (ap (λ n. if same_path (parent (p ++ [])) (p ++ r) then n else None) (name-prefixed p r [])
    ∙ if-none (same_path (parent (p ++ [])) (p ++ r)))
at-shifted p r (x ∷ s) =
    (λ i. if sym (ap (λ q. same_path q (p ++ r)) (parent-prefixed p x s) ∙ same-below p (parent (x ∷ s)) r) i then sym (name-prefixed p r (x ∷ s)) i else None)

-- the parent of a path with elements begins it
parent-begins : (q : Path) (e : Element) (p r : Path) → parent (e ∷ q) ≡ p ++ r → (s : Path) × (rest_of p (e ∷ q) ≡ Some s)
parent-begins q e p r up =
    let x = last q e in
    let is : e ∷ q ≡ p ++ (r ++ x.0 ∷ []) = x.1 ∙ ap (λ g. g ++ x.0 ∷ []) up ∙ append_assoc p r (x.0 ∷ []) in
    (r ++ x.0 ∷ [], ap (rest_of p) is ∙ rest_of-append p (r ++ x.0 ∷ []))
  where
    last : (q : Path) (e : Element) → (x : Element) × (e ∷ q ≡ parent (e ∷ q) ++ x ∷ [])
    last [] e = (e, refl)
    last (f ∷ q) e = let rest = last q f in (rest.0, ap (λ g. e ∷ g) rest.1)

at-apart : (p r q : Path) → rest_of p q ≡ None → name_of (p ++ r) q ≡ None
at-apart p r [] off = if-none (same_path [] (p ++ r))
at-apart p r (e ∷ q) off =
    by_test (same_path (parent (e ∷ q)) (p ++ r))
    (λ t. let s = parent-begins q e p r (same_path-true (parent (e ∷ q)) (p ++ r) t) in absurd (none-some s.0 (sym off ∙ s.1)))
    (λ f. ap (λ b. if b then name_below (p ++ r) (e ∷ q) else None) f)

names-shifted : {X : Type 0} (p r : Path) (es : List (Path × X))
    → filter_map (name_of r) (map (λ e. e.0) (shifted p es)) ≡ filter_map (name_of (p ++ r)) (map (λ e. e.0) es)
names-shifted p r [] = refl
names-shifted {X} p r (e ∷ es) =
    let rest = names-shifted p r es in
    elim (rest_of p e.0) as (λ o. rest_of p e.0 ≡ o → filter_map (name_of r) (map (λ e. e.0) (cons_option (shifted_one p o e.1) (shifted p es)))
    ≡ cons_option (name_of (p ++ r) e.0) (filter_map (name_of (p ++ r)) (map (λ e. e.0) es))) [
      | Some s ↦ λ is. (λ i. cons_option ((at-shifted p r s ∙ ap (name_of (p ++ r)) (rest_of-is p e.0 s is)) i) (rest i))
      | None ↦ λ is. rest ∙ sym (ap (λ o. cons_option o (filter_map (name_of (p ++ r)) (map (λ e. e.0) es))) (at-apart p r e.0 is))
    ] refl

names-part : (w : Body) (p r : Path) → names_below (below w p) r ≡ names_below w (p ++ r)
names-part w p r = ap (λ b. names_below b r) (below-moved w p) ∙ names-shifted p r w.entries

-- ---- values

members-alike : (f g : Path → Json) (p q : Path) → ((n : Text) → f (p ++ field n ∷ []) ≡ g (q ++ field n ∷ [])) → (ns : List Text)
    → entry_members f p ns ≡ entry_members g q ns
members-alike f g p q alike [] = refl
members-alike f g p q alike (n ∷ ns) = λ i. member n (alike n i) (members-alike f g p q alike ns i)

items-alike : (f g : Path → Json) (p q : Path) → ((e : Element) → f (p ++ e ∷ []) ≡ g (q ++ e ∷ [])) → (es : List Element)
    → shown_items f p es ≡ shown_items g q es
items-alike f g p q alike [] = refl
items-alike f g p q alike (e ∷ es) = λ i. item (alike e i) (items-alike f g p q alike es i)

module _ (w : Body) (p : Path) where
  content-part : (r : Path) → content_value (get (below w p) r) ≡ content_value (get w (p ++ r))
  content-part r = ap content_value (get-below w p r)

  mutual
    shown-part : (k : Kind) (r : Path) → shown k (below w p) r ≡ shown k w (p ++ r)
    shown-part (scalar_kind k) r = content-part r
    shown-part (atomic_of s) r = content-part r
    shown-part (record_kind fs) r = ap object (fields-part fs r)
    shown-part (dict_of k) r =
        ap object
        (ap (entry_members (shown k (below w p)) r) (names-part w p r)
        ∙ members-alike (shown k (below w p)) (shown k w) r (p ++ r) (λ n. shown-part k (r ++ field n ∷ [])
        ∙ ap (shown k w) (sym (append_assoc p r (field n ∷ [])))) (names_below w (p ++ r)))
    shown-part (kinds.set_of k) r =
        ap list
        (ap (λ o. shown_items (λ q. content_value (get (below w p) q)) r (order_at o)) (get-below w p r)
        ∙ items-alike (λ q. content_value (get (below w p) q)) (λ q. content_value (get w q)) r (p ++ r) (λ e. content-part (r ++ e ∷ [])
        ∙ ap (λ q. content_value (get w q)) (sym (append_assoc p r (e ∷ [])))) (order_at (get w (p ++ r))))
    shown-part (items_of ns fs) r =
        ap list
        (ap (λ o. shown_items (λ q. object (shown_fields fs (below w p) q)) r (order_at o)) (get-below w p r)
        ∙ items-alike (λ q. object (shown_fields fs (below w p) q)) (λ q. object (shown_fields fs w q)) r (p ++ r)
        (λ e. ap object (fields-part fs (r ++ e ∷ []) ∙ ap (shown_fields fs w) (sym (append_assoc p r (e ∷ []))))) (order_at (get w (p ++ r))))

    fields-part : (fs : Fields) (r : Path) → shown_fields fs (below w p) r ≡ shown_fields fs w (p ++ r)
    fields-part no_fields r = refl
    fields-part (kind_field n k fs) r =
        λ i. if (has-below w p (r ++ field n ∷ []) ∙ ap (has w) (sym (append_assoc p r (field n ∷ [])))) i
        then member n ((shown-part k (r ++ field n ∷ []) ∙ ap (shown k w) (sym (append_assoc p r (field n ∷ [])))) i) (fields-part fs r i)
        else fields-part fs r i

-- the value of a part is the value that the body has at the part's path
pub part_is_value : PartIsValue
part_is_value (of_kind k) w p = shown-part w p k [] ∙ ap (shown k w) (append-nil p)
part_is_value (item_of ns fs) w p = ap object (fields-part w p fs [] ∙ ap (shown_fields fs w) (append-nil p))
part_is_value (value_of s) w p = content-part w p [] ∙ ap (λ q. content_value (get w q)) (append-nil p)
