-- The members of a place after a record: those of the children that stay, and what is put.
use Rattle.std.proofs.Common.{◌≡◌, ℕ, List, [], ◌∷◌, ◌++◌, Bool, true, false, ◌&&◌, cond, Option, Some, None, refl, sym, ap, ◌∙◌}
use Rattle.std.proofs.lemmas.Option.{none-some}
use Rattle.std.specs.Cmp.Lexicographic.{slice_cmp}
use Rattle.std.specs.FinMap.Entries.{below_all}
use Rattle.std.specs.Ordering.{is_lt, nat_cmp}
use Rattle.std.specs.Prelude.{is_some, if◌then◌else◌}
use Rattle.ssa_model.specs.definitions.Json.{Text, Json, Members, no_members, member, member_of, same_text}
use Rattle.ssa_model.specs.definitions.Path.{Element, field, key, value, Path, same_element}
use Rattle.ssa_model.specs.definitions.PathMap.{get, has}
use Rattle.ssa_model.specs.definitions.Kind.{Kind}
use Rattle.ssa_model.specs.definitions.Body.{Body}
use Rattle.ssa_model.specs.definitions.Fitting.{Place}
use Rattle.ssa_model.proofs.Fitting.{same_element-true}
use Rattle.ssa_model.proofs.PutMembers.{are_above, put-found, put-other, rise, rise-put}
use Rattle.ssa_model.proofs.Tables.{same_text-true}
use Rattle.ssa_model.proofs.Tests.{by_test}
use Rattle.ssa_path.specs.Children.{child_at}
use Rattle.ssa_path.specs.View.{element_view}
use Rattle.ssa_path.specs.declared.element.Elem.{Elem}
use Rattle.ssa_typed.specs.Rows.{below, is_tree}
use Rattle.ssa_typed.specs.Values.{with_member_under}
use Rattle.ssa_typed.specs.declared.node.Node.{Node}
use Rattle.ssa_record.specs.LedValues.{named_values, names_rise, put_or, value_below, ArePut, HaveKept, IsHere, IsToldFor}
use Rattle.ssa_record.specs.Places.{ToldMaps}
use Rattle.ssa_record.proofs.LedPlaces.{child-is, coming, cut-gone, no-child, no-value, none-missed, own-here, value-is}

-- ---- members whose names rise

below-above : (n : Text) (ms : Members) → below_all (slice_cmp nat_cmp) n (named_values ms) ≡ are_above n ms
below-above n no_members = refl
below-above n (member m v ms) = ap (λ b. is_lt (slice_cmp nat_cmp n m) && b) (below-above n ms)

-- the two words for rising names agree
pub rise-is : (ms : Members) → names_rise ms ≡ rise ms
rise-is no_members = refl
rise-is (member n v ms) = λ i. below-above n ms i && rise-is ms i

-- a value put under an element keeps the names rising
pub rise-under : (e : Element) (v : Json) (ms : Members) → names_rise ms ≡ true → names_rise (with_member_under e v ms) ≡ true
rise-under (field n) v ms h = rise-is (with_member_under (field n) v ms) ∙ rise-put n v ms (sym (rise-is ms) ∙ h)
rise-under (key ks) v ms h = h
rise-under (value s) v ms h = h

-- ---- a member more

-- what stands under a name behind a value that is put under an element
pub under-name : (t : Text) (e : Element) (v : Json) (ms : Members)
    → member_of t (with_member_under e v ms) ≡ cond (same_element (field t) e) (Some v) (member_of t ms)
under-name t (field n) v ms =
    elim (same_text t n) as (λ s. same_text t n ≡ s → member_of t (with_member_under (field n) v ms) ≡ cond s (Some v) (member_of t ms)) [
      | true ↦ λ same. ap (λ x. member_of x (with_member_under (field n) v ms)) (same_text-true t n same) ∙ put-found n v ms
      | false ↦ λ other. put-other t n v ms other
    ] refl
under-name t (key ks) v ms = refl
under-name t (value s) v ms = refl

-- ---- the children so far

-- a child more
abbrev pub or_last : {A : Type 0} → Option A → Element → Elem × A → Option A
or_last None e c = cond (same_element e (element_view c.0)) (Some c.1) None
or_last (Some d) e c = Some d

-- a child more is found under its element, where none before it is
pub child_at-last : {A : Type 0} (e : Element) (cs : List (Elem × A)) (c : Elem × A) → child_at e (cs ++ c ∷ []) ≡ or_last (child_at e cs) e c
child_at-last e [] c = elim (same_element e (element_view c.0)) as (λ t. (if t then Some c.1 else None) ≡ cond t (Some c.1) None) [ true ↦ refl | false ↦ refl ]
child_at-last e (d ∷ cs) c =
    elim (same_element e (element_view d.0)) as (λ t. (if t then Some d.1 else child_at e (cs ++ c ∷ []))
    ≡ or_last (if t then Some d.1 else child_at e cs) e c) [
      | true ↦ refl
      | false ↦ child_at-last e cs c
    ]

-- what the second body has under a name, where the child has been looked at
abbrev pub led_member : Place → Body → Path → Text → Option Node → Option Json
led_member q w p t None = None
led_member q w p t (Some c) = value_below q w p (field t)

-- the members made of the children looked at so far are what the second body has at these
pub record AreKeptSoFar (m : ToldMaps) (p : Path) (n : Node) (cs : List (Elem × Node)) (ms : Members) : Type 0 where
  -- the names rise
  pub rise : names_rise ms ≡ true
  -- under each name stands the second body's value of the child, where it was looked at
  pub members : (kind : Kind) (v w : Body) (q : Place) → IsToldFor m kind v w → IsHere kind v w p q n → (t : Text)
      → member_of t ms ≡ led_member q w p t (child_at (field t) cs)

-- a child that is told to be cut has no member
skipped-by : (q : Place) (w : Body) (p : Path) (t : Text) (c : Elem × Node) (o : Option Node) (b : Bool) → same_element (field t) (element_view c.0) ≡ b
    → (b ≡ true → value_below q w p (field t) ≡ None) → led_member q w p t o ≡ led_member q w p t (or_last o (field t) c)
skipped-by q w p t c (Some d) b is none = refl
skipped-by q w p t c None true is none = sym (ap (λ s. led_member q w p t (cond s (Some c.1) None)) is ∙ none refl)
skipped-by q w p t c None false is none = sym (ap (λ s. led_member q w p t (cond s (Some c.1) None)) is)

-- a child that stays has the member that is put
added-by : (q : Place) (w : Body) (p : Path) (t : Text) (c : Elem × Node) (j : Json) (o : Option Node) (b : Bool) (x : Option Json)
    → same_element (field t) (element_view c.0) ≡ b
    → (b ≡ true → value_below q w p (field t) ≡ Some j) → (b ≡ true → o ≡ None) → x ≡ led_member q w p t o
    → cond b (Some j) x ≡ led_member q w p t (or_last o (field t) c)
added-by q w p t c j (Some d) true x is given new old = absurd (none-some d (sym (new refl)))
added-by q w p t c j (Some d) false x is given new old = old
added-by q w p t c j None true x is given new old = sym (ap (λ s. led_member q w p t (cond s (Some c.1) None)) is ∙ given refl)
added-by q w p t c j None false x is given new old = old ∙ sym (ap (λ s. led_member q w p t (cond s (Some c.1) None)) is)

module _ (m : ToldMaps) (p : Path) (n : Node) (cs : List (Elem × Node)) (c : Elem × Node) (ms : Members) (old : AreKeptSoFar m p n cs ms) where
  -- a child that is cut adds no member
  pub kept-skip : has m.cut (p ++ element_view c.0 ∷ []) ≡ true → AreKeptSoFar m p n (cs ++ c ∷ []) ms
  kept-skip cut = record {
    rise = old.rise;
    members = λ kind v w q f h t.
        old.members kind v w q f h t
        ∙ skipped-by q w p t c (child_at (field t) cs) (same_element (field t) (element_view c.0)) refl
        (λ same. no-value m kind v w f p q (field t) (ap (λ e. has w (p ++ e ∷ [])) (same_element-true (field t) (element_view c.0) same)
        ∙ cut-gone m kind v w f p (element_view c.0) cut))
        ∙ ap (led_member q w p t) (sym (child_at-last (field t) cs c));
  }

  -- a child that stays adds its value in the second body, under its name
  pub kept-add : (j : Json) → child_at (element_view c.0) cs ≡ None
      → ((kind : Kind) (v w : Body) (q : Place) → IsToldFor m kind v w → IsHere kind v w p q n → value_below q w p (element_view c.0) ≡ Some j)
      → AreKeptSoFar m p n (cs ++ c ∷ []) (with_member_under (element_view c.0) j ms)
  kept-add j new given = record {
    rise = rise-under (element_view c.0) j ms old.rise;
    members = λ kind v w q f h t.
        under-name t (element_view c.0) j ms
        ∙ added-by q w p t c j (child_at (field t) cs) (same_element (field t) (element_view c.0)) (member_of t ms) refl
        (λ same. ap (value_below q w p) (same_element-true (field t) (element_view c.0) same) ∙ given kind v w q f h)
        (λ same. ap (λ e. child_at e cs) (same_element-true (field t) (element_view c.0) same) ∙ new)
        (old.members kind v w q f h t)
        ∙ ap (led_member q w p t) (sym (child_at-last (field t) cs c));
  }

-- when all children have been looked at
kept-by : (v : Body) (q : Place) (w : Body) (p : Path) (t : Text) (o : Option Node) → ((c : Node) → o ≡ Some c → has v (p ++ field t ∷ []) ≡ true)
    → (o ≡ None → has v (p ++ field t ∷ []) ≡ false)
    → led_member q w p t o ≡ (if has v (p ++ field t ∷ []) then value_below q w p (field t) else None)
kept-by v q w p t None some none = sym (ap (λ b. if b then value_below q w p (field t) else None) (none refl))
kept-by v q w p t (Some c) some none = sym (ap (λ b. if b then value_below q w p (field t) else None) (some c refl))

-- when all children have been looked at, the members are all that stay
pub kept-end : (m : ToldMaps) (p : Path) (n : Node) (ms : Members) → is_tree n ≡ true → AreKeptSoFar m p n (below n) ms
    → (kind : Kind) (v w : Body) (q : Place) → IsToldFor m kind v w → IsHere kind v w p q n → HaveKept v w q p (Some ms)
kept-end m p n ms tree all kind v w q f h = (
  all.rise,
  λ t. all.members kind v w q f h t
      ∙ kept-by v q w p t (child_at (field t) (below n)) (λ c found. child-is m kind v w f p q n h tree (field t) c found)
      (λ none. no-child m kind v w f p q n h tree (field t) none),
)

-- ---- all members

met-by : (m : ToldMaps) (kind : Kind) (v w : Body) (f : IsToldFor m kind v w) (p : Path) (q : Place) (n : Node) (h : IsHere kind v w p q n) → is_tree n ≡ true
    → (t : Text)
    → (o : Option (Json × Option ℕ)) → get m.put (p ++ field t ∷ []) ≡ o
    → put_or o (if has v (p ++ field t ∷ []) then value_below q w p (field t) else None) ≡ value_below q w p (field t)
met-by m kind v w f p q n h tree t (Some x) is =
    let c = coming m kind v w f p q (field t) x h.place is in
    sym (value-is m kind v w f p q (field t) c.place c.there c.below ∙ ap (λ j. Some j) c.value)
met-by m kind v w f p q n h tree t None is =
    by_test (has v (p ++ field t ∷ []))
    (λ old. ap (λ b. if b then value_below q w p (field t) else None) old)
    (λ new. ap (λ b. if b then value_below q w p (field t) else None) new
    ∙ sym (no-value m kind v w f p q (field t) (none-missed m kind v w f p (field t) (ap is_some (own-here m kind v w f p q n h tree)) new is)))

-- what is kept and what is put is what the second body has there
pub all-met : (m : ToldMaps) (p : Path) (n : Node) (kept all : Members) (kind : Kind) (v w : Body) (q : Place) → is_tree n ≡ true → IsToldFor m kind v w
    → IsHere kind v w p q n
    → HaveKept v w q p (Some kept) → ArePut m p kept all → (names_rise all ≡ true) × ((t : Text) → member_of t all ≡ value_below q w p (field t))
all-met m p n kept all kind v w q tree f h have put = (
  put.rise have.0,
  λ t. put.members t ∙ ap (put_or (get m.put (p ++ field t ∷ []))) (have.1 t) ∙ met-by m kind v w f p q n h tree t (get m.put (p ++ field t ∷ [])) refl,
)
