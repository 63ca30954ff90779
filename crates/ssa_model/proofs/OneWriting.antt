-- Two canonical values in which names rise, and that say the same paths, are one value.
use Rattle.std.proofs.Common.{◌≡◌, ◌≢◌, ◌⊎◌, [], ◌∷◌, Bool, true, false, cond, Option, Some, None, Ok, Less, Equal, Greater, refl, sym, ap, subst, ◌∙◌, inl, inr, true≢false}
use Rattle.std.specs.Prelude.{codes, is_some}
use Rattle.std.specs.Cmp.{first_so, second_so}
use Rattle.std.specs.Cmp.Lexicographic.{slice_cmp, nat_list_cmp_total}
use Rattle.std.specs.FinMap.{nat_cmp-IsAntisymmetric, slice_cmp-IsAntisymmetric}
use Rattle.std.specs.Ordering.{is_lt, nat_cmp, ordering_reverse}
use Rattle.ssa_model.specs.definitions.Json.{Text, Json, scalar, list, object, Members, no_members, member, member_of, same_text}
use Rattle.ssa_model.specs.definitions.Path.{Element, field, Path, element_text}
use Rattle.ssa_model.specs.definitions.FieldsV1.{IsElementText, value_below, says, dot_alone, IsCanonical, AreCanonical}
use Rattle.ssa_model.specs.laws.OneWriting.{OneWriting, SetHasOneWriting, WritingIsMet, two_fields, OrderTells}
use Rattle.ssa_model.specs.definitions.MemberNames.{is_below, has_rising_names, members_rise}
use Rattle.ssa_model.specs.examples.Rows.{written}
use Rattle.ssa_model.proofs.Ascii.{ascii-is-utf8}
use Rattle.ssa_model.proofs.RisingNames.{apart-less, before}
use Rattle.ssa_model.proofs.SaidSets.{other-way, no-dot, is_said, value_in, said_set_says}
use Rattle.ssa_model.proofs.Tables.{same_text-true, text-itself}
use Rattle.ssa_model.proofs.Basics.{lower}

-- ---- names below those of all members

-- a name before another that is below the members' first name is below it too
pub below-on : (n m : Text) (ms : Members) → before n m ≡ true → is_below m ms ≡ true → is_below n ms ≡ true
below-on n m no_members h rest = refl
below-on n m (member l v ms) h rest = ap is_lt (nat_list_cmp_total.trans n m l (lower _ h) (lower _ rest))

later-rise : (n : Text) (v : Json) (ms : Members) → members_rise (member n v ms) ≡ true → members_rise ms ≡ true
later-rise n v ms h = second_so (has_rising_names v) _ (second_so (is_below n ms) _ h)

value-rises : (n : Text) (v : Json) (ms : Members) → members_rise (member n v ms) ≡ true → has_rising_names v ≡ true
value-rises n v ms h = first_so (has_rising_names v) _ (second_so (is_below n ms) _ h)

-- no member has a name that is below the first
none-of : (n : Text) (ms : Members) → is_below n ms ≡ true → members_rise ms ≡ true → member_of n ms ≡ None
none-of n no_members below rise = refl
none-of n (member m v ms) below rise =
    ap (λ b. cond b (Some v) (member_of n ms)) (other-way m n (apart-less m n below))
    ∙ none-of n ms (below-on n m ms below (first_so (is_below m ms) _ rise)) (later-rise m v ms rise)

-- ---- what a member says

-- a member of a canonical value
abbrev IsMember : Text → Json → Type 0
IsMember n v = ((n ≡ codes ".") × (v ≡ object no_members)) ⊎ (IsElementText n × (v ≢ dot_alone) × IsCanonical v)

own : (n t : Text) (v : Json) (ms : Members) → t ≡ n → member_of t (member n v ms) ≡ Some v
own n t v ms is = ap (λ t. member_of t (member n v ms)) is ∙ ap (λ b. cond b (Some v) (member_of n ms)) (text-itself n)

-- what stands under an element's text says, behind the element, what it says as a place of its own
own-says : (n : Text) (v : Json) (ms : Members) (e : Element) (p : Path) → element_text e ≡ n
    → says (object (member n v ms)) (e ∷ p) ≡ is_said (value_below v p)
own-says n v ms e p is = ap (λ o. is_said (value_in p o)) (own n (element_text e) v ms is)

-- each canonical value says some path, where `{}` says its own place
some-said : (v : Json) → IsCanonical v → (p : Path) × (is_said (value_below v p) ≡ true)
some-said (scalar s) c = absurd c
some-said (list vs) c = absurd c
some-said (object no_members) c = ([], refl)
some-said (object (member n v ms)) c =
    elim c.0 as (λ m. (p : Path) × (is_said (value_below (object (member n v ms)) p) ≡ true)) [
      | inl dot ↦ ([], ap is_some (own n (codes ".") v ms (sym dot.0)))
      | inr named ↦ let below = some-said v named.2 in (named.0.0 ∷ below.0, own-says n v ms named.0.0 below.0 named.0.2 ∙ below.1)
    ]

-- values say the same paths
abbrev Alike : Json → Json → Type 0
Alike v w = (p : Path) → says v p ≡ says w p

-- a member says something that members without its name don't
first-apart : (n : Text) (v : Json) (ms ns : Members) → IsMember n v → member_of n ns ≡ None → Alike (object (member n v ms)) (object ns) → ⊥
first-apart n v ms ns (inl dot) none alike =
    true≢false (sym (ap is_some (own n (codes ".") v ms (sym dot.0))) ∙ alike [] ∙ ap is_some (ap (λ t. member_of t ns) (sym dot.0) ∙ none))
first-apart n v ms ns (inr named) none alike =
    let below = some-said v named.2 in
    true≢false (sym (own-says n v ms named.0.0 below.0 named.0.2 ∙ below.1) ∙ alike (named.0.0 ∷ below.0)
    ∙ ap (λ o. is_said (value_in below.0 o)) (ap (λ t. member_of t ns) named.0.2 ∙ none))

abbrev SaysInside : Json → Type 0
SaysInside v = (e : Element) × (p : Path) × (says v (e ∷ p) ≡ true)

-- an object with members says a path below its place, unless it has `.` alone
says-inside : (n : Text) (v : Json) (ms : Members) → AreCanonical (member n v ms) → members_rise (member n v ms) ≡ true → object (member n v ms) ≢ dot_alone
    → SaysInside (object (member n v ms))
says-inside n v ms c rise apart =
    elim c.0 as (λ m. SaysInside (object (member n v ms))) [
      | inl dot ↦ after ms c.1 (first_so (is_below n ms) _ rise) dot.0 (λ is. apart (λ i. object (member (dot.0 i) (dot.1 i) (is i))))
      | inr named ↦ let below = some-said v named.2 in (named.0.0, below.0, own-says n v ms named.0.0 below.0 named.0.2 ∙ below.1)
    ]
  where
    after : (ms : Members) → AreCanonical ms → is_below n ms ≡ true → n ≡ codes "." → (ms ≡ no_members → ⊥) → SaysInside (object (member n v ms))
    after no_members c below dot some = absurd (some refl)
    after (member m w ms) c below dot some =
        elim c.0 as (λ x. SaysInside (object (member n v (member m w ms)))) [
          | inl also ↦ let same : same_text m n ≡ true = λ i. same_text (also.0 i) (dot i) in absurd (true≢false (sym same ∙ apart-less m n below))
          | inr named ↦
              let rest = some-said w named.2 in
              let other : same_text (element_text named.0.0) n ≡ false = ap (same_text (element_text named.0.0)) dot ∙ no-dot named.0.0 in (
                named.0.0,
                rest.0,
                ap (λ b. is_said (value_in rest.0 (cond b (Some v) (member_of (element_text named.0.0) (member m w ms))))) other
                    ∙ own-says m w ms named.0.0 rest.0 named.0.2 ∙ rest.1,
              )
        ]

-- ---- two members of one name

-- Values under one element that say alike, their own place too, are one value: `{}` says this place alone.
inside-same : (v w : Json) → IsCanonical v → IsCanonical w → has_rising_names v ≡ true → has_rising_names w ≡ true → v ≢ dot_alone → w ≢ dot_alone
    → ((p : Path) → is_said (value_below v p) ≡ is_said (value_below w p)) → (Alike v w → v ≡ w) → v ≡ w
inside-same (scalar s) w c d r q a b alike same = absurd c
inside-same (list vs) w c d r q a b alike same = absurd c
inside-same (object ms) (scalar s) c d r q a b alike same = absurd d
inside-same (object ms) (list ws) c d r q a b alike same = absurd d
inside-same (object no_members) (object no_members) c d r q a b alike same = refl
inside-same (object no_members) (object (member m w ns)) c d r q a b alike same =
    let more = says-inside m w ns d q b in absurd (true≢false (sym (alike (more.0 ∷ more.1) ∙ more.2)))
inside-same (object (member n v ms)) (object no_members) c d r q a b alike same =
    let more = says-inside n v ms c r a in absurd (true≢false (sym more.2 ∙ alike (more.0 ∷ more.1)))
inside-same (object (member n v ms)) (object (member m w ns)) c d r q a b alike same = same both
  where
    both : Alike (object (member n v ms)) (object (member m w ns))
    both [] = alike []
    both (e ∷ p) = alike (e ∷ p)

-- `.` is no element's text
dot-element : (e : Element) → element_text e ≡ codes "." → ⊥
dot-element e is = true≢false (sym (ap (λ t. same_text t (codes ".")) is) ∙ no-dot e)

module _ (n : Text) (v w : Json) (ms ns : Members) (alike : Alike (object (member n v ms)) (object (member n w ns))) where
  value-same : IsMember n v → IsMember n w → has_rising_names v ≡ true → has_rising_names w ≡ true → (IsCanonical v → IsCanonical w → Alike v w → v ≡ w) → v ≡ w
  value-same (inl a) (inl b) r q same = a.1 ∙ sym b.1
  value-same (inl a) (inr b) r q same = absurd (dot-element b.0.0 (b.0.2 ∙ a.0))
  value-same (inr a) (inl b) r q same = absurd (dot-element a.0.0 (a.0.2 ∙ b.0))
  value-same (inr a) (inr b) r q same =
      inside-same v w a.2 b.2 r q a.1 b.1 (λ p. sym (own-says n v ms a.0.0 p a.0.2) ∙ alike (a.0.0 ∷ p) ∙ own-says n w ns a.0.0 p a.0.2) (same a.2 b.2)

  -- under each name the members behind them show alike, where neither has this name again
  skipped : (shows : Option Json → Bool) (t : Text) → member_of n ms ≡ None → member_of n ns ≡ None
      → shows (member_of t (member n v ms)) ≡ shows (member_of t (member n w ns)) → shows (member_of t ms) ≡ shows (member_of t ns)
  skipped shows t first second =
      elim (same_text t n) as (λ b. same_text t n ≡ b → shows (cond b (Some v) (member_of t ms)) ≡ shows (cond b (Some w) (member_of t ns))
      → shows (member_of t ms) ≡ shows (member_of t ns)) [
        | true ↦ λ same _. let is = same_text-true t n same in ap shows (ap (λ t. member_of t ms) is ∙ first ∙ sym second ∙ ap (λ t. member_of t ns) (sym is))
        | false ↦ λ _ here. here
      ] refl

  rest-alike : member_of n ms ≡ None → member_of n ns ≡ None → Alike (object ms) (object ns)
  rest-alike first second [] = skipped is_some (codes ".") first second (alike [])
  rest-alike first second (e ∷ p) = skipped (λ o. is_said (value_in p o)) (element_text e) first second (alike (e ∷ p))

-- ---- all members

mutual
  one-value : (v w : Json) → IsCanonical v → IsCanonical w → has_rising_names v ≡ true → has_rising_names w ≡ true → Alike v w → v ≡ w
  one-value (scalar s) w c d r q alike = absurd c
  one-value (list vs) w c d r q alike = absurd c
  one-value (object ms) (scalar s) c d r q alike = absurd d
  one-value (object ms) (list ws) c d r q alike = absurd d
  one-value (object ms) (object ns) c d r q alike = ap object (one-members ms ns c d r q alike)

  one-members : (ms ns : Members) → AreCanonical ms → AreCanonical ns → members_rise ms ≡ true → members_rise ns ≡ true → Alike (object ms) (object ns)
      → ms ≡ ns
  one-members no_members no_members c d r q alike = refl
  one-members no_members (member m w ns) c d r q alike = absurd (first-apart m w ns no_members d.0 refl (λ p. sym (alike p)))
  one-members (member n v ms) no_members c d r q alike = absurd (first-apart n v ms no_members c.0 refl alike)
  one-members (member n v ms) (member m w ns) c d r q alike =
      elim (slice_cmp nat_cmp n m) as (λ o. slice_cmp nat_cmp n m ≡ o → member n v ms ≡ member m w ns) [
        | Less ↦ λ is. absurd (first-apart n v ms (member m w ns) c.0 (none-of n (member m w ns) (ap is_lt is) q) alike)
        | Equal ↦ λ is.
            let name : n ≡ m = slice_cmp-IsAntisymmetric nat_cmp-IsAntisymmetric n m is in
            let second = ap (λ t. members_rise (member t w ns)) name ∙ q in
            let both : Alike (object (member n v ms)) (object (member n w ns)) = λ p. alike p ∙ ap (λ t. says (object (member t w ns)) p) (sym name) in
            let value = value-same n v w ms ns both c.0 (subst (λ t. IsMember t w) (sym name) d.0) (value-rises n v ms r) (value-rises n w ns second)
            (λ a b. one-value v w a b (value-rises n v ms r) (value-rises n w ns second)) in
            let rest = one-members ms ns c.1 d.1 (later-rise n v ms r) (later-rise n w ns second)
            (rest-alike n v w ms ns both (none-of n ms (first_so (is_below n ms) _ r) (later-rise n v ms r))
            (none-of n ns (first_so (is_below n ns) _ second) (later-rise n w ns second))) in
            λ i. member (name i) (value i) (rest i)
        | Greater ↦ λ is.
            let above : is_lt (slice_cmp nat_cmp m n) ≡ true = ap is_lt (nat_list_cmp_total.antisymm m n ∙ ap ordering_reverse is) in
            absurd (first-apart m w ns (member n v ms) d.0 (none-of m (member n v ms) above r) (λ p. sym (alike p)))
      ] refl

-- two canonical values in which names rise, and that say the same paths, are one
pub one_writing : OneWriting
one_writing = one-value

-- two writings of a set in which names rise are one
pub set_has_one_writing : SetHasOneWriting
set_has_one_writing s v w a b r q = one-value v w a.canonical b.canonical r q (λ p. a.says_set p ∙ sym (b.says_set p))

-- ---- the premises are met

-- the sample's writing is canonical
pub written_canonical : IsCanonical written
written_canonical = (
  inr (
    (field (codes "spec"), ascii-is-utf8 (codes "spec") refl, refl),
    (λ e. cc),
    (inl (refl, refl), (inr ((field (codes "replicas"), ascii-is-utf8 (codes "replicas") refl, refl), (λ e. cc), tt), tt)),
  ),
  tt,
)

-- the sample's writing is that of a set of two paths, and its names rise
pub writing_is_met : WritingIsMet
writing_is_met = (record { canonical = written_canonical; says_set = λ p. said_set_says (λ t. Ok written) written p refl refl }, refl)

-- ---- without the order

abbrev empty : Json
empty = object no_members

either-way : (b c : Bool) → ◌≡◌ {A = Option Json} (cond b (Some empty) (cond c (Some empty) None)) (cond c (Some empty) (cond b (Some empty) None))
either-way true true = refl
either-way true false = refl
either-way false true = refl
either-way false false = refl

-- names out of order make a second canonical value that says the same paths
pub order_tells : OrderTells
order_tells = (
  (
    inr ((field (codes "a"), ascii-is-utf8 (codes "a") refl, refl), (λ e. cc), tt),
    (inr ((field (codes "b"), ascii-is-utf8 (codes "b") refl, refl), (λ e. cc), tt), tt),
  ),
  (
    inr ((field (codes "b"), ascii-is-utf8 (codes "b") refl, refl), (λ e. cc), tt),
    (inr ((field (codes "a"), ascii-is-utf8 (codes "a") refl, refl), (λ e. cc), tt), tt),
  ),
  alike,
  (λ e. true≢false (ap has_rising_names e)),
  refl,
)
  where
    alike : Alike (two_fields (codes "f:a") (codes "f:b")) (two_fields (codes "f:b") (codes "f:a"))
    alike [] = refl
    alike (e ∷ p) = ap (λ o. is_said (value_in p o)) (either-way (same_text (element_text e) (codes "f:a")) (same_text (element_text e) (codes "f:b")))
