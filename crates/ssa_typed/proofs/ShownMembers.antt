-- The members that a body shows and those of a tree's value: what they have under each name, and that the names rise.
use Rattle.std.proofs.Common.{◌≡◌, List, [], ◌∷◌, ◌++◌, map, true, false, ◌||◌, cond, Option, Some, None, option_map, refl, sym, ap, ◌∙◌}
use Rattle.std.specs.Prelude.{filter_map, if◌then◌else◌}
use Rattle.std.specs.List.{list_any, cons_option}
use Rattle.std.specs.Ordering.{is_lt, ordering_then}
use Rattle.std.specs.Cmp.{tied_itself}
use Rattle.std.specs.FinMap.Entries.{is_sorted, below_all}
use Rattle.ssa_model.specs.definitions.Json.{Text, Json, Members, member, member_of, same_text}
use Rattle.ssa_model.specs.definitions.Path.{Element, field, key, value, Path, element_cmp, path_cmp, same_element}
use Rattle.ssa_model.specs.definitions.PathMap.{has}
use Rattle.ssa_model.specs.definitions.Kind.{Fields, no_fields, kind_field}
use Rattle.ssa_model.specs.definitions.Body.{Body, Content}
use Rattle.ssa_model.specs.definitions.Objects.{shown, shown_fields, entry_members, names_below}
use Rattle.ssa_model.proofs.ShownNames.{name_of, names-there, name-is}
use Rattle.ssa_model.proofs.Tables.{same_text-true}
use Rattle.ssa_path.specs.Children.{child_at, elements, is_below, rises}
use Rattle.ssa_path.specs.View.{element_view}
use Rattle.ssa_path.proofs.Orders.{element_cmp_total, both_first, both_second}
use Rattle.ssa_model.specs.definitions.Lawful.{is_before_all, is_ordered, are_ordered}
use Rattle.ssa_typed.specs.Values.{members_of, member_under, value_of, values_of}
use Rattle.ssa_typed.specs.declared.node.Node.{Node}
use Rattle.ssa_typed.proofs.Building.{Child}
use Rattle.ssa_typed.proofs.SameMembers.{named, text_cmp}
use Rattle.ssa_model.proofs.Tests.{holds}
use Rattle.ssa_model.proofs.Basics.{both-true as both, then_none as then_same}

-- ---- the fields that a body shows

module _ (b : Body) (p : Path) where
  before-fields : (n : Text) (fs : Fields) → is_before_all n fs ≡ true → below_all text_cmp n (named (shown_fields fs b p)) ≡ true
  before-fields n no_fields h = refl
  before-fields n (kind_field m k fs) h =
      let rest = before-fields n fs (both_second _ _ h) in
      elim (has b (p ++ field m ∷ [])) as (λ t. below_all text_cmp n
      (named (if t then member m (shown k b (p ++ field m ∷ [])) (shown_fields fs b p) else shown_fields fs b p)) ≡ true) [
        | true ↦ both _ _ (both_first _ _ h) rest
        | false ↦ rest
      ]

  -- the names of the fields that a body shows rise, where those of the kind do
  pub fields-rise : (fs : Fields) → are_ordered fs ≡ true → is_sorted text_cmp (named (shown_fields fs b p)) ≡ true
  fields-rise no_fields h = refl
  fields-rise (kind_field m k fs) h =
      let later = both_second (is_before_all m fs) _ h in
      let rest = fields-rise fs (both_second (is_ordered k) _ later) in
      elim (has b (p ++ field m ∷ [])) as (λ t. is_sorted text_cmp
      (named (if t then member m (shown k b (p ++ field m ∷ [])) (shown_fields fs b p) else shown_fields fs b p)) ≡ true) [
        | true ↦ both _ _ (before-fields m fs (both_first _ _ h)) rest
        | false ↦ rest
      ]

-- ---- the members of a tree's value

under-name : (n : Text) (e : Element) (c : Node) (ms : Members) (rest : Option Node) → member_of n ms ≡ option_map value_of rest
    → member_of n (member_under e (value_of c) ms) ≡ option_map value_of (cond (same_element (field n) e) (Some c) rest)
under-name n (field m) c ms rest h = elim (same_text n m) as (λ s. (if s then Some (value_of c) else member_of n ms)
    ≡ option_map value_of (cond s (Some c) rest)) [ true ↦ refl | false ↦ h ]
under-name n (key ks) c ms rest h = h
under-name n (value s) c ms rest h = h

-- under a name, the children's members have the value of that field's child
pub member_of-children : (n : Text) (cs : List Child) → member_of n (members_of (values_of cs)) ≡ option_map value_of (child_at (field n) cs)
member_of-children n [] = refl
member_of-children n (c ∷ cs) = under-name n (element_view c.0) c.1 (members_of (values_of cs)) (child_at (field n) cs) (member_of-children n cs)

below-under : (n : Text) (e : Element) (v : Json) (ms : Members) → is_lt (element_cmp (field n) e) ≡ true → below_all text_cmp n (named ms) ≡ true
    → below_all text_cmp n (named (member_under e v ms)) ≡ true
below-under n (field m) v ms h rest = both _ _ h rest
below-under n (key ks) v ms h rest = rest
below-under n (value s) v ms h rest = rest

below-children : (n : Text) (cs : List Child) → is_below (field n) (elements cs) ≡ true → below_all text_cmp n (named (members_of (values_of cs))) ≡ true
below-children n [] h = refl
below-children n (c ∷ cs) h = below-under n (element_view c.0) (value_of c.1) (members_of (values_of cs)) (both_first _ _ h)
    (below-children n cs (both_second (is_lt (element_cmp (field n) (element_view c.0))) _ h))

first-rises : (e : Element) (v : Json) (cs : List Child) → is_below e (elements cs) ≡ true → is_sorted text_cmp (named (members_of (values_of cs))) ≡ true
    → is_sorted text_cmp (named (member_under e v (members_of (values_of cs)))) ≡ true
first-rises (field m) v cs h rest = both _ _ (below-children m cs h) rest
first-rises (key ks) v cs h rest = rest
first-rises (value s) v cs h rest = rest

-- the names of the children's members rise where their elements do
pub children-rise : (cs : List Child) → rises (elements cs) ≡ true → is_sorted text_cmp (named (members_of (values_of cs))) ≡ true
children-rise [] h = refl
children-rise (c ∷ cs) h = first-rises (element_view c.0) (value_of c.1) cs (both_first _ _ h)
    (children-rise cs (both_second (is_below (element_view c.0) (elements cs)) _ h))

-- ---- the members that a body shows below a path

entry-under : (shows : Path → Json) (p : Path) (n : Text) (ns : List Text)
    → member_of n (entry_members shows p ns) ≡ cond (list_any (same_text n) ns) (Some (shows (p ++ field n ∷ []))) None
entry-under shows p n [] = refl
entry-under shows p n (m ∷ ns) =
    elim (same_text n m) as (λ s. same_text n m ≡ s
    → (if s then Some (shows (p ++ field m ∷ [])) else member_of n (entry_members shows p ns))
    ≡ cond (s || list_any (same_text n) ns) (Some (shows (p ++ field n ∷ []))) None) [
      | true ↦ λ h. ap (λ x. Some (shows (p ++ field x ∷ []))) (sym (same_text-true n m h))
      | false ↦ λ h. entry-under shows p n ns
    ] refl

-- under a name, the members of a shown Dict have what is shown there, where the body has the entry
pub member_of-entries : (shows : Path → Json) (b : Body) (p : Path) (n : Text)
    → member_of n (entry_members shows p (names_below b p)) ≡ cond (has b (p ++ field n ∷ [])) (Some (shows (p ++ field n ∷ []))) None
member_of-entries shows b p n =
    entry-under shows p n (names_below b p)
    ∙ ap (λ t. cond t (Some (shows (p ++ field n ∷ []))) None) (names-there b p n)

-- ---- the names below a path rise

cmp-after : (p : Path) (m n : Text) → path_cmp (p ++ field m ∷ []) (p ++ field n ∷ []) ≡ text_cmp m n
cmp-after [] m n = then_same (text_cmp m n)
cmp-after (x ∷ p) m n = ap (λ o. ordering_then o (path_cmp (p ++ field m ∷ []) (p ++ field n ∷ []))) (tied_itself element_cmp_total x) ∙ cmp-after p m n

abbrev Entry : Type 0
Entry = Path × Content

abbrev names_of : Path → List Entry → List Text
names_of p es = filter_map (name_of p) (map (λ e. e.0) es)

module _ (shows : Path → Json) (p : Path) where
  below-one : (m : Text) (q : Path) (o : Option Text) (ns : List Text) → name_of p q ≡ o → is_lt (path_cmp (p ++ field m ∷ []) q) ≡ true
      → below_all text_cmp m (named (entry_members shows p ns)) ≡ true
      → below_all text_cmp m (named (entry_members shows p (cons_option o ns))) ≡ true
  below-one m q None ns is lt rest = rest
  below-one m q (Some n) ns is lt rest = both _ _ (sym (ap is_lt (ap (path_cmp (p ++ field m ∷ [])) (sym (name-is p q n is)) ∙ cmp-after p m n)) ∙ lt) rest

  below-names : (m : Text) (es : List Entry) → below_all path_cmp (p ++ field m ∷ []) es ≡ true
      → below_all text_cmp m (named (entry_members shows p (names_of p es))) ≡ true
  below-names m [] h = refl
  below-names m (e ∷ es) h = below-one m e.0 (name_of p e.0) (names_of p es) refl (both_first _ _ h)
      (below-names m es (both_second (is_lt (path_cmp (p ++ field m ∷ []) e.0)) _ h))

  rise-one : (q : Path) (o : Option Text) (es : List Entry) → name_of p q ≡ o → below_all path_cmp q es ≡ true
      → is_sorted text_cmp (named (entry_members shows p (names_of p es))) ≡ true
      → is_sorted text_cmp (named (entry_members shows p (cons_option o (names_of p es)))) ≡ true
  rise-one q None es is below rest = rest
  rise-one q (Some m) es is below rest = both _ _ (below-names m es (ap (λ x. below_all path_cmp x es) (name-is p q m is) ∙ below)) rest

  names-rise : (es : List Entry) → is_sorted path_cmp es ≡ true → is_sorted text_cmp (named (entry_members shows p (names_of p es))) ≡ true
  names-rise [] h = refl
  names-rise (e ∷ es) h = rise-one e.0 (name_of p e.0) es refl (both_first _ _ h) (names-rise es (both_second (below_all path_cmp e.0 es) _ h))

  -- the names of the entries that a body shows rise
  pub entries-rise : (b : Body) → is_sorted text_cmp (named (entry_members shows p (names_below b p))) ≡ true
  entries-rise b = names-rise b.entries (holds _ b.in_order)
