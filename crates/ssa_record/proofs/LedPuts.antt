-- What is put among the members of a place.
use Rattle.std.proofs.Common.{◌≡◌, ℕ, List, [], ◌∷◌, ◌++◌, Bool, true, false, cond, Option, Some, None, refl, sym, ap, ◌∙◌}
use Rattle.ssa_model.specs.definitions.Json.{Text, Json, Members, member_of}
use Rattle.ssa_model.specs.definitions.Path.{Element, field, Path, same_element}
use Rattle.ssa_model.specs.definitions.PathMap.{get, has}
use Rattle.ssa_model.proofs.Fitting.{same_element-true}
use Rattle.ssa_model.proofs.Tests.{by_test}
use Rattle.ssa_path.specs.Children.{child_at}
use Rattle.ssa_path.specs.View.{element_view}
use Rattle.ssa_path.specs.declared.element.Elem.{Elem}
use Rattle.ssa_path.specs.declared.trie.Trie.{Trie}
use Rattle.ssa_path.specs.declared.trie.Trie.TheViews.{out-Trie}
use Rattle.ssa_path.proofs.Levels.{any-paths, found, same_path-reading}
use Rattle.ssa_model.specs.definitions.Path.{same_path}
use Rattle.ssa_typed.specs.Values.{with_member_under}
use Rattle.ssa_record.specs.LedValues.{names_rise, put_or, ArePut}
use Rattle.ssa_record.specs.Places.{ToldMaps, AllTouched, IsTouchedBelow}
use Rattle.ssa_record.proofs.LedMembers.{child_at-last, or_last, rise-under, under-name}
use Rattle.ssa_model.proofs.Basics.{none-there as nothing_there, yes_no}

-- ---- what has been put

-- what stands under a name, where the child of its element has been looked at or not
abbrev pub put_or_old : Option Trie → Option (Json × Option ℕ) → Option Json → Option Json
put_or_old None x old = old
put_or_old (Some t) x old = put_or x old

-- of the members of a place, those under the children looked at so far have been put
pub record ArePutSoFar (m : ToldMaps) (p : Path) (ts : List (Elem × Trie)) (before after : Members) : Type 0 where
  -- the names still rise
  pub rise : names_rise before ≡ true → names_rise after ≡ true
  -- under each name stands what is put, or what stood there
  pub members : (n : Text) → member_of n after ≡ put_or_old (child_at (field n) ts) (get m.put (p ++ field n ∷ [])) (member_of n before)

skip-by : (o : Option Trie) (e : Element) (c : Elem × Trie) (x : Option (Json × Option ℕ)) (old : Option Json)
    → (same_element e (element_view c.0) ≡ true → x ≡ None) → put_or_old o x old ≡ put_or_old (or_last o e c) x old
skip-by (Some d) e c x old none = refl
skip-by None e c x old none =
    elim (same_element e (element_view c.0)) as (λ b. (b ≡ true → x ≡ None) → old ≡ put_or_old (cond b (Some c.1) None) x old) [
      | true ↦ λ h. sym (ap (λ y. put_or y old) (h refl))
      | false ↦ λ h. refl
    ] none

add-by : (o : Option Trie) (e : Element) (c : Elem × Trie) (x : Option (Json × Option ℕ)) (j : Json) (old now : Option Json) (b : Bool)
    → same_element e (element_view c.0) ≡ b
    → (b ≡ true → put_or x old ≡ Some j) → now ≡ put_or_old o x old → cond b (Some j) now ≡ put_or_old (or_last o e c) x old
add-by (Some d) e c x j old now true is given so = sym (given refl)
add-by (Some d) e c x j old now false is given so = so
add-by None e c x j old now true is given so = sym (ap (λ t. put_or_old (cond t (Some c.1) None) x old) is ∙ given refl)
add-by None e c x j old now false is given so = so ∙ sym (ap (λ t. put_or_old (cond t (Some c.1) None) x old) is)

module _ (m : ToldMaps) (p : Path) (ts : List (Elem × Trie)) (c : Elem × Trie) (before ms : Members) (old : ArePutSoFar m p ts before ms) where
  abbrev told : Option (Json × Option ℕ)
  told = get m.put (p ++ element_view c.0 ∷ [])

  own : (n : Text) → same_element (field n) (element_view c.0) ≡ true → get m.put (p ++ field n ∷ []) ≡ told
  own n same = ap (λ e. get m.put (p ++ e ∷ [])) (same_element-true (field n) (element_view c.0) same)

  -- a child of which nothing is put leaves the members as they are
  pub puts-skip : told ≡ None → ArePutSoFar m p (ts ++ c ∷ []) before ms
  puts-skip none = record {
    rise = old.rise;
    members = λ n.
        let e = field n in
        old.members n ∙ skip-by (child_at e ts) e c (get m.put (p ++ e ∷ [])) (member_of n before) (λ same. own n same ∙ none)
        ∙ ap (λ o. put_or_old o (get m.put (p ++ e ∷ [])) (member_of n before)) (sym (child_at-last e ts c));
  }

  -- a child that is put comes among the members under its name
  pub puts-add : (x : Json × Option ℕ) → told ≡ Some x → ArePutSoFar m p (ts ++ c ∷ []) before (with_member_under (element_view c.0) x.0 ms)
  puts-add x some = record {
    rise = λ h. rise-under (element_view c.0) x.0 ms (old.rise h);
    members = λ n.
        let e = field n in
        under-name n (element_view c.0) x.0 ms
        ∙ add-by (child_at e ts) e c (get m.put (p ++ e ∷ [])) x.0 (member_of n before) (member_of n ms) (same_element e (element_view c.0)) refl
        (λ same. ap (λ o. put_or o (member_of n before)) (own n same ∙ some)) (old.members n)
        ∙ ap (λ o. put_or_old o (get m.put (p ++ e ∷ [])) (member_of n before)) (sym (child_at-last e ts c));
  }

-- ---- all that is put

-- a child that the trie has not is not touched
pub no-trie : (m : ToldMaps) (p : Path) (t : Trie) → IsTouchedBelow m p t → (e : Element) (r : Path) → child_at e (out-Trie t).below.items ≡ None
    → has m.touched (p ++ e ∷ r) ≡ false
no-trie m p t h e r none = sym (h.1 (e ∷ r)) ∙ any-paths same_path same_path-reading t e r h.0 ∙ ap (λ o. found same_path o r) none

end-by : (o : Option Trie) (x : Option (Json × Option ℕ)) (old : Option Json) → (o ≡ None → x ≡ None) → put_or_old o x old ≡ put_or x old
end-by (Some t) x old none = refl
end-by None x old none = sym (ap (λ y. put_or y old) (none refl))

-- when all touched children have been looked at, all that is put at the place has been put
pub puts-end : (m : ToldMaps) (p : Path) (t : Trie) (before after : Members) → AllTouched m → IsTouchedBelow m p t
    → ArePutSoFar m p (out-Trie t).below.items before after → ArePut m p before after
puts-end m p t before after all below so = record {
  rise = so.rise;
  members = λ n.
      let g = p ++ field n ∷ [] in
      so.members n
      ∙ end-by (child_at (field n) (out-Trie t).below.items) (get m.put g) (member_of n before)
      (λ none. nothing_there (get m.put g) (by_test (has m.put g)
      (λ h. absurd (yes_no (has m.touched g) (all.put g h) (no-trie m p t below (field n) [] none))) (λ k. k)));
}
