-- The object that paths are written as says just these paths.
use Rattle.std.proofs.Common.{◌≡◌, List, [], ◌∷◌, Bool, true, false, ◌&&◌, ◌||◌, cond, Option, Some, None, refl, sym, ap, subst, ◌∙◌, true≢false}
use Rattle.std.specs.Prelude.{codes, is_some}
use Rattle.std.specs.List.{list_any}
use Rattle.ssa_model.specs.definitions.Json.{Json, object, Members, member_of, member_at}
use Rattle.ssa_model.specs.definitions.Path.{Element, field, key, value, Path, element_text, same_element, same_path, is_root}
use Rattle.ssa_model.specs.definitions.PathMap.{PathSet, has, listed}
use Rattle.ssa_model.specs.definitions.FieldsV1.{with_head, heads, tails, nothing_written, field_members, fields_json, value_below, is_no_object, has_dot, says, IsCanonical, IsWritten}
use Rattle.ssa_path.specs.FieldsWriting.{paths_json, below_json}
use Rattle.ssa_path.specs.Trie.{has_some, is_one_of, is_trie, paths}
use Rattle.ssa_path.specs.declared.trie.Trie.{Trie}
use Rattle.ssa_path.proofs.FieldsLevels.{dotted, level, any-root-is}
use Rattle.ssa_path.proofs.InOrder.{paths-listed, rise-trie}
use Rattle.ssa_path.proofs.Levels.{same_path-reading}
use Rattle.ssa_model.proofs.Fitting.{same_element-true}
use Rattle.ssa_model.proofs.Lists.{has-listed}
use Rattle.ssa_model.proofs.SaidSets.{is_said, value_in}

-- ---- the member of an element

no-dot : (ps : List Path) (es : List Element) → member_of (codes ".") (field_members paths_json ps es) ≡ None
no-dot ps [] = refl
no-dot ps (field n ∷ es) = no-dot ps es
no-dot ps (key ks ∷ es) = no-dot ps es
no-dot ps (value s ∷ es) = no-dot ps es

past-dot : (e : Element) (b : Bool) (ms : Members) → member_of (element_text e) (dotted b ms) ≡ member_of (element_text e) ms
past-dot e false ms = refl
past-dot (field n) true ms = refl
past-dot (key ks) true ms = refl
past-dot (value s) true ms = refl

member-found : (b : Bool) (e f : Element) (ps : List Path) (rest : Option Json) (c : Bool) → (b ≡ true → e ≡ f)
    → rest ≡ cond c (Some (below_json (tails e ps))) None
    → cond b (Some (below_json (tails f ps))) rest ≡ cond (b || c) (Some (below_json (tails e ps))) None
member-found true e f ps rest c same is = ap (λ g. Some (below_json (tails g ps))) (sym (same refl))
member-found false e f ps rest c same is = is

member-of-element : (e : Element) (ps : List Path) (es : List Element)
    → member_of (element_text e) (field_members paths_json ps es) ≡ cond (list_any (same_element e) es) (Some (below_json (tails e ps))) None
member-of-element e ps [] = refl
member-of-element e ps (f ∷ es) = member-found (same_element e f) e f ps _ (list_any (same_element e) es) (same_element-true e f) (member-of-element e ps es)

head-once : (b t u rest : Bool) → (b ≡ true → t ≡ u) → cond b (u || rest) (t || (u || rest)) ≡ (t || (u || rest))
head-once true true true rest same = refl
head-once true true false rest same = absurd (true≢false (same refl))
head-once true false u rest same = refl
head-once false t u rest same = refl

any-cond : (test : Element → Bool) (b : Bool) (xs ys : List Element) → list_any test (cond b xs ys) ≡ cond b (list_any test xs) (list_any test ys)
any-cond test true xs ys = refl
any-cond test false xs ys = refl

any-head : (test : Element → Bool) (e : Element) (es : List Element) → list_any test (with_head e es) ≡ (test e || list_any test es)
any-head test e [] = refl
any-head test e (f ∷ es) =
    any-cond test (same_element e f) (f ∷ es) (e ∷ f ∷ es)
    ∙ head-once (same_element e f) (test e) (test f) (list_any test es) (λ same. ap test (same_element-true e f same))

some-cond : (b : Bool) (p : Path) (ps : List Path) → has_some (cond b (p ∷ ps) ps) ≡ (b || has_some ps)
some-cond true p ps = refl
some-cond false p ps = refl

begun : (e : Element) (ps : List Path) → list_any (same_element e) (heads ps) ≡ has_some (tails e ps)
begun e [] = refl
begun e ([] ∷ ps) = begun e ps
begun e ((f ∷ p) ∷ ps) = any-head (same_element e) f (heads ps) ∙ ap (λ b. same_element e f || b) (begun e ps)
    ∙ sym (some-cond (same_element e f) p (tails e ps))

member-is : (e : Element) (ps : List Path) → member_at (element_text e) (paths_json ps) ≡ cond (has_some (tails e ps)) (Some (below_json (tails e ps))) None
member-is e ps =
    ap (member_at (element_text e)) (level ps)
    ∙ past-dot e (list_any is_root ps) (field_members paths_json ps (heads ps))
    ∙ member-of-element e ps (heads ps)
    ∙ ap (λ b. cond b (Some (below_json (tails e ps))) None) (begun e ps)

-- ---- what goes on from it

one-begun : (e : Element) (ps : List Path) (p : Path) → is_one_of ps (e ∷ p) ≡ is_one_of (tails e ps) p
one-begun e [] p = refl
one-begun e ([] ∷ ps) p = one-begun e ps p
one-begun e ((f ∷ q) ∷ ps) p =
    (λ i. same_path-reading.more e f p q i || one-begun e ps p i) ∙ sym (taken (same_element e f))
  where
    taken : (b : Bool) → is_one_of (cond b (q ∷ tails e ps) (tails e ps)) p ≡ ((b && same_path p q) || is_one_of (tails e ps) p)
    taken true = refl
    taken false = refl

-- ---- what a place says

dot-is : (b : Bool) (ps : List Path) (es : List Element) → has_dot (Some (object (dotted b (field_members paths_json ps es)))) ≡ b
dot-is true ps es = refl
dot-is false ps es = ap is_some (no-dot ps es)

has-dot-root : (ps : List Path) → has_dot (Some (paths_json ps)) ≡ is_one_of ps []
has-dot-root ps = ap (λ v. has_dot (Some v)) (level ps) ∙ dot-is (list_any is_root ps) ps (heads ps) ∙ any-root-is ps

some-head : (e : Element) (es : List Element) → has_some (with_head e es) ≡ true
some-head e [] = refl
some-head e (f ∷ es) = elim (same_element e f) as (λ b. has_some (cond b (f ∷ es) (e ∷ f ∷ es)) ≡ true) [ true ↦ refl | false ↦ refl ]

root-or-head : (ps : List Path) → has_some ps ≡ true → (list_any is_root ps || has_some (heads ps)) ≡ true
root-or-head [] h = h
root-or-head ([] ∷ ps) h = refl
root-or-head ((e ∷ p) ∷ ps) h = ap (λ b. list_any is_root ps || b) (some-head e (heads ps)) ∙ or_true (list_any is_root ps)
  where
    or_true : (b : Bool) → (b || true) ≡ true
    or_true true = refl
    or_true false = refl

not-empty : (b : Bool) (ps : List Path) (es : List Element) → (b || has_some es) ≡ true
    → is_no_object (Some (object (dotted b (field_members paths_json ps es)))) ≡ false
not-empty true ps es h = refl
not-empty false ps [] h = absurd (true≢false (sym h))
not-empty false ps (e ∷ es) h = refl

-- where there is a path, something is written
pub written-some : (ps : List Path) → has_some ps ≡ true → is_no_object (Some (paths_json ps)) ≡ false
written-some ps h = ap (λ v. is_no_object (Some v)) (level ps) ∙ not-empty (list_any is_root ps) ps (heads ps) (root-or-head ps h)

-- what a path says below a member, where the paths that are written there say what they should
module _ (p : Path) (inside : (ps : List Path) → says (paths_json ps) p ≡ is_one_of ps p) where
  says-inside : (q : Path) → p ≡ q → (ps : List Path) → has_some ps ≡ true → is_said (value_below (paths_json ps) q) ≡ is_one_of ps q
  says-inside [] is ps h = λ i. written-some ps h i || has-dot-root ps i
  says-inside (e ∷ q) is ps h = subst (λ x. says (paths_json ps) x ≡ is_one_of ps x) is (inside ps)

  says-alone : (q : Path) → is_said (value_below nothing_written q) ≡ is_one_of ([] ∷ []) q
  says-alone [] = refl
  says-alone (e ∷ q) = refl

  says-member : (ps : List Path) → is_said (value_in p (cond (has_some ps) (Some (below_json ps)) None)) ≡ is_one_of ps p
  says-member [] = refl
  says-member ([] ∷ []) = says-alone p
  says-member ([] ∷ q ∷ qs) = says-inside p refl ([] ∷ q ∷ qs) refl
  says-member ((e ∷ q) ∷ qs) = says-inside p refl ((e ∷ q) ∷ qs) refl

-- the object of paths says those that are among them
pub says-paths : (p : Path) (ps : List Path) → says (paths_json ps) p ≡ is_one_of ps p
says-paths [] ps = has-dot-root ps
says-paths (e ∷ p) ps = ap (λ o. is_said (value_in p o)) (member-is e ps) ∙ says-member p (λ qs. says-paths p qs) (tails e ps) ∙ sym (one-begun e ps p)

-- ---- the set

-- the set of a trie's paths is written as the object of these
pub json-of-set : (t : Trie) (s : PathSet) → is_trie t ≡ true → listed (paths t) ≡ s → fields_json s ≡ paths_json (paths t)
json-of-set t s h same = ap fields_json (sym same) ∙ ap paths_json (paths-listed (paths t) (rise-trie t h))

-- the canonical object of a trie's paths is the writing of their set
pub written-set : (t : Trie) (s : PathSet) (v : Json) → listed (paths t) ≡ s → v ≡ paths_json (paths t) → IsCanonical v → IsWritten s v
written-set t s v same is canonical = record {
  canonical = canonical;
  says_set = λ p. ap (λ w. says w p) is ∙ says-paths p (paths t) ∙ sym (has-listed (paths t) p) ∙ ap (λ x. has x p) same;
}
