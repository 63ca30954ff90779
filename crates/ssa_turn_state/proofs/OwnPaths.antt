-- The paths of a tree are read from their texts where each element is one of the program's, and the moments of entries are moments.
use Rattle.std.proofs.Common.{◌≡◌, ℕ, ◌+◌, ◌<◌, List, [], ◌∷◌, ◌++◌, length, get_or, take, Bool, true, false, ◌&&◌, ◌||◌, cond, Option, Some, None, refl, sym, ap, subst, ◌∙◌, true≢false, rules}
use Rattle.std.proofs.lemmas.List.{map-append}
use Rattle.std.specs.Prelude.{is_some, Ok}
use Rattle.ssa_model.specs.definitions.Body.{Content}
use Rattle.ssa_model.specs.definitions.ElementTexts.{element_of}
use Rattle.ssa_model.specs.definitions.Path.{Element, Path, element_text, same_element}
use Rattle.ssa_model.specs.definitions.RecordReading.{HasReadPaths, IsReadPath}
use Rattle.ssa_model.specs.definitions.Table as model
use Rattle.ssa_model.specs.definitions.Valid.{AllEntries}
use Rattle.ssa_model.proofs.Tables.{all-push, either}
use Rattle.ssa_json.specs.Reading.{json_reading}
use Rattle.ssa_json.specs.Readings.{readings}
use Rattle.ssa_path.specs.declared.element.Elem.{Elem}
use Rattle.ssa_path.specs.OwnText.{IsElementOfProgram}
use Rattle.ssa_path.specs.View.{element_view}
use Rattle.ssa_path.proofs.Lists.{taken-at}
use Rattle.ssa_path.proofs.Orders.{both_first, both_second}
use Rattle.ssa_path.proofs.OwnTexts.{own-text-is-read}
use Rattle.ssa_merge.specs.Managers.{entry_view, table_view}
use Rattle.ssa_merge.specs.declared.managers.Entry.{Entry}
use Rattle.ssa_typed.specs.Rows.{rows, rows_below, under_element, content_at, own_content, body_of}
use Rattle.ssa_typed.specs.declared.node.Leaf.{Leaf}
use Rattle.ssa_typed.specs.declared.node.Node.{Node, Leaf as LeafNode, the_lemmas}
use Rattle.ssa_typed.proofs.Looks.{get-body}
use Rattle.ssa_typed.proofs.Lookups.{or_else, content_at-append, content_at-under}
use Rattle.ssa_model.proofs.Fitting.{same_element-true}

-- ---- children

-- the child's element is one of the program's, and the paths below it are read
pub record IsReadChild (c : Elem × Node) : Type 0 where
  -- the child's element is one of the program's
  pub own : IsElementOfProgram (element_view c.0)
  -- the paths below the child are read
  pub below : HasReadPaths readings (body_of c.1)

-- so it is with each of these children
abbrev pub AreReadChildren : List (Elem × Node) → Type 0
AreReadChildren [] = Unit {0}
AreReadChildren (c ∷ cs) = IsReadChild c × AreReadChildren cs

children-push : (cs : List (Elem × Node)) (c : Elem × Node) → AreReadChildren cs → IsReadChild c → AreReadChildren (cs ++ c ∷ [])
children-push [] c h here = (here, tt)
children-push (d ∷ cs) c h here = (h.0, children-push cs c h.1 here)

-- one child more is read
pub children-more : (cs : List (Elem × Node)) (i : ℕ) (c : Elem × Node) → i < length cs → c ≡ get_or cs i c → AreReadChildren (take i cs)
    → IsElementOfProgram (element_view c.0) → HasReadPaths readings (body_of c.1) → AreReadChildren (take (i + 1) cs)
children-more cs i c within is before own below =
    subst AreReadChildren (sym (taken-at cs i c within is)) (children-push (take i cs) c before (record { own = own; below = below }))

-- ---- the paths below a place

some-either : (x y : Option Content) → is_some (or_else x y) ≡ (is_some x || is_some y)
some-either None y = refl
some-either (Some c) y = refl

some-where : (b : Bool) (x : Option Content) → is_some (cond b x None) ≡ (b && is_some x)
some-where true x = refl
some-where false x = refl

child-read : (c : Elem × Node) (e : Element) (p : Path) → IsReadChild c → is_some (content_at (under_element (element_view c.0) (rows c.1)) (e ∷ p)) ≡ true
    → IsReadPath readings (e ∷ p)
child-read c e p h there =
    let s = element_view c.0 in
    let parts = sym (ap is_some (content_at-under e s (rows c.1) p) ∙ some-where (same_element e s) (content_at (rows c.1) p)) ∙ there in
    let same = same_element-true e s (both_first (same_element e s) _ parts) in (
      subst (λ x. element_of json_reading (element_text x) ≡ Ok x) (sym same) (own-text-is-read s h.own),
      h.below p (ap is_some (get-body c.1 p) ∙ both_second (same_element e s) _ parts),
    )

children-read : (cs : List (Elem × Node)) (e : Element) (p : Path) → AreReadChildren cs → is_some (content_at (rows_below cs) (e ∷ p)) ≡ true
    → IsReadPath readings (e ∷ p)
children-read [] e p h there = absurd (true≢false (sym there))
children-read (c ∷ cs) e p h there =
    let first = under_element (element_view c.0) (rows c.1) in
    either (is_some (content_at first (e ∷ p))) (is_some (content_at (rows_below cs) (e ∷ p)))
    (sym (ap is_some (content_at-append first (rows_below cs) (e ∷ p)) ∙ some-either (content_at first (e ∷ p)) (content_at (rows_below cs) (e ∷ p))) ∙ there)
    (child-read c e p h.0) (children-read cs e p h.1)

-- the paths of a tree are read where its children are
pub tree-read : (n : Node) (cs : List (Elem × Node)) → rows n ≡ ([], own_content n) ∷ rows_below cs → AreReadChildren cs → HasReadPaths readings (body_of n)
tree-read n cs is h [] there = tt
tree-read n cs is h (e ∷ p) there =
    children-read cs e p h (sym (ap is_some (get-body n (e ∷ p) ∙ ap (λ rs. content_at rs (e ∷ p)) is)) ∙ there)

-- the one path of a leaf is read
pub leaf-read : (n : Node) (l : Leaf) → n ≡ LeafNode l → HasReadPaths readings (body_of n)
leaf-read n l is = subst (λ m. HasReadPaths readings (body_of m)) (sym is) (tree-read (LeafNode l) [] (search (rules, the_lemmas)) tt)

-- ---- moments

abbrev IsDated : model.Entry → Type 0
IsDated e = readings.moment e.moment ≡ true

-- each entry has a moment that is one
abbrev pub AreDated : List Entry → Type 0
AreDated es = AllEntries IsDated (table_view es)

-- one entry more has a moment
pub dated-more : (es : List Entry) (i : ℕ) (e : Entry) → i < length es → e ≡ get_or es i e → AreDated (take i es) → IsDated (entry_view e)
    → AreDated (take (i + 1) es)
dated-more es i e within is before here =
    subst (AllEntries IsDated) (sym (ap table_view (taken-at es i e within is) ∙ map-append entry_view (take i es) (e ∷ [])))
    (all-push IsDated (table_view (take i es)) (entry_view e) before here)
