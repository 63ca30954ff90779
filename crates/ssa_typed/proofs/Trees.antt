-- Trees of values of each kind.
use Rattle.std.proofs.Common.{◌≡◌, ℕ, ◌≤◌, List, [], ◌∷◌, Bool, true, false, cond, Box, String, Global, string_bytes, nat_cmp, refl, sym, ap, ◌∙◌, subst, subst₂, arith, append-nil, true≢false, rules, is_some}
use Rattle.std.specs.Prelude.{Option, None, Some, if◌then◌else◌, option_map}
use Rattle.std.specs.Borrow.{Bor}
use Rattle.std.specs.Map.{lookup, values_of}
use Rattle.std.specs.BTreeMap.{is_at}
use Rattle.std.specs.Cmp.Lexicographic.{slice_cmp}
pub use Rattle.ssa_schema.proofs.Kinding.{kind_view-ItemsOf}
use Rattle.ssa_schema.proofs.Fields.{view_of_ref, fields-lookup}
use Rattle.ssa_model.specs.definitions.Json.{Text, Json, object, list, Items, Members, same_text}
use Rattle.ssa_model.specs.definitions.Path.{field, Path}
use Rattle.ssa_model.specs.definitions.PathMap.{from_entries}
use Rattle.ssa_model.specs.definitions.Kind as model
use Rattle.ssa_model.specs.definitions.Body.{Content, record_branch, dict_branch, list_branch, flat, without_empty_metadata, places, field_places, entry_places, value_places, item_places, value_order, key_order}
use Rattle.ssa_schema.specs.Kinds.{kind_view, fields_view, scalar_kind_view}
use Rattle.ssa_model.specs.definitions.Lawful.{is_keyed, are_keyed}
use Rattle.ssa_schema.specs.declared.kind.Kind as kind
use Rattle.ssa_schema.specs.declared.kind.ScalarKind.{ScalarKind}
use Rattle.ssa_path.specs.Children.{elements}
use Rattle.ssa_path.proofs.Orders.{both_first, both_second}
use Rattle.ssa_typed.specs.Rows.{Row, body_of, rows, rows_below, is_tree, are_apart}
use Rattle.ssa_model.specs.laws.Faultless.{ValuesFit, ItemsFit}
use Rattle.ssa_typed.specs.Flats.{rows_at, member_places, AreListed, AreNamed, IsTreeOf}
use Rattle.ssa_typed.specs.declared.node.Node.{Node, Branch, Dict, List as ListOf}
use Rattle.ssa_typed.proofs.Building.{Child}
use Rattle.ssa_typed.proofs.Fitting.{values-apart, items-apart}
use Rattle.ssa_typed.proofs.Levels.{Children, own-Branch, own-Dict, own-List, tree-Branch, tree-Dict, tree-List, level-Branch, level-Dict, level-List}
use Rattle.ssa_model.proofs.Basics.{both-true as both}
use denote.Param.Weighed.{most}

-- ---- kinds

-- the kind of a Dict is seen as a Dict of the kind inside
pub kind_view-Dict : (b : Box kind.Kind Global) → kind_view (kind.Dict b) ≡ model.dict_of (kind_view b.value)
kind_view-Dict b = search (rules, kind.the_lemmas)

-- the kind of a scalar is seen as a scalar's kind
pub kind_view-Scalar : (k : ScalarKind) → kind_view (kind.Scalar k) ≡ model.scalar_kind (scalar_kind_view k)
kind_view-Scalar k = search (rules, kind.the_lemmas)

-- the kind of a set is seen as a set of its scalars' kind
pub kind_view-SetOf : (k : ScalarKind) → kind_view (kind.SetOf k) ≡ model.set_of (scalar_kind_view k)
kind_view-SetOf k = search (rules, kind.the_lemmas)

keyed-if : (b : Bool) (j k : model.Kind) (o : Option model.Kind) → is_keyed j ≡ true → (o ≡ Some k → is_keyed k ≡ true) → (if b then Some j else o) ≡ Some k
    → is_keyed k ≡ true
keyed-if true j k o keyed later e = ap (λ x. elim x [ None ↦ true | Some i ↦ is_keyed i ]) (sym e) ∙ keyed
keyed-if false j k o keyed later e = later e

-- where each map list inside the fields has key fields, so has each inside the kind of one
pub keyed-at : (n : Text) (fs : model.Fields) (k : model.Kind) → are_keyed fs ≡ true → model.kind_of n fs ≡ Some k → is_keyed k ≡ true
keyed-at n model.no_fields k h e = absurd (true≢false (sym (ap is_some e)))
keyed-at n (model.kind_field m j fs) k h e = keyed-if (same_text n m) j k (model.kind_of n fs) (both_first _ _ h)
    (λ later. keyed-at n fs k (both_second (is_keyed j) _ h) later) e

-- what a look into the fields finds
pub field-found : (r : Option (Bor kind.Kind)) (n : Text) (es : List (String Global × kind.Kind))
    → option_map (λ k. k.now) r ≡ lookup (is_at (λ k. slice_cmp nat_cmp n (string_bytes k))) es
    → option_map (λ k. kind_view k.now) r ≡ model.kind_of n (fields_view es)
field-found r n es e = view_of_ref kind_view r ∙ ap (option_map kind_view) e ∙ fields-lookup n es

-- what is found under a name is no deeper than the deepest of the values
pub found-within-deepest : {X : Type 0} (f : X → ℕ) (t : String Global → Bool) (es : List (String Global × X)) (x : X) → lookup t es ≡ Some x → f x ≤ most f (values_of es)
found-within-deepest f t [] x h = absurd (true≢false (sym (ap is_some h)))
found-within-deepest {X} f t (e ∷ es) x h = by (t e.0) h (found-within-deepest f t es x)
  where
    by : (b : Bool) → ◌≡◌ {A = Option X} (cond b (Some e.1) (lookup t es)) (Some x) → (lookup t es ≡ Some x → f x ≤ most f (values_of es)) → f x ≤ most f (values_of (e ∷ es))
    by true here rest =
        let same : e.1 ≡ x = ap (λ (o : Option X). elim o [ None ↦ e.1 | Some y ↦ y ]) here in
        subst (λ y. f y ≤ most f (values_of (e ∷ es))) same (omega arith)
    by false behind rest = let deep = rest behind in omega (arith, deep)

-- the kind that a name has is one
known : Option model.Kind → model.Kind → model.Kind
known None j = j
known (Some k) j = k

-- a name has one kind
pub known-is : (n : Text) (fs : model.Fields) (j k : model.Kind) → model.kind_of n fs ≡ Some j → model.kind_of n fs ≡ Some k → j ≡ k
unfolding known
known-is n fs j k e f = ap (λ o. known o j) (sym e ∙ f)

-- ---- the places of a member

-- a member whose kind is known has the places of its value
pub known-places : (n : Text) (fs : model.Fields) (v : Json) (k : model.Kind) (p : Path) → model.kind_of n fs ≡ Some k → member_places fs n v p ≡ places k v p
known-places n fs v k p e = ap (λ o. elim o [ None ↦ [] | Some j ↦ places j v p ]) e

-- ---- branches

-- a branch has at a path its own row and those of its children
pub placed-branch : (n : Node) (cs : List Child) (content : Content) (p : Path) (rest : List Row) → rows n ≡ ([], content) ∷ rows_below cs
    → rows_at p (rows_below cs) ≡ rest → rows_at p (rows n) ≡ (p, content) ∷ rest
placed-branch n cs content p rest level below = ap (rows_at p) level ∙ (λ i. (append-nil p i, content) ∷ below i)

module _ (cs : Children) where
  rows-Branch : rows (Branch cs) ≡ ([], record_branch) ∷ rows_below cs.items
  rows-Branch = (level-Branch cs).rows_are ∙ ap (λ c. ([], c) ∷ rows_below cs.items) (own-Branch cs)

  rows-Dict : rows (Dict cs) ≡ ([], dict_branch) ∷ rows_below cs.items
  rows-Dict = (level-Dict cs).rows_are ∙ ap (λ c. ([], c) ∷ rows_below cs.items) (own-Dict cs)

  rows-List : rows (ListOf cs) ≡ ([], list_branch (elements cs.items)) ∷ rows_below cs.items
  rows-List = (level-List cs).rows_are ∙ ap (λ c. ([], c) ∷ rows_below cs.items) (own-List cs)

  -- a record has at a path its own row and those of its fields
  pub record-placed : (rows_from : Path → List Row) → AreNamed rows_from cs.items → (p : Path) → rows_at p (rows (Branch cs)) ≡ (p, record_branch) ∷ rows_from p
  record-placed rows_from h p = placed-branch (Branch cs) cs.items record_branch p (rows_from p) rows-Branch (h.placed p)

  -- a record of named children is a tree
  pub record-tree : (rows_from : Path → List Row) → AreNamed rows_from cs.items → is_tree (Branch cs) ≡ true
  record-tree rows_from h = tree-Branch cs ∙ both _ _ (both _ _ h.risen h.fields) h.trees

  dict-tree : (rows_from : Path → List Row) → AreNamed rows_from cs.items → is_tree (Dict cs) ≡ true
  dict-tree rows_from h = tree-Dict cs ∙ both _ _ (both _ _ h.risen h.fields) h.trees

  list-tree : (order : List Rattle.ssa_model.specs.definitions.Path.Element) (rows_from : Path → List Row) → are_apart order ≡ true
      → AreListed order rows_from cs.items → is_tree (ListOf cs) ≡ true
  list-tree order rows_from apart h = tree-List cs ∙ both _ _ (both _ _ (ap are_apart h.order_is ∙ apart) h.items) h.trees

  -- a record of the fields' children is the tree of an object
  pub record-made : (k : model.Kind) (v : Json) (fs : model.Fields) (ms : Members) → model.record_of fs ≡ k → object ms ≡ v
      → AreNamed (field_places fs ms) cs.items → IsTreeOf k v (Branch cs)
  record-made k v fs ms is_kind is_value h =
      subst₂ (λ j w. IsTreeOf j w (Branch cs)) is_kind is_value
      (record { placed = record-placed (field_places fs ms) h; tree = record-tree (field_places fs ms) h })

  -- a Dict of the entries' children is the tree of an object
  pub dict-made : (k : model.Kind) (v : Json) (j : model.Kind) (ms : Members) → model.dict_of j ≡ k → object ms ≡ v → AreNamed (entry_places j ms) cs.items
      → IsTreeOf k v (Dict cs)
  dict-made k v j ms is_kind is_value h =
      subst₂ (λ i w. IsTreeOf i w (Dict cs)) is_kind is_value (record {
        placed = λ p. placed-branch (Dict cs) cs.items dict_branch p (entry_places j ms p) rows-Dict (h.placed p);
        tree = dict-tree (entry_places j ms) h;
      })

  -- a list of the values' children is the tree of a set
  pub set-made : (k : model.Kind) (v : Json) (j : model.ScalarKind) (vs : Items) → model.set_of j ≡ k → list vs ≡ v → ValuesFit j vs
      → AreListed (value_order vs) (value_places vs) cs.items → IsTreeOf k v (ListOf cs)
  set-made k v j vs is_kind is_value fits h =
      subst₂ (λ i w. IsTreeOf i w (ListOf cs)) is_kind is_value (record {
        placed = λ p. placed-branch (ListOf cs) cs.items (list_branch (value_order vs)) p (value_places vs p) (rows-List
            ∙ ap (λ es. ([], list_branch es) ∷ rows_below cs.items) h.order_is) (h.placed p);
        tree = list-tree (value_order vs) (value_places vs) (values-apart j vs fits) h;
      })

  -- a list of the items' children is the tree of a map list
  pub items-made : (k : model.Kind) (v : Json) (ns : List Text) (fs : model.Fields) (vs : Items) → model.items_of ns fs ≡ k → list vs ≡ v → ItemsFit ns fs vs
      → AreListed (key_order ns vs) (item_places ns fs vs) cs.items → IsTreeOf k v (ListOf cs)
  items-made k v ns fs vs is_kind is_value fits h =
      subst₂ (λ i w. IsTreeOf i w (ListOf cs)) is_kind is_value (record {
        placed = λ p. placed-branch (ListOf cs) cs.items (list_branch (key_order ns vs)) p (item_places ns fs vs p) (rows-List
            ∙ ap (λ es. ([], list_branch es) ∷ rows_below cs.items) h.order_is) (h.placed p);
        tree = list-tree (key_order ns vs) (item_places ns fs vs) (items-apart ns fs vs fits) h;
      })

-- ---- the body of an object

-- rows at the root are as they are
pub rows_at-none : (rs : List Row) → rows_at [] rs ≡ rs
rows_at-none [] = refl
rows_at-none (r ∷ rs) = ap (λ xs. r ∷ xs) (rows_at-none rs)

-- a record of the fields without an empty `metadata` has the object's flattening as its body
pub record-flat : (cs : Children) (fs : model.Fields) (ms : Members) → AreNamed (field_places fs (without_empty_metadata ms)) cs.items
    → body_of (Branch cs) ≡ flat (model.record_of fs) (object ms)
record-flat cs fs ms h = ap from_entries (sym (rows_at-none (rows (Branch cs))) ∙ record-placed cs (field_places fs (without_empty_metadata ms)) h [])
