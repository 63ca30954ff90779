-- Values that are tested while their trees are made.
use Rattle.std.proofs.Common.{◌≡◌, List, [], ◌∷◌, ◌++◌, Bool, true, false, ◌&&◌, option_map, string_bytes, string_cmp, refl, sym, ap, ◌∙◌, true≢false, append_assoc, append-nil, rules}
use Rattle.std.proofs.lemmas.List.{map-append}
use Rattle.std.specs.List.Sorted.{IsStrictlySortedBy}
use Rattle.std.specs.Map.{keys_of}
use Rattle.std.specs.Prelude.{Option, None, Some, codes, if◌then◌else◌}
use Rattle.ssa_members.specs.Texts.{text_bytes}
use Rattle.ssa_members.specs.declared.small_text.SmallText.{SmallText}
use Rattle.ssa_model.specs.definitions.Json.{Text, Json, scalar, list, object, Members, no_members, member, same_text}
use Rattle.ssa_model.specs.definitions.Path.{field, Path}
use Rattle.ssa_model.specs.definitions.Kind.{Kind, Fields, FaultAt, faults, field_faults, fault_unless, is_of, kind_of, record_of, scalar_kind, fault_at, unknown_field, wrong_type}
use Rattle.ssa_model.specs.definitions.Body.{leaf, places, is_empty_object, without_empty_metadata}
use Rattle.ssa_model.specs.definitions.Lawful.{is_some_record}
use Rattle.ssa_model.proofs.Tables.{same_text-true}
use Rattle.ssa_json.specs.View.{scalar_view}
use Rattle.ssa_json.specs.declared.value.Scalar.{Scalar}
use Rattle.ssa_json.proofs.Converting.{Found as Entry}
use Rattle.ssa_json.proofs.Ordered.{names}
use Rattle.ssa_schema.specs.Refusals.{first_of}
use Rattle.ssa_schema.specs.Finds.{Finds, told}
use Rattle.ssa_schema.specs.declared.fit.found.Found.{Found}
use Rattle.ssa_schema.proofs.Finding.{finds_from, finds_first, none_first}
use Rattle.ssa_path.specs.declared.element.Elem.TheVariants.{Field}
use Rattle.ssa_typed.specs.Flats.{rows_at, AreNamed, IsChild}
use Rattle.ssa_typed.specs.Rows.{Row, rows}
use Rattle.ssa_typed.specs.Tested.{is_fitting_scalar, member_faults, IsTested, PushesTested}
use Rattle.ssa_typed.specs.declared.node.Leaf.TheVariants.{Scalar as ScalarLeaf}
use Rattle.ssa_typed.specs.declared.node.Node.{Leaf, the_lemmas}
use Rattle.ssa_typed.specs.declared.tested.Tested.TheVariants.{Fits}
use Rattle.ssa_typed.proofs.Building.{Child, IsNaming, naming-none, naming-step, naming-end}

-- ---- what is made

-- what is tested by some faults, and put behind others, is so by those that begin alike, and what was made is what follows from it
pub pushed-from : {X : Type 0} (whole here : Path → List FaultAt) (made more : X → Type 0) (old new : List X) (o : Option Found)
    → ((p : Path) → first_of (whole p) ≡ first_of (here p)) → ((x : X) → made x → more x) → PushesTested here made old new o → PushesTested whole more old new o
pushed-from whole here made more old new None same so h = (h.0, h.1, (finds_from None whole here same h.2.0, so h.0 h.2.1))
pushed-from whole here made more old new (Some f) same so h = finds_from (Some f) whole here same h

leaf-rows : (s : Scalar) → rows (Leaf (ScalarLeaf s)) ≡ ([], leaf (scalar_view s)) ∷ []
leaf-rows s = search (rules, the_lemmas)

-- a scalar of a kind that takes it has no fault, and is made a leaf
pub leaf-tested : (k : Kind) (v : Json) (s : Scalar) (t : SmallText) (n : Text) → is_fitting_scalar k v ≡ true → v ≡ scalar (scalar_view s) → text_bytes t ≡ n
    → IsTested (λ p. faults k v (p ++ field n ∷ [])) (IsChild (field n) (places k v)) (Fits (Field t, Leaf (ScalarLeaf s)))
leaf-tested (scalar_kind w) v s t n fits value name =
    let takes : is_of w (scalar_view s) ≡ true = ap (is_fitting_scalar (scalar_kind w)) (sym value) ∙ fits in (
      λ p. ap (λ b. option_map told (first_of (fault_unless b wrong_type (p ++ field n ∷ [])))) (sym takes)
          ∙ (λ i. option_map told (first_of (faults (scalar_kind w) (sym value i) (p ++ field n ∷ [])))),
      record {
        element = ap field name;
        placed = λ p. ap (rows_at p) (leaf-rows s) ∙ ap (λ q. (q, leaf (scalar_view s)) ∷ []) (append-nil p) ∙ (λ i. places (scalar_kind w) (sym value i) p);
        tree = search (rules, the_lemmas);
      },
    )
leaf-tested _ v s t n fits value name = absurd (true≢false (sym fits))

-- ---- members

-- a member whose kind is known has the faults of its value, one field further
pub known-faults : (fs : Fields) (n : Text) (v : Json) (k : Kind) (p : Path) → kind_of n fs ≡ Some k → member_faults fs n v p ≡ faults k v (p ++ field n ∷ [])
known-faults fs n v k p known = ap (λ o. elim o [ None ↦ fault_at unknown_field (p ++ field n ∷ []) ∷ [] | Some j ↦ faults j v (p ++ field n ∷ []) ]) known

-- a member whose kind is unknown has one fault
pub unknown-faults : (fs : Fields) (n : Text) (v : Json) (p : Path) → kind_of n fs ≡ None
    → member_faults fs n v p ≡ fault_at unknown_field (p ++ field n ∷ []) ∷ []
unknown-faults fs n v p unknown = ap (λ o. elim o [ None ↦ fault_at unknown_field (p ++ field n ∷ []) ∷ [] | Some j ↦ faults j v (p ++ field n ∷ []) ]) unknown

-- ---- loops that test members and make children

abbrev pub FaultsOf : Type 0
FaultsOf = List Entry → Path → List FaultAt

abbrev pub RowsOf : Type 0
RowsOf = List Entry → Path → List Row

-- the children so far, where these members are left of all
pub record IsTesting (faults_of : FaultsOf) (rows_of : RowsOf) (all left : List Entry) (cs : List Child) : Type 0 where
  pub done : List Entry
  pub split : all ≡ done ++ left
  pub naming : IsNaming (names done) (rows_of left) (rows_of all) cs
  -- what is done has no fault: what is left decides
  pub decides : (p : Path) → first_of (faults_of all p) ≡ first_of (faults_of left p)

-- before the first member all are left
pub testing-none : (faults_of : FaultsOf) (rows_of : RowsOf) (all left : List Entry) (cs : List Child) → all ≡ left → cs ≡ []
    → IsTesting faults_of rows_of all left cs
testing-none faults_of rows_of all left cs same none = record {
  done = [];
  split = same;
  naming = naming-none (rows_of left) (rows_of all) cs none (λ p. ap (λ es. rows_of es p) (sym same));
  decides = λ p. ap (λ es. first_of (faults_of es p)) same;
}

-- what is left begins with the faults of the next member
decides-next : (faults_of : FaultsOf) (rows_of : RowsOf) (all left more : List Entry) (e : Entry) (cs : List Child) (own : Path → List FaultAt) → left ≡ e ∷ more
    → ((p : Path) → faults_of (e ∷ more) p ≡ own p ++ faults_of more p) → IsTesting faults_of rows_of all left cs
    → (p : Path) → first_of (faults_of all p) ≡ first_of (own p ++ faults_of more p)
decides-next faults_of rows_of all left more e cs own next apart h p = h.decides p ∙ ap (λ es. first_of (faults_of es p)) next ∙ ap first_of (apart p)

-- the next member has no fault, and its child is made
pub testing-step : (faults_of : FaultsOf) (rows_of : RowsOf) (all left more : List Entry) (e : Entry) (cs ds : List Child) (c : Child)
    (own : Path → List FaultAt) (rows_from : Path → List Row) → left ≡ e ∷ more
    → ((p : Path) → faults_of (e ∷ more) p ≡ own p ++ faults_of more p)
    → ((p : Path) → rows_of (e ∷ more) p ≡ rows_from (p ++ field (string_bytes e.0) ∷ []) ++ rows_of more p)
    → IsTested own (IsChild (field (string_bytes e.0)) rows_from) (Fits c) → ds ≡ cs ++ c ∷ []
    → IsTesting faults_of rows_of all left cs → IsTesting faults_of rows_of all more ds
testing-step faults_of rows_of all left more e cs ds c own rows_from next apart placed tested pushed h = record {
  done = h.done ++ e ∷ [];
  split = h.split ∙ ap (λ es. h.done ++ es) next ∙ sym (append_assoc h.done (e ∷ []) more);
  naming = naming-step (string_bytes e.0) rows_from c cs ds (names h.done) (names (h.done ++ e ∷ [])) (rows_of left) (rows_of more) (rows_of all)
      tested.1 (λ p. ap (λ es. rows_of es p) next ∙ placed p) (map-append (λ (m : Entry). string_bytes m.0) h.done (e ∷ [])) pushed h.naming;
  decides = λ p. decides-next faults_of rows_of all left more e cs own next apart h p ∙ none_first (own p) (faults_of more p) (tested.0 p);
}

-- what is found in the next member is the first fault of all
pub testing-breaks : (faults_of : FaultsOf) (rows_of : RowsOf) (all left more : List Entry) (e : Entry) (cs : List Child) (f : Found)
    (own : Path → List FaultAt) → left ≡ e ∷ more → ((p : Path) → faults_of (e ∷ more) p ≡ own p ++ faults_of more p) → Finds (Some f) own
    → IsTesting faults_of rows_of all left cs → Finds (Some f) (faults_of all)
testing-breaks faults_of rows_of all left more e cs f own next apart found h =
    finds_from (Some f) (faults_of all) (λ p. own p ++ faults_of more p) (decides-next faults_of rows_of all left more e cs own next apart h)
    (finds_first f own (faults_of more) found)

-- where none is left, there is no fault, and the children are those of all members
pub testing-end : (faults_of : FaultsOf) (rows_of : RowsOf) (all left : List Entry) (cs : List Child) → IsStrictlySortedBy string_cmp (keys_of all)
    → left ≡ [] → ((p : Path) → faults_of [] p ≡ []) → ((p : Path) → rows_of [] p ≡ [])
    → IsTesting faults_of rows_of all left cs → Finds None (faults_of all) × AreNamed (rows_of all) cs
testing-end faults_of rows_of all left cs rising none no_faults no_rows h = (
  finds_from None (faults_of all) (λ p. []) (λ p. h.decides p ∙ ap (λ es. first_of (faults_of es p)) none ∙ ap first_of (no_faults p)) (λ p. refl),
  naming-end all (names h.done) (rows_of left) (rows_of all) cs rising
      (ap names (sym (append-nil h.done) ∙ ap (λ es. h.done ++ es) (sym none) ∙ sym h.split))
      (λ p. ap (λ es. rows_of es p) none ∙ no_rows p) h.naming,
)

-- ---- an empty `metadata`

record-empty : (o : Option Kind) (v : Json) (n : Text) (p : Path) → is_some_record o ≡ true → is_empty_object v ≡ true
    → ◌≡◌ {A = List FaultAt} (elim o [ None ↦ fault_at unknown_field (p ++ field n ∷ []) ∷ [] | Some k ↦ faults k v (p ++ field n ∷ []) ]) []
record-empty (Some (record_of fs)) (object no_members) n p is empty = refl
record-empty (Some (record_of fs)) (object (member m v ms)) n p is empty = absurd (true≢false (sym empty))
record-empty (Some (record_of fs)) (scalar s) n p is empty = absurd (true≢false (sym empty))
record-empty (Some (record_of fs)) (list vs) n p is empty = absurd (true≢false (sym empty))
record-empty (Some _) v n p is empty = absurd (true≢false (sym is))
record-empty None v n p is empty = absurd (true≢false (sym is))

left-step : (fs : Fields) (n : Text) (v : Json) (ms : Members) (p : Path) (own empty : Bool) → same_text n (codes "metadata") ≡ own → is_empty_object v ≡ empty
    → is_some_record (kind_of (codes "metadata") fs) ≡ true → field_faults fs ms p ≡ field_faults fs (without_empty_metadata ms) p
    → field_faults fs (member n v ms) p ≡ field_faults fs (if own && empty then ms else member n v (without_empty_metadata ms)) p
left-step fs n v ms p true true is none h more =
    ap (λ xs. xs ++ field_faults fs ms p)
    (record-empty (kind_of n fs) v n p (ap (λ m. is_some_record (kind_of m fs)) (same_text-true n (codes "metadata") is) ∙ h) none)
left-step fs n v ms p true false is none h more = ap (λ xs. member_faults fs n v p ++ xs) more
left-step fs n v ms p false empty is none h more = ap (λ xs. member_faults fs n v p ++ xs) more

-- where `metadata` is an object with fields, an empty one has no fault: the faults are those of what is left without it
pub left-faults : (fs : Fields) (ms : Members) (p : Path) → is_some_record (kind_of (codes "metadata") fs) ≡ true
    → field_faults fs ms p ≡ field_faults fs (without_empty_metadata ms) p
left-faults fs no_members p h = refl
left-faults fs (member n v ms) p h =
    left-step fs n v ms p (same_text n (codes "metadata")) (is_empty_object v) refl refl h (left-faults fs ms p h)
