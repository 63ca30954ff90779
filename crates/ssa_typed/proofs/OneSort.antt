-- Bodies of one kind are alike.
use Rattle.std.proofs.Common.{◌≡◌, true, false, Option, Some, None, refl, sym, ap, ◌∙◌, true≢false}
use Rattle.ssa_model.specs.definitions.Body.{Content, leaf, atom, record_branch, dict_branch, list_branch, Body}
use Rattle.ssa_model.specs.definitions.Fitting.{Place, of_kind, item_of, value_of, content_fits, IsAt, IsBodyOf}
use Rattle.ssa_model.specs.definitions.Kind as kinds
use Rattle.ssa_model.specs.definitions.Kind.{Kind, scalar_kind, atomic_of, record_of, dict_of, items_of}
use Rattle.ssa_model.specs.definitions.Path.{Path}
use Rattle.ssa_model.specs.definitions.PathMap.{get}
use Rattle.ssa_typed.specs.Alike.{are_alike, AreAlike}
use Rattle.ssa_model.proofs.Basics.{some-same}

data Sort : Type 0 where
  leaves : Sort
  records : Sort
  dicts : Sort
  lists : Sort

abbrev content_sort : Content → Sort
content_sort (leaf s) = leaves
content_sort (atom v) = leaves
content_sort record_branch = records
content_sort dict_branch = dicts
content_sort (list_branch es) = lists

abbrev place_sort : Place → Sort
place_sort (of_kind (scalar_kind k)) = leaves
place_sort (of_kind (atomic_of z)) = leaves
place_sort (of_kind (record_of fs)) = records
place_sort (of_kind (dict_of k)) = dicts
place_sort (of_kind (kinds.set_of k)) = lists
place_sort (of_kind (items_of ns fs)) = lists
place_sort (item_of ns fs) = records
place_sort (value_of t) = leaves

wrong : {A : Type 0} → false ≡ true → A
wrong h = absurd (true≢false (sym h))

-- only contents of the place's sort fit it
fits-sort : (q : Place) (c : Content) → content_fits q c ≡ true → content_sort c ≡ place_sort q
fits-sort (of_kind (scalar_kind k)) (leaf s) h = refl
fits-sort (of_kind (scalar_kind k)) (atom v) h = wrong h
fits-sort (of_kind (scalar_kind k)) record_branch h = wrong h
fits-sort (of_kind (scalar_kind k)) dict_branch h = wrong h
fits-sort (of_kind (scalar_kind k)) (list_branch es) h = wrong h
fits-sort (of_kind (atomic_of z)) (leaf s) h = wrong h
fits-sort (of_kind (atomic_of z)) (atom v) h = refl
fits-sort (of_kind (atomic_of z)) record_branch h = wrong h
fits-sort (of_kind (atomic_of z)) dict_branch h = wrong h
fits-sort (of_kind (atomic_of z)) (list_branch es) h = wrong h
fits-sort (of_kind (record_of fs)) (leaf s) h = wrong h
fits-sort (of_kind (record_of fs)) (atom v) h = wrong h
fits-sort (of_kind (record_of fs)) record_branch h = refl
fits-sort (of_kind (record_of fs)) dict_branch h = wrong h
fits-sort (of_kind (record_of fs)) (list_branch es) h = wrong h
fits-sort (of_kind (dict_of k)) (leaf s) h = wrong h
fits-sort (of_kind (dict_of k)) (atom v) h = wrong h
fits-sort (of_kind (dict_of k)) record_branch h = wrong h
fits-sort (of_kind (dict_of k)) dict_branch h = refl
fits-sort (of_kind (dict_of k)) (list_branch es) h = wrong h
fits-sort (of_kind (kinds.set_of k)) (leaf s) h = wrong h
fits-sort (of_kind (kinds.set_of k)) (atom v) h = wrong h
fits-sort (of_kind (kinds.set_of k)) record_branch h = wrong h
fits-sort (of_kind (kinds.set_of k)) dict_branch h = wrong h
fits-sort (of_kind (kinds.set_of k)) (list_branch es) h = refl
fits-sort (of_kind (items_of ns fs)) (leaf s) h = wrong h
fits-sort (of_kind (items_of ns fs)) (atom v) h = wrong h
fits-sort (of_kind (items_of ns fs)) record_branch h = wrong h
fits-sort (of_kind (items_of ns fs)) dict_branch h = wrong h
fits-sort (of_kind (items_of ns fs)) (list_branch es) h = refl
fits-sort (item_of ns fs) (leaf s) h = wrong h
fits-sort (item_of ns fs) (atom v) h = wrong h
fits-sort (item_of ns fs) record_branch h = refl
fits-sort (item_of ns fs) dict_branch h = wrong h
fits-sort (item_of ns fs) (list_branch es) h = wrong h
fits-sort (value_of t) (leaf s) h = refl
fits-sort (value_of t) (atom v) h = wrong h
fits-sort (value_of t) record_branch h = wrong h
fits-sort (value_of t) dict_branch h = wrong h
fits-sort (value_of t) (list_branch es) h = wrong h

sort-alike : (c d : Content) → content_sort c ≡ content_sort d → are_alike (Some c) (Some d) ≡ true
sort-alike (leaf s) (leaf t) h = refl
sort-alike (leaf s) (atom w) h = refl
sort-alike (leaf s) record_branch h = cc
sort-alike (leaf s) dict_branch h = cc
sort-alike (leaf s) (list_branch fs) h = cc
sort-alike (atom v) (leaf t) h = refl
sort-alike (atom v) (atom w) h = refl
sort-alike (atom v) record_branch h = cc
sort-alike (atom v) dict_branch h = cc
sort-alike (atom v) (list_branch fs) h = cc
sort-alike record_branch (leaf t) h = cc
sort-alike record_branch (atom w) h = cc
sort-alike record_branch record_branch h = refl
sort-alike record_branch dict_branch h = cc
sort-alike record_branch (list_branch fs) h = cc
sort-alike dict_branch (leaf t) h = cc
sort-alike dict_branch (atom w) h = cc
sort-alike dict_branch record_branch h = cc
sort-alike dict_branch dict_branch h = refl
sort-alike dict_branch (list_branch fs) h = cc
sort-alike (list_branch es) (leaf t) h = cc
sort-alike (list_branch es) (atom w) h = cc
sort-alike (list_branch es) record_branch h = cc
sort-alike (list_branch es) dict_branch h = cc
sort-alike (list_branch es) (list_branch fs) h = refl

at-one-place : (kind : Kind) (p : Path) (c d : Content) → IsAt kind p c → IsAt kind p d → are_alike (Some c) (Some d) ≡ true
at-one-place kind p c d g h =
    let same = some-same g.place h.place (sym g.there ∙ h.there) in
    sort-alike c d (fits-sort g.place c g.fits ∙ ap place_sort same ∙ sym (fits-sort h.place d h.fits))

-- two bodies of one kind are alike
pub bodies_alike : (kind : Kind) (b c : Body) → IsBodyOf kind b → IsBodyOf kind c → AreAlike b c
bodies_alike kind b c g h p = go (get b p) (get c p) refl refl
  where
    go : (x y : Option Content) → get b p ≡ x → get c p ≡ y → are_alike x y ≡ true
    go None y e f = refl
    go (Some x) None e f = refl
    go (Some x) (Some y) e f = at-one-place kind p x y (g.fits p x e) (h.fits p y f)
