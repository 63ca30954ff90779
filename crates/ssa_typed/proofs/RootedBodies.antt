-- What is rooted: a rooted body over another, and a part of one.
use Rattle.std.proofs.Common.{◌≡◌, [], Bool, true, false, not, ◌&&◌, ◌||◌, Option, Some, None, refl, sym, ap, ◌∙◌, true≢false}
use Rattle.std.specs.Prelude.{if◌then◌else◌, option_map}
use Rattle.std.specs.List.{list_any}
use Rattle.std.specs.Cmp.{first_so, second_so}
use Rattle.ssa_model.specs.definitions.Path.{Path}
use Rattle.ssa_model.specs.definitions.PathMap.{get, has, paths}
use Rattle.ssa_model.specs.definitions.Body.{Body, Content, leaf, atom, record_branch, dict_branch, list_branch, is_dict, is_leaf, is_point, over, over_content, points, restricted, restricted_content, strictly_under}
use Rattle.ssa_model.specs.definitions.Valid.{IsRooted, metadata_path}
use Rattle.ssa_model.proofs.PathMaps.{get-over, get-restricted, has-paths, has-points}
use Rattle.ssa_model.proofs.Pruned.{from_one, some_one}
use Rattle.ssa_model.proofs.Tables.{apart_by, either, has-over, has-restricted, true_or}
use Rattle.ssa_model.proofs.ValidStates.{no_leaf, something_below}
use Rattle.ssa_typed.specs.Alike.{are_alike}
use Rattle.ssa_model.proofs.Basics.{or_true, yes_no}

-- a body is rooted whose root is a record, and whose `metadata`, where it is there, is no leaf and has something below it
pub rooted-by : (b : Body) → get b [] ≡ Some record_branch → is_leaf (get b metadata_path) ≡ false
    → (has b metadata_path ≡ true → list_any (strictly_under metadata_path) (paths b) ≡ true) → IsRooted b
rooted-by b root_is no_content inside = record {
  root = root_is;
  metadata = apart_by (has (points b) metadata_path) (λ t.
      let there = first_so (has b metadata_path) (is_point b metadata_path) (sym (has-points b metadata_path) ∙ t) in
      let held = inside there in
      yes_no (has (points b) metadata_path) t (has-points b metadata_path ∙ (λ i. there i && (no_content i || (is_dict (root_is i) || not (held i))))));
}

-- ---- one body over another

no-leaf-over : (c d : Option Content) → is_leaf c ≡ false → is_leaf d ≡ false → is_leaf (over_content c d) ≡ false
no-leaf-over c None h k = h
no-leaf-over c (Some (leaf s)) h k = k
no-leaf-over c (Some (atom v)) h k = k
no-leaf-over c (Some record_branch) h k = refl
no-leaf-over c (Some dict_branch) h k = refl
no-leaf-over c (Some (list_branch es)) h k = refl

-- a Dict comes of two Dicts
pub dicts-over : (c d : Content) → are_alike (Some c) (Some d) ≡ true → is_dict (over_content (Some c) (Some d)) ≡ true
    → (is_dict (Some c) ≡ true) × (is_dict (Some d) ≡ true)
dicts-over c (leaf s) h k = absurd (true≢false (sym k))
dicts-over c (atom v) h k = absurd (true≢false (sym k))
dicts-over c record_branch h k = absurd (true≢false (sym k))
dicts-over (leaf s) dict_branch h k = absurd (true≢false (sym h))
dicts-over (atom v) dict_branch h k = absurd (true≢false (sym h))
dicts-over record_branch dict_branch h k = absurd (true≢false (sym h))
dicts-over dict_branch dict_branch h k = (refl, refl)
dicts-over (list_branch es) dict_branch h k = absurd (true≢false (sym h))
dicts-over c (list_branch es) h k = absurd (true≢false (sym k))

module _ (live config : Body) (r : IsRooted live) (s : IsRooted config) where
  abbrev merged : Body
  merged = over live config

  -- from `metadata` in one of the two
  below-from : (b : Body) → ((p : Path) → has b p ≡ true → has merged p ≡ true) → IsRooted b → has b metadata_path ≡ true
      → list_any (strictly_under metadata_path) (paths merged) ≡ true
  below-from b within rooted in_b =
      let x = some_one (strictly_under metadata_path) (paths b) (something_below b rooted in_b) in
      from_one (strictly_under metadata_path) (paths merged) x.0 (sym (has-paths merged x.0) ∙ within x.0 (has-paths b x.0 ∙ x.1)) x.2

  -- one rooted body over another is rooted
  pub over-rooted : IsRooted merged
  over-rooted =
      rooted-by merged
      (get-over live config [] ∙ (λ i. over_content (r.root i) (s.root i)))
      (ap is_leaf (get-over live config metadata_path) ∙ no-leaf-over (get live metadata_path) (get config metadata_path) (no_leaf live r) (no_leaf config s))
      (λ in_merged.
      either (has live metadata_path) (has config metadata_path) (sym (has-over live config metadata_path) ∙ in_merged)
      (λ in_live. below-from live (λ p h. has-over live config p ∙ true_or (has live p) (has config p) h) r in_live)
      (λ in_config. below-from config (λ p h. has-over live config p ∙ or_true (has live p) (has config p) h) s in_config))

-- ---- a part of a body

-- what stays of a content that is no leaf is none
pub part-leaf : (test : Path → Bool) (p : Path) (b : Bool) (o : Option Content) → is_leaf o ≡ false
    → is_leaf (if b then option_map (restricted_content test p) o else None) ≡ false
part-leaf test p false o h = refl
part-leaf test p true None h = refl
part-leaf test p true (Some (leaf s)) h = h
part-leaf test p true (Some (atom v)) h = h
part-leaf test p true (Some record_branch) h = refl
part-leaf test p true (Some dict_branch) h = refl
part-leaf test p true (Some (list_branch es)) h = refl

-- where there is no `metadata`, each part of a rooted body with its root is rooted
pub part-rooted : (b : Body) (test : Path → Bool) → IsRooted b → has b metadata_path ≡ false → test [] ≡ true → IsRooted (restricted b test)
part-rooted b test rooted none whole =
    rooted-by (restricted b test)
    (get-restricted b test [] ∙ (λ i. if whole i then option_map (restricted_content test []) (rooted.root i) else None))
    (ap is_leaf (get-restricted b test metadata_path) ∙ part-leaf test metadata_path (test metadata_path) (get b metadata_path) (no_leaf b rooted))
    (λ there. absurd (true≢false (sym (second_so (test metadata_path) (has b metadata_path) (sym (has-restricted b test metadata_path) ∙ there)) ∙ none)))
