-- The entries of a table that are read back, one behind the other.
use Rattle.std.proofs.Common.{◌≡◌, ℕ, ◌+◌, ◌<◌, List, [], ◌∷◌, ◌++◌, length, get_or, take, true, not, sym, ap, subst, ◌∙◌}
use Rattle.std.proofs.lemmas.List.{take_more}
use Rattle.ssa_model.specs.definitions.BenchFile.{IsReadBack}
use Rattle.ssa_model.specs.definitions.Json.{Text}
use Rattle.ssa_model.specs.definitions.PathMap.{PathSet, has, minus}
use Rattle.ssa_model.specs.definitions.RecordReading.{HasReadSet}
use Rattle.ssa_model.specs.definitions.Table as model
use Rattle.ssa_model.proofs.PathMaps.{has-minus}
use Rattle.ssa_model.proofs.WritingsBack.{set-faultless, set-said}
use Rattle.ssa_path.proofs.Orders.{both_first}
use Rattle.ssa_model.specs.definitions.Valid.{AllEntries}
use Rattle.ssa_json.specs.Readings.{readings}
use Rattle.ssa_merge.specs.Managers.{entry_view, table_view}
use Rattle.ssa_merge.specs.declared.managers.Entry.{Entry}

-- each of the entries is read back from its text
abbrev pub AreRead : List Entry → Type 0
AreRead es = AllEntries (IsReadBack readings) (table_view es)

read-push : (es : List Entry) (e : Entry) → AreRead es → IsReadBack readings (entry_view e) → AreRead (es ++ e ∷ [])
read-push [] e h here = (here, tt)
read-push (x ∷ es) e h here = (h.0, read-push es e h.1 here)

-- where the first entries are read back and the next one is, so are the first ones with it
pub read-more : (es : List Entry) (i : ℕ) (e : Entry) → i < length es → e ≡ get_or es i e → AreRead (take i es) → IsReadBack readings (entry_view e)
    → AreRead (take (i + 1) es)
read-more es i e within is before here = subst AreRead (sym (take_more es i e within ∙ ap (λ x. take i es ++ x ∷ []) (sym is)))
    (read-push (take i es) e before here)

-- ---- an entry that loses some of its paths

-- what is left of paths that are read is read
left-read : (s t : PathSet) → HasReadSet readings s → HasReadSet readings (minus s t)
left-read s t h p one = h p (both_first (has s p) (not (has t p)) (sym (has-minus s t p) ∙ one))

-- an entry whose paths are read is read back after losing some, under a moment that is one
pub less-back : (e : model.Entry) (lost : PathSet) (at : Text) → HasReadSet readings e.owned → readings.moment at ≡ true
    → IsReadBack readings (record { manager = e.manager; owned = minus e.owned lost; moment = at })
less-back e lost at h moment = record {
  no_fault = set-faultless readings (minus e.owned lost) (left-read e.owned lost h);
  says = set-said readings (minus e.owned lost) (left-read e.owned lost h);
  moment = moment;
}
