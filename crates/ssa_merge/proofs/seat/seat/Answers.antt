use Rattle.std.proofs.Common.{◌+◌, ◌≤◌, filter, length, map, not, ap, ◌∙◌, sym, arith}
use Rattle.std.specs.Prelude.{unwrap_or}
use Rattle.ssa_model.specs.definitions.Limits.{most_managers}
use Rattle.ssa_model.specs.definitions.PathMap.{is_empty}
use Rattle.ssa_model.specs.definitions.Table.{is_in_table, owned_by, reseated}
use Rattle.ssa_model.specs.definitions.Valid.{has_distinct_keys}
use Rattle.ssa_merge.specs.Managers.{key_view, table_view}
use Rattle.ssa_merge.specs.TableChanges.{changed_entries}
use Rattle.ssa_merge.specs.Tables.{owns}
use Rattle.ssa_merge.proofs.Acting.{nothing-left, some-left, IsLeft}
use Rattle.ssa_merge.proofs.Seats.{reseated-are, seat-newcomer, stayed-leads, newcomer-leads, newcomer-many}
use Rattle.ssa_merge.proofs.seat.seat.Goals as goal

pub reseated_entries-requires : goal.reseated_entries-requires
reseated_entries-requires c = ap has_distinct_keys c.entries-table.ensures.same ∙ c.entries-table.ensures.held.distinct

pub returns-in_default : goal.returns-in_default
returns-in_default c =
    let table = c.args.managers.now in
    let a = key_view c.args.key.now in
    let es = c.entries-table.result.now in
    let same = c.entries-table.ensures.same in
    let cs = c.in_ok-entries.entries in
    let told = c.args.owned in
    let lost = c.args.lost.now in
    let modified = c.args.modified.now in
    let at = c.args.at in
    let owned = unwrap_or told (owned_by table a) in
    let made = reseated-are table a owned lost modified at es cs.items c.is_empty-changed.result same c.is_empty-changed.ensures c.in_ok-entries.ensures.each
    (c.in_ok-entries.ensures.made
    ∙ ap (λ t. filter owns (map (reseated a (unwrap_or told (owned_by t a)) lost (not c.is_empty-changed.result) at) (table_view es))) same) in
    let rest = c.reseated_entries.new.owned in
    let left : IsLeft table a told rest = record {
      taken = λ known. c.in_ok-entries.ensures.taken (ap (λ t. is_in_table t a) same ∙ known);
      left = λ unknown. c.in_ok-entries.ensures.left (ap (λ t. is_in_table t a) same ∙ unknown);
    } in
    stayed-leads table a owned lost modified at cs made c.entries-table.ensures.held c.requires
    (nothing-left table a told rest lost modified at left c.in_default.ensures.none)

pub returns-then-count_kept-ge-MOST_MANAGERS : goal.returns-then-count_kept-ge-MOST_MANAGERS
returns-then-count_kept-ge-MOST_MANAGERS c =
    let table = c.args.managers.now in
    let a = key_view c.args.key.now in
    let es = c.entries-table.result.now in
    let same = c.entries-table.ensures.same in
    let cs = c.in_ok-entries.entries in
    let told = c.args.owned in
    let lost = c.args.lost.now in
    let modified = c.args.modified.now in
    let at = c.args.at in
    let owned = unwrap_or told (owned_by table a) in
    let made = reseated-are table a owned lost modified at es cs.items c.is_empty-changed.result same c.is_empty-changed.ensures c.in_ok-entries.ensures.each
    (c.in_ok-entries.ensures.made
    ∙ ap (λ t. filter owns (map (reseated a (unwrap_or told (owned_by t a)) lost (not c.is_empty-changed.result) at) (table_view es))) same) in
    let rest = c.reseated_entries.new.owned in
    let left : IsLeft table a told rest = record {
      taken = λ known. c.in_ok-entries.ensures.taken (ap (λ t. is_in_table t a) same ∙ known);
      left = λ unknown. c.in_ok-entries.ensures.left (ap (λ t. is_in_table t a) same ∙ unknown);
    } in
    let new = some-left table a told rest c.in-Some.set left c.in-Some.ensures.some.0 in
    let is = seat-newcomer table a owned lost modified at new.0 (ap is_empty new.1 ∙ c.in-Some.ensures.some.1) in
    let kept = c.count_kept.ensures.count table (ap length c.deref.ensures.value ∙ made.0)
    ∙ ap (λ ds. length (changed_entries ds table)) c.deref.ensures.value in
    newcomer-many table a owned lost modified at cs.items made is (let full : most_managers ≤ length (changed_entries cs.items table) = omega arith in full)

pub returns : goal.returns
returns c =
    let table = c.args.managers.now in
    let a = key_view c.args.key.now in
    let es = c.entries-table.result.now in
    let same = c.entries-table.ensures.same in
    let cs = c.in_ok-entries.entries in
    let told = c.args.owned in
    let lost = c.args.lost.now in
    let modified = c.args.modified.now in
    let at = c.args.at in
    let owned = unwrap_or told (owned_by table a) in
    let made = reseated-are table a owned lost modified at es cs.items c.is_empty-changed.result same c.is_empty-changed.ensures c.in_ok-entries.ensures.each
    (c.in_ok-entries.ensures.made
    ∙ ap (λ t. filter owns (map (reseated a (unwrap_or told (owned_by t a)) lost (not c.is_empty-changed.result) at) (table_view es))) same) in
    let rest = c.reseated_entries.new.owned in
    let left : IsLeft table a told rest = record {
      taken = λ known. c.in_ok-entries.ensures.taken (ap (λ t. is_in_table t a) same ∙ known);
      left = λ unknown. c.in_ok-entries.ensures.left (ap (λ t. is_in_table t a) same ∙ unknown);
    } in
    let new = some-left table a told rest c.in-Some.set left c.in-Some.ensures.some.0 in
    let is = seat-newcomer table a owned lost modified at new.0 (ap is_empty new.1 ∙ c.in-Some.ensures.some.1) in
    let kept = c.count_kept.ensures.count table (ap length c.deref.ensures.value ∙ made.0)
    ∙ ap (λ ds. length (changed_entries ds table)) c.deref.ensures.value in
    newcomer-leads table a owned lost modified at cs _ made c.entries-table.ensures.held c.requires new.0
    (λ i. record { manager = c.in_ok-key.ensures i; owned = sym new.1 i; moment = at }) is
    (let fits : length (changed_entries cs.items table) + 1 ≤ most_managers = omega arith in fits)
