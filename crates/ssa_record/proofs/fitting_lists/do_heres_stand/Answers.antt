use Rattle.std.proofs.Common.{◌≡◌, ◌≤◌, length, map, ap, ◌∙◌, arith}
use Rattle.std.proofs.lemmas.List.{length-map}
use Rattle.ssa_merge.specs.Managers.{table_view}
use Rattle.ssa_record.specs.TableTests.{are_newcomers, are_places, staying_count}
use Rattle.ssa_told.specs.Told.{told_here, told_table}
use Rattle.ssa_record.proofs.FittingEntries.{off-refused, refused}
use Rattle.ssa_record.proofs.FittingPlaces.{few-refuse, places-refuse, stands-decides}
use Rattle.ssa_record.proofs.ToldTables.{places-told}
use Rattle.ssa_turn_table.specs.Tables.{keys_view}
use Rattle.ssa_record.proofs.fitting_lists.do_heres_stand.Goals as goal

pub returns-then-len-staying : goal.returns-then-len-staying
returns-then-len-staying c =
    let d = told_table c.args.told.now in
    let t = table_view c.args.entries.now in
    let n = c.count_staying-staying.result in
    let stay = c.count_staying-staying.ensures.count ∙ ap (λ ks. staying_count (keys_view ks) t) c.deref.ensures.value in
    let long = length-map c.args.told.now.here.items told_here in
    let ok = c.args.told.now.here.ok.0 in
    let is : c.len.result ≡ length d.here = omega arith in
    let most : n ≤ 64 = omega arith in
    refused (few-refuse d t c.requires.distinct n c.len.result stay is most c.if-len-staying.true)

pub returns-then-are_places : goal.returns-then-are_places
returns-then-are_places c =
    let d = told_table c.args.told.now in
    let t = table_view c.args.entries.now in
    let n = c.count_staying-staying.result in
    let stay = c.count_staying-staying.ensures.count ∙ ap (λ ks. staying_count (keys_view ks) t) c.deref.ensures.value in
    let long = length-map c.args.told.now.here.items told_here in
    let ok = c.args.told.now.here.ok.0 in
    let is : c.len.result ≡ length d.here = omega arith in
    let most : n ≤ 64 = omega arith in
    let reach = c.are_places.ensures ∙ ap (λ hs. are_places 0 n (map (λ h. h.place) hs)) c.deref-2.ensures.value
    ∙ ap (are_places 0 n) (places-told c.args.told.now.here.items) in
    let new = c.are_newcomers.ensures ∙ ap (λ hs. are_newcomers t (map (λ e. e.1) (map told_here hs))) c.deref-then-are_places.ensures.value in
    stands-decides d t c.requires.distinct n c.len.result c.are_places.result c.are_newcomers.result stay is most
    c.if-len-staying.false reach c.if-are_places.true new

pub returns-else-are_places : goal.returns-else-are_places
returns-else-are_places c =
    let d = told_table c.args.told.now in
    let t = table_view c.args.entries.now in
    let n = c.count_staying-staying.result in
    let stay = c.count_staying-staying.ensures.count ∙ ap (λ ks. staying_count (keys_view ks) t) c.deref.ensures.value in
    let reach = c.are_places.ensures ∙ ap (λ hs. are_places 0 n (map (λ h. h.place) hs)) c.deref-2.ensures.value
    ∙ ap (are_places 0 n) (places-told c.args.told.now.here.items) in
    off-refused c.are_places.result c.if-are_places.false (places-refuse d t c.requires.distinct n c.are_places.result stay reach c.if-are_places.false)
