use Rattle.std.proofs.Common.{map, subst}
use Rattle.std.specs.List.Sorted.{IsPermutation, IsStrictlyIncreasing}
use Rattle.ssa_schema.specs.Repeats.{key_tag}
use Rattle.ssa_schema.proofs.DistinctTags.{rising-tags}
use Rattle.ssa_schema.proofs.fit.distinct_tags.have_distinct_tags.Goals as goal

pub returns : goal.returns
returns c t =
    let keys = c.args.keys.now in
    let sorted = c.sort.new.self.items in
    let moved : IsPermutation (map key_tag keys) sorted =
    subst (λ tags. IsPermutation tags sorted) c.in_ok-tags.ensures c.in_ok-sort.ensures.permutation in
    rising-tags keys sorted moved (subst IsStrictlyIncreasing c.deref.ensures.value (c.rise.ensures t))
