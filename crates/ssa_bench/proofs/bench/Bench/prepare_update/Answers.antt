use Rattle.std.proofs.Common.{ap, sym, subst, ◌∙◌, string_bytes}
use Rattle.std.specs.Prelude.{Ok, Err, codes}
use Rattle.ssa_model.specs.definitions.Answers.{Answer}
use Rattle.ssa_json.specs.View.{view}
use Rattle.ssa_path.specs.Subresources.{part_view}
use Rattle.ssa_merge.specs.States.{actor}
use Rattle.ssa_bench.specs.Benches.{IsPrepared, tested_body, update_answer}
use Rattle.ssa_bench.proofs.Planned.{told-first, with_body-tested}
use Rattle.ssa_bench.proofs.bench.Bench.prepare_update.Goals as goal

pub returns-in-Ok : goal.returns-in-Ok
returns-in-Ok c =
    let bench = c.args.self.now in
    let who = actor (string_bytes c.args.who) (part_view c.args.part) in
    let v = view c.args.object in
    let prepares : Answer → Type 0 = λ a. IsPrepared bench c.prepare_replacement.result a (codes "update") in
    let named = ap (λ n. tested_body bench (actor n (part_view c.args.part)) v) (sym c.as_str.ensures.value) ∙ c.in-Ok.ensures.given in
    subst prepares (sym (with_body-tested bench who v (update_answer bench who c.args.at) (Ok c.in-Ok.body) named)) c.prepare_replacement.ensures

pub returns-in-Err : goal.returns-in-Err
returns-in-Err c =
    let bench = c.args.self.now in
    let who = actor (string_bytes c.args.who) (part_view c.args.part) in
    let v = view c.args.object in
    told-first bench (codes "update") c.in-Err.fault (tested_body bench (actor c.as_str.result.now (part_view c.args.part)) v) _
    (λ g e. with_body-tested bench who v (update_answer bench who c.args.at) (Err g) (ap (λ n. tested_body bench (actor n (part_view c.args.part)) v) (sym c.as_str.ensures.value) ∙ e))
    c.in-Err.ensures.given
