use Rattle.std.proofs.Common.{◌≡◌, ap, ◌∙◌, rules, of_calls}
use Rattle.std.specs.Prelude.{fold}
use Rattle.std.proofs.lemmas.Iterator.{YieldsList-from_slice}
use Rattle.std.proofs.lemmas.Iterator.Consumers.{fold_from_yields_List}
use borrow.Author.Tests.{tests}
use Rattle.protocol.specs.Holdings.{jobs_of}
use Rattle.protocol.specs.Places.{placed}
use Rattle.protocol.specs.declared.places.PlaceSet.{PlaceSet}
use Rattle.holders.specs.Sets.{nobody}
use Rattle.holders.proofs.Joins.{none_join}
use Rattle.holders.proofs.Chains.{with_job, jobs_folded}
use Rattle.holders.proofs.gathering.jobs_passing.Goals as goal

pub returns : goal.returns
returns g c = λ test said.
    let hs = c.args.holdings.now in
    let folded : c.fold.result ≡ fold (with_job test) nobody hs = fold_from_yields_List _ (with_job test) _ _ c.fold.ensures.ran (YieldsList-from_slice hs cc) (λ a x b q k. search (rules, tests, of_calls, said)) in
    ap (λ (s : PlaceSet). s.mask) folded ∙ jobs_folded test hs nobody ∙ none_join (placed (jobs_of test hs))
