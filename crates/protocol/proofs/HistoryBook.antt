-- The book and its history agree on holdings and running jobs.
use Rattle.std.proofs.Common.{ℕ, List, [], ◌∙◌, subst}
use Rattle.terms.specs.declared.calls.Call.{Call}
use Rattle.terms.specs.Rule.{Rule}
use Rattle.protocol.specs.History.{history_of, blank}
use Rattle.protocol.specs.HistoryLaws.{HistoryLaws}
use Rattle.protocol.specs.Lists.{In}
use Rattle.protocol.specs.Model.{new}
use Rattle.protocol.specs.Past.{past}
use Rattle.protocol.specs.PlainRun.{plain}
use Rattle.protocol.specs.Step.{run}
use Rattle.protocol.proofs.HistoryExact.{holdings_told, running_told, number_told}
use Rattle.protocol.proofs.HistoryReads.{listed}
use Rattle.protocol.proofs.Law.{LawInvariant, law_new, law_run}

sound : (r : Rule) (robustness limit : ℕ) (first : List ℕ) (cs : List Call)
    → LawInvariant r (run r (new robustness limit first) cs) (plain r (record { values = first; pending = [] }) (past r (new robustness limit first) cs)) (history_of (past r (new robustness limit first) cs))
sound r robustness limit first cs = law_run r (new robustness limit first) (record { values = first; pending = [] }) blank cs (law_new r robustness limit first)

pub history_laws : HistoryLaws
history_laws = record {
  listed = listed;
  holdings = holdings_told;
  running = running_told;
  number = number_told;
  same_holdings = λ r robustness limit first cs. (sound r robustness limit first cs).holdings;
  same_running = λ r robustness limit first cs. (sound r robustness limit first cs).running;
  held_by_running = λ r robustness limit first cs h i.
      let s = sound r robustness limit first cs in
      s.running h.job ∙ (s.invariant.well_formed.held_by h (subst (In h) s.holdings i)).0;
}
