use Rattle.std.proofs.Common.{◌∙◌, rules, arith}
use Rattle.std.proofs.lemmas.Iterator.{YieldsList-from_slice}
use Rattle.planner.specs.Numbers.{with_digit}
use Rattle.planner.proofs.Folds.{try_fold_from_yields_List}
use Rattle.planner.proofs.Digits.{parsed}
use Rattle.planner.proofs.numbers.number.Goals as goal

pub returns-in_default : goal.returns-in_default
returns-in_default c = try_fold_from_yields_List _ with_digit _ _ _ c.try_fold.ensures.ran (YieldsList-from_slice c.args.line.now cc) (λ a x b q k. search rules) ∙ parsed c.args.line.now (omega arith)
