use Rattle.house.proofs.Charged.{on_the_sheet}
use Rattle.house.proofs.laws.draw_is_on_the_sheet.Goals as goal

-- named on the function instead, the lemma does not close the goal, which asks for a row of the sheet
pub returns : goal.returns
returns c = on_the_sheet
