use Rattle.std.proofs.Common.{arith}
use Rattle.std.proofs.lemmas.Grind.{common_steps}
use Rattle.stores.proofs.Images.{values_written, values_fit}
use Rattle.stores.proofs.image.ImageStoreStore.write.Goals as goal

pub returns-clause-replaces : goal.returns-clause-replaces
returns-clause-replaces c = values_written c.args.self.now.image.items _ c.args.object c.args.value (grind (arith, common_steps, values_fit)) (omega arith) (omega arith)

pub returns-clause-whole : goal.returns-clause-whole
returns-clause-whole c = grind (arith, common_steps, values_fit)
