-- The record gets a call more, which changed nothing.
use Rattle.std.proofs.Common.{◌≡◌, [], ◌∷◌, ◌++◌, arith}
use Rattle.std.proofs.lemmas.Grind.{common_steps}
use Rattle.xn_machine.proofs.RecordLemmas.{record-read}
use Rattle.xn_machine.specs.declared.memory.Call.TheVariants.{Read}
use Rattle.xn_machine.proofs.memory.MemMachineMachine.read.Goals as goal

pub invariant_of-self-2 : goal.invariant_of-self-2
invariant_of-self-2 c =
    let pushed : c.push.new.self.items ≡ c.self.inside.done.items ++ Read ∷ [] = grind (arith, common_steps) in
    let recorded = record-read c.self.invariant.recorded pushed in
    grind (arith, common_steps, recorded)
