-- The record gets a call more, and the output the bytes that it told.
use Rattle.std.proofs.Common.{◌≡◌, [], ◌∷◌, ◌++◌, length, arith}
use Rattle.std.proofs.lemmas.Grind.{common_steps}
use Rattle.xn_machine.proofs.RecordLemmas.{record-say}
use Rattle.xn_machine.specs.declared.memory.Call.TheVariants.{Say}
use Rattle.xn_machine.proofs.memory.MemMachineMachine.say.Goals as goal

pub invariant_of-self-2 : goal.invariant_of-self-2
invariant_of-self-2 c =
    let told : c.extend_from_slice.new.self.items ≡ c.self.inside.told.items ++ c.args.bytes.now = grind (arith, common_steps) in
    let pushed : c.push.new.self.items ≡ c.self.inside.done.items ++ Say (length c.args.bytes.now) ∷ [] = grind (arith, common_steps) in
    let recorded = record-say c.args.bytes.now c.self.invariant.recorded pushed told in
    grind (arith, common_steps, recorded)
