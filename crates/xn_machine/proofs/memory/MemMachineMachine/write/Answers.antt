-- The record gets a call more, and the bytes that it wrote.
use Rattle.std.proofs.Common.{◌≡◌, [], ◌∷◌, ◌++◌, length, arith}
use Rattle.std.proofs.lemmas.Grind.{common_steps}
use Rattle.xn_machine.proofs.RecordLemmas.{record-write}
use Rattle.xn_machine.specs.declared.memory.Call.TheVariants.{Write}
use Rattle.xn_machine.proofs.memory.MemMachineMachine.write.Goals as goal

pub invariant_of-self-2 : goal.invariant_of-self-2
invariant_of-self-2 c =
    let written : c.extend_from_slice.new.self.items ≡ c.self.inside.written.items ++ c.args.bytes.now = grind (arith, common_steps) in
    let pushed : c.push.new.self.items ≡ c.self.inside.done.items ++ Write c.args.sector (length c.args.bytes.now) ∷ [] = grind (arith, common_steps) in
    record {
      whole = grind (arith, common_steps);
      as_long = grind (arith, common_steps);
      done = grind (arith, common_steps);
      calls = grind (arith, common_steps);
      written = grind (arith, common_steps);
      told = grind (arith, common_steps);
      counts = c.self.invariant.counts;
      recorded = record-write c.args.sector c.args.bytes.now c.self.invariant.recorded pushed written (grind (arith, common_steps));
    }
