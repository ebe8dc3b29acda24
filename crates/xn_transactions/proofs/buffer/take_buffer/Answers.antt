use Rattle.std.proofs.Common.{arith}
use Rattle.xn_changes.specs.Decoded.{bytes_of}
use Rattle.xn_transactions.proofs.ItemLemmas.{take_buffer-cancelled}
use Rattle.xn_transactions.proofs.buffer.take_buffer.Goals as goal

pub returns-then-is_cancelled : goal.returns-then-is_cancelled
returns-then-is_cancelled c =
    rw (take_buffer-cancelled c.args.first.now (bytes_of c.args.rest.now) (omega arith) (grind arith)) (c.take_cancelled.ensures (bytes_of c.args.rest.now))
