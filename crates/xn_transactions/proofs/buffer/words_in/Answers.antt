use Rattle.std.proofs.Common.{◌≡◌, ◌+◌, ◌*◌, ◌-◌, ◌∙◌, arith}
use Rattle.std.proofs.lemmas.Grind.{common_steps}
use Rattle.xn_transactions.proofs.MapLemmas.{words_from-none, words_with-next}
use Rattle.xn_transactions.proofs.buffer.words_in.Goals as goal

pub loop-k-preserved : goal.loop-k-preserved
loop-k-preserved c =
    let k = c.loop-k.k in
    let count = c.little_u32_at-count.result in (
      grind (arith, common_steps),
      rw (c.in_ok-push.ensures.items, c.little_u32_at.ensures)
          (words_with-next c.loop-k.words.items (20 + 4 * k) (20 + 4 * (k + 1)) (count - k) (count - (k + 1)) c.args.first.now (omega arith) (omega arith) ∙ c.loop-k.invariant.1),
    )

pub returns : goal.returns
returns c =
    let none : c.little_u32_at-count.result - c.loop-k.k ≡ 0 = omega arith in
    let e = rw (none, words_from-none, c.little_u32_at-count.ensures) at c.loop-k.invariant.1 in
    record { words = grind (arith, common_steps); few = omega arith }
