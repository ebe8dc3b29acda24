use Rattle.std.proofs.Common.{◌≡◌, rules, sym, ◌∙◌, inl, inr}
use Rattle.xn_ns.proofs.sight.sight_of.Goals as goal
use Rattle.xn_ns.proofs.sight.sight_of.Goals.{then-ino-root, else-ino-root}

pub returns-then-nlink-ne0 : goal.returns-then-nlink-ne0
returns-then-nlink-ne0 c =
    λ m live.
    let core = c.in-Ok.ensures in
    record {
      directory = search rules;
      place = elim c.if-ino-root.branch [
        | then-ino-root w ↦ inl (w.if-ino-root.true ∙ c.root.ensures)
        | else-ino-root w ↦ inr (λ none.
            let links : w.nlink.result ≡ 0 = w.nlink.ensures ∙ core.2.nlink ∙ none in
            let some = rw links at (sym w.value-is ∙ c.if-nlink-ne0.true) in
            absurd cc)
      ];
    }
