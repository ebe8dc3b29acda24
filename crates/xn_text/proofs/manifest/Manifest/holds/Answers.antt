use Rattle.std.proofs.Common.{rules, leb, ◌≡◌, ◌<◌, false, true, ℕ, List, subst, sym, arith}
use Rattle.std.specs.Prelude.{◌↔◌, IsTrue}
use Rattle.std.specs.List.Sorted.{IsPartitionedBy}
use Rattle.std.proofs.lemmas.List.Sorted.{IsPartitionPoint-from_clause, IsPartitionedBy-leb}
use Rattle.xn_meaning.specs.Manifests.{Lists, Manifest as Said}
use Rattle.xn_text.specs.Manifest.{said_in}
use Rattle.xn_text.proofs.HoldsLemmas.{IsPlace, rising, none_lists, last_lists}
use Rattle.xn_text.proofs.manifest.Manifest.holds.Goals as goal

pub returns-then-after-eq0 : goal.returns-then-after-eq0
returns-then-after-eq0 c =
    let parted = IsPartitionedBy-leb (λ (chunk : ℕ × ℕ). chunk.0) c.self.inside.chunks.items c.args.number (rising 0 c.self.inside.chunks.items c.self.invariant.chunks) in
    let found = IsPartitionPoint-from_clause (λ (chunk : ℕ × ℕ). leb chunk.0 c.args.number) c.deref.result.now c.partition_point-after.result c.partition_point-after.ensures.partitioned
    (subst (IsPartitionedBy (λ (chunk : ℕ × ℕ). leb chunk.0 c.args.number)) (sym c.deref.ensures.value) parted) (λ a r q k. search rules) in
    let place = subst (λ (chunks : List (ℕ × ℕ)). IsPlace chunks c.args.number c.partition_point-after.result) c.deref.ensures.value found in (
      λ never. let no : false ≡ true = never in absurd cc,
      λ lists. absurd (none_lists (said_in c.self.inside) c.args.number c.partition_point-after.result c.self.invariant.chunks (omega arith) place c.if-after-eq0.true
          (subst (λ (m : Said). Lists m c.args.number) (sym c.self.view_is) lists)),
    )

pub returns : goal.returns
returns c =
    let parted = IsPartitionedBy-leb (λ (chunk : ℕ × ℕ). chunk.0) c.self.inside.chunks.items c.args.number (rising 0 c.self.inside.chunks.items c.self.invariant.chunks) in
    let found = IsPartitionPoint-from_clause (λ (chunk : ℕ × ℕ). leb chunk.0 c.args.number) c.deref.result.now c.partition_point-after.result c.partition_point-after.ensures.partitioned
    (subst (IsPartitionedBy (λ (chunk : ℕ × ℕ). leb chunk.0 c.args.number)) (sym c.deref.ensures.value) parted) (λ a r q k. search rules) in
    let place = subst (λ (chunks : List (ℕ × ℕ)). IsPlace chunks c.args.number c.partition_point-after.result) c.deref.ensures.value found in
    let some : 0 < c.partition_point-after.result = omega (arith, c.if-after-eq0.false) in
    subst (λ (m : Said). IsTrue c.lists.result ↔ Lists m c.args.number) c.self.view_is
    (last_lists (said_in c.self.inside) c.args.number c.partition_point-after.result c.self.invariant.chunks (omega arith) place c.index.result.now c.lists.result some c.index.ensures c.lists.ensures)
