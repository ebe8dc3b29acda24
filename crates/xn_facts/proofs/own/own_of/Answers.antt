use Rattle.std.proofs.Common.{map, refl, inl, inr}
use Rattle.xn_bytes.specs.AttributeForks.{HasOwnInode}
use Rattle.xn_facts.specs.Facts.{mapped_of}
use Rattle.xn_facts.proofs.Owning.{first_count, known_by, no_count}
use Rattle.xn_facts.proofs.own.own_of.Goals as goal

pub returns-in-Some-clause-own : goal.returns-in-Some-clause-own
returns-in-Some-clause-own c =
    let core = rw c.in-Ok.is at c.requires.core in
    let listed = rw c.in-Some.is at c.in_ok-runs.ensures.runs in
    let own : HasOwnInode c.args.geometry.now c.args.inode.now c.args.ino = record { core = core.0; forks = core.1; lists = listed.0 } in
    record {
      known = known_by c.args.geometry.now c.args.inode.now c.args.ino c.in-Ok.core c.known_of.result core.0 core.1 core.2 c.known_of.ensures;
      runs = inl (own, listed.1);
      broken =
          first_count c.args.geometry.now c.args.inode.now c.args.ino c.in-Ok.core (map mapped_of c.in-Some.runs.items) own core.2 listed.1 c.broken_count-broken.result
          (rw c.deref.ensures.value at c.broken_count-broken.ensures);
    }

pub returns-in-None-clause-own : goal.returns-in-None-clause-own
returns-in-None-clause-own c =
    let core = rw c.in-Ok.is at c.requires.core in
    let unlisted = rw c.in-None.is at c.in_ok-runs.ensures.runs in
    record {
      known = known_by c.args.geometry.now c.args.inode.now c.args.ino c.in-Ok.core c.known_of.result core.0 core.1 core.2 c.known_of.ensures;
      runs = inr (λ own. unlisted own.lists, rw c.new-in-None.ensures.items refl);
      broken = no_count c.args.geometry.now c.args.inode.now c.args.ino (λ own. unlisted own.lists);
    }
