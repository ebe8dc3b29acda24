use Rattle.std.proofs.Common.{◌≡◌, ◌∙◌, ◌*◌, length, arith}
use Rattle.xn_ring.proofs.Labelling.{written_back}
use Rattle.xn_ring.proofs.ReadPieces.{straight_told}
use Rattle.xn_ring.proofs.reading.read_straight.Goals as goal

pub returns-in_err-read-clause-only_read : goal.returns-in_err-read-clause-only_read
returns-in_err-read-clause-only_read g c = record {
  image_stays = c.read.ensures.image;
  told_stays = c.read.ensures.told;
  length_stays = c.read.ensures.length;
  reads_later = omega (arith, c.read.ensures.counts, c.requires.log.small.2);
  read_faults_later = c.read.ensures.cause.later;
  write_faults_later = c.read.ensures.write_faults;
  say_faults_later = c.read.ensures.say_faults;
}

pub returns-clause-only_read : goal.returns-clause-only_read
returns-clause-only_read g c = record {
  image_stays = c.read.ensures.image;
  told_stays = c.read.ensures.told;
  length_stays = c.read.ensures.length;
  reads_later = omega (arith, c.read.ensures.counts, c.requires.log.small.2);
  read_faults_later = c.read.ensures.cause.later;
  write_faults_later = c.read.ensures.write_faults;
  say_faults_later = c.read.ensures.say_faults;
}

pub returns-clause-bytes : goal.returns-clause-bytes
returns-clause-bytes g c =
    let len : length c.deref_mut.result.now ≡ 512 * c.args.count = omega (arith, c.deref_mut.ensures.len, c.in_ok-bytes.ensures.len) in
    let long : length c.read.new.into ≡ c.in_ok-bytes.bytes.len = c.read.auto.into ∙ c.deref_mut.ensures.len in
    straight_told c.args.geometry.now (g.M.Machine.image c.args.machine.now) (g.M.Machine.sector_count c.args.machine.now) c.args.from c.args.count _ _ _ _
    c.requires.log.length c.requires.log.there c.requires.within (omega (arith, c.first_log_sector.ensures, c.from.ensures)) len
    (written_back c.in_ok-bytes.bytes.len c.read.new.into c.in_ok-bytes.bytes.items long) c.in_ok-read.ensures.sectors
