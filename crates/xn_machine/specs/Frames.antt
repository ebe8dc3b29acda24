-- What a call that only reads a machine leaves of it.
use Rattle.std.specs.Prelude.{◌≡◌, ◌≤◌}
use Rattle.std.proofs.Common.{refl, ◌∙◌, arith}
use Rattle.xn_machine.specs.declared.machine.Machine.{Ghosts}

-- A machine that was only read: its image, its length and what it told are as before, and no count fell.
pub record MachineStays {M : Type 0} (machine : Ghosts M) (old new : M) : Type 0 where
  pub image_stays : machine.image new ≡ machine.image old
  pub told_stays : machine.told new ≡ machine.told old
  pub length_stays : machine.sector_count new ≡ machine.sector_count old
  pub reads_later : machine.reads old ≤ machine.reads new
  pub read_faults_later : machine.read_faults old ≤ machine.read_faults new
  pub write_faults_later : machine.write_faults old ≤ machine.write_faults new
  pub say_faults_later : machine.say_faults old ≤ machine.say_faults new

module _ {M : Type 0} (machine : Ghosts M) where
  pub stays_at_first : (m : M) → MachineStays machine m m
  stays_at_first m = record {
    image_stays = refl;
    told_stays = refl;
    length_stays = refl;
    reads_later = omega arith;
    read_faults_later = omega arith;
    write_faults_later = omega arith;
    say_faults_later = omega arith;
  }

  pub stays_on : (m n o : M) → MachineStays machine m n → MachineStays machine n o → MachineStays machine m o
  stays_on m n o a b = record {
    image_stays = b.image_stays ∙ a.image_stays;
    told_stays = b.told_stays ∙ a.told_stays;
    length_stays = b.length_stays ∙ a.length_stays;
    reads_later = omega arith;
    read_faults_later = omega arith;
    write_faults_later = omega arith;
    say_faults_later = omega arith;
  }
