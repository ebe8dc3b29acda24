-- The fields of a machine in memory, as its contracts see them, and what its memory is enough for.
use Rattle.std.specs.Prelude.{◌≡◌, ◌+◌, ◌%◌, ◌^◌, ◌<◌, ◌≤◌, length}
use Rattle.std.specs.Vec.{vec_len, vec_capacity}
use Rattle.xn_machine.specs.Memory.{MachineState, IsRecorded}
use Rattle.xn_machine.specs.declared.memory.MemMachine.TheInside.{Inside}

abbrev pub state_of : Inside → MachineState
state_of m = record {
  original = m.original.items;
  image = m.image.items;
  told = m.told.items;
  done = m.done.items;
  written = m.written.items;
  fails = m.fails.items;
  stop = m.stop;
  calls = m.calls;
  room = m.room;
  made = m.made;
  reads = m.reads;
  read_faults = m.read_faults;
  write_faults = m.write_faults;
  say_faults = m.say_faults;
}

-- The image is whole sectors and as long as at first, each call that may succeed has room in the record, and the
-- record accounts for what is there.
pub record IsSound (m : Inside) : Type 0 where
  pub whole : length m.image.items % 512 ≡ 0
  pub as_long : length m.image.items ≡ length m.original.items
  pub done : vec_len m.done ≤ m.made
  pub calls : m.calls ≤ vec_capacity m.done
  pub written : vec_len m.written + m.room ≤ vec_capacity m.written
  pub told : vec_len m.told + m.room ≤ vec_capacity m.told
  pub counts : (m.reads < 2 ^ 64) × (m.read_faults < 2 ^ 64) × (m.write_faults < 2 ^ 64) × (m.say_faults < 2 ^ 64)
  pub recorded : IsRecorded (state_of m)
