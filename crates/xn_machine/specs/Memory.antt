-- A machine in memory as contracts see it, which of its calls fail, and what each call leaves.
use Rattle.std.specs.Prelude.{◌⊎◌, ℕ, ◌+◌, ◌-◌, ◌<◌, List, [], ◌∷◌, ◌++◌, length, Contains, Option, IsSomeAnd}
use Rattle.xn_bytes.specs.Causes.{counted}
use Rattle.xn_machine.specs.Device.{written_at}
use Rattle.xn_machine.specs.Record.{IsRecord}
use Rattle.xn_machine.specs.declared.memory.Call.{Call}
use Rattle.xn_machine.specs.declared.memory.Call.TheVariants.{Read, Write, Sync, Say}

-- The machine: its first image and the one now, what it told, its record, and when its calls fail.
-- `done` are the calls that succeeded, in their order, and `written` the bytes of those that wrote, one after another.
-- `made` counts the calls; `room` is how many bytes may yet be written and told.
pub record MachineState : Type 0 where
  pub original : List ℕ
  pub image : List ℕ
  pub told : List ℕ
  pub done : List Call
  pub written : List ℕ
  pub fails : List ℕ
  pub stop : Option ℕ
  pub calls : ℕ
  pub room : ℕ
  pub made : ℕ
  pub reads : ℕ
  pub read_faults : ℕ
  pub write_faults : ℕ
  pub say_faults : ℕ

-- the record accounts for what is there
abbrev pub IsRecorded : MachineState → Type 0
IsRecorded m = IsRecord m.original m.done m.written m.image m.told

-- a machine before its first call
abbrev pub fresh : List ℕ → List ℕ → Option ℕ → ℕ → ℕ → MachineState
fresh image fails stop calls room = record {
  original = image;
  image = image;
  told = [];
  done = [];
  written = [];
  fails = fails;
  stop = stop;
  calls = calls;
  room = room;
  made = 0;
  reads = 0;
  read_faults = 0;
  write_faults = 0;
  say_faults = 0;
}

-- Every call from now on fails: the next comes after the stop, or after the last that the record has room for.
abbrev pub IsOver : MachineState → Type 0
IsOver m = IsSomeAnd m.stop (λ stop. stop < m.made + 1) ⊎ (m.calls < m.made + 1)

-- The next call fails for its number.
abbrev pub FailsNext : MachineState → Type 0
FailsNext m = Contains m.fails (m.made + 1) ⊎ IsOver m

-- It fails for its number, or for so many bytes.
abbrev pub FailsNextWith : MachineState → ℕ → Type 0
FailsNextWith m bytes = FailsNext m ⊎ (m.room < bytes)

-- ---- what a call leaves that succeeds

abbrev pub after_read : MachineState → MachineState
after_read m = record m { done = m.done ++ Read ∷ []; made = counted m.made; reads = counted m.reads }

abbrev pub after_write : MachineState → ℕ → List ℕ → MachineState
after_write m sector bytes = record m {
  image = written_at m.image sector bytes;
  done = m.done ++ Write sector (length bytes) ∷ [];
  written = m.written ++ bytes;
  room = m.room - length bytes;
  made = counted m.made;
}

abbrev pub after_sync : MachineState → MachineState
after_sync m = record m { done = m.done ++ Sync ∷ []; made = counted m.made }

abbrev pub after_say : MachineState → List ℕ → MachineState
after_say m bytes = record m {
  told = m.told ++ bytes;
  done = m.done ++ Say (length bytes) ∷ [];
  room = m.room - length bytes;
  made = counted m.made;
}

-- ---- and one that fails

abbrev pub after_failed_read : MachineState → MachineState
after_failed_read m = record m { made = counted m.made; reads = counted m.reads; read_faults = counted m.read_faults }

abbrev pub after_failed_write : MachineState → MachineState
after_failed_write m = record m { made = counted m.made; write_faults = counted m.write_faults }

abbrev pub after_failed_say : MachineState → MachineState
after_failed_say m = record m { made = counted m.made; say_faults = counted m.say_faults }
