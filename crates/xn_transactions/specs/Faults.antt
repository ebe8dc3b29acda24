-- What a fault says, and a refusal of an item as a fault.
use Rattle.std.specs.Prelude.{◌≡◌, Result, Err}
use Rattle.xn_changes.specs.declared.committed.Place.{Place}
use Rattle.xn_changes.specs.Items.{Reason, Foreign, Malformed}
use Rattle.xn_changes.specs.Decoded.{ItemFault as FirstFault}
use Rattle.xn_transactions.specs.declared.fault.ItemFault.{ItemFault}
use Rattle.xn_transactions.specs.declared.fault.ItemFault.TheVariants as fault
use Rattle.xn_transactions.specs.declared.fault.Refusal.{Refusal}
use Rattle.xn_transactions.specs.declared.fault.Refusal.TheVariants as refusal

-- the fault of an item that begins at a place
abbrev pub fault_at : Place → Refusal → ItemFault
fault_at place refusal.Foreign = fault.Foreign place
fault_at place refusal.Malformed = fault.Malformed place
fault_at place refusal.Memory = fault.Memory

-- an item is refused for this reason, or memory ran out
abbrev pub IsRefused : {X : Type 0} → Result X Reason → Refusal → Type 0
IsRefused said refusal.Foreign = said ≡ Err Foreign
IsRefused said refusal.Malformed = said ≡ Err Malformed
IsRefused said refusal.Memory = Unit {0}

-- the first fault is this one, or memory ran out
abbrev pub IsFirstFault : {X : Type 0} → Result X FirstFault → ItemFault → Type 0
IsFirstFault said (fault.Foreign at) = said ≡ Err (record { place = at; reason = Foreign })
IsFirstFault said (fault.Malformed at) = said ≡ Err (record { place = at; reason = Malformed })
IsFirstFault said fault.Memory = Unit {0}
