-- An item that is taken from regions, and what its parts say.
use Rattle.std.specs.Prelude.{◌≡◌, ℕ, ◌-◌, ◌&&◌, if◌then◌else◌, List, Result, Ok, Err}
use Rattle.xn_items.specs.declared.parent.ParentRec.{ParentRec}
use Rattle.xn_changes.specs.declared.intent.Act.{Act}
use Rattle.xn_changes.specs.declared.intent.Act.TheVariants.{Replace}
use Rattle.xn_changes.specs.declared.item.Item.TheVariants.{Buffer}
use Rattle.xn_changes.specs.Items.{Reason, Malformed, Taken as TakenItem, buffer_item_in, buffer_regions, holds_name, holds_value, if_lawful, is_lawful_buffer, is_lawful_one, is_lawful_replace, new_parent_in, old_parent_in, one_parent_in, parent_in, regions_said}
use Rattle.xn_transactions.specs.declared.fault.Refusal.{Refusal}
use Rattle.xn_transactions.specs.declared.taken.Taken.{Taken}
use Rattle.xn_transactions.specs.Faults.{IsRefused}

-- what was taken, or why nothing was
abbrev pub Takes : Result TakenItem Reason → Result Taken Refusal → Type 0
Takes said (Ok taken) = said ≡ Ok (record { item = taken.item; behind = taken.behind })
Takes said (Err refusal) = IsRefused said refusal

-- what a part of an item says, or why it says nothing
abbrev pub Says : {X : Type 0} → Result X Reason → Result X Refusal → Type 0
Says said (Ok x) = said ≡ Ok x
Says said (Err refusal) = IsRefused said refusal

-- a buffer that is changed, of a kind that is known
abbrev pub take_changed : List ℕ → List (List ℕ) → Result TakenItem Reason
take_changed first rest =
    if_lawful (is_lawful_buffer first rest) (record { item = Buffer (buffer_item_in first (buffer_regions first rest)); behind = regions_said first - 1 })

-- the parent record with a name of so many bytes in a region, and a value
abbrev pub parent_said : ℕ → List ℕ → List ℕ → Result ParentRec Reason
parent_said bytes name value =
    if holds_name bytes name && holds_value value then Ok (parent_in bytes name value) else Err Malformed

-- the parent record of a set or a remove
abbrev pub one_said : List ℕ → List (List ℕ) → Result ParentRec Reason
one_said first rest = if is_lawful_one first rest then Ok (one_parent_in first rest) else Err Malformed

-- both parent records of a replace
abbrev pub replace_said : List ℕ → List (List ℕ) → Result Act Reason
replace_said first rest =
    if is_lawful_replace first rest then Ok (Replace (old_parent_in first rest) (new_parent_in first rest)) else Err Malformed
