-- The intents that are pending: committed, and not carried out.
use Rattle.std.specs.Prelude.{ℕ, Bool, false, ◌==◌, if◌then◌else◌, List, [], ◌∷◌}
use Rattle.std.specs.List.{list_any}
use Rattle.xn_changes.specs.declared.committed.Committed.{Committed}
use Rattle.xn_changes.specs.declared.intent.Intent.{Intent}
use Rattle.xn_changes.specs.declared.item.Item.{Item}
use Rattle.xn_changes.specs.declared.item.Item.TheVariants.{Buffer, Inode, Done, Intent as Asks}
use Rattle.xn_settled.specs.Settled.{Logged, logged_in}

-- an item says that the intent with this id is carried out
abbrev pub ends : ℕ → Item → Bool
ends id (Done other) = other == id
ends id (Buffer item) = false
ends id (Inode item) = false
ends id (Asks intent) = false

-- an intent in front of others, unless one of the items behind it ends it
abbrev pub unless_ended : Intent → List Logged → List Intent → List Intent
unless_ended intent behind others = if list_any (λ logged. ends intent.id logged.item) behind then others else intent ∷ others

abbrev pub pending_with : Item → List Logged → List Intent → List Intent
pending_with (Asks intent) behind others = unless_ended intent behind others
pending_with (Buffer item) behind others = others
pending_with (Inode item) behind others = others
pending_with (Done id) behind others = others

-- the pending intents of items, in order
unfoldable pub pending_of : List Logged → List Intent
pending_of [] = []
pending_of (logged ∷ behind) = pending_with logged.item behind (pending_of behind)

-- the pending intents of committed transactions, in order
abbrev pub pending_in : List Committed → List Intent
pending_in committed = pending_of (logged_in committed)
