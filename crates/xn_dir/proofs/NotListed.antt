-- What the answer for an entry that is not listed says of all the entries.
use Rattle.std.proofs.Common.{◌≡◌, List, Bool, false, Result, Ok, Err, IfOk, IfErr, MatchResult, sym, subst}
use Rattle.xn_bytes.specs.Entries.{Entry}
use Rattle.xn_inode.specs.declared.fork_fault.ForkFault.{ForkFault}
use Rattle.xn_inode.specs.declared.fork_fault.ForkFault.TheVariants.{Memory}
use Rattle.xn_dir.specs.declared.listing.Listed.{Listed}
use Rattle.xn_dir.specs.Gathering.{Lists}

pub lists_none : (Named : Type 0) (before now : List Listed) (entries : List Entry) (r : Result Bool ForkFault) → MatchResult r (λ are_names. (are_names ≡ false) × ¬ Named) (λ fault. fault ≡ Memory) → (¬ Named → Lists before now false entries)
    → IfOk r (λ are_names. Lists before now are_names entries)
lists_none Named before now entries (Ok are_names) answer lists = subst (λ (b : Bool). Lists before now b entries) (sym answer.0) (lists answer.1)
lists_none Named before now entries (Err fault) answer lists = tt

pub only_memory : (P : Bool → Type 0) (r : Result Bool ForkFault) → MatchResult r P (λ fault. fault ≡ Memory) → IfErr r (λ fault. fault ≡ Memory)
only_memory P (Ok are_names) answer = tt
only_memory P (Err fault) answer = answer
