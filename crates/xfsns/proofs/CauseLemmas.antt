-- A read that failed has its cause: from a command's result to the answer's, and from the command to any words that ask
-- for it.
use Rattle.std.proofs.Common.{◌≡◌, ℕ, ◌≤◌, List, Option, Result, Err, inl, inr, refl, arith}
use Rattle.std.specs.Prelude.{IfErr}
use Rattle.std.proofs.lemmas.Result.{IfErr-at_err}
use Rattle.xn_bytes.specs.Causes.{Rose}
use Rattle.xn_rules.specs.Outcome.{AsksToRead}
use Rattle.xfsns.specs.declared.home.Said.{Said}
use Rattle.xn_text.specs.declared.words.Words.{Words}
use Rattle.xn_text.specs.declared.words.Words.TheVariants as commands
use Rattle.xn_text.specs.Asked.{AsksFor}
use Rattle.xn_ns.specs.declared.fault.SeeFault.{SeeFault}
use Rattle.xn_ns.specs.declared.fault.SeeFault.TheVariants as see
use Rattle.xfsns.specs.declared.answer.Fault.{Fault}
use Rattle.xfsns.specs.declared.answer.Fault.TheVariants as faults
use Rattle.xfsns.specs.Answer.{HasReadCause, ReadRose}

-- the cause of a command's fault is that of the answer's
pub cause_of_answer : (before between now : ℕ) (ended : Result Said SeeFault) → before ≤ between → IfErr ended (λ f. f ≡ see.Read → Rose between now) → ended ≡ Err see.Read → Rose before now
cause_of_answer before between now ended later cause read = let rose = IfErr-at_err (λ f. f ≡ see.Read → Rose between now) read cause refl in omega (arith, later, rose)

asks_to_read : (words : List (List ℕ)) (command : Words) → AsksFor words command → AsksToRead words
asks_to_read words (commands.List ino) asks = inl (ino, asks)
asks_to_read words (commands.Resolve path) asks = inr (inl (path, asks))
asks_to_read words (commands.Parents ino) asks = inr (inr (inl (ino, asks)))
asks_to_read words commands.Check asks = inr (inr (inr asks))

-- the words ask to read, as the command does that was read from them
pub cause_for_words : (words : List (List ℕ)) (command : Words) (manifest : Option (List ℕ)) (before now source_before source_now : ℕ) (fault : Fault) → AsksFor words command
    → (fault ≡ faults.Read → ReadRose manifest before now source_before source_now) → HasReadCause words manifest before now source_before source_now fault
cause_for_words words command manifest before now source_before source_now faults.Read asks rose = (asks_to_read words command asks, rose refl)
cause_for_words words command manifest before now source_before source_now faults.Memory asks rose = tt
