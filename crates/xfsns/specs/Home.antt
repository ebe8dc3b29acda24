-- What reading the superblock finds, and how a command ends over an image.
use Rattle.std.specs.Prelude.{◌≡◌, ℕ, List, [], Option, Some, None, IfSome, Result, Ok, Err, IfErr}
use Rattle.xn_bytes.specs.Causes.{Rose}
use Rattle.xn_bytes.specs.Superblock.{Geometry}
use Rattle.xn_rules.specs.Outcome.{HasSuperblock, geometry_in}
use Rattle.xn_meaning.specs.NameSpace.{End, Says, Sums}
use Rattle.xn_replay.specs.Overlay.{ViewState}
use Rattle.xn_text.specs.Viewed.{reply_of, summary_of}
use Rattle.xn_ns.specs.declared.fault.SeeFault.{SeeFault}
use Rattle.xn_ns.specs.declared.fault.SeeFault.TheVariants as see
use Rattle.xn_ns.specs.Ends.{fault_end}
use Rattle.xfsns.specs.declared.home.Said.{Said}
use Rattle.xfsns.specs.declared.home.Said.TheVariants as said

-- A superblock that was found is that of the image; none was found where none is accepted.
abbrev pub FindsSuper : Option (List ℕ) → Option Geometry → Type 0
FindsSuper image None = IfSome image (λ x. ¬ HasSuperblock x)
FindsSuper image (Some g) = IfSome image (λ x. HasSuperblock x × (g ≡ geometry_in x))

-- the view of the home sectors alone, with a pool
abbrev pub home_view : Geometry → List ℕ → List ℕ → ViewState
home_view g blocks free = record { shape = g; kept = []; blocks = blocks; free = free }

-- ---- how a command ends

-- what a command says
abbrev pub end_of_said : Said → End
end_of_said (said.Reply reply) = Says (reply_of reply)
end_of_said (said.Summary summary) = Sums (summary_of summary)

-- how it ended
abbrev pub end_said : Result Said SeeFault → Option End
end_said (Ok answer) = Some (end_of_said answer)
end_said (Err fault) = fault_end fault

-- It ended as it does over the image, where one is told. Reading failed only where the count of faults rose.
pub record Ended (EndsWith : List ℕ → End → Type 0) (image : Option (List ℕ)) (before now : ℕ) (result : Result Said SeeFault) : Type 0 where
  pub ends : IfSome (end_said result) (λ end. IfSome image (λ x. EndsWith x end))
  pub cause : IfErr result (λ fault. fault ≡ see.Read → Rose before now)
