-- A machine seen through a view.
use Rattle.std.specs.Prelude.{◌≡◌, ℕ, ◌*◌, ◌^◌, ◌<◌, ◌≤◌, List, length, Option, IfSome}
use Rattle.std.proofs.Common.{refl, ◌∙◌}
use Rattle.xn_machine.specs.declared.machine.Machine.{Ghosts}
use Rattle.xn_machine.specs.Frames.{MachineStays, stays_at_first, stays_on}
use Rattle.xn_replay.specs.Overlay.{ViewState, AreKept}

-- The machine has all blocks of the view's image, and what is kept has its place among them; and the numbers are within
-- their types.
pub record IsSeen (view : ViewState) (image : Option (List ℕ)) (sectors read_faults reads : ℕ) : Type 0 where
  pub all_blocks : 8 * view.shape.data_blocks ≤ sectors
  pub length : IfSome image (λ x. length x ≡ 512 * sectors)
  pub kept : AreKept sectors view.kept
  pub small : (sectors < 2 ^ 64) × (read_faults < 2 ^ 64) × (reads < 2 ^ 64)

-- The view and the machine were only read.
pub record WasOnlyRead {M : Type 0} (machine : Ghosts M) (view view' : ViewState) (old new : M) : Type 0 where
  pub view_stays : view' ≡ view
  pub machine_stays : MachineStays machine old new

module _ {M : Type 0} (machine : Ghosts M) where
  pub read_at_first : (v : ViewState) (m : M) → WasOnlyRead machine v v m m
  read_at_first v m = record { view_stays = refl; machine_stays = stays_at_first machine m }

  pub read_on : (u v w : ViewState) (m n o : M) → WasOnlyRead machine u v m n → WasOnlyRead machine v w n o → WasOnlyRead machine u w m o
  read_on u v w m n o a b = record { view_stays = b.view_stays ∙ a.view_stays; machine_stays = stays_on machine m n o a.machine_stays b.machine_stays }
