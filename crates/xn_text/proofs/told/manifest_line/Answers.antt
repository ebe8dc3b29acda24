use Rattle.std.proofs.Common.{ℕ, ap, sym, ◌∙◌, append_assoc}
use Rattle.std.specs.Global.{Vec}
use Rattle.xn_text.proofs.told.manifest_line.Goals as goal

pub returns : goal.returns
returns c = ap (λ (v : Vec ℕ). v.items) c.into_bytes.ensures.value ∙ c.in_ok-text.ensures.ok ∙ sym (simp append_assoc)
