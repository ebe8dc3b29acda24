-- Directories in short form: what the inode's bytes spell is what the directory holds.
use Rattle.std.proofs.Common.{◌≡◌, ℕ, List, ◌∷◌, refl, sym, ap, subst, inr, arith}
use Rattle.std.specs.Prelude.{Contains}
use Rattle.std.proofs.lemmas.List.Elements.{Contains-append_right}
use Rattle.xn_bytes.specs.Numbers.{number_at}
use Rattle.xn_bytes.specs.Inode.{local_format}
use Rattle.xn_bytes.specs.Entries as held
use Rattle.xn_bytes.specs.ShortDirectory.{ShortForm, ShortHolds}
use Rattle.xn_bytes.specs.Directory.{HasShortSize, short_bytes_of, HasNames}
use Rattle.xn_bytes.specs.DirectoryForms.{HoldsShort}
use Rattle.xn_short.specs.Naming.{IsFirstNamed}
use Rattle.xn_inode.specs.declared.fork_fault.ForkFault.{ForkFault}
use Rattle.xn_inode.specs.declared.fork_fault.ForkFault.TheVariants.{Read, Memory, Broken}
use Rattle.xn_inode.specs.Faults.{IsRule}
use Rattle.xn_dir.specs.Faults.{IsShortFault}

pub holds_short : (inode : List ℕ) (short : ShortForm) (entries : List held.Entry) (dotdot : ℕ) → number_at 1 5 inode ≡ local_format → HasShortSize inode × ShortHolds (short_bytes_of inode) short → entries ≡ short.entries → dotdot ≡ short.parent
    → HoldsShort inode entries dotdot
holds_short inode short entries dotdot is_local form entries_are dotdot_is = record {
  is_local = is_local;
  size = form.0;
  form = short;
  holds = form.1;
  entries_are = entries_are;
  dotdot_is = dotdot_is;
}

-- wrong names break rule 21
pub breaks_names : (inode : List ℕ) (short : ShortForm) (Fact : Type 0) (fault : ForkFault) → HasShortSize inode × ShortHolds (short_bytes_of inode) short → (HasNames short.entries → Fact) → IsRule 21 Fact fault → IsShortFault inode fault
breaks_names inode short Fact Read form part is = is
breaks_names inode short Fact Memory form part is = is
breaks_names inode short Fact (Broken rule block) form part is = inr (form.0, inr ((short, form.1), (is.0, is.1, (short, form.1, λ names. is.2 (part names)))))

-- what a look-up finds is among the entries, with the name
pub found_among : (name : List ℕ) (all : List held.Entry) (entry : held.Entry) → IsFirstNamed name all entry → Contains all (record { name = name; ino = entry.ino; kind = entry.kind; position = entry.position })
found_among name all entry first =
    let is : entry ≡ record { name = name; ino = entry.ino; kind = entry.kind; position = entry.position } = ap (λ (n : List ℕ). record entry { name = n }) first.named in
    let here : Contains (entry ∷ first.after) entry = (0, omega arith, refl) in
    subst (Contains all) is (subst (λ (xs : List held.Entry). Contains xs entry) (sym first.among) (Contains-append_right first.before (entry ∷ first.after) entry here))
