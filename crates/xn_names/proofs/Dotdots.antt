-- The dotdot of a directory that entries name.
use Rattle.std.proofs.Common.{◌≡◌, ◌≢◌, ◌↔◌, ℕ, ◌<◌, Bool, IsTrue, List, length, map, sym, ap, subst, ◌∙◌, arith, inl, inr}
use Rattle.std.specs.Prelude.{Any}
use Rattle.std.proofs.lemmas.List.{length-map}
use Rattle.xn_bytes.specs.Superblock.{Geometry}
use Rattle.xn_rules.specs.Namings as namings
use Rattle.xn_rules.specs.NameRules.{HasRightDotdot}
use Rattle.xn_names.specs.declared.entry.Naming.{Naming}
use Rattle.xn_names.specs.Names.{naming_of}
use Rattle.xn_names.proofs.Mapped.{Any-map, Any-unmap}

pub dotdot_of_named : (g : Geometry) (listed : List namings.Naming) (dir dotdot : ℕ) (r : Bool) (named : List Naming) → dir ≢ g.root → map naming_of named ≡ namings.naming dir listed
    → 0 < length named → IsTrue r ↔ Any (λ n. n.dir ≡ dotdot) named → IsTrue r ↔ HasRightDotdot g listed dir dotdot
dotdot_of_named g listed dir dotdot r named ne viewed some told =
    let P : namings.Naming → Type 0 = λ n. n.dir ≡ dotdot in (
      λ yes. inr (inr (ne, subst (Any P) viewed (Any-map naming_of P named (told.0 yes)))),
      λ right. elim right [
        | inl root ↦ absurd (ne root.0)
        | inr (inl unnamed) ↦ let none : length (map naming_of named) ≡ 0 = ap length (viewed ∙ unnamed.none) in absurd (omega (arith, length-map named naming_of))
        | inr (inr other) ↦ told.1 (Any-unmap naming_of P named (subst (Any P) (sym viewed) other.1))
      ],
    )
