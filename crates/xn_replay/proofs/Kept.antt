-- A sector of the image that is shown is the kept one, where one is kept.
use Rattle.std.proofs.Common.{◌≡◌, ◌≢◌, ◌⊎◌, inl, inr, ℕ, ◌*◌, ◌<◌, true, false, List, [], ◌∷◌, length, refl, ◌∙◌, arith}
use Rattle.std.specs.Prelude.{unwrap_or}
use Rattle.std.specs.Ordering.{nat_cmp}
use Rattle.std.specs.Map.{keys_of, values_of}
use Rattle.std.specs.BTreeMap.{is_at}
use Rattle.std.proofs.lemmas.Bool.{cases_eq}
use Rattle.std.proofs.lemmas.Bool.Decides.{nat_tests}
use Rattle.std.proofs.lemmas.List.Elements.{All-head, All-tail}
use Rattle.xn_bytes.specs.Numbers.{sector_of}
use Rattle.xn_bytes.proofs.Overlays.{length-overlaid, sector_of-overlaid-there, sector_of-overlaid-apart}
use Rattle.xn_replay.specs.Overlay.{shown, kept_at, AreKept}

-- whether a look-up for one number finds another
pub tied : (k q : ℕ) → ((k ≡ q) × (is_at (nat_cmp k) q ≡ true)) ⊎ ((k ≢ q) × (is_at (nat_cmp k) q ≡ false))
tied k q = elim (cases_eq k q) [ inl same ↦ inl (same, grind (arith, nat_tests)) | inr apart ↦ inr (apart, grind (arith, nat_tests)) ]

rest_kept : (sectors : ℕ) (e : ℕ × List ℕ) (es : List (ℕ × List ℕ)) → AreKept sectors (e ∷ es) → AreKept sectors es
rest_kept sectors e es all = record {
  within = All-tail (λ sector. sector < sectors) e.0 (keys_of es) all.within;
  whole = All-tail (λ bytes. length bytes ≡ 512) e.1 (values_of es) all.whole;
}

pub length-shown : (sectors : ℕ) (image : List ℕ) (kept : List (ℕ × List ℕ)) → length image ≡ 512 * sectors → AreKept sectors kept → length (shown image kept) ≡ 512 * sectors
length-shown sectors image [] long all = long
length-shown sectors image (e ∷ es) long all =
    let rest : length (shown image es) ≡ 512 * sectors = length-shown sectors image es long (rest_kept sectors e es all) in
    let within : e.0 < sectors = All-head (λ sector. sector < sectors) e.0 (keys_of es) all.within in
    let whole : length e.1 ≡ 512 = All-head (λ bytes. length bytes ≡ 512) e.1 (values_of es) all.whole in
    length-overlaid (shown image es) (512 * e.0) e.1 (omega arith) ∙ rest

pub sector_of-shown : (sectors : ℕ) (image : List ℕ) (kept : List (ℕ × List ℕ)) → length image ≡ 512 * sectors → AreKept sectors kept → (q : ℕ) → q < sectors → sector_of (shown image kept) q ≡ unwrap_or (kept_at kept q) (sector_of image q)
sector_of-shown sectors image [] long all q low = refl
sector_of-shown sectors image (e ∷ es) long all q low =
    let others : AreKept sectors es = rest_kept sectors e es all in
    let rest : sector_of (shown image es) q ≡ unwrap_or (kept_at es q) (sector_of image q) = sector_of-shown sectors image es long others q low in
    let len : length (shown image es) ≡ 512 * sectors = length-shown sectors image es long others in
    let within : e.0 < sectors = All-head (λ sector. sector < sectors) e.0 (keys_of es) all.within in
    let whole : length e.1 ≡ 512 = All-head (λ bytes. length bytes ≡ 512) e.1 (values_of es) all.whole in
    elim (tied q e.0) [
      | inl here ↦ rw (here.1, here.0) (sector_of-overlaid-there (shown image es) e.0 e.1 whole (omega arith))
      | inr apart ↦ rw apart.1 (sector_of-overlaid-apart (shown image es) e.0 e.1 q whole (omega arith) apart.0 (omega arith) ∙ rest)
    ]
