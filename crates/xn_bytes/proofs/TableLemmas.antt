-- The tables hold what so many bits that are 0 make of a register below 256.
use Rattle.std.proofs.Common.{◌≡◌, ℕ, zero, suc, ◌+◌, ◌<◌, List, [], ◌∷◌, length, get_or, refl, ap, ◌∙◌, arith}
use Rattle.std.specs.Prelude.{map, slice_index}
use Rattle.std.proofs.lemmas.List.{get_or-map}
use Rattle.xn_bytes.specs.declared.tables.TheConstants.{AFTER_8, AFTER_16, AFTER_24, AFTER_32, AFTER_40, AFTER_48, AFTER_56, AFTER_64}
use Rattle.xn_bytes.specs.Checksum.{bit_steps}
use Rattle.std.proofs.lemmas.Simd.{map-map}
use Rattle.xn_bytes.proofs.Registers.{bit_steps-add}

-- the numbers from `from` on, so many
count_up : ℕ → ℕ → List ℕ
count_up from zero = []
count_up from (suc count) = from ∷ count_up (suc from) count

length-count_up : (from count : ℕ) → length (count_up from count) ≡ count
unfolding count_up
length-count_up from zero = refl
length-count_up from (suc count) = ap suc (length-count_up (suc from) count)

get_or-count_up : (from count i : ℕ) → i < count → get_or (count_up from count) i 0 ≡ from + i
unfolding count_up
get_or-count_up from zero i h = absurd (omega arith)
get_or-count_up from (suc count) zero h = omega arith
get_or-count_up from (suc count) (suc i) h = let e = get_or-count_up (suc from) count i (omega arith) in omega (arith, e)

-- what a table of all bytes holds at a byte
at_byte : (table : List ℕ) (f : ℕ → ℕ) → table ≡ map f (count_up 0 256) → (i : ℕ) → i < 256 → slice_index table i ≡ f i
at_byte table f e i h =
    ap (λ (xs : List ℕ). get_or xs i 0) e
    ∙ get_or-map f (count_up 0 256) i 0 0 (rw length-count_up h)
    ∙ ap f (get_or-count_up 0 256 i h ∙ omega arith)

-- a table that goes 8 steps on from another
further : (table before : List ℕ) (count : ℕ) → before ≡ map (bit_steps count) (count_up 0 256) → table ≡ map (bit_steps 8) before → table ≡ map (bit_steps (count + 8)) (count_up 0 256)
further table before count e h =
    h ∙ ap (map (bit_steps 8)) e ∙ map-map (bit_steps 8) (bit_steps count) (count_up 0 256) ∙ simp bit_steps-add

holds_8 : AFTER_8 ≡ map (bit_steps 8) (count_up 0 256)
unfolding bit_steps count_up
holds_8 = refl

goes_16 : AFTER_16 ≡ map (bit_steps 8) AFTER_8
unfolding bit_steps
goes_16 = refl

goes_24 : AFTER_24 ≡ map (bit_steps 8) AFTER_16
unfolding bit_steps
goes_24 = refl

goes_32 : AFTER_32 ≡ map (bit_steps 8) AFTER_24
unfolding bit_steps
goes_32 = refl

goes_40 : AFTER_40 ≡ map (bit_steps 8) AFTER_32
unfolding bit_steps
goes_40 = refl

goes_48 : AFTER_48 ≡ map (bit_steps 8) AFTER_40
unfolding bit_steps
goes_48 = refl

goes_56 : AFTER_56 ≡ map (bit_steps 8) AFTER_48
unfolding bit_steps
goes_56 = refl

goes_64 : AFTER_64 ≡ map (bit_steps 8) AFTER_56
unfolding bit_steps
goes_64 = refl

holds_16 : AFTER_16 ≡ map (bit_steps 16) (count_up 0 256)
holds_16 = further AFTER_16 AFTER_8 8 holds_8 goes_16

holds_24 : AFTER_24 ≡ map (bit_steps 24) (count_up 0 256)
holds_24 = further AFTER_24 AFTER_16 16 holds_16 goes_24

holds_32 : AFTER_32 ≡ map (bit_steps 32) (count_up 0 256)
holds_32 = further AFTER_32 AFTER_24 24 holds_24 goes_32

holds_40 : AFTER_40 ≡ map (bit_steps 40) (count_up 0 256)
holds_40 = further AFTER_40 AFTER_32 32 holds_32 goes_40

holds_48 : AFTER_48 ≡ map (bit_steps 48) (count_up 0 256)
holds_48 = further AFTER_48 AFTER_40 40 holds_40 goes_48

holds_56 : AFTER_56 ≡ map (bit_steps 56) (count_up 0 256)
holds_56 = further AFTER_56 AFTER_48 48 holds_48 goes_56

holds_64 : AFTER_64 ≡ map (bit_steps 64) (count_up 0 256)
holds_64 = further AFTER_64 AFTER_56 56 holds_56 goes_64

-- each table at a byte
pub at_8 : (i : ℕ) → i < 256 → slice_index AFTER_8 i ≡ bit_steps 8 i
at_8 = at_byte AFTER_8 (bit_steps 8) holds_8

pub at_16 : (i : ℕ) → i < 256 → slice_index AFTER_16 i ≡ bit_steps 16 i
at_16 = at_byte AFTER_16 (bit_steps 16) holds_16

pub at_24 : (i : ℕ) → i < 256 → slice_index AFTER_24 i ≡ bit_steps 24 i
at_24 = at_byte AFTER_24 (bit_steps 24) holds_24

pub at_32 : (i : ℕ) → i < 256 → slice_index AFTER_32 i ≡ bit_steps 32 i
at_32 = at_byte AFTER_32 (bit_steps 32) holds_32

pub at_40 : (i : ℕ) → i < 256 → slice_index AFTER_40 i ≡ bit_steps 40 i
at_40 = at_byte AFTER_40 (bit_steps 40) holds_40

pub at_48 : (i : ℕ) → i < 256 → slice_index AFTER_48 i ≡ bit_steps 48 i
at_48 = at_byte AFTER_48 (bit_steps 48) holds_48

pub at_56 : (i : ℕ) → i < 256 → slice_index AFTER_56 i ≡ bit_steps 56 i
at_56 = at_byte AFTER_56 (bit_steps 56) holds_56

pub at_64 : (i : ℕ) → i < 256 → slice_index AFTER_64 i ≡ bit_steps 64 i
at_64 = at_byte AFTER_64 (bit_steps 64) holds_64
