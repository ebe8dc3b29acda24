-- The register of a checksum: its steps take sums (by xor) to sums, so that bytes can be looked up apart.
use Rattle.std.proofs.Common.{◌≡◌, ℕ, zero, suc, ◌+◌, ◌*◌, ◌/◌, ◌%◌, ◌^◌, ◌<◌, List, [], ◌∷◌, ◌++◌, length, get_or, refl, sym, ap, ◌∙◌, arith, inl, inr, zero-add, suc-add}
use Rattle.std.proofs.Math.Nat.{pow-suc, pow-zero, mod-eq_of_lt}
use Rattle.std.specs.Prelude.{◌⊎◌, bit_xor}
use lib.Bits.{xor_shr, xor_mod, xor_shifted, xor_assoc, xor_comm, xor_self, xor_zero_r}
use Rattle.xn_bytes.specs.Checksum.{polynomial, bit_step, bit_steps, byte_step, register_after}

-- a bit is 0 or 1
bit_cases : (n : ℕ) → (n % 2 ≡ 0) ⊎ (n % 2 ≡ 1)
bit_cases n = grind arith

-- the step of a register whose low bit is 0, and of one whose low bit is 1
step_even : (a : ℕ) → a % 2 ≡ 0 → bit_step a ≡ a / 2
step_even a e = rw e refl

step_odd : (a : ℕ) → a % 2 ≡ 1 → bit_step a ≡ bit_xor (a / 2) polynomial
step_odd a e = rw e refl

-- halves and low bits of a sum
half_xor : (a b : ℕ) → bit_xor a b / 2 ≡ bit_xor (a / 2) (b / 2)
half_xor a b = xor_shr a b 1

low_xor : (a b : ℕ) → bit_xor a b % 2 ≡ bit_xor (a % 2) (b % 2)
low_xor a b = xor_mod a b 1

-- sums in another order
xor_swap : (x y z : ℕ) → bit_xor (bit_xor x y) z ≡ bit_xor (bit_xor x z) y
xor_swap x y z = xor_assoc x y z ∙ ap (bit_xor x) (xor_comm y z) ∙ sym (xor_assoc x z y)

xor_twice : (x y p : ℕ) → bit_xor (bit_xor x p) (bit_xor y p) ≡ bit_xor x y
xor_twice x y p =
    xor_assoc x p (bit_xor y p)
    ∙ ap (bit_xor x) (ap (bit_xor p) (xor_comm y p) ∙ sym (xor_assoc p p y) ∙ ap (λ (n : ℕ). bit_xor n y) (xor_self p))

-- the step of a sum
pub bit_step-xor : (a b : ℕ) → bit_step (bit_xor a b) ≡ bit_xor (bit_step a) (bit_step b)
bit_step-xor a b =
    elim (bit_cases a) [
      | inl a0 ↦ elim (bit_cases b) [
        | inl b0 ↦ step_even (bit_xor a b) (low_xor a b ∙ rw (a0, b0) refl) ∙ half_xor a b ∙ rw (step_even a a0, step_even b b0) refl
        | inr b1 ↦ step_odd (bit_xor a b) (low_xor a b ∙ rw (a0, b1) refl) ∙ ap (λ (n : ℕ). bit_xor n polynomial) (half_xor a b)
            ∙ xor_assoc (a / 2) (b / 2) polynomial ∙ rw (step_even a a0, step_odd b b1) refl
      ]
      | inr a1 ↦ elim (bit_cases b) [
        | inl b0 ↦ step_odd (bit_xor a b) (low_xor a b ∙ rw (a1, b0) refl) ∙ ap (λ (n : ℕ). bit_xor n polynomial) (half_xor a b)
            ∙ xor_swap (a / 2) (b / 2) polynomial ∙ rw (step_odd a a1, step_even b b0) refl
        | inr b1 ↦ step_even (bit_xor a b) (low_xor a b ∙ rw (a1, b1) refl) ∙ half_xor a b
            ∙ sym (xor_twice (a / 2) (b / 2) polynomial) ∙ rw (step_odd a a1, step_odd b b1) refl
      ]
    ]

-- so many steps of a sum
pub bit_steps-xor : (count a b : ℕ) → bit_steps count (bit_xor a b) ≡ bit_xor (bit_steps count a) (bit_steps count b)
unfolding bit_steps
bit_steps-xor zero a b = refl
bit_steps-xor (suc count) a b = ap (bit_steps count) (bit_step-xor a b) ∙ bit_steps-xor count (bit_step a) (bit_step b)

-- steps one after another
pub bit_steps-add : (first then_more a : ℕ) → bit_steps then_more (bit_steps first a) ≡ bit_steps (first + then_more) a
unfolding bit_steps
bit_steps-add zero then_more a = rw zero-add refl
bit_steps-add (suc first) then_more a =
    bit_steps-add first then_more (bit_step a) ∙ rw (suc-add first then_more) refl

-- a register whose low bits are 0 only moves
pub bit_steps-shifted : (count high : ℕ) → bit_steps count (high * 2 ^ count) ≡ high
unfolding bit_steps
bit_steps-shifted zero high = rw pow-zero (omega arith)
bit_steps-shifted (suc count) high =
    let doubled : high * 2 ^ suc count ≡ 2 * (high * 2 ^ count) = rw pow-suc (omega arith) in
    let even : (high * 2 ^ suc count) % 2 ≡ 0 = rw doubled (omega arith) in
    let half : high * 2 ^ suc count / 2 ≡ high * 2 ^ count = rw doubled (omega arith) in
    ap (bit_steps count) (step_even (high * 2 ^ suc count) even ∙ half) ∙ bit_steps-shifted count high

-- eight steps: the low byte is looked up, and the others move down
pub bit_steps-byte : (a : ℕ) → bit_steps 8 a ≡ bit_xor (bit_steps 8 (a % 256)) (a / 256)
bit_steps-byte a =
    let parts : a ≡ a / 256 * 2 ^ 8 + a % 256 = omega arith in
    let sum : a ≡ bit_xor (a / 256 * 2 ^ 8) (a % 256) = parts ∙ sym (xor_shifted (a / 256) 8 (a % 256) (omega arith)) in
    ap (bit_steps 8) sum ∙ bit_steps-xor 8 (a / 256 * 2 ^ 8) (a % 256)
    ∙ ap (λ (n : ℕ). bit_xor n (bit_steps 8 (a % 256))) (bit_steps-shifted 8 (a / 256))
    ∙ xor_comm (a / 256) (bit_steps 8 (a % 256))

-- the register after a byte: the low byte and the new one are looked up together, and the others move down
pub byte_step-parts : (a byte : ℕ) → byte < 256 → byte_step a byte ≡ bit_xor (bit_steps 8 (bit_xor (a % 256) byte)) (a / 256)
unfolding byte_step
byte_step-parts a byte h =
    let low : bit_xor a byte % 256 ≡ bit_xor (a % 256) byte = xor_mod a byte 8 ∙ ap (bit_xor (a % 256)) (mod-eq_of_lt h) in
    let none : byte / 256 ≡ 0 = omega arith in
    let high : bit_xor a byte / 256 ≡ a / 256 = xor_shr a byte 8 ∙ ap (bit_xor (a / 256)) none ∙ xor_zero_r (a / 256) in
    bit_steps-byte (bit_xor a byte) ∙ rw (low, high) refl

-- what is added to a register beforehand goes through as many steps by itself
pub register_after-xor : (a b : ℕ) (bytes : List ℕ) → register_after (bit_xor a b) bytes ≡ bit_xor (bit_steps (8 * length bytes) a) (register_after b bytes)
unfolding byte_step
register_after-xor a b [] = unfold bit_steps in refl
register_after-xor a b (byte ∷ bytes) =
    let one : byte_step (bit_xor a b) byte ≡ bit_xor (bit_steps 8 a) (byte_step b byte) =
    ap (bit_steps 8) (xor_assoc a b byte) ∙ bit_steps-xor 8 a (bit_xor b byte) in
    let more : bit_steps (8 * length bytes) (bit_steps 8 a) ≡ bit_steps (8 * length (byte ∷ bytes)) a =
    bit_steps-add 8 (8 * length bytes) a ∙ ap (λ (n : ℕ). bit_steps n a) (omega arith) in
    ap (λ (n : ℕ). register_after n bytes) one ∙ register_after-xor (bit_steps 8 a) (byte_step b byte) bytes
    ∙ ap (λ (n : ℕ). bit_xor n (register_after (byte_step b byte) bytes)) more

-- the first byte of a message and the low byte of the register go through all steps together
pub register_after-first : (a byte : ℕ) (bytes : List ℕ) (count : ℕ) → byte < 256 → count ≡ 8 + 8 * length bytes
    → register_after a (byte ∷ bytes) ≡ bit_xor (bit_steps count (bit_xor (a % 256) byte)) (register_after (a / 256) bytes)
register_after-first a byte bytes count h e =
    ap (λ (n : ℕ). register_after n bytes) (byte_step-parts a byte h)
    ∙ register_after-xor (bit_steps 8 (bit_xor (a % 256) byte)) (a / 256) bytes
    ∙ ap (λ (n : ℕ). bit_xor n (register_after (a / 256) bytes)) (bit_steps-add 8 (8 * length bytes) (bit_xor (a % 256) byte) ∙ ap (λ (n : ℕ). bit_steps n (bit_xor (a % 256) byte)) (sym e))

-- a message in two pieces
pub register_after-append : (a : ℕ) (xs ys : List ℕ) → register_after a (xs ++ ys) ≡ register_after (register_after a xs) ys
register_after-append a [] ys = refl
register_after-append a (x ∷ xs) ys = register_after-append (byte_step a x) xs ys

-- as the code looks it up
pub byte_step_looked_up : (a byte found : ℕ) → byte < 256 → found ≡ bit_steps 8 (bit_xor (a % 256) byte) → byte_step a byte ≡ bit_xor found (a / 256)
byte_step_looked_up a byte found h e = byte_step-parts a byte h ∙ rw e refl

-- eight bytes, each by itself
pub register_after-eight : (a b0 b1 b2 b3 b4 b5 b6 b7 : ℕ) → a < 2 ^ 32 → b0 < 256 → b1 < 256 → b2 < 256 → b3 < 256 → b4 < 256 → b5 < 256 → b6 < 256 → b7 < 256
    → register_after a (b0 ∷ b1 ∷ b2 ∷ b3 ∷ b4 ∷ b5 ∷ b6 ∷ b7 ∷ [])
    ≡ bit_xor (bit_xor (bit_xor (bit_xor (bit_xor (bit_xor (bit_xor (bit_steps 64 (bit_xor (a % 256) b0)) (bit_steps 56 (bit_xor (a / 256 % 256) b1))) (bit_steps 48 (bit_xor (a / 65536 % 256) b2))) (bit_steps 40 (bit_xor (a / 16777216 % 256) b3)))
    (bit_steps 32 b4)) (bit_steps 24 b5)) (bit_steps 16 b6)) (bit_steps 8 b7)
register_after-eight a b0 b1 b2 b3 b4 b5 b6 b7 h h0 h1 h2 h3 h4 h5 h6 h7 =
    let e2 : a / 256 / 256 ≡ a / 65536 = omega arith in
    let e3 : a / 65536 / 256 ≡ a / 16777216 = omega arith in
    let e4 : a / 16777216 / 256 ≡ 0 = omega arith in
    let t7 : register_after 0 (b7 ∷ []) ≡ bit_steps 8 b7 =
    register_after-first 0 b7 [] 8 h7 refl ∙ xor_zero_r (bit_steps 8 b7) in
    let t6 : register_after 0 (b6 ∷ b7 ∷ []) ≡ bit_xor (bit_steps 16 b6) (bit_steps 8 b7) =
    register_after-first 0 b6 (b7 ∷ []) 16 h6 refl ∙ ap (bit_xor (bit_steps 16 b6)) t7 in
    let t5 : register_after 0 (b5 ∷ b6 ∷ b7 ∷ []) ≡ bit_xor (bit_steps 24 b5) (bit_xor (bit_steps 16 b6) (bit_steps 8 b7)) =
    register_after-first 0 b5 (b6 ∷ b7 ∷ []) 24 h5 refl ∙ ap (bit_xor (bit_steps 24 b5)) t6 in
    let t4 : register_after 0 (b4 ∷ b5 ∷ b6 ∷ b7 ∷ []) ≡ bit_xor (bit_steps 32 b4) (bit_xor (bit_steps 24 b5) (bit_xor (bit_steps 16 b6) (bit_steps 8 b7))) =
    register_after-first 0 b4 (b5 ∷ b6 ∷ b7 ∷ []) 32 h4 refl ∙ ap (bit_xor (bit_steps 32 b4)) t5 in
    let t3 : register_after (a / 16777216) (b3 ∷ b4 ∷ b5 ∷ b6 ∷ b7 ∷ []) ≡ bit_xor (bit_steps 40 (bit_xor (a / 16777216 % 256) b3)) (bit_xor (bit_steps 32 b4) (bit_xor (bit_steps 24 b5) (bit_xor (bit_steps 16 b6) (bit_steps 8 b7)))) =
    register_after-first (a / 16777216) b3 (b4 ∷ b5 ∷ b6 ∷ b7 ∷ []) 40 h3 refl ∙ ap (λ (n : ℕ). bit_xor (bit_steps 40 (bit_xor (a / 16777216 % 256) b3)) (register_after n (b4 ∷ b5 ∷ b6 ∷ b7 ∷ []))) e4 ∙ ap (bit_xor (bit_steps 40 (bit_xor (a / 16777216 % 256) b3))) t4 in
    let t2 : register_after (a / 65536) (b2 ∷ b3 ∷ b4 ∷ b5 ∷ b6 ∷ b7 ∷ []) ≡ bit_xor (bit_steps 48 (bit_xor (a / 65536 % 256) b2)) (bit_xor (bit_steps 40 (bit_xor (a / 16777216 % 256) b3)) (bit_xor (bit_steps 32 b4) (bit_xor (bit_steps 24 b5) (bit_xor (bit_steps 16 b6) (bit_steps 8 b7))))) =
    register_after-first (a / 65536) b2 (b3 ∷ b4 ∷ b5 ∷ b6 ∷ b7 ∷ []) 48 h2 refl ∙ ap (λ (n : ℕ). bit_xor (bit_steps 48 (bit_xor (a / 65536 % 256) b2)) (register_after n (b3 ∷ b4 ∷ b5 ∷ b6 ∷ b7 ∷ []))) e3 ∙ ap (bit_xor (bit_steps 48 (bit_xor (a / 65536 % 256) b2))) t3 in
    let t1 : register_after (a / 256) (b1 ∷ b2 ∷ b3 ∷ b4 ∷ b5 ∷ b6 ∷ b7 ∷ []) ≡ bit_xor (bit_steps 56 (bit_xor (a / 256 % 256) b1)) (bit_xor (bit_steps 48 (bit_xor (a / 65536 % 256) b2)) (bit_xor (bit_steps 40 (bit_xor (a / 16777216 % 256) b3)) (bit_xor (bit_steps 32 b4) (bit_xor (bit_steps 24 b5) (bit_xor (bit_steps 16 b6) (bit_steps 8 b7)))))) =
    register_after-first (a / 256) b1 (b2 ∷ b3 ∷ b4 ∷ b5 ∷ b6 ∷ b7 ∷ []) 56 h1 refl ∙ ap (λ (n : ℕ). bit_xor (bit_steps 56 (bit_xor (a / 256 % 256) b1)) (register_after n (b2 ∷ b3 ∷ b4 ∷ b5 ∷ b6 ∷ b7 ∷ []))) e2 ∙ ap (bit_xor (bit_steps 56 (bit_xor (a / 256 % 256) b1))) t2 in
    let t0 : register_after a (b0 ∷ b1 ∷ b2 ∷ b3 ∷ b4 ∷ b5 ∷ b6 ∷ b7 ∷ []) ≡ bit_xor (bit_steps 64 (bit_xor (a % 256) b0)) (bit_xor (bit_steps 56 (bit_xor (a / 256 % 256) b1)) (bit_xor (bit_steps 48 (bit_xor (a / 65536 % 256) b2)) (bit_xor (bit_steps 40 (bit_xor (a / 16777216 % 256) b3)) (bit_xor (bit_steps 32 b4) (bit_xor (bit_steps 24 b5) (bit_xor (bit_steps 16 b6) (bit_steps 8 b7))))))) =
    register_after-first a b0 (b1 ∷ b2 ∷ b3 ∷ b4 ∷ b5 ∷ b6 ∷ b7 ∷ []) 64 h0 refl ∙ ap (bit_xor (bit_steps 64 (bit_xor (a % 256) b0))) t1 in
    t0 ∙ sym (simp xor_assoc)

-- the eight bytes of a list of eight
pub of_eight : (xs : List ℕ) → length xs ≡ 8 → xs ≡ get_or xs 0 0 ∷ get_or xs 1 0 ∷ get_or xs 2 0 ∷ get_or xs 3 0 ∷ get_or xs 4 0 ∷ get_or xs 5 0 ∷ get_or xs 6 0 ∷ get_or xs 7 0 ∷ []
of_eight [] e = absurd (omega arith)
of_eight (b0 ∷ []) e = absurd (omega arith)
of_eight (b0 ∷ b1 ∷ []) e = absurd (omega arith)
of_eight (b0 ∷ b1 ∷ b2 ∷ []) e = absurd (omega arith)
of_eight (b0 ∷ b1 ∷ b2 ∷ b3 ∷ []) e = absurd (omega arith)
of_eight (b0 ∷ b1 ∷ b2 ∷ b3 ∷ b4 ∷ []) e = absurd (omega arith)
of_eight (b0 ∷ b1 ∷ b2 ∷ b3 ∷ b4 ∷ b5 ∷ []) e = absurd (omega arith)
of_eight (b0 ∷ b1 ∷ b2 ∷ b3 ∷ b4 ∷ b5 ∷ b6 ∷ []) e = absurd (omega arith)
of_eight (b0 ∷ b1 ∷ b2 ∷ b3 ∷ b4 ∷ b5 ∷ b6 ∷ b7 ∷ []) e = refl
of_eight (b0 ∷ b1 ∷ b2 ∷ b3 ∷ b4 ∷ b5 ∷ b6 ∷ b7 ∷ b8 ∷ xs) e = absurd (omega arith)
