-- One more call in a record, and what it leaves.
use Rattle.std.proofs.Common.{◌≡◌, ℕ, ◌+◌, ◌≤◌, List, [], ◌∷◌, ◌++◌, length, take, drop, refl, ap, ◌∙◌, arith, length-append}
use Rattle.std.proofs.lemmas.List.{append-nil, length-drop, take_all, take-append-le, drop-append-le}
use Rattle.xn_machine.specs.Device.{written_at}
use Rattle.xn_machine.specs.Record.{replayed, bytes_written, bytes_told, IsRecord}
use Rattle.xn_machine.specs.declared.memory.Call.{Call}
use Rattle.xn_machine.specs.declared.memory.Call.TheVariants.{Read, Write, Sync, Say}

-- the bytes that are written or told once one more call is made
pub bytes_written-push : (done : List Call) (call : Call) → bytes_written (done ++ call ∷ []) ≡ bytes_written done + bytes_written (call ∷ [])
bytes_written-push [] call = omega arith
bytes_written-push (Read ∷ done) call = bytes_written-push done call
bytes_written-push (Write sector count ∷ done) call = omega (arith, bytes_written-push done call)
bytes_written-push (Sync ∷ done) call = bytes_written-push done call
bytes_written-push (Say count ∷ done) call = bytes_written-push done call

pub bytes_told-push : (done : List Call) (call : Call) → bytes_told (done ++ call ∷ []) ≡ bytes_told done + bytes_told (call ∷ [])
bytes_told-push [] call = omega arith
bytes_told-push (Read ∷ done) call = bytes_told-push done call
bytes_told-push (Write sector count ∷ done) call = bytes_told-push done call
bytes_told-push (Sync ∷ done) call = bytes_told-push done call
bytes_told-push (Say count ∷ done) call = omega (arith, bytes_told-push done call)

-- equal bytes make equal steps
same : (image : List ℕ) (sector : ℕ) (calls : List Call) {a b c d : List ℕ} → a ≡ b → c ≡ d →
    replayed (written_at image sector a) calls c ≡ replayed (written_at image sector b) calls d
same image sector calls p q = cc

-- a call of this record, with the bytes that it wrote, comes last
pub replayed-push : (image : List ℕ) (done : List Call) (written : List ℕ) (call : Call) (bytes : List ℕ) → length written ≡ bytes_written done →
    replayed image (done ++ call ∷ []) (written ++ bytes) ≡ replayed (replayed image done written) (call ∷ []) bytes
replayed-push image [] [] call bytes e = refl
replayed-push image [] (x ∷ written) call bytes e = cc
replayed-push image (Read ∷ done) written call bytes e = replayed-push image done written call bytes e
replayed-push image (Write sector count ∷ done) written call bytes e =
    let within : count ≤ length written = omega arith in
    let rest : length (drop count written) ≡ bytes_written done = omega (arith, length-drop count written) in
    same image sector (done ++ call ∷ []) (take-append-le count written bytes within) (drop-append-le count written bytes within)
    ∙ replayed-push (written_at image sector (take count written)) done (drop count written) call bytes rest
replayed-push image (Sync ∷ done) written call bytes e = replayed-push image done written call bytes e
replayed-push image (Say count ∷ done) written call bytes e = replayed-push image done written call bytes e

-- ---- a record still accounts for all after one more call

-- one that neither wrote nor told
quiet : {original : List ℕ} {done now : List Call} {written image told : List ℕ} (call : Call) → bytes_written (call ∷ []) ≡ 0 → bytes_told (call ∷ []) ≡ 0 →
    ((x : List ℕ) → replayed x (call ∷ []) [] ≡ x) →
    IsRecord original done written image told → now ≡ done ++ call ∷ [] → IsRecord original now written image told
quiet {original} {done} {now} {written} call no_writes no_tells same_image h e =
    let step = replayed-push original done written call [] h.has_writes in
    let none = append-nil written in
    let left = same_image (replayed original done written) in
    let wrote = bytes_written-push done call in
    let tells = bytes_told-push done call in
    record {
      leads_here = cc;
      has_writes = omega (arith, ap bytes_written e);
      has_tells = omega (arith, ap bytes_told e);
    }

pub record-read : {original : List ℕ} {done now : List Call} {written image told : List ℕ} →
    IsRecord original done written image told → now ≡ done ++ Read ∷ [] → IsRecord original now written image told
record-read = quiet Read refl refl (λ _. refl)

pub record-sync : {original : List ℕ} {done now : List Call} {written image told : List ℕ} →
    IsRecord original done written image told → now ≡ done ++ Sync ∷ [] → IsRecord original now written image told
record-sync = quiet Sync refl refl (λ _. refl)

pub record-write : {original : List ℕ} {done now : List Call} {written written' image image' told : List ℕ} (sector : ℕ) (bytes : List ℕ) →
    IsRecord original done written image told → now ≡ done ++ Write sector (length bytes) ∷ [] → written' ≡ written ++ bytes → image' ≡ written_at image sector bytes →
    IsRecord original now written' image' told
record-write {original} {done} {now} {written} sector bytes h e_done e_written e_image =
    let step : replayed original (done ++ Write sector (length bytes) ∷ []) (written ++ bytes) ≡ written_at (replayed original done written) sector (take (length bytes) bytes)
    = replayed-push original done written (Write sector (length bytes)) bytes h.has_writes in
    let all = take_all (length bytes) bytes (omega arith) in
    let wrote = bytes_written-push done (Write sector (length bytes)) in
    let tells = bytes_told-push done (Write sector (length bytes)) in
    record {
      leads_here = cc;
      has_writes = omega (arith, ap bytes_written e_done, ap length e_written, length-append written bytes);
      has_tells = omega (arith, ap bytes_told e_done);
    }

pub record-say : {original : List ℕ} {done now : List Call} {written image told told' : List ℕ} (bytes : List ℕ) →
    IsRecord original done written image told → now ≡ done ++ Say (length bytes) ∷ [] → told' ≡ told ++ bytes → IsRecord original now written image told'
record-say {original} {done} {now} {written} {image} {told} bytes h e_done e_told =
    let step : replayed original (done ++ Say (length bytes) ∷ []) (written ++ []) ≡ replayed original done written
    = replayed-push original done written (Say (length bytes)) [] h.has_writes in
    let none = append-nil written in
    let wrote = bytes_written-push done (Say (length bytes)) in
    let tells = bytes_told-push done (Say (length bytes)) in
    record {
      leads_here = cc;
      has_writes = omega (arith, ap bytes_written e_done);
      has_tells = omega (arith, ap bytes_told e_done, ap length e_told, length-append told bytes);
    }
