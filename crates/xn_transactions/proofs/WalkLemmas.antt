-- What operations have started and committed, one step on.
use Rattle.std.proofs.Common.{◌≡◌, ℕ, suc, ◌+◌, ◌<◌, ◌≤◌, Bool, true, false, cond, eqb, not, List, [], ◌∷◌, ◌++◌, length, get_or, take, reverse, Option, Some, None, refl, sym, ap, ◌∙◌, append_assoc, arith}
use Rattle.std.specs.Prelude.{option_map}
use Rattle.std.specs.Ordering.{nat_cmp}
use Rattle.std.specs.BTreeMap.{get, is_at}
use Rattle.std.proofs.lemmas.List.{append-nil, length-take-le, reverse-append, take_more}
use Rattle.std.proofs.lemmas.Bool.Decides.{nat_tests}
use Rattle.xn_log.specs.declared.operation.Op.{Op}
use Rattle.xn_changes.specs.Transactions.{LiveOp, Started, Whole, commits, committed_after, committed_by, placed_from, started_in, starts, whole_by, whole_of, with_part}
use Rattle.xn_transactions.specs.declared.walk.Walk.{Walk}
use Rattle.xn_transactions.specs.Walking.{HasWalked}

is_at_number : (k q : ℕ) → is_at (nat_cmp k) q ≡ eqb k q
is_at_number k q = grind (arith, nat_tests)

by_test : {P : Type 0} (b : Bool) → (b ≡ true → P) → (b ≡ false → P) → P
by_test true when_true when_false = when_true refl
by_test false when_true when_false = when_false refl

started_in-parts : (tid : ℕ) (live : LiveOp) (before : List LiveOp) → started_in tid (live ∷ before) ≡ cond (not (eqb live.op.tid tid)) (started_in tid before) (cond (commits live) None (cond (starts live) (Some (record { start = live; parts = [] })) (option_map (with_part live) (started_in tid before))))
unfolding started_in
started_in-parts tid live before = refl

-- What is started of each transaction after an operation, where what is started of its own is told.
started-step : (f g : ℕ → Option Started) (live : LiveOp) (before : List LiveOp) (now : Option Started) → ((q : ℕ) → f q ≡ started_in q before) → cond (commits live) None (cond (starts live) (Some (record { start = live; parts = [] })) (option_map (with_part live) (started_in live.op.tid before))) ≡ now
    → ((q : ℕ) → g q ≡ cond (is_at (nat_cmp live.op.tid) q) now (f q)) → (q : ℕ) → g q ≡ started_in q (live ∷ before)
started-step f g live before now fs told gs q =
    by_test (eqb live.op.tid q)
    (λ same.
    let here : live.op.tid ≡ q = grind (arith, nat_tests) in
    gs q ∙ rw (is_at_number, same)
    (sym told
    ∙ ap (λ (n : ℕ). cond (commits live) None (cond (starts live) (Some (record { start = live; parts = [] })) (option_map (with_part live) (started_in n before)))) here
    ∙ sym (started_in-parts q live before ∙ rw same refl)))
    (λ other. gs q ∙ rw (is_at_number, other) (fs q ∙ sym (started_in-parts q live before ∙ rw other refl)))

-- where nothing is started of a transaction, nothing changes
pub absent_stays : (f : ℕ → Option Started) (k : ℕ) → f k ≡ None → (q : ℕ) → f q ≡ cond (is_at (nat_cmp k) q) None (f q)
absent_stays f k none q =
    by_test (eqb k q)
    (λ same. let here : k ≡ q = grind (arith, nat_tests) in rw (is_at_number, same) (ap f (sym here) ∙ none))
    (λ other. rw (is_at_number, other) refl)

reverse-push : (done : List LiveOp) (live : LiveOp) → reverse (done ++ live ∷ []) ≡ live ∷ reverse done
reverse-push done live = reverse-append done (live ∷ [])

committed_after-push : (before ops : List LiveOp) (live : LiveOp) → committed_after before (ops ++ live ∷ []) ≡ committed_after before ops ++ committed_by (reverse ops ++ before) live
unfolding committed_after
committed_after-push before [] live = append-nil (committed_by before live)
committed_after-push before (op ∷ ops) live =
    let first = committed_by before op in
    let later = committed_after (op ∷ before) ops in
    let turned : reverse ops ++ op ∷ before ≡ reverse (op ∷ ops) ++ before =
    sym (ap (λ (os : List LiveOp). os ++ before) (reverse-append (op ∷ []) ops) ∙ append_assoc (reverse ops) (op ∷ []) before) in
    ap (λ (ws : List Whole). first ++ ws) (committed_after-push (op ∷ before) ops live)
    ∙ sym (append_assoc first later (committed_by (reverse ops ++ op ∷ before) live))
    ∙ ap (λ (os : List LiveOp). (first ++ later) ++ committed_by os live) turned

-- what is known after one more operation
pub walked-more : (old new : Walk) (live : LiveOp) (now : Option Started) (wholes : List Whole) (done : List LiveOp) → HasWalked old done
    → cond (commits live) None (cond (starts live) (Some (record { start = live; parts = [] })) (option_map (with_part live) (get nat_cmp old.started live.op.tid))) ≡ now
    → ((q : ℕ) → get nat_cmp new.started q ≡ cond (is_at (nat_cmp live.op.tid) q) now (get nat_cmp old.started q))
    → wholes ≡ cond (not (commits live)) [] (cond (starts live) (whole_by live (record { start = live; parts = [] }) ∷ []) (whole_of live (get nat_cmp old.started live.op.tid)))
    → new.wholes.items ≡ old.wholes.items ++ wholes → HasWalked new (done ++ live ∷ [])
walked-more old new live now wholes done h told kept committed pushed = record {
  started_are = λ tid.
      started-step (get nat_cmp old.started) (get nat_cmp new.started) live (reverse done) now h.started_are
      (ap (λ (s : Option Started). cond (commits live) None (cond (starts live) (Some (record { start = live; parts = [] })) (option_map (with_part live) s))) (sym (h.started_are live.op.tid)) ∙ told)
      kept tid
      ∙ ap (started_in tid) (sym (reverse-push done live));
  wholes_are =
      pushed
      ∙ ap (λ (ws : List Whole). ws ++ wholes) h.wholes_are
      ∙ ap (λ (ws : List Whole). committed_after [] done ++ ws) (committed ∙ ap (λ (s : Option Started). cond (not (commits live)) [] (cond (starts live) (whole_by live (record { start = live; parts = [] }) ∷ []) (whole_of live s))) (h.started_are live.op.tid))
      ∙ ap (λ (os : List LiveOp). committed_after [] done ++ committed_by os live) (sym (append-nil (reverse done)))
      ∙ sym (committed_after-push [] done live);
}

placed_from-push : (lsn from : ℕ) (ops : List Op) (op : Op) → placed_from lsn from (ops ++ op ∷ []) ≡ placed_from lsn from ops ++ record { place = record { lsn = lsn; op = from + length ops }; op = op } ∷ []
placed_from-push lsn from [] op =
    let same : from ≡ from + 0 = omega arith in ap (λ (n : ℕ). record { place = record { lsn = lsn; op = n }; op = op } ∷ []) same
placed_from-push lsn from (first ∷ ops) op =
    let same : suc from + length ops ≡ from + suc (length ops) = omega arith in
    ap (λ (ls : List LiveOp). record { place = record { lsn = lsn; op = from }; op = first } ∷ ls)
    (placed_from-push lsn (suc from) ops op ∙ ap (λ (n : ℕ). placed_from lsn (suc from) ops ++ record { place = record { lsn = lsn; op = n }; op = op } ∷ []) same)

-- the operations of a record up to a place, and the one there
pub placed_from-more : (lsn k : ℕ) (ops : List Op) (op : Op) → k < length ops → op ≡ get_or ops k op → placed_from lsn 0 (take (k + 1) ops) ≡ placed_from lsn 0 (take k ops) ++ record { place = record { lsn = lsn; op = k }; op = op } ∷ []
placed_from-more lsn k ops op lt is =
    let shorter : k ≤ length ops = omega arith in
    ap (placed_from lsn 0) (take_more ops k op lt ∙ ap (λ (o : Op). take k ops ++ o ∷ []) (sym is))
    ∙ placed_from-push lsn 0 (take k ops) op
    ∙ ap (λ (n : ℕ). placed_from lsn 0 (take k ops) ++ record { place = record { lsn = lsn; op = n }; op = op } ∷ []) (let here : 0 + length (take k ops) ≡ k = omega (arith, length-take-le k ops shorter) in here)

pub walked-none : (walk : Walk) → walk.started.entries ≡ [] → walk.wholes.items ≡ [] → HasWalked walk []
unfolding started_in committed_after
walked-none walk started wholes = record { started_are = λ tid. rw started refl; wholes_are = wholes }
