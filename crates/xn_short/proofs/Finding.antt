-- Looking for a name among entries, as a loop does.
use Rattle.std.proofs.Common.{◌≡◌, ◌≢◌, ℕ, List, [], ◌∷◌, ◌++◌, map, sym, ap, subst, ◌∙◌, append_assoc}
use Rattle.std.proofs.lemmas.List.{append-nil, map_push}
use Rattle.std.proofs.lemmas.List.Elements.{All-nil, All-push}
use Rattle.xn_bytes.specs.Entries.{Entry}
use Rattle.xn_short.specs.declared.entry.ShortEntry.{ShortEntry}
use Rattle.xn_short.specs.Viewed.{entry_of}
use Rattle.xn_short.specs.Naming.{HasNone, IsFirstNamed}

-- the entries that were passed, none of which has the name, and those that are left
pub record Passed (name : List ℕ) (all : List Entry) (passed : List ShortEntry) (left : List Entry) : Type 0 where
  pub split : all ≡ map entry_of passed ++ left
  pub none : HasNone name (map entry_of passed)

pub starts : (name : List ℕ) (all left : List Entry) → left ≡ all → Passed name all [] left
starts name all left same = record { split = sym same; none = All-nil (λ entry. entry.name ≢ name) }

pub passes : (name : List ℕ) (all : List Entry) (passed : List ShortEntry) (left after : List Entry) (entry : ShortEntry) → left ≡ entry_of entry ∷ after → entry.name.now ≢ name → Passed name all passed left → Passed name all (passed ++ entry ∷ []) after
passes name all passed left after entry step other so_far =
    let pushed : map entry_of (passed ++ entry ∷ []) ≡ map entry_of passed ++ entry_of entry ∷ [] = map_push entry_of passed entry in
    record {
      split =
          so_far.split
          ∙ ap (λ (t : List Entry). map entry_of passed ++ t) step
          ∙ sym (append_assoc (map entry_of passed) (entry_of entry ∷ []) after)
          ∙ ap (λ (t : List Entry). t ++ after) (sym pushed);
      none = subst (λ (t : List Entry). HasNone name t) (sym pushed) (All-push (λ e. e.name ≢ name) (map entry_of passed) (entry_of entry) so_far.none other);
    }

pub finds : (name : List ℕ) (all : List Entry) (passed : List ShortEntry) (left after : List Entry) (entry : ShortEntry) → left ≡ entry_of entry ∷ after → entry.name.now ≡ name → Passed name all passed left → IsFirstNamed name all (entry_of entry)
finds name all passed left after entry step named so_far =
    record {
      named = named;
      before = map entry_of passed;
      after = after;
      among = so_far.split ∙ ap (λ (t : List Entry). map entry_of passed ++ t) step;
      first = so_far.none;
    }

pub finds_none : (name : List ℕ) (all : List Entry) (passed : List ShortEntry) (left : List Entry) → left ≡ [] → Passed name all passed left → HasNone name all
finds_none name all passed left done so_far =
    let whole : all ≡ map entry_of passed = so_far.split ∙ ap (λ (t : List Entry). map entry_of passed ++ t) done ∙ append-nil (map entry_of passed) in
    subst (λ (t : List Entry). HasNone name t) (sym whole) so_far.none
